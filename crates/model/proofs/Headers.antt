-- Question 1 in parts: the ranges of δ and ε, those of K and W, the length; what its answer tells. Assumes nothing.
use mathlib.Core.Path.{◌≡◌, refl, ap}
use mathlib.Core.Bool.{Bool, true, false, ◌&&◌}
use mathlib.Core.List.{List}
use Prim.Native.Nat.{ℕ, ◌≤◌}
use native.Mathlib.Omega.{arith}
use borrow.Author.Tests.{leb-true, eqb-true}
use lib.Dec.{leb, eqb}
use Rattle.model.specs.Limits.{max_shelves, max_delta, min_words, max_words}
use Rattle.model.specs.Session.{header_of, words_of_header, session_length}
use Rattle.model.specs.Questions.{header_ok}
use Rattle.std.specs.Prelude.{Ok, Err}
use Rattle.model.specs.Numbers.{number_of, answer_of}
use Rattle.model.specs.Answers.{header_asked}
use Rattle.model.specs.declared.questions.Question.{Question}
use Rattle.model.proofs.Numbers.{no_means, yes_means}
use Rattle.model.specs.declared.Header.{Header}

abbrev pub ticks_ok : ℕ → ℕ → Bool
ticks_ok delta epsilon = leb 1 delta && leb delta max_delta && leb 1 epsilon && leb epsilon delta

abbrev pub shelves_ok : ℕ → ℕ → Bool
shelves_ok shelves words = leb 1 shelves && leb shelves max_shelves && leb min_words words && leb words max_words

pub and_both : (a b : Bool) → (a && b) ≡ true → (a ≡ true) × (b ≡ true)
and_both true b e = (refl, e)
and_both false b e = absurd (let z : ◌≡◌ {A = ℕ} 0 1 = cc in omega arith)

regroup : (t a b c d l : Bool) → (t && a && b && c && d && l) ≡ (t && (a && b && c && d && l))
regroup true a b c d l = refl
regroup false a b c d l = refl

pub parts : (h : Header) (len : ℕ)
    → header_ok h len ≡ (ticks_ok h.delta h.epsilon && (shelves_ok h.shelves h.words && eqb len (session_length h)))
unfolding header_ok
parts h len = regroup (ticks_ok h.delta h.epsilon) _ _ _ _ _

-- ---- what an answer tells

-- question 1 as facts
pub record InRange (h : Header) (len : ℕ) : Type 0 where
  pub some-ticks : 1 ≤ h.delta
  pub few_ticks : h.delta ≤ max_delta
  pub some-kept : 1 ≤ h.epsilon
  pub kept-within : h.epsilon ≤ h.delta
  pub some_shelves : 1 ≤ h.shelves
  pub few_shelves : h.shelves ≤ max_shelves
  pub large : min_words ≤ h.words
  pub small : h.words ≤ max_words
  pub exact : len ≡ session_length h

pub in_range : {h : Header} {len : ℕ} → header_ok h len ≡ true → InRange h len
unfolding header_ok
in_range {h} {len} e =
    let p₂ = leb 1 h.delta && leb h.delta max_delta in
    let p₃ = p₂ && leb 1 h.epsilon in
    let p₄ = p₃ && leb h.epsilon h.delta in
    let p₅ = p₄ && leb 1 h.shelves in
    let p₆ = p₅ && leb h.shelves max_shelves in
    let p₇ = p₆ && leb min_words h.words in
    let e₉ = and_both (p₇ && leb h.words max_words) (eqb len (session_length h)) e in
    let e₈ = and_both p₇ (leb h.words max_words) e₉.0 in
    let e₇ = and_both p₆ (leb min_words h.words) e₈.0 in
    let e₆ = and_both p₅ (leb h.shelves max_shelves) e₇.0 in
    let e₅ = and_both p₄ (leb 1 h.shelves) e₆.0 in
    let e₄ = and_both p₃ (leb h.epsilon h.delta) e₅.0 in
    let e₃ = and_both p₂ (leb 1 h.epsilon) e₄.0 in
    let e₂ = and_both (leb 1 h.delta) (leb h.delta max_delta) e₃.0 in
    record {
      some-ticks = leb-true _ _ e₂.0;
      few_ticks = leb-true _ _ e₂.1;
      some-kept = leb-true _ _ e₃.1;
      kept-within = leb-true _ _ e₄.1;
      some_shelves = leb-true _ _ e₅.1;
      few_shelves = leb-true _ _ e₆.1;
      large = leb-true _ _ e₇.1;
      small = leb-true _ _ e₈.1;
      exact = eqb-true _ _ e₉.1;
    }

module _ (h : Header) (len : ℕ) where
  pub refused_means : (q : Question) → answer_of words_of_header (Err q) ≡ header_asked h len → (header_ok h len ≡ false) × (number_of q ≡ 1)
  unfolding header_asked
  refused_means q e = no_means (header_ok h len) 1 (words_of_header h) q e

  pub valid_means : (g : Header) → answer_of words_of_header (Ok g) ≡ header_asked h len → (header_ok h len ≡ true) × (g ≡ h)
  unfolding header_asked header_of
  valid_means g e =
      let v = yes_means (header_ok h len) 1 (omega arith) e in
      (v.0, ap (λ (p : ℕ × List ℕ). header_of p.1) v.1)

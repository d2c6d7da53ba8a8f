-- Questions 1 and 2, by the way that the answer goes. Assumes nothing.
use mathlib.Core.Path.{◌≡◌, refl, sym, ap, ◌∙◌}
use mathlib.Core.Bool.{Bool, true, false, cond, and-false}
use mathlib.Core.List.{List, []}
use Prim.Native.Nat.{ℕ, ◌≤◌, ◌<◌}
use native.Mathlib.Omega.{arith}
use borrow.Author.Tests.{ltb-true, lt-ltb, le-ltb, ne_eqb}
use lib.Dec.{ltb, eqb}
use lib.ListN.{length}
use Rattle.model.specs.Session.{header_of, session_length, words_of_header}
use Rattle.model.specs.Questions.{header_ok}
use Rattle.std.specs.Prelude.{Ok, Err}
use Rattle.model.specs.Numbers.{number_of, answer_of}
use Rattle.model.specs.Answers.{header_asked}
use Rattle.model.proofs.Numbers.{yes_means, no_means}
use Rattle.model.proofs.Headers.{refused_means, valid_means}
use Rattle.model.specs.declared.Header.{Header}
use Rattle.model.specs.declared.questions.Question.{Question}
use Rattle.model.specs.declared.questions.Question.TheVariants.{HeaderInRange, ShelvesBelow}
use Rattle.session.specs.Entering.{entry_asked}

-- a list of fewer than four words is not as long as any header says
pub short : (s : List ℕ) → length s < 4 → answer_of words_of_header (Err HeaderInRange) ≡ header_asked (header_of s) (length s)
unfolding header_asked header_ok
short s h =
    let wrong : eqb (length s) (session_length (header_of s)) ≡ false = ne_eqb (length s) (session_length (header_of s)) (λ e. omega arith) in
    rw (wrong, and-false)

module _ (s : List ℕ) (shelf : ℕ) where
  pub no_header : (q : Question) → answer_of words_of_header (Err q) ≡ header_asked (header_of s) (length s) → answer_of words_of_header (Err q) ≡ entry_asked s shelf
  unfolding entry_asked
  no_header q e = let r = refused_means (header_of s) (length s) q e in rw (r.0, r.1)

  module _ (h : Header) (e : answer_of words_of_header (Ok h) ≡ header_asked (header_of s) (length s)) where
    is : h ≡ header_of s
    is = (valid_means (header_of s) (length s) h e).1

    shelves_are : h.shelves ≡ (header_of s).shelves
    shelves_are = ap (λ (g : Header). g.shelves) is

    pub granted : shelf < h.shelves → answer_of words_of_header (Ok h) ≡ entry_asked s shelf
    unfolding entry_asked
    granted below =
        let t : ltb shelf (header_of s).shelves ≡ true = lt-ltb shelf (header_of s).shelves (omega (arith, shelves_are)) in
        ap (λ (g : Header). answer_of words_of_header (Ok g)) is ∙ rw ((valid_means (header_of s) (length s) h e).0, t)

    pub no_shelf : h.shelves ≤ shelf → answer_of words_of_header (Err ShelvesBelow) ≡ entry_asked s shelf
    unfolding entry_asked
    no_shelf above =
        let t : ltb shelf (header_of s).shelves ≡ false = le-ltb shelf (header_of s).shelves (omega (arith, shelves_are)) in
        rw ((valid_means (header_of s) (length s) h e).0, t)

-- ---- what an entry tells

-- questions 1 and 2 answered yes
pub record Entered (s : List ℕ) (shelf : ℕ) (h : Header) : Type 0 where
  pub header : header_ok (header_of s) (length s) ≡ true
  pub below : shelf < (header_of s).shelves
  pub same : h ≡ header_of s

pub granted_means : (s : List ℕ) (shelf : ℕ) (h : Header) → answer_of words_of_header (Ok h) ≡ entry_asked s shelf → Entered s shelf h
unfolding entry_asked header_of
granted_means s shelf h e =
    let one = yes_means (header_ok (header_of s) (length s)) 1 (omega arith) e in
    let two = yes_means (ltb shelf (header_of s).shelves) 2 (omega arith) one.1 in
    record { header = one.0; below = ltb-true shelf (header_of s).shelves two.0; same = ap (λ (p : ℕ × List ℕ). header_of p.1) two.1 }

-- refused by question 1 or 2: the number of any call that is put these two first, and then others, whose number is `rest`
pub entry_refused : (s : List ℕ) (shelf : ℕ) (rest : ℕ) {n : ℕ} → n ≡ cond (header_ok (header_of s) (length s)) (cond (ltb shelf (header_of s).shelves) rest 2) 1
    → (q : Question) → answer_of words_of_header (Err q) ≡ entry_asked s shelf → number_of q ≡ n
unfolding entry_asked
entry_refused s shelf rest {n} is q e = go (header_ok (header_of s) (length s)) (ltb shelf (header_of s).shelves) refl refl e
  where
    go : (a b : Bool) → header_ok (header_of s) (length s) ≡ a → ltb shelf (header_of s).shelves ≡ b
        → ◌≡◌ {A = ℕ × List ℕ} (number_of q, []) (cond a (cond b (0, words_of_header (header_of s)) (2, [])) (1, [])) → number_of q ≡ n
    go true b ea eb e = let r = no_means b 2 (words_of_header (header_of s)) q e in r.1 ∙ sym (is ∙ rw (ea, eb, r.0))
    go false b ea eb e = ap (λ (p : ℕ × List ℕ). p.0) e ∙ sym (is ∙ rw ea)

-- Lay's questions 6, 7 and 8, by the way that the answer goes. Assumes nothing.
use mathlib.Core.Path.{◌≡◌, ap}
use mathlib.Core.Bool.{Bool, true, false, cond}
use mathlib.Core.List.{List, [], ◌∷◌}
use Prim.Native.Nat.{ℕ, ◌*◌, ◌/◌, ◌%◌, ◌≤◌, ◌<◌}
use native.Mathlib.Nat.{div-add-mod'}
use native.Mathlib.Omega.{arith}
use borrow.Author.Tests.{leb-true, eqb-true, le-leb, lt-leb}
use lib.Dec.{leb, eqb}
use lib.ListN.{length, get_or}
use Rattle.model.specs.Limits.{max_beats}
use Rattle.model.specs.Takes.{words_used}
use Rattle.model.specs.Soundness.{notes_ok}
use Rattle.model.specs.Machine.{listed}
use Rattle.model.specs.Questions.{list_ok}
use Rattle.model.specs.declared.Header.{Header}
use Rattle.laws.specs.Booleans.{and_left, and_right}
use Rattle.std.specs.Prelude.{Result, Ok, Err}
use Rattle.model.specs.Numbers.{number_of, answer_of}
use Rattle.model.proofs.Numbers.{number_positive, yes_means}
use Rattle.model.specs.declared.questions.Question.{Question}
use Rattle.model.specs.declared.questions.Question.TheVariants.{BeatsFew, ResultFits}
use Rattle.session.specs.Listing.{count_words, list_asked, cells_listed}
use Rattle.beat.specs.Laying.{recording_asked, list_fits, lay_asked}

-- a list that passes is whole notes, in range, in order and without overlap
pub record Listed (h : Header) (beats : ℕ) (ws : List ℕ) : Type 0 where
  pub whole : length ws ≡ 4 * (length ws / 4)
  pub ok : notes_ok h.delta beats (listed beats ws).notes ≡ true

pub list_passed : (h : Header) (beats : ℕ) (ws : List ℕ) → list_ok h beats ws ≡ true → Listed h beats ws
unfolding list_ok
list_passed h beats ws e =
    let four = and_left (eqb (length ws % 4) 0) (notes_ok h.delta beats (listed beats ws).notes) e in
    record {
      whole = omega (arith, eqb-true (length ws % 4) 0 four, div-add-mod' (length ws) 4);
      ok = and_right (eqb (length ws % 4) 0) (notes_ok h.delta beats (listed beats ws).notes) e;
    }

module _ (h : Header) (beats : ℕ) (ws : List ℕ) where
  -- ---- questions 6 and 7

  pub too_long : max_beats < beats → answer_of count_words (Err BeatsFew) ≡ recording_asked h beats ws
  unfolding recording_asked
  too_long above = rw (lt-leb beats max_beats above)

  -- of so few beats, the list decides
  pub by_list : beats ≤ max_beats → (r : Result ℕ Question) → answer_of count_words r ≡ list_asked h beats ws → answer_of count_words r ≡ recording_asked h beats ws
  unfolding recording_asked list_asked
  by_list few r e = rw (le-leb beats max_beats few) e

  -- a refusal by one of them is lay's
  pub no_list : (q : Question) → answer_of count_words (Err q) ≡ recording_asked h beats ws → answer_of count_words (Err q) ≡ lay_asked h beats ws
  unfolding recording_asked lay_asked
  no_list q e = go (leb beats max_beats) (list_ok h beats ws) e
    where
      go : (a b : Bool) → ◌≡◌ {A = ℕ × List ℕ} (number_of q, []) (cond a (cond b (0, cells_listed h beats ws ∷ []) (7, [])) (6, []))
          → ◌≡◌ {A = ℕ × List ℕ} (number_of q, []) (cond a (cond b (list_fits h ws (cells_listed h beats ws)) (7, [])) (6, []))
      go true true f = absurd (let z : number_of q ≡ 0 = ap (λ (p : ℕ × List ℕ). p.0) f in omega (arith, number_positive q))
      go true false f = f
      go false b f = f

  -- ---- question 8 of so many cells

  module _ (k : ℕ) (e : answer_of count_words (Ok k) ≡ recording_asked h beats ws) where
    -- both are answered yes
    record Counted : Type 0 where
      few : leb beats max_beats ≡ true
      list : list_ok h beats ws ≡ true
      cells : k ≡ cells_listed h beats ws

    counted_means : Counted
    unfolding recording_asked
    counted_means =
        let six = yes_means (leb beats max_beats) 6 (omega arith) e in
        let seven = yes_means (list_ok h beats ws) 7 (omega arith) six.1 in
        record { few = six.0; list = seven.0; cells = ap (λ (p : ℕ × List ℕ). get_or p.1 0 0) seven.1 }

    by_room : (t : Bool) → leb (words_used (length ws / 4) k) h.words ≡ t → cond t (0, k ∷ []) (8, []) ≡ lay_asked h beats ws
    unfolding lay_asked list_fits
    by_room t f = let c = counted_means in rw (c.few, c.list, ← c.cells, f)

    pub no_room : leb (words_used (length ws / 4) k) h.words ≡ false → answer_of count_words (Err ResultFits) ≡ lay_asked h beats ws
    no_room f = by_room false f

    pub room : leb (words_used (length ws / 4) k) h.words ≡ true → answer_of count_words (Ok k) ≡ lay_asked h beats ws
    room f = by_room true f

  -- ---- what an answer tells

  pub record Laid (count : ℕ) : Type 0 where
    pub few : beats ≤ max_beats
    pub list : list_ok h beats ws ≡ true
    pub cells : count ≡ cells_listed h beats ws
    pub fits : words_used (length ws / 4) count ≤ h.words

  pub laid_means : (k : ℕ) → answer_of count_words (Ok k) ≡ lay_asked h beats ws → Laid k
  unfolding lay_asked list_fits
  laid_means k e =
      let six = yes_means (leb beats max_beats) 6 (omega arith) e in
      let seven = yes_means (list_ok h beats ws) 7 (omega arith) six.1 in
      let eight = yes_means (leb (words_used (length ws / 4) (cells_listed h beats ws)) h.words) 8 (omega arith) seven.1 in
      let is : k ≡ cells_listed h beats ws = ap (λ (p : ℕ × List ℕ). get_or p.1 0 0) eight.1 in
      record { few = leb-true _ _ six.0; list = seven.0; cells = is; fits = rw is (leb-true _ _ eight.0) }

-- A search among a shelf's cells that goes on from another search's place. Assumes nothing.
use mathlib.Core.Path.{◌≡◌, refl, sym, ap, ◌∙◌}
use mathlib.Core.Bool.{Bool, true, false, ◌&&◌, ◌||◌}
use mathlib.Core.List.{List, [], ◌∷◌}
use Prim.Native.Nat.{ℕ, zero, suc, ◌+◌, ◌-◌, ◌*◌, ◌≤◌, ◌<◌, min}
use native.Mathlib.Omega.{arith}
use borrow.Author.Tests.{ltb-true, ltb-false, lt-ltb}
use lib.Dec.{eqb, ltb}
use lib.ListN.{length}
use Rattle.model.specs.declared.Cell.{Cell}
use Rattle.laws.specs.Booleans.{and_left, and_right}
use Rattle.laws.specs.Sweep.{earlier, skip}
use Rattle.session.specs.Reading.{cell_at, last_cells}
use Rattle.session.proofs.Lasts.{length_last, last_cells_lem, skip_yes, skip_no}

-- ---- a list of cells

module _ (l b d : ℕ) (up : b ≤ d) where
  -- what lies before a beat lies before a later one
  earlier_too : (c : Cell) → earlier l b c ≡ true → earlier l d c ≡ true
  unfolding earlier
  earlier_too c e = go (ltb c.lane l) e
    where
      go : (t : Bool) → (t || eqb c.lane l && ltb c.beat b) ≡ true → (t || eqb c.lane l && ltb c.beat d) ≡ true
      go true q = refl
      go false q =
          let less : c.beat < b = ltb-true c.beat b (and_right (eqb c.lane l) (ltb c.beat b) q) in
          rw (and_left (eqb c.lane l) (ltb c.beat b) q, lt-ltb c.beat d (omega arith))

  skip-skip : (cs : List Cell) → skip l d (skip l b cs) ≡ skip l d cs
  unfolding skip
  skip-skip [] = refl
  skip-skip (c ∷ cs) = go (earlier l b c) refl (skip-skip cs)
    where
      go : (t : Bool) → earlier l b c ≡ t → skip l d (skip l b cs) ≡ skip l d cs → skip l d (skip l b (c ∷ cs)) ≡ skip l d (c ∷ cs)
      go true e ih = ap (skip l d) (skip_yes l b c cs e) ∙ ih ∙ sym (skip_yes l d c cs (earlier_too c e))
      go false e ih = ap (skip l d) (skip_no l b c cs e)

-- ---- the last cells up to a place

module _ (s : List ℕ) (end : ℕ) where
  -- a search that goes past o cells finds the same from there on
  search_from : (l b o r gap : ℕ) → 6 * (gap + o) ≤ end → r < o → last_cells s end r ≡ skip l b (last_cells s end (gap + o))
      → last_cells s end r ≡ skip l b (last_cells s end o)
  search_from l b o r zero fits less e = let none : 0 + o ≡ o = omega arith in rw none at e
  search_from l b o r (suc gap) fits less e = go (earlier l b c) refl (search_from l b o r gap (omega arith) less)
    where
      c : Cell
      c = cell_at s (end - 6 * (suc gap + o))

      one : suc gap + o - 1 ≡ gap + o
      one = omega arith

      first : last_cells s end (suc gap + o) ≡ c ∷ last_cells s end (gap + o)
      first = last_cells_lem s end (suc gap + o) (omega arith) fits ∙ ap (λ (k : ℕ). c ∷ last_cells s end k) one

      go : (t : Bool) → earlier l b c ≡ t → (last_cells s end r ≡ skip l b (last_cells s end (gap + o)) → last_cells s end r ≡ skip l b (last_cells s end o))
          → last_cells s end r ≡ skip l b (last_cells s end o)
      go true f next = next (e ∙ ap (skip l b) first ∙ skip_yes l b c (last_cells s end (gap + o)) f)
      go false f next =
          let stays : last_cells s end r ≡ last_cells s end (suc gap + o) = e ∙ ap (skip l b) first ∙ skip_no l b c (last_cells s end (gap + o)) f ∙ sym first in
          absurd (omega (arith, ap length stays, length_last s end r, length_last s end (suc gap + o)))

  -- the search for a later beat may go on from the place that is further on
  pub goes_on : (l b d c r o : ℕ) → b ≤ d → 6 * c ≤ end → o ≤ c → last_cells s end r ≡ skip l b (last_cells s end c)
      → {x : ℕ} → x ≡ min r o → {k : ℕ} → (last_cells s end k ≡ skip l d (last_cells s end x)) × (k ≤ x)
      → (last_cells s end k ≡ skip l d (last_cells s end o)) × (k ≤ o) × (k ≤ r)
  goes_on l b d c r o up fits within e {x} is {k} f = go (ltb r o) refl
    where
      Result : Type 0
      Result = (last_cells s end k ≡ skip l d (last_cells s end o)) × (k ≤ o) × (k ≤ r)

      go : (t : Bool) → ltb r o ≡ t → Result
      go true g =
          let less : r < o = ltb-true r o g in
          let at-r : x ≡ r = omega (arith, is, less) in
          let split : (c - o) + o ≡ c = omega arith in
          let same : last_cells s end r ≡ skip l b (last_cells s end o) = search_from l b o r (c - o) (rw split fits) less (rw split e) in
          (f.0 ∙ rw (at-r, same) (skip-skip l b d up (last_cells s end o)), omega (arith, f.1), omega (arith, f.1))
      go false g =
          let more : o ≤ r = ltb-false r o g in
          let at-o : x ≡ o = omega (arith, is, more) in
          (f.0 ∙ rw at-o, omega (arith, f.1), omega (arith, f.1))

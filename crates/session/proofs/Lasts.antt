-- The last notes and cells up to a place, one by one, and the searches through them. Assumes nothing.
use mathlib.Core.Path.{◌≡◌, refl, ◌∙◌}
use mathlib.Core.Bool.{true, false}
use mathlib.Core.List.{List, [], ◌∷◌}
use Prim.Native.Nat.{ℕ, zero, suc, ◌+◌, ◌*◌, ◌-◌, ◌≤◌, ◌<◌}
use native.Mathlib.Nat.{add-zero}
use native.Mathlib.Omega.{arith}
use lib.ListN.{length, drop}
use lib.Seq.{get_or-drop, drop-drop}
use Rattle.model.specs.Takes.{read_notes, read_cells}
use Rattle.model.specs.declared.Cell.{Cell}
use Rattle.laws.specs.Reading.{length-cells}
use Rattle.laws.specs.Sweep.{earlier, skip}
use Rattle.session.specs.Reading.{note_at, cell_at, last_notes, last_cells}
use Rattle.session.proofs.Readings.{notes_cons}

-- ---- one by one

cells_cons : (k : ℕ) (s : List ℕ) (at : ℕ) → read_cells (suc k) (drop at s) ≡ cell_at s at ∷ read_cells k (drop (at + 6) s)
unfolding read_cells cell_at
cells_cons k s at =
    rw (get_or-drop at s 0 0, get_or-drop at s 1 0, get_or-drop at s 2 0, get_or-drop at s 3 0, get_or-drop at s 4 0, get_or-drop at s 5 0, add-zero at, drop-drop 6 at s)

module _ (ws : List ℕ) (end : ℕ) where
  pub no_notes : last_notes ws end 0 ≡ []
  unfolding last_notes read_notes
  no_notes = refl

  pub no_cells : last_cells ws end 0 ≡ []
  unfolding last_cells read_cells
  no_cells = refl

  pub length_last : (k : ℕ) → length (last_cells ws end k) ≡ k
  unfolding last_cells
  length_last k = length-cells k _

  pub last_notes_lem : (k : ℕ) → 0 < k → 4 * k ≤ end → last_notes ws end k ≡ note_at ws (end - 4 * k) ∷ last_notes ws end (k - 1)
  unfolding last_notes
  last_notes_lem zero some fits = absurd (omega arith)
  last_notes_lem (suc k) some fits =
      let next : end - 4 * suc k + 4 ≡ end - 4 * k = omega arith in
      let one : suc k - 1 ≡ k = omega arith in
      notes_cons k ws (end - 4 * suc k) ∙ rw (next, one)

  pub last_cells_lem : (k : ℕ) → 0 < k → 6 * k ≤ end → last_cells ws end k ≡ cell_at ws (end - 6 * k) ∷ last_cells ws end (k - 1)
  unfolding last_cells
  last_cells_lem zero some fits = absurd (omega arith)
  last_cells_lem (suc k) some fits =
      let next : end - 6 * suc k + 6 ≡ end - 6 * k = omega arith in
      let one : suc k - 1 ≡ k = omega arith in
      cells_cons k ws (end - 6 * suc k) ∙ rw (next, one)

-- ---- the searches

-- A search through a list: it goes past the first element, or stops at it.
module _ (l b : ℕ) (c : Cell) (cs : List Cell) where
  pub skip_yes : earlier l b c ≡ true → skip l b (c ∷ cs) ≡ skip l b cs
  unfolding skip
  skip_yes e = rw (e, skip)

  pub skip_no : earlier l b c ≡ false → skip l b (c ∷ cs) ≡ c ∷ cs
  unfolding skip
  skip_no e = rw (e, skip)

module _ (ws : List ℕ) (end k : ℕ) (some : 0 < k) (fits : 6 * k ≤ end) where
  pub cons : {c : Cell} → c ≡ cell_at ws (end - 6 * k) → last_cells ws end k ≡ c ∷ last_cells ws end (k - 1)
  cons is = rw is (last_cells_lem ws end k some fits)

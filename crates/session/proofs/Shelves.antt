-- Question 4 from its parts: the layout, the cells, and the notes beside the cells. Assumes nothing.
use mathlib.Core.Path.{◌≡◌, refl, sym, ap, ◌∙◌}
use mathlib.Core.Bool.{Bool, true, false, ◌&&◌}
use mathlib.Core.List.{List}
use Prim.Native.Nat.{ℕ, ◌+◌, ◌*◌, ◌-◌, ◌/◌, ◌≤◌, ◌<◌}
use native.Mathlib.Omega.{arith}
use borrow.Author.Tests.{leb-true}
use lib.Dec.{eqb, leb}
use lib.ListN.{length, take, drop}
use Rattle.std.specs.Simd.{first_chunks}
use Rattle.model.specs.Limits.{max_beats}
use Rattle.model.specs.Lists.{every, keep}
use Rattle.model.specs.Pieces.{inside}
use Rattle.model.specs.Soundness.{layout_ok, notes_ok, sound_shelf}
use Rattle.model.specs.Takes.{word, words_used, notes_in, cells_in}
use Rattle.model.specs.declared.Header.{Header}
use Rattle.model.specs.declared.Note.{Note}
use Rattle.model.specs.declared.Cell.{Cell}
use Rattle.laws.specs.Booleans.{and_left, and_right}
use Rattle.laws.specs.Chain.{cell_ok, cells_sound}
use Rattle.laws.specs.Linear.{notes_walked, linear_take, linear_shelf, linear_sound}
use Rattle.laws.specs.Sweep.{sweep}
use Rattle.session.specs.Checking.{given_by, standing, notes_asked}
use Rattle.session.specs.Sliced.{notes_of, cells_of}
use Rattle.session.proofs.Wholes.{part_notes, part_cells}

-- what the layout gives
pub record Laid (ws : List ℕ) : Type 0 where
  pub few : word ws 0 ≤ max_beats
  pub fits : words_used (word ws 1) (word ws 2) ≤ length ws

pub laid : (ws : List ℕ) {p : Bool} → p ≡ layout_ok (length ws) ws → p ≡ true → Laid ws
unfolding layout_ok
laid ws {p} e t =
    let used = words_used (word ws 1) (word ws 2) in
    let all : layout_ok (length ws) ws ≡ true = sym e ∙ t in
    let two = and_left (leb (word ws 0) max_beats && leb used (length ws)) (every (eqb 0) (drop used ws)) all in
    record {
      few = leb-true _ _ (and_left (leb (word ws 0) max_beats) (leb used (length ws)) two);
      fits = leb-true _ _ (and_right (leb (word ws 0) max_beats) (leb used (length ws)) two);
    }

-- the parts of the words that are all notes, and all cells
module _ (ws : List ℕ) (l : Laid ws) where
  pub shelf_notes : {ns : List (List ℕ)} → ns ≡ first_chunks 4 (length (take (3 + 4 * word ws 1 - 3) (drop 3 ws)) / 4) (take (3 + 4 * word ws 1 - 3) (drop 3 ws))
      → notes_of ns ≡ notes_in ws
  shelf_notes cut = ap notes_of cut ∙ part_notes ws 3 (word ws 1) (3 + 4 * word ws 1 - 3) (omega arith) (omega (arith, l.fits))

  pub shelf_cells : {end : ℕ} → end ≡ words_used (word ws 1) (word ws 2) → {cs : List (List ℕ)}
      → cs ≡ first_chunks 6 (length (take (end - (3 + 4 * word ws 1)) (drop (3 + 4 * word ws 1) ws)) / 6) (take (end - (3 + 4 * word ws 1)) (drop (3 + 4 * word ws 1) ws))
      → cells_of cs ≡ cells_in ws
  shelf_cells {end} e cut = ap cells_of cut ∙ part_cells ws (3 + 4 * word ws 1) (word ws 2) (end - (3 + 4 * word ws 1)) (omega arith) (omega (arith, l.fits))

cells-first : (n e s w g : Bool) → n && e && s && w && g ≡ (e && s) && (n && (w && g))
cells-first true true true w g = refl
cells-first true true false w g = refl
cells-first true false s w g = refl
cells-first false true true w g = refl
cells-first false true false w g = refl
cells-first false false s w g = refl

module _ (h : Header) (ws : List ℕ) (some : 0 < h.delta) (le : h.epsilon ≤ h.delta) (long : length ws ≡ h.words) {p : Bool} (l : p ≡ layout_ok (length ws) ws) where
  -- the cells first, then the notes
  take_asked : linear_take h (word ws 0) (notes_in ws) (cells_in ws)
      ≡ (every (cell_ok h.delta (word ws 0)) (cells_in ws) && cells_sound h.delta (cells_in ws)) && notes_asked h (word ws 0) (notes_in ws) (cells_in ws)
  unfolding linear_take notes_walked notes_asked standing given_by
  take_asked =
      let ns = notes_in ws in
      let cs = cells_in ws in
      cells-first (notes_ok h.delta (word ws 0) ns) (every (cell_ok h.delta (word ws 0)) cs) (cells_sound h.delta cs) (sweep h.delta (keep (inside h.delta) ns) cs) (given_by h ns cs)

  whole : sound_shelf h ws ≡ p && linear_take h (word ws 0) (notes_in ws) (cells_in ws)
  unfolding linear_shelf
  whole = sym (linear_sound h some le ws) ∙ rw (← long, ← l)

  pub not_laid : p ≡ false → false ≡ sound_shelf h ws
  not_laid t = sym (whole ∙ rw t)

  module _ (t : p ≡ true) {cs : List Cell} (are : cs ≡ cells_in ws) {q : Bool} (c : q ≡ every (cell_ok h.delta (word ws 0)) cs && cells_sound h.delta cs) where
    parts : sound_shelf h ws ≡ q && notes_asked h (word ws 0) (notes_in ws) cs
    parts = whole ∙ rw (t, take_asked, ← are, ← c)

    pub cells_wrong : q ≡ false → false ≡ sound_shelf h ws
    cells_wrong u = sym (parts ∙ rw u)

    pub by_notes : q ≡ true → {ns : List Note} → ns ≡ notes_in ws → {r : Bool} → r ≡ notes_asked h (word ws 0) ns cs → r ≡ sound_shelf h ws
    by_notes u e n = n ∙ sym (parts ∙ rw (u, e))

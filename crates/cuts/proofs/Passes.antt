-- Notes and cells of lists whose words agree, and one step of the pass over a shelf's notes. Assumes nothing.
use mathlib.Core.Path.{◌≡◌, refl, sym, ap, ◌∙◌}
use mathlib.Core.Bool.{Bool, true, false, cond}
use mathlib.Core.List.{List, [], ◌∷◌, ◌++◌}
use mathlib.Core.Option.{Option, none, some}
use Prim.Native.Nat.{ℕ, zero, suc, ◌+◌, ◌-◌, ◌*◌, ◌≤◌, ◌<◌}
use native.Mathlib.Omega.{arith}
use lib.Dec.{leb}
use lib.ListN.{get_or}
use Rattle.model.specs.declared.Header.{Header}
use Rattle.model.specs.declared.Note.{Note}
use Rattle.model.specs.declared.Cell.{Cell}
use Rattle.laws.specs.Sweep.{skip}
use Rattle.laws.specs.Cutting.{first_cell, closing_cell, cross_left, cross_right, cut_left_from, cut_right_from, left_step, right_step}
use Rattle.session.specs.Reading.{note_at, cell_at, last_notes, last_cells}
use Rattle.session.proofs.Lasts.{no_notes, no_cells, last_notes_lem, last_cells_lem}
use Rattle.cuts.specs.declared.halves.Half.{Half}
use Rattle.cuts.specs.Halving.{is_right, HalfOk, passed, line_cell, crossed_note, crossed_by, across_parts, note_part, note_parts}

-- ---- notes and cells of two lists whose words agree

module _ (l m : List ℕ) where
  note_agree : (p q : ℕ) → ((j : ℕ) → j < 4 → get_or l (p + j) 0 ≡ get_or m (q + j) 0) → get_or l p 0 ≡ get_or m q 0 → note_at l p ≡ note_at m q
  unfolding note_at
  note_agree p q h z = rw (z, h 1 (omega arith), h 2 (omega arith), h 3 (omega arith))

  cell_agree : (p q : ℕ) → ((j : ℕ) → j < 6 → get_or l (p + j) 0 ≡ get_or m (q + j) 0) → get_or l p 0 ≡ get_or m q 0 → cell_at l p ≡ cell_at m q
  unfolding cell_at
  cell_agree p q h z = rw (z, h 1 (omega arith), h 2 (omega arith), h 3 (omega arith), h 4 (omega arith), h 5 (omega arith))

  -- the i words ahead of place e of the one and of place f of the other
  abbrev Agree : ℕ → ℕ → ℕ → Type 0
  Agree e f n = (i : ℕ) → 0 < i → i ≤ n → get_or l (e - i) 0 ≡ get_or m (f - i) 0

  at_place : (e f n : ℕ) → n ≤ e → n ≤ f → Agree e f n → (j : ℕ) → j < n → get_or l (e - n + j) 0 ≡ get_or m (f - n + j) 0
  at_place e f n a b h j less =
      let x : e - n + j ≡ e - (n - j) = omega arith in
      let y : f - n + j ≡ f - (n - j) = omega arith in
      rw (x, y) (h (n - j) (omega arith) (omega arith))

  pub notes_agree : (e f k : ℕ) → 4 * k ≤ e → 4 * k ≤ f → Agree e f (4 * k) → last_notes l e k ≡ last_notes m f k
  notes_agree e f zero a b h = no_notes l e ∙ sym (no_notes m f)
  notes_agree e f (suc k) a b h =
      let one : suc k - 1 ≡ k = omega arith in
      let first : note_at l (e - 4 * suc k) ≡ note_at m (f - 4 * suc k) =
      note_agree (e - 4 * suc k) (f - 4 * suc k) (λ j less. at_place e f (4 * suc k) a b h j (omega arith)) (h (4 * suc k) (omega arith) (omega arith)) in
      let rest : last_notes l e (suc k - 1) ≡ last_notes m f (suc k - 1) =
      rw one (notes_agree e f k (omega arith) (omega arith) (λ i pos upto. h i pos (omega arith))) in
      last_notes_lem l e (suc k) (omega arith) a ∙ rw (first, rest) (sym (last_notes_lem m f (suc k) (omega arith) b))

  pub cells_agree : (e f k : ℕ) → 6 * k ≤ e → 6 * k ≤ f → Agree e f (6 * k) → last_cells l e k ≡ last_cells m f k
  cells_agree e f zero a b h = no_cells l e ∙ sym (no_cells m f)
  cells_agree e f (suc k) a b h =
      let one : suc k - 1 ≡ k = omega arith in
      let first : cell_at l (e - 6 * suc k) ≡ cell_at m (f - 6 * suc k) =
      cell_agree (e - 6 * suc k) (f - 6 * suc k) (λ j less. at_place e f (6 * suc k) a b h j (omega arith)) (h (6 * suc k) (omega arith) (omega arith)) in
      let rest : last_cells l e (suc k - 1) ≡ last_cells m f (suc k - 1) =
      rw one (cells_agree e f k (omega arith) (omega arith) (λ i pos upto. h i pos (omega arith))) in
      last_cells_lem l e (suc k) (omega arith) a ∙ rw (first, rest) (sym (last_cells_lem m f (suc k) (omega arith) b))

-- ---- one step of the pass over the notes

module _ (h : Header) (v : Half) (ok : HalfOk h.delta v) where
  pub parts-right : is_right v.side ≡ true → (ns : List Note) (cs : List Cell) → note_parts h v ns cs ≡ cut_right_from h v.beat ns cs
  unfolding note_parts
  parts-right e ns cs = rw e

  pub parts-left : is_right v.side ≡ false → (ns : List Note) (cs : List Cell) → note_parts h v ns cs ≡ cut_left_from h v.beat ns cs
  unfolding note_parts
  parts-left e ns cs = rw e

  cell-right : is_right v.side ≡ true → (cs : List Cell) → line_cell v cs ≡ first_cell cs
  unfolding line_cell
  cell-right e cs = rw e

  cell-left : is_right v.side ≡ false → (cs : List Cell) → line_cell v cs ≡ closing_cell cs
  unfolding line_cell
  cell-left e cs = rw e

  module _ (n : Note) where
    cross_right_lem : is_right v.side ≡ true → (o : Option Cell) → cross_right h v.beat n o ≡ crossed_by h v n o
    unfolding cross_right crossed_by crossed_note
    cross_right_lem e none = refl
    cross_right_lem e (some c) = rw (e, ← ok.line_is)

    cross_left_lem : is_right v.side ≡ false → (o : Option Cell) → cross_left h v.beat n o ≡ crossed_by h v n o
    unfolding cross_left crossed_by crossed_note
    cross_left_lem e none = refl
    cross_left_lem e (some c) = rw (e, ← ok.line_is)

    across_right : is_right v.side ≡ true → (cs : List Cell) → cross_right h v.beat n (first_cell cs) ≡ across_parts h v n cs
    unfolding across_parts
    across_right e cs = cross_right_lem e (first_cell cs) ∙ ap (crossed_by h v n) (sym (cell-right e cs))

    across_left : is_right v.side ≡ false → (cs : List Cell) → cross_left h v.beat n (closing_cell cs) ≡ across_parts h v n cs
    unfolding across_parts
    across_left e cs = cross_left_lem e (closing_cell cs) ∙ ap (crossed_by h v n) (sym (cell-left e cs))

    module _ (ns : List Note) (cs : List Cell) where
      abbrev pub Step : Type 0
      Step = note_parts h v (n ∷ ns) cs ≡ note_part h v n (passed v n cs) ++ note_parts h v ns (passed v n cs)

      module _ (out : leb n.end v.line ≡ false) (over : leb v.line n.start ≡ false) where
        out_line : leb n.end (v.beat * h.delta) ≡ false
        out_line = sym (ap (leb n.end) ok.line_is) ∙ out

        over_line : leb (v.beat * h.delta) n.start ≡ false
        over_line = sym (ap (λ (x : ℕ). leb x n.start) ok.line_is) ∙ over

        seen : passed v n cs ≡ skip n.lane v.edge cs
        unfolding passed
        seen = rw (out, over)

        is_across : (ds : List Cell) → note_part h v n ds ≡ across_parts h v n ds
        unfolding note_part
        is_across ds = rw (out, over)

        across_step : (b : ℕ) → v.edge ≡ b → note_parts h v (n ∷ ns) cs ≡ across_parts h v n (skip n.lane b cs) ++ note_parts h v ns (skip n.lane b cs) → Step
        across_step b e f = let is : passed v n cs ≡ skip n.lane b cs = seen ∙ ap (λ (x : ℕ). skip n.lane x cs) e in rw (is_across (passed v n cs), is) f

        step_right : is_right v.side ≡ true → Step
        step_right e =
            let ds = skip n.lane v.beat cs in
            across_step v.beat (ok.edge_is ∙ rw e)
            (parts-right e (n ∷ ns) cs ∙ right_step h v.beat n ns cs ∙ rw (out_line, over_line, across_right e ds, parts-right e ns ds))

        step_left : is_right v.side ≡ false → Step
        step_left e =
            let ds = skip n.lane (v.beat - 1) cs in
            across_step (v.beat - 1) (ok.edge_is ∙ rw e)
            (parts-left e (n ∷ ns) cs ∙ left_step h v.beat n ns cs ∙ rw (out_line, over_line, across_left e ds, parts-left e ns ds))

      step_by : (b t u : Bool) → is_right v.side ≡ b → leb n.end v.line ≡ t → leb v.line n.start ≡ u → Step
      unfolding note_parts note_part passed
      step_by true true u eb et eu = rw (eb, et) (right_step h v.beat n ns cs ∙ rw (← ok.line_is, et))
      step_by true false true eb et eu = rw (eb, et, eu) (right_step h v.beat n ns cs ∙ rw (← ok.line_is, et, eu))
      step_by true false false eb et eu = step_right et eu eb
      step_by false true u eb et eu = rw (eb, et) (left_step h v.beat n ns cs ∙ rw (← ok.line_is, et))
      step_by false false true eb et eu = rw (eb, et, eu) (left_step h v.beat n ns cs ∙ rw (← ok.line_is, et, eu))
      step_by false false false eb et eu = step_left et eu eb

      pub parts_step : Step
      parts_step = step_by (is_right v.side) (leb n.end v.line) (leb v.line n.start) refl refl refl

pub no_parts : (h : Header) (v : Half) (cs : List Cell) → note_parts h v [] cs ≡ []
unfolding note_parts cut_left_from cut_right_from
no_parts h v cs = go (is_right v.side)
  where
    go : (b : Bool) → cond {A = List Note} b [] [] ≡ []
    go true = refl
    go false = refl

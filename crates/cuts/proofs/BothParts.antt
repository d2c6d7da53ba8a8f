-- What both halves have of a note and of a cell, by the way that the code goes. Assumes nothing.
use mathlib.Core.Path.{◌≡◌, refl, sym, ap, ◌∙◌}
use mathlib.Core.Bool.{Bool, true, false}
use mathlib.Core.List.{List, [], ◌∷◌}
use Prim.Native.Nat.{ℕ, ◌+◌, ◌-◌, ◌*◌, ◌≤◌, ◌<◌, min}
use native.Mathlib.Omega.{arith}
use borrow.Author.Tests.{le-leb, lt-leb, le-ltb, lt-ltb, ltb-true, ltb-false}
use lib.Dec.{ltb}
use lib.ListN.{length}
use Rattle.words.specs.Apart.{Apart}
use Rattle.words.specs.Parts.{Same, splice_same}
use Rattle.words.specs.Splice.{splice, length-splice}
use Rattle.model.specs.Lists.{gather}
use Rattle.model.specs.Takes.{note_words, cell_words, cell_to}
use Rattle.model.specs.declared.Header.{Header}
use Rattle.model.specs.declared.Note.{Note}
use Rattle.model.specs.declared.Cell.{Cell}
use Rattle.laws.specs.Cutting.{note_back}
use Rattle.laws.specs.Sessions.{length-note_words}
use Rattle.laws.specs.Sweep.{skip}
use Rattle.session.specs.Reading.{last_cells}
use Rattle.cuts.specs.declared.lasts.Last.{Last}
use Rattle.cuts.specs.declared.halves.Half.{Half}
use Rattle.cuts.specs.declared.halves.Ends.{Ends}
use Rattle.cuts.specs.declared.halves.CellPlace.{CellPlace}
use Rattle.cuts.specs.declared.halves.Cursors.{Cursors}
use Rattle.cuts.specs.Halving.{passed, across_parts, Noted}
use Rattle.cuts.specs.BothHalves.{part_from, cell_place, left_cell, right_cell, BothPut, Sides, PartsAsks, PartsPut}
use Rattle.cuts.proofs.Parts.{none_before, none-behind, some_across, part-before-left, part-before-right, part-behind-left, part-behind-right, part_across}
use Rattle.cuts.proofs.Passes.{cells_agree}
use Rattle.cuts.proofs.Skips.{goes_on}

-- ---- words for one half only

module _ (s : List ℕ) (at : Ends) {ls rs : List ℕ} (ws : List ℕ) where
  left-put : ls ≡ ws → rs ≡ [] → {t : List ℕ} → t ≡ splice s at.left ws → BothPut s at ls rs t (record { left = at.left + length ws; right = at.right })
  unfolding splice
  left-put e f g = record { words = rw (e, f) g; left_behind = rw e; right-behind = rw f (omega arith) }

  right-put : ls ≡ [] → rs ≡ ws → {t : List ℕ} → t ≡ splice s at.right ws → BothPut s at ls rs t (record { left = at.left; right = at.right + length ws })
  unfolding splice
  right-put e f g = record { words = rw (e, f) g; left_behind = rw e (omega arith); right-behind = rw f }

-- ---- a note

module _ {s : List ℕ} {h : Header} {a b : Half} (sides : Sides a b) {n : Note} {at : Cursors} (q : PartsAsks s h a b n at) where
  abbrev end : ℕ
  end = at.closings.end

  abbrev closing : List Cell
  closing = last_cells s end at.closings.left

  abbrev opening : List Cell
  opening = last_cells s end at.openings.left

  -- it ends on the line or before it
  module _ (i : n.end ≤ a.line) where
    right_ends : n.end ≤ b.line
    right_ends = rw sides.line_is i

    before-left : part_from h a n closing ≡ n ∷ []
    unfolding part_from
    before-left = part-before-left h a n (passed a n closing) i sides.left_is

    before-right : part_from h b n opening ≡ []
    unfolding part_from
    before-right = part-before-right h b n (passed b n opening) right_ends sides.right_is

    pub before-room : at.to.left + 4 ≤ length s
    before-room = rw before-left at q.left-room

    pub before-put : {t : List ℕ} → t ≡ splice s at.to.left (note_words n)
        → PartsPut s h a b n at t (record { to = record { left = at.to.left + 4; right = at.to.right }; closings = at.closings; openings = at.openings })
    before-put e = record {
      closings_end = refl;
      openings_end = q.openings_end;
      closings_are = none_before a n closing i;
      closings_few = omega arith;
      openings_are = none_before b n opening right_ends;
      openings_few = omega arith;
      order = q.order;
      put = left-put s at.to (note_words n) (ap (gather note_words) before-left) (ap (gather note_words) before-right) e;
    }

  module _ (i : a.line < n.end) where
    right_over : b.line < n.end
    right_over = rw sides.line_is i

    -- it starts on the line or behind it
    module _ (j : a.line ≤ n.start) where
      right_starts : b.line ≤ n.start
      right_starts = rw sides.line_is j

      behind-left : part_from h a n closing ≡ []
      unfolding part_from
      behind-left = part-behind-left h a n (passed a n closing) i j sides.left_is

      behind-right : part_from h b n opening ≡ note_back a.line n ∷ []
      unfolding part_from
      behind-right = part-behind-right h b n (passed b n opening) right_over right_starts sides.right_is ∙ ap (λ (x : ℕ). note_back x n ∷ []) sides.line_is

      pub behind-room : at.to.right + 4 ≤ length s
      behind-room = rw behind-right at q.right-room

      pub behind-put : {t : List ℕ} → t ≡ splice s at.to.right (note_words (note_back a.line n))
          → PartsPut s h a b n at t (record { to = record { left = at.to.left; right = at.to.right + 4 }; closings = at.closings; openings = at.openings })
      behind-put e = record {
        closings_end = refl;
        openings_end = q.openings_end;
        closings_are = none-behind a n closing i j;
        closings_few = omega arith;
        openings_are = none-behind b n opening right_over right_starts;
        openings_few = omega arith;
        order = q.order;
        put = right-put s at.to (note_words (note_back a.line n)) (ap (gather note_words) behind-left) (ap (gather note_words) behind-right) e;
      }

    -- it crosses the line
    module _ (j : n.start < a.line) where
      right-under : n.start < b.line
      right-under = rw sides.line_is j

      module _ {k : ℕ} (e : (last_cells s end k ≡ skip n.lane a.edge closing) × (k ≤ at.closings.left)) where
        closed : last_cells s end k ≡ passed a n closing
        closed = e.0 ∙ some_across a n closing i j

        left_part : part_from h a n closing ≡ across_parts h a n (last_cells s end k)
        unfolding part_from
        left_part = part_across h a n (passed a n closing) i j ∙ ap (across_parts h a n) (sym closed)

        pub left_asks : (at.to.left + 4 * length (across_parts h a n (last_cells s end k)) ≤ length s) × (end ≤ length s) × (a.line ≤ n.end)
        left_asks = (rw left_part at q.left-room, q.inside, omega arith)

        -- the search that goes on from the closing cell, or from the opening cell before
        module _ {x : ℕ} (is : x ≡ min k at.openings.left) where
          pub found_on : {o : ℕ} → (last_cells s end o ≡ skip n.lane b.edge (last_cells s end x)) × (o ≤ x)
              → (last_cells s end o ≡ skip n.lane b.edge opening) × (o ≤ at.openings.left) × (o ≤ k)
          found_on g = goes_on s end n.lane a.edge b.edge at.closings.left k at.openings.left sides.edges at.closings.fits q.order e.0 is g

        module _ {o : ℕ} (f : (last_cells s end o ≡ skip n.lane b.edge opening) × (o ≤ at.openings.left) × (o ≤ k)) where
          opened : last_cells s end o ≡ passed b n opening
          opened = f.0 ∙ some_across b n opening right_over right-under

          right_part : part_from h b n opening ≡ across_parts h b n (last_cells s end o)
          unfolding part_from
          right_part = part_across h b n (passed b n opening) right_over right-under ∙ ap (across_parts h b n) (sym opened)

          module _ {s₁ : List ℕ} {l : ℕ} (m : Noted s at.to.left (across_parts h a n (last_cells s end k)) s₁ l) where
            lefts : List Note
            lefts = across_parts h a n (last_cells s end k)

            long : length s₁ ≡ length s
            unfolding lefts
            long = ap length m.words ∙ length-splice s at.to.left (gather note_words lefts)

            -- the cells are as they were
            still : last_cells s₁ end o ≡ last_cells s end o
            unfolding lefts
            still =
                let apart : Apart (end - 6 * at.openings.left) (6 * at.openings.left) at.to.left (4 * length lefts) = rw left_part at q.apart in
                let same : Same s₁ s (end - 6 * at.openings.left) (6 * at.openings.left) =
                rw m.words (splice_same s at.to.left (gather note_words lefts) apart (omega (arith, length-note_words lefts))) in
                cells_agree s₁ s end end o (omega (arith, at.closings.fits, q.order, f.1)) (omega (arith, at.closings.fits, q.order, f.1))
                (λ x pos upto. same.at (end - x) (omega (arith, at.closings.fits, q.order, f.1)) (omega (arith, at.closings.fits, q.order, f.1)))

            pub right_asks : (at.to.right + 4 * length (across_parts h b n (last_cells s₁ end o)) ≤ length s₁) × (end ≤ length s₁) × (b.line ≤ n.end)
            right_asks =
                let room : at.to.right + 4 * length (across_parts h b n (last_cells s end o)) ≤ length s = rw right_part at q.right-room in
                (rw (still, long) room, rw long q.inside, omega arith)

            pub crossed_put : {x y : Last 6} → (x.end ≡ end) × (x.left ≡ k) → (y.end ≡ end) × (y.left ≡ o)
                → {s₂ : List ℕ} {r : ℕ} → Noted s₁ at.to.right (across_parts h b n (last_cells s₁ end o)) s₂ r
                → PartsPut s h a b n at s₂ (record { to = record { left = l; right = r }; closings = x; openings = y })
            crossed_put x y m₂ = record {
              closings_end = x.0;
              openings_end = y.0;
              closings_are = ap (last_cells s end) x.1 ∙ closed;
              closings_few = omega (arith, x.1, e.1);
              openings_are = ap (last_cells s end) y.1 ∙ opened;
              openings_few = omega (arith, y.1, f.1);
              order = omega (arith, x.1, y.1, f.2);
              put = record {
                words = m₂.words ∙ rw (still, m.words, left_part, right_part);
                left_behind = m.behind ∙ rw left_part (omega (arith, length-note_words (across_parts h a n (last_cells s end k))));
                right-behind = m₂.behind ∙ rw (still, right_part) (omega (arith, length-note_words (across_parts h b n (last_cells s end o))));
              };
            }

-- ---- a cell

module _ (k : ℕ) (c : Cell) where
  module _ (i : c.beat < k) where
    kept : left_cell k c ≡ c ∷ []
    unfolding left_cell
    kept = rw (lt-ltb c.beat k i)

    not_right : right_cell k c ≡ []
    unfolding right_cell
    not_right = rw (lt-leb k c.beat i)

    kept-room : (to len : ℕ) → to + 6 * length (left_cell k c) ≤ len → to + 6 ≤ len
    kept-room to len r = rw kept at r

    kept_put : (s : List ℕ) (at : Ends) {t : List ℕ} → t ≡ splice s at.left (cell_words c)
        → BothPut s at (gather cell_words (left_cell k c)) (gather cell_words (right_cell k c)) t (record { left = at.left + 6; right = at.right })
    kept_put s at e = left-put s at (cell_words c) (ap (gather cell_words) kept) (ap (gather cell_words) not_right) e

  module _ (i : k ≤ c.beat) where
    moved : right_cell k c ≡ cell_to (c.beat - k) c ∷ []
    unfolding right_cell
    moved = rw (le-leb k c.beat i)

    not_left : left_cell k c ≡ []
    unfolding left_cell
    not_left = rw (le-ltb c.beat k i)

    moved_room : (to len : ℕ) → to + 6 * length (right_cell k c) ≤ len → to + 6 ≤ len
    moved_room to len r = rw moved at r

    moved_put : (s : List ℕ) (at : Ends) {t : List ℕ} → t ≡ splice s at.right (cell_words (cell_to (c.beat - k) c))
        → BothPut s at (gather cell_words (left_cell k c)) (gather cell_words (right_cell k c)) t (record { left = at.left; right = at.right + 6 })
    moved_put s at e = right-put s at (cell_words (cell_to (c.beat - k) c)) (ap (gather cell_words) not_left) (ap (gather cell_words) moved) e

  -- by the place that is chosen
  module _ (at : Ends) {p : CellPlace} (e : p ≡ cell_place k c.beat at) where
    pub place-room : (len : ℕ) → at.left + 6 * length (left_cell k c) ≤ len → at.right + 6 * length (right_cell k c) ≤ len → p.to + 6 ≤ len
    unfolding cell_place
    place-room len l r = go (ltb c.beat k) refl
      where
        go : (b : Bool) → ltb c.beat k ≡ b → p.to + 6 ≤ len
        go true f = rw (e, f) (kept-room (ltb-true c.beat k f) at.left len l)
        go false f = rw (e, f) (moved_room (ltb-false c.beat k f) at.right len r)

    pub place-put : (s : List ℕ) {t : List ℕ} → t ≡ splice s p.to (cell_words (cell_to p.beat c))
        → BothPut s at (gather cell_words (left_cell k c)) (gather cell_words (right_cell k c)) t p.behind
    unfolding cell_place
    place-put s {t} g = go (ltb c.beat k) refl
      where
        go : (b : Bool) → ltb c.beat k ≡ b
            → BothPut s at (gather cell_words (left_cell k c)) (gather cell_words (right_cell k c)) t p.behind
        go true f = rw (e, f) (kept_put (ltb-true c.beat k f) s at (rw (e, f) at g))
        go false f = rw (e, f) (moved_put (ltb-false c.beat k f) s at (rw (e, f) at g))

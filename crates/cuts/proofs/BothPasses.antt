-- The two passes that write both halves: over a shelf's notes, and over its cells. Assumes nothing.
use mathlib.Core.Path.{◌≡◌, refl, sym, ap, ◌∙◌}
use mathlib.Core.List.{List, [], ◌∷◌, ◌++◌}
use Prim.Native.Nat.{ℕ, ◌+◌, ◌-◌, ◌*◌, ◌≤◌, ◌<◌}
use native.Mathlib.Omega.{arith}
use lib.ListN.{length, length-append}
use Rattle.words.specs.Apart.{Apart, apart_swap, apart-within}
use Rattle.words.specs.Parts.{Same}
use Rattle.model.specs.Lists.{gather}
use Rattle.model.specs.Takes.{note_words, cell_words}
use Rattle.model.specs.declared.Header.{Header}
use Rattle.model.specs.declared.Note.{Note}
use Rattle.model.specs.declared.Cell.{Cell}
use Rattle.laws.specs.Lists.{gather_append}
use Rattle.laws.specs.Sessions.{length-note_words, length-cell_words}
use Rattle.session.specs.Reading.{note_at, cell_at, last_notes, last_cells}
use Rattle.session.proofs.Readings.{note_same}
use Rattle.session.proofs.Lasts.{no_notes, no_cells, last_notes_lem, last_cells_lem}
use Rattle.cuts.specs.declared.halves.Half.{Half}
use Rattle.cuts.specs.declared.halves.Contents.{Contents}
use Rattle.cuts.specs.declared.halves.Ends.{Ends}
use Rattle.cuts.specs.declared.halves.Cursors.{Cursors}
use Rattle.cuts.specs.Halving.{HalfOk, passed, note_parts, notes_left}
use Rattle.cuts.specs.BothHalves.{part_from, left_cell, right_cell, left_cells, right_cells, BothPut, BothPlaced, PartsAsks, PartsPut, NotesAsks, CellsAsks}
use Rattle.cuts.proofs.Passes.{cells_agree, parts_step, no_parts}
use Rattle.cuts.proofs.BothWrites.{BothWrites, both-start, both_turn, both-done, both_same}

-- ---- what is read while both halves are written

module _ {s₀ : List ℕ} {from : Contents} {to : Ends} {m n : ℕ} (p : BothPlaced s₀ from to m n) where
  module _ {s : List ℕ} {at : Ends} {us vs ls rs : List ℕ} (w : BothWrites s₀ s to at us vs ls rs) (lefts : length us ≡ m) (rights : length vs ≡ n) where
    still : Same s s₀ p.low (from.cells.end - p.low)
    still = both_same w (rw lefts p.left-from) (rw rights p.right-from)

    note_was : (k : ℕ) → 0 < k → k ≤ from.notes.left → note_at s (from.notes.end - 4 * k) ≡ note_at s₀ (from.notes.end - 4 * k)
    note_was k pos few =
        note_same still (from.notes.end - 4 * k) (omega (arith, p.notes_in_lem)) (omega (arith, p.notes_in_lem, p.order))

    cells_were : (k : ℕ) → k ≤ from.cells.left → last_cells s from.cells.end k ≡ last_cells s₀ from.cells.end k
    cells_were k few =
        cells_agree s s₀ from.cells.end from.cells.end k (omega (arith, p.cells_in)) (omega (arith, p.cells_in))
        (λ i pos upto. still.at (from.cells.end - i) (omega (arith, p.cells_in)) (omega (arith, p.cells_in)))

-- ---- the pass over the notes

-- so many notes are left, and so many cells that each half's parts look at
pub record Noting (s₀ s : List ℕ) (h : Header) (a b : Half) (from : Contents) (to : Ends) (at : Cursors) (left : ℕ) : Type 0 where
  pub notes_few : left ≤ from.notes.left
  pub closings_end : at.closings.end ≡ from.cells.end
  pub openings_end : at.openings.end ≡ from.cells.end
  pub closings_few : at.closings.left ≤ from.cells.left
  pub order : at.openings.left ≤ at.closings.left
  pub writes : BothWrites s₀ s to at.to (gather note_words (notes_left h a s₀ from from.notes.left from.cells.left))
      (gather note_words (notes_left h b s₀ from from.notes.left from.cells.left)) (gather note_words (notes_left h a s₀ from left at.closings.left))
      (gather note_words (notes_left h b s₀ from left at.openings.left))

-- one half's notes, from the first of those that are left on
module _ (s₀ : List ℕ) (h : Header) (v : Half) (ok : HalfOk h.delta v) (from : Contents) (left : ℕ) (n : Note)
    (first : last_notes s₀ from.notes.end left ≡ n ∷ last_notes s₀ from.notes.end (left - 1)) (cells : ℕ) where
  abbrev rest : List Note
  rest = note_parts h v (last_notes s₀ from.notes.end (left - 1)) (passed v n (last_cells s₀ from.cells.end cells))

  from_first : notes_left h v s₀ from left cells ≡ part_from h v n (last_cells s₀ from.cells.end cells) ++ rest
  unfolding notes_left part_from
  from_first = rw first (parts_step h v ok n (last_notes s₀ from.notes.end (left - 1)) (last_cells s₀ from.cells.end cells))

  first_fits : 4 * length (part_from h v n (last_cells s₀ from.cells.end cells)) ≤ length (gather note_words (notes_left h v s₀ from left cells))
  first_fits =
      omega (
        arith,
        length-note_words (notes_left h v s₀ from left cells),
        ap length from_first,
        length-append (part_from h v n (last_cells s₀ from.cells.end cells)) rest,
      )

  words_from : (r : ℕ) → last_cells s₀ from.cells.end r ≡ passed v n (last_cells s₀ from.cells.end cells)
      → gather note_words (notes_left h v s₀ from left cells)
      ≡ gather note_words (part_from h v n (last_cells s₀ from.cells.end cells)) ++ gather note_words (notes_left h v s₀ from (left - 1) r)
  unfolding notes_left
  words_from r e = ap (gather note_words) from_first ∙ gather_append note_words (part_from h v n (last_cells s₀ from.cells.end cells)) rest ∙ rw (← e)

no_words : (s : List ℕ) (h : Header) (v : Half) (from : Contents) (cells : ℕ) → gather note_words (notes_left h v s from 0 cells) ≡ []
unfolding notes_left
no_words s h v from cells = rw (no_notes s from.notes.end, no_parts h v (last_cells s from.cells.end cells))

module _ {s₀ : List ℕ} {h : Header} {a b : Half} {from : Contents} {to : Ends} (left_ok : HalfOk h.delta a) (right_ok : HalfOk h.delta b)
    (q : NotesAsks s₀ h a b from to) where
  lefts : length (gather note_words (notes_left h a s₀ from from.notes.left from.cells.left)) ≡ 4 * length (notes_left h a s₀ from from.notes.left from.cells.left)
  lefts = length-note_words (notes_left h a s₀ from from.notes.left from.cells.left)

  rights : length (gather note_words (notes_left h b s₀ from from.notes.left from.cells.left)) ≡ 4 * length (notes_left h b s₀ from from.notes.left from.cells.left)
  rights = length-note_words (notes_left h b s₀ from from.notes.left from.cells.left)

  pub noting_start : Noting s₀ s₀ h a b from to (record { to = to; closings = from.cells; openings = from.cells }) from.notes.left
  noting_start = record {
    notes_few = omega arith;
    closings_end = refl;
    openings_end = refl;
    closings_few = omega arith;
    order = omega arith;
    writes = both-start s₀ to _ _ (rw (lefts, rights) q.placed.apart);
  }

  module _ {s : List ℕ} {at : Cursors} {left : ℕ} (l : Noting s₀ s h a b from to at left) where
    inside : at.closings.end ≤ length s
    inside = omega (arith, q.placed.inside, l.writes.long, l.closings_end)

    cells_now : (k : ℕ) → k ≤ from.cells.left → last_cells s at.closings.end k ≡ last_cells s₀ from.cells.end k
    cells_now k few = ap (λ (e : ℕ). last_cells s e k) l.closings_end ∙ cells_were q.placed l.writes lefts rights k few

    module _ (more : 0 < left) where
      pub note-place : 4 * left ≤ from.notes.end
      note-place = omega (arith, q.placed.notes_in_lem, l.notes_few)

      module _ {n : Note} (is : n ≡ note_at s (from.notes.end - 4 * left)) where
        first : last_notes s₀ from.notes.end left ≡ n ∷ last_notes s₀ from.notes.end (left - 1)
        first = rw (is ∙ note_was q.placed l.writes lefts rights left more l.notes_few) (last_notes_lem s₀ from.notes.end left more note-place)

        closing_now : last_cells s at.closings.end at.closings.left ≡ last_cells s₀ from.cells.end at.closings.left
        closing_now = cells_now at.closings.left l.closings_few

        opening_now : last_cells s at.closings.end at.openings.left ≡ last_cells s₀ from.cells.end at.openings.left
        opening_now = cells_now at.openings.left (omega (arith, l.closings_few, l.order))

        left-fits : at.to.left + 4 * length (part_from h a n (last_cells s₀ from.cells.end at.closings.left)) ≤ to.left + 4 * length (notes_left h a s₀ from from.notes.left from.cells.left)
        left-fits = omega (arith, l.writes.left-place, lefts, first_fits s₀ h a left_ok from left n first at.closings.left)

        right-fits : at.to.right + 4 * length (part_from h b n (last_cells s₀ from.cells.end at.openings.left)) ≤ to.right + 4 * length (notes_left h b s₀ from from.notes.left from.cells.left)
        right-fits = omega (arith, l.writes.right-place, rights, first_fits s₀ h b right_ok from left n first at.openings.left)

        cells-apart : Apart (at.closings.end - 6 * at.openings.left) (6 * at.openings.left) at.to.left (4 * length (part_from h a n (last_cells s₀ from.cells.end at.closings.left)))
        cells-apart =
            apart_swap
            (apart-within (at.closings.end - 6 * at.openings.left) (6 * at.openings.left)
            (apart_swap (apart-within at.to.left (4 * length (part_from h a n (last_cells s₀ from.cells.end at.closings.left))) q.placed.left-from l.writes.left_low left-fits))
            (omega (arith, q.placed.cells_in, l.closings_end, l.closings_few, l.order))
            (omega (arith, q.placed.cells_in, l.closings_end, l.closings_few, l.order)))

        pub parts_asks : PartsAsks s h a b n at
        parts_asks = record {
          openings_end = l.openings_end ∙ sym l.closings_end;
          order = l.order;
          inside = inside;
          left-room = rw closing_now (omega (arith, left-fits, q.placed.left-room, l.writes.long));
          right-room = rw opening_now (omega (arith, right-fits, q.placed.right-room, l.writes.long));
          apart = rw closing_now cells-apart;
        }

        pub noting_note : {t : List ℕ} {r : Cursors} → PartsPut s h a b n at t r → Noting s₀ t h a b from to r (left - 1)
        noting_note {t} {r} m =
            let few-closings : r.closings.left ≤ from.cells.left = omega (arith, m.closings_few, l.closings_few) in
            let few-openings : r.openings.left ≤ from.cells.left = omega (arith, m.order, few-closings) in
            let closed : last_cells s₀ from.cells.end r.closings.left ≡ passed a n (last_cells s₀ from.cells.end at.closings.left) =
            sym (cells_now r.closings.left few-closings) ∙ m.closings_are ∙ ap (passed a n) closing_now in
            let opened : last_cells s₀ from.cells.end r.openings.left ≡ passed b n (last_cells s₀ from.cells.end at.openings.left) =
            sym (cells_now r.openings.left few-openings) ∙ m.openings_are ∙ ap (passed b n) opening_now in
            record {
              notes_few = omega (arith, l.notes_few);
              closings_end = m.closings_end ∙ l.closings_end;
              openings_end = m.openings_end ∙ l.closings_end;
              closings_few = few-closings;
              order = m.order;
              writes =
                  both_turn
                  (rw (
                    words_from s₀ h a left_ok from left n first at.closings.left r.closings.left closed,
                    words_from s₀ h b right_ok from left n first at.openings.left r.openings.left opened,
                  ) at l.writes)
                  (rw (closing_now, opening_now) at m.put);
            }

    pub notes-done : left ≤ 0
        → BothPut s₀ to (gather note_words (notes_left h a s₀ from from.notes.left from.cells.left)) (gather note_words (notes_left h b s₀ from from.notes.left from.cells.left)) s at.to
    notes-done over =
        let zero_left : left ≡ 0 = omega arith in
        both-done (rw (zero_left, no_words s₀ h a from at.closings.left, no_words s₀ h b from at.openings.left) at l.writes)

-- ---- the pass over the cells

pub record Celling (s₀ s : List ℕ) (k : ℕ) (from : Contents) (to at : Ends) (left : ℕ) : Type 0 where
  pub cells_few : left ≤ from.cells.left
  pub writes : BothWrites s₀ s to at (gather cell_words (left_cells k s₀ from from.cells.left)) (gather cell_words (right_cells k s₀ from from.cells.left))
      (gather cell_words (left_cells k s₀ from left)) (gather cell_words (right_cells k s₀ from left))

-- a half's cells, from the first of those that are left on
module _ (f : Cell → List Cell) (c : Cell) (cs : List Cell) where
  cells_from : gather cell_words (gather f (c ∷ cs)) ≡ gather cell_words (f c) ++ gather cell_words (gather f cs)
  cells_from = gather_append cell_words (f c) (gather f cs)

  cell-fits : 6 * length (f c) ≤ length (gather cell_words (gather f (c ∷ cs)))
  cell-fits = omega (arith, ap length cells_from, length-append (gather cell_words (f c)) (gather cell_words (gather f cs)), length-cell_words (f c))

module _ (k : ℕ) (s : List ℕ) (from : Contents) where
  no_left : gather cell_words (left_cells k s from 0) ≡ []
  unfolding left_cells
  no_left = ap (λ (cs : List Cell). gather cell_words (gather (left_cell k) cs)) (no_cells s from.cells.end)

  no_right : gather cell_words (right_cells k s from 0) ≡ []
  unfolding right_cells
  no_right = ap (λ (cs : List Cell). gather cell_words (gather (right_cell k) cs)) (no_cells s from.cells.end)

module _ {s₀ : List ℕ} {k : ℕ} {from : Contents} {to : Ends} (q : CellsAsks s₀ k from to) where
  left_sized : length (gather cell_words (left_cells k s₀ from from.cells.left)) ≡ 6 * length (left_cells k s₀ from from.cells.left)
  left_sized = length-cell_words (left_cells k s₀ from from.cells.left)

  right_sized : length (gather cell_words (right_cells k s₀ from from.cells.left)) ≡ 6 * length (right_cells k s₀ from from.cells.left)
  right_sized = length-cell_words (right_cells k s₀ from from.cells.left)

  pub celling_start : Celling s₀ s₀ k from to to from.cells.left
  celling_start = record { cells_few = omega arith; writes = both-start s₀ to _ _ (rw (left_sized, right_sized) q.placed.apart) }

  module _ {s : List ℕ} {at : Ends} {left : ℕ} (l : Celling s₀ s k from to at left) where
    module _ (more : 0 < left) where
      pub cell_place : 6 * left ≤ from.cells.end
      cell_place = omega (arith, q.placed.cells_in, l.cells_few)

      module _ {c : Cell} (is : c ≡ cell_at s (from.cells.end - 6 * left)) where
        first_cell : last_cells s₀ from.cells.end left ≡ c ∷ last_cells s₀ from.cells.end (left - 1)
        first_cell =
            let was = cells_were q.placed l.writes left_sized right_sized in
            sym (was left l.cells_few) ∙ last_cells_lem s from.cells.end left more cell_place ∙ rw (← is, was (left - 1) (omega (arith, l.cells_few)))

        left-from : gather cell_words (left_cells k s₀ from left) ≡ gather cell_words (left_cell k c) ++ gather cell_words (left_cells k s₀ from (left - 1))
        unfolding left_cells
        left-from = rw first_cell (cells_from (left_cell k) c (last_cells s₀ from.cells.end (left - 1)))

        right-from : gather cell_words (right_cells k s₀ from left) ≡ gather cell_words (right_cell k c) ++ gather cell_words (right_cells k s₀ from (left - 1))
        unfolding right_cells
        right-from = rw first_cell (cells_from (right_cell k) c (last_cells s₀ from.cells.end (left - 1)))

        pub cell_asks : (at.left + 6 * length (left_cell k c) ≤ length s) × (at.right + 6 * length (right_cell k c) ≤ length s)
        unfolding left_cells right_cells
        cell_asks =
            let w = l.writes in
            let cs = last_cells s₀ from.cells.end (left - 1) in
            let lefts : 6 * length (left_cell k c) ≤ length (gather cell_words (left_cells k s₀ from left)) = rw first_cell (cell-fits (left_cell k) c cs) in
            let rights : 6 * length (right_cell k c) ≤ length (gather cell_words (right_cells k s₀ from left)) = rw first_cell (cell-fits (right_cell k) c cs) in
            (omega (arith, lefts, w.left-place, w.long, q.placed.left-room, left_sized), omega (arith, rights, w.right-place, w.long, q.placed.right-room, right_sized))

        pub celling_cell : {t : List ℕ} {r : Ends} → BothPut s at (gather cell_words (left_cell k c)) (gather cell_words (right_cell k c)) t r
            → Celling s₀ t k from to r (left - 1)
        celling_cell m = record { cells_few = omega (arith, l.cells_few); writes = both_turn (rw (left-from, right-from) at l.writes) m }

    pub cells-done : left ≤ 0
        → BothPut s₀ to (gather cell_words (left_cells k s₀ from from.cells.left)) (gather cell_words (right_cells k s₀ from from.cells.left)) s at
    cells-done over =
        let zero_left : left ≡ 0 = omega arith in
        both-done (rw (zero_left, no_left k s₀ from, no_right k s₀ from) at l.writes)

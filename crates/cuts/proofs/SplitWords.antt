-- Both halves of a sound shelf's take, written into two other shelves. Assumes nothing.
use mathlib.Core.Path.{◌≡◌, refl, ap, ◌∙◌}
use mathlib.Core.List.{List, [], ◌∷◌}
use Prim.Native.Nat.{ℕ, ◌+◌, ◌-◌, ◌*◌, ◌/◌, ◌≤◌}
use native.Mathlib.Omega.{arith}
use lib.ListN.{length, replicate, length-replicate}
use Rattle.words.specs.Apart.{Apart, apart_swap, apart-within}
use Rattle.words.specs.Splice.{splice, length-splice, splice_comm}
use Rattle.model.specs.Lists.{gather}
use Rattle.model.specs.Session.{shelf_at}
use Rattle.model.specs.Takes.{Take, note_words, cell_words, words_used, notes_of, words_of}
use Rattle.model.specs.Questions.{take_at}
use Rattle.model.specs.declared.Header.{Header}
use Rattle.laws.specs.Sessions.{length-note_words, length-cell_words}
use Rattle.session.specs.Framing.{framed}
use Rattle.session.specs.Reading.{last_cells}
use Rattle.cuts.specs.declared.halves.Half.{Half}
use Rattle.cuts.specs.declared.halves.Contents.{Contents}
use Rattle.cuts.specs.declared.halves.Ends.{Ends}
use Rattle.cuts.specs.Making.{Made}
use Rattle.cuts.specs.Halving.{half_of, notes_left, HalfAsks, Noted}
use Rattle.cuts.specs.BothHalves.{left_cells, right_cells, BothPut, BothPlaced, NotesAsks, CellsAsks, CountsAsks, BothAsks}
use Rattle.cuts.proofs.HalfWords.{Read, range, source_inside, target_inside, shelves_apart, half-fits, room, notes_left_lem, left_cells_lem, right_cells_lem, placed}
use Rattle.cuts.proofs.TakeWords.{cells_still, take_put}

-- ---- a frame, and words apart from its shelf

framed-apart : (s : List ℕ) (d : ℕ) (ws : List ℕ) (at W beats N C : ℕ) → words_used N C ≤ W → Apart d (length ws) at W
    → framed (splice s d ws) at W beats N C ≡ splice (framed s at W beats N C) d ws
unfolding framed
framed-apart s d ws at W beats N C few h =
    let head = beats ∷ N ∷ C ∷ [] in
    let zeros : List ℕ = replicate (W - words_used N C) 0 in
    let long : length zeros ≡ W - words_used N C = length-replicate (W - words_used N C) 0 in
    let above : Apart d (length ws) at (length head) = apart-within at 3 h (omega arith) (omega arith) in
    let below : Apart d (length ws) (at + words_used N C) (length zeros) = apart-within (at + words_used N C) (length zeros) h (omega arith) (omega arith) in
    ap (λ (x : List ℕ). splice x (at + words_used N C) zeros) (splice_comm s d ws at head above)
    ∙ splice_comm (splice s at head) d ws (at + words_used N C) zeros below

-- ---- the halves

module _ {s : List ℕ} {h : Header} {a b : Half} {i j k : ℕ} (q : BothAsks s h a b i j k) where
  abbrev la : HalfAsks s h a i j
  la = q.left_asks

  abbrev ra : HalfAsks s h b i k
  ra = q.right_asks

  abbrev t : Take
  t = take_at h s i

  abbrev lefts : Take
  lefts = half_of h.delta a t

  abbrev rights : Take
  rights = half_of h.delta b t

  module _ {from : Contents} (r : Read la from) {l : ℕ} (left_at : l ≡ shelf_at h j) {m : ℕ} (right-at : m ≡ shelf_at h k) where
    right_read : Read ra from
    right_read = record { middle_is = r.middle_is; end_is = r.end_is; used_is = r.used_is; notes_are = r.notes_are; cells_are = r.cells_are }

    left-inside : l + h.words ≤ length s
    left-inside = omega (arith, left_at, target_inside la)

    right-inside : m + h.words ≤ length s
    right-inside = omega (arith, right-at, target_inside ra)

    targets_apart : Apart l h.words m h.words
    targets_apart = rw (left_at, right-at) (shelves_apart h j k q.differ)

    -- runs of places inside the two shelves
    both-placed : (x : List ℕ) → length x ≡ length s → (to : Ends) (y z : ℕ) → l ≤ to.left → to.left + y ≤ l + h.words → m ≤ to.right → to.right + z ≤ m + h.words
        → BothPlaced x from to y z
    both-placed x long to y z left_low left-high right_low right-high =
        let source : (n : ℕ) → Apart (shelf_at h i) h.words n h.words → Apart (shelf_at h i) (from.cells.end - shelf_at h i) n h.words =
        λ n e. apart_swap (apart-within (shelf_at h i) (from.cells.end - shelf_at h i) (apart_swap e) (omega arith) (omega (arith, r))) in
        record {
          low = shelf_at h i;
          notes_in_lem = omega (arith, r);
          cells_in = omega (arith, r);
          order = omega (arith, r);
          inside = omega (arith, r, source_inside la);
          left-from = apart-within to.left y (source l (rw left_at (shelves_apart h i j la.differ))) left_low left-high;
          right-from = apart-within to.right z (source m (rw right-at (shelves_apart h i k ra.differ))) right_low right-high;
          apart = apart-within to.right z (apart_swap (apart-within to.left y (apart_swap targets_apart) left_low left-high)) right_low right-high;
          left-room = omega (arith, left-inside);
          right-room = omega (arith, right-inside);
        }

    pub notes_asks : NotesAsks s h a b from (record { left = l + 3; right = m + 3 })
    notes_asks = record {
      placed =
          both-placed s refl (record { left = l + 3; right = m + 3 }) _ _ (omega arith) (omega (arith, ap length (notes_left_lem la r), room la)) (omega arith)
          (omega (arith, ap length (notes_left_lem ra right_read), room ra));
    }

    module _ {s₁ : List ℕ} {middle : Ends}
        (noted : BothPut s (record { left = l + 3; right = m + 3 }) (gather note_words (notes_left h a s from from.notes.left from.cells.left))
        (gather note_words (notes_left h b s from from.notes.left from.cells.left)) s₁ middle) where
      notes_put : BothPut s (record { left = l + 3; right = m + 3 }) (gather note_words (notes_of h lefts)) (gather note_words (notes_of h rights)) s₁ middle
      notes_put = rw (notes_left_lem la r, notes_left_lem ra right_read) at noted

      -- the left half's notes alone
      s' : List ℕ
      s' = splice s (l + 3) (gather note_words (notes_of h lefts))

      left_noted : Noted s (l + 3) (notes_of h lefts) s' middle.left
      unfolding s'
      left_noted = record { words = refl; behind = notes_put.left_behind ∙ omega (arith, length-note_words (notes_of h lefts)) }

      right_noted : Noted s' (m + 3) (notes_of h rights) s₁ middle.right
      unfolding s'
      right_noted = record { words = notes_put.words; behind = notes_put.right-behind ∙ omega (arith, length-note_words (notes_of h rights)) }

      long' : length s' ≡ length s
      unfolding s'
      long' = length-splice s (l + 3) (gather note_words (notes_of h lefts))

      long₁ : length s₁ ≡ length s
      long₁ = ap length right_noted.words ∙ length-splice s' (m + 3) (gather note_words (notes_of h rights)) ∙ long'

      -- the cells are as they were
      cells_now : last_cells s₁ from.cells.end from.cells.left ≡ t.cells
      cells_now =
          cells_still (notes_of h rights) (placed ra right_read s' long' (m + 3) _ (omega (arith, right-at)) (omega (arith, right-at, room ra))) right_noted
          ∙ cells_still (notes_of h lefts) (placed la r s refl (l + 3) _ (omega (arith, left_at)) (omega (arith, left_at, room la))) left_noted
          ∙ r.cells_are

      left_cells_now : left_cells a.beat s₁ from from.cells.left ≡ lefts.cells
      unfolding left_cells
      left_cells_now = rw cells_now (left_cells_lem h.delta a t q.sides.left_is)

      right_cells_now : right_cells a.beat s₁ from from.cells.left ≡ rights.cells
      unfolding right_cells
      right_cells_now = rw (cells_now, ← q.sides.beat_is) (right_cells_lem h.delta b t q.sides.right_is)

      pub cells_asks : CellsAsks s₁ a.beat from middle
      cells_asks = record {
        placed =
            both-placed s₁ long₁ middle _ _ (omega (arith, left_noted.behind)) (omega (arith, left_noted.behind, ap length left_cells_now, room la))
            (omega (arith, right_noted.behind)) (omega (arith, right_noted.behind, ap length right_cells_now, room ra));
      }

      module _ {s₂ : List ℕ} {end : Ends}
          (made : BothPut s₁ middle (gather cell_words (left_cells a.beat s₁ from from.cells.left)) (gather cell_words (right_cells a.beat s₁ from from.cells.left)) s₂ end) where
        cells-put : BothPut s₁ middle (gather cell_words lefts.cells) (gather cell_words rights.cells) s₂ end
        cells-put = rw (left_cells_now, right_cells_now) at made

        left_end : end.left ≡ middle.left + 6 * length lefts.cells
        left_end = cells-put.left_behind ∙ omega (arith, length-cell_words lefts.cells)

        right_end : end.right ≡ middle.right + 6 * length rights.cells
        right_end = cells-put.right-behind ∙ omega (arith, length-cell_words rights.cells)

        long₂ : length s₂ ≡ length s
        long₂ =
            ap length cells-put.words ∙ length-splice (splice s₁ middle.left (gather cell_words lefts.cells)) middle.right (gather cell_words rights.cells)
            ∙ length-splice s₁ middle.left (gather cell_words lefts.cells) ∙ long₁

        pub left_counts : CountsAsks s₂ l h.words middle.left end.left
        left_counts = record {
          few = (range la).small;
          notes_low = omega (arith, left_noted.behind);
          cells_low = omega (arith, left_end);
          high = omega (arith, left_noted.behind, left_end, room la);
          inside = omega (arith, long₂, left-inside);
        }

        -- the left half alone, and the right half's notes and cells
        y : List ℕ
        y = splice s' middle.left (gather cell_words lefts.cells)

        left_made : Made s' middle.left lefts.cells y end.left
        unfolding y
        left_made = record { words = refl; behind = left_end }

        right-behind-left : {d : ℕ} (ws : List ℕ) → m ≤ d → d + length ws ≤ m + h.words → Apart d (length ws) l h.words
        right-behind-left {d} ws low high = apart_swap (apart-within d (length ws) targets_apart low high)

        abbrev ns : List ℕ
        ns = gather note_words (notes_of h rights)

        abbrev cs : List ℕ
        cs = gather cell_words rights.cells

        notes_free : Apart (m + 3) (length ns) l h.words
        notes_free = right-behind-left ns (omega arith) (omega (arith, length-note_words (notes_of h rights), room ra))

        cells_free : Apart middle.right (length cs) l h.words
        cells_free = right-behind-left cs (omega (arith, right_noted.behind)) (omega (arith, right_noted.behind, length-cell_words rights.cells, room ra))

        by_turns : s₂ ≡ splice (splice y (m + 3) ns) middle.right cs
        unfolding y
        by_turns =
            let ls = gather cell_words lefts.cells in
            let free : Apart (m + 3) (length ns) middle.left (length ls) =
            apart-within middle.left (length ls) notes_free (omega (arith, left_noted.behind)) (omega (arith, left_noted.behind, length-cell_words lefts.cells, room la)) in
            cells-put.words
            ∙ ap (λ (x : List ℕ). splice (splice x middle.left ls) middle.right cs) right_noted.words
            ∙ ap (λ (x : List ℕ). splice x middle.right cs) (splice_comm s' (m + 3) ns middle.left ls free)

        module _ {s₃ : List ℕ} (first : s₃ ≡ framed s₂ l h.words a.beats ((middle.left - (l + 3)) / 4) ((end.left - middle.left) / 6)) where
          left-shelf : List ℕ
          left-shelf = splice s (shelf_at h j) (words_of h lefts)

          -- the left shelf is done
          left-done : s₃ ≡ splice (splice left-shelf (m + 3) ns) middle.right cs
          unfolding left-shelf
          left-done =
              let N = (middle.left - (l + 3)) / 4 in
              let C = (end.left - middle.left) / 6 in
              let used : words_used N C ≤ h.words = omega (arith, left_counts) in
              first
              ∙ ap (λ (x : List ℕ). framed x l h.words a.beats N C) by_turns
              ∙ framed-apart (splice y (m + 3) ns) middle.right cs l h.words a.beats N C used cells_free
              ∙ ap (λ (x : List ℕ). splice x middle.right cs) (framed-apart y (m + 3) ns l h.words a.beats N C used notes_free)
              ∙ ap (λ (x : List ℕ). splice (splice x (m + 3) ns) middle.right cs)
              (take_put h lefts (range la).small (half-fits la) l left-inside left_noted left_made la.beats_are refl ∙ ap (λ (x : ℕ). splice s x (words_of h lefts)) left_at)

          long₃ : length left-shelf ≡ length s
          unfolding left-shelf
          long₃ = length-splice s (shelf_at h j) (words_of h lefts)

          pub right_counts : CountsAsks s₃ m h.words middle.right end.right
          right_counts =
              let long : length s₃ ≡ length s =
              ap length left-done ∙ length-splice (splice left-shelf (m + 3) ns) middle.right cs ∙ length-splice left-shelf (m + 3) ns ∙ long₃ in
              record {
                few = (range la).small;
                notes_low = omega (arith, right_noted.behind);
                cells_low = omega (arith, right_end);
                high = omega (arith, right_noted.behind, right_end, room ra);
                inside = omega (arith, long, right-inside);
              }

          pub both-put : {s₄ : List ℕ} → s₄ ≡ framed s₃ m h.words b.beats ((middle.right - (m + 3)) / 4) ((end.right - middle.right) / 6)
              → s₄ ≡ splice (splice s (shelf_at h j) (words_of h lefts)) (shelf_at h k) (words_of h rights)
          unfolding left-shelf
          both-put e =
              let noted-last : Noted left-shelf (m + 3) (notes_of h rights) (splice left-shelf (m + 3) ns) middle.right = record { words = refl; behind = right_noted.behind } in
              let made-last : Made (splice left-shelf (m + 3) ns) middle.right rights.cells s₃ end.right = record { words = left-done; behind = right_end } in
              let inside : m + h.words ≤ length left-shelf = omega (arith, right-inside, long₃) in
              take_put h rights (range ra).small (half-fits ra) m inside noted-last made-last ra.beats_are e
              ∙ ap (λ (x : ℕ). splice left-shelf x (words_of h rights)) right-at

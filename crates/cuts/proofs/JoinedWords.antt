-- The join of two sound shelves' takes, written into another shelf. Assumes nothing.
use mathlib.Core.Path.{◌≡◌, refl, ap, ◌∙◌}
use mathlib.Core.List.{List}
use Prim.Native.Nat.{ℕ, ◌+◌, ◌-◌, ◌*◌, ◌/◌, ◌≤◌}
use native.Mathlib.Omega.{arith}
use lib.ListN.{length}
use Rattle.words.specs.Splice.{splice, length-splice}
use Rattle.model.specs.Lists.{gather}
use Rattle.model.specs.Takes.{Take, cell_words, join_takes, note_words, notes_of, words_of}
use Rattle.model.specs.Questions.{take_at}
use Rattle.model.specs.Session.{shelf_at}
use Rattle.model.specs.declared.Header.{Header}
use Rattle.session.specs.Framing.{framed}
use Rattle.session.specs.Reading.{last_cells}
use Rattle.cuts.specs.declared.halves.Contents.{Contents}
use Rattle.cuts.specs.Making.{Made}
use Rattle.cuts.specs.Halving.{Noted}
use Rattle.cuts.specs.BothHalves.{CountsAsks}
use Rattle.cuts.specs.Joined.{JoinAsks, JoinedAsks, PutAsks, cells_joined}
use Rattle.cuts.specs.LaneNotes.{JoinNotesAsks, lanes_joined}
use Rattle.cuts.proofs.HalfWords.{Read, placed}
use Rattle.session.proofs.Sources.{shelf-inside}
use Rattle.cuts.proofs.JoinNotes.{join-notes_asks, join_noted}
use Rattle.cuts.proofs.JoinWords.{first_read, joined_asks, joined_made, range, second_read}
use Rattle.cuts.proofs.TakeWords as words
use Rattle.cuts.proofs.TakeWords.{cells_still, counted, take-room}

module _ {s : List ℕ} {h : Header} {i j k : ℕ} (p : PutAsks s h i j k) where
  abbrev a : JoinAsks s h i j k
  a = p.asks

  abbrev t : Take
  t = take_at h s i

  abbrev u : Take
  u = take_at h s j

  abbrev both : Take
  both = join_takes h.delta t u

  room : 3 + 4 * length (notes_of h both) + 6 * length both.cells ≤ h.words
  room = take-room h both p.fit

  module _ {first second : Contents} (r : Read (first_read a) first) (q : Read (second_read a) second) {at : ℕ} (place : at ≡ shelf_at h k) {x : ℕ} (m : x ≡ t.beats) where
    inside : at + h.words ≤ length s
    inside = omega (arith, place, shelf-inside h k (length s) (range a) a.to_below)

    pub notes_asks : JoinNotesAsks s (at + 3) h x first second
    notes_asks = rw m (join-notes_asks a r q (at + 3) (omega (arith, place)) (omega (arith, place, room)))

    module _ {s₁ : List ℕ} {middle : ℕ} (noted : Noted s (at + 3) (lanes_joined h x s first second) s₁ middle) where
      notes_put : Noted s (at + 3) (notes_of h both) s₁ middle
      notes_put = join_noted a r q (rw m at noted)

      long : length s₁ ≡ length s
      long = ap length notes_put.words ∙ length-splice s (at + 3) (gather note_words (notes_of h both))

      high : at + 3 + 4 * length (notes_of h both) ≤ shelf_at h k + h.words
      high = omega (arith, place, room)

      first_still : last_cells s₁ first.cells.end first.cells.left ≡ t.cells
      first_still = cells_still (notes_of h both) (placed (first_read a) r s refl (at + 3) _ (omega (arith, place)) high) notes_put ∙ r.cells_are

      second_still : last_cells s₁ second.cells.end second.cells.left ≡ u.cells
      second_still = cells_still (notes_of h both) (placed (second_read a) q s refl (at + 3) _ (omega (arith, place)) high) notes_put ∙ q.cells_are

      low_middle : shelf_at h k ≤ middle
      low_middle = omega (arith, notes_put.behind, place)

      high_cells : middle + 6 * length both.cells ≤ shelf_at h k + h.words
      high_cells = omega (arith, notes_put.behind, place, room)

      pub cells_asks : JoinedAsks s₁ middle x first.cells second.cells
      cells_asks = rw m (joined_asks a r q s₁ long first_still second_still middle low_middle high_cells)

      module _ {s₂ : List ℕ} {end : ℕ} (made : Made s₁ middle (cells_joined x s₁ first.cells second.cells first.cells.left second.cells.left) s₂ end) where
        cells-put : Made s₁ middle both.cells s₂ end
        cells-put = joined_made a r q s₁ long first_still second_still middle low_middle high_cells (rw m at made)

        pub counts_asks : CountsAsks s₂ at h.words middle end
        counts_asks =
            let c = counted h both (range a).small p.fit at inside notes_put cells-put in
            record {
              few = (range a).small;
              notes_low = c.notes_low;
              cells_low = c.cells_low;
              high = omega (arith, notes_put.behind, cells-put.behind, room);
              inside = omega (arith, inside, long, ap length cells-put.words, length-splice s₁ middle (gather cell_words both.cells));
            }

        pub join-put : {y : ℕ} → y ≡ u.beats → {s₃ : List ℕ} → s₃ ≡ framed s₂ at h.words (x + y) ((middle - (at + 3)) / 4) ((end - middle) / 6)
            → s₃ ≡ splice s (shelf_at h k) (words_of h both)
        unfolding join_takes
        join-put n e =
            words.take_put h both (range a).small p.fit at inside notes_put cells-put (rw (m, n)) e ∙ ap (λ (b : ℕ). splice s b (words_of h both)) place

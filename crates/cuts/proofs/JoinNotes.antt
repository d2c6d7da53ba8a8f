-- The join of two sound shelves' takes: its notes are those that are written lane by lane. Assumes nothing.
use mathlib.Core.Path.{◌≡◌, refl, sym, ◌∙◌}
use mathlib.Core.List.{List}
use Prim.Native.Nat.{ℕ, ◌+◌, ◌*◌, ◌≤◌}
use native.Mathlib.Nat.{mul-le-mul}
use native.Mathlib.Omega.{arith}
use lib.ListN.{length}
use Rattle.model.specs.Limits.{max_beats}
use Rattle.model.specs.Questions.{take_at}
use Rattle.model.specs.Session.{shelf_at}
use Rattle.model.specs.Takes.{Take, join_takes, notes_of}
use Rattle.model.specs.declared.Header.{Header}
use Rattle.laws.specs.JoinLanes.{join-notes, join_lanes}
use Rattle.laws.specs.JoinWalk.{Four, join_four}
use Rattle.laws.specs.Notes.{Fair, fair_notes}
use Rattle.laws.specs.Order.{solid_notes}
use Rattle.laws.specs.Relations.{All, all_imp}
use Rattle.laws.specs.Solid.{Fine, Solid}
use Rattle.cuts.specs.declared.halves.Contents.{Contents}
use Rattle.cuts.specs.Halving.{Noted}
use Rattle.cuts.specs.Joined.{JoinAsks}
use Rattle.cuts.specs.LaneNotes.{JoinNotesAsks, Reaching, lanes_joined, notes_from, cells_from}
use Rattle.cuts.specs.Seams.{Shiftable}
use Rattle.cuts.proofs.HalfWords.{Read, placed}
use Rattle.cuts.proofs.JoinWords.{first_read, second_read, range, solid_first, solid_second}

module _ {s : List ℕ} {h : Header} {i j k : ℕ} (a : JoinAsks s h i j k) where
  abbrev t : Take
  t = take_at h s i

  abbrev u : Take
  u = take_at h s j

  -- a line of either take
  line_low : (b : ℕ) → b ≤ max_beats → b * h.delta ≤ 134217728
  line_low b few = omega (arith, mul-le-mul few (range a).few_ticks)

  shiftable : (v : Take) → Solid h.delta v → v.beats ≤ max_beats → t.beats ≤ max_beats → All (Shiftable (t.beats * h.delta)) (notes_of h v)
  shiftable v w few less =
      all_imp (Fair h.delta v.beats) (Shiftable (t.beats * h.delta)) (notes_of h v)
      (λ n f. record {
        start_word = omega (arith, f.order, f.fits, line_low v.beats few, line_low t.beats less);
        end_word = omega (arith, f.fits, line_low v.beats few, line_low t.beats less);
      })
      (fair_notes h.delta v.beats (notes_of h v) (solid_notes h (range a).some-ticks (range a).kept-within v w))

  first_few : t.beats ≤ max_beats
  first_few = omega (arith, a.beats_few)

  second_few : u.beats ≤ max_beats
  second_few = omega (arith, a.beats_few)

  reaching : All (Reaching (t.beats * h.delta)) u.cells
  reaching =
      all_imp (Fine h.delta u.beats) (Reaching (t.beats * h.delta)) u.cells
      (λ c f. record { after-word = omega (arith, f.sum, (range a).few_ticks, line_low t.beats first_few) })
      (solid_second a).cells_fine

  module _ {first second : Contents} (r : Read (first_read a) first) (q : Read (second_read a) second) where
    -- the notes that are written are those of the join
    pub notes_are_joined : lanes_joined h t.beats s first second ≡ notes_of h (join_takes h.delta t u)
    unfolding lanes_joined
    notes_are_joined =
        (λ m. join_lanes h t.beats (r.notes_are m) (r.cells_are m) (q.notes_are m) (q.cells_are m))
        ∙ (sym (join-notes h (range a).some-ticks (range a).kept-within t u (solid_first a) (solid_second a)))

    lanes_ordered : Four 0 (notes_from s first) (cells_from s first) (notes_from s second) (cells_from s second)
    lanes_ordered =
        rw (r.notes_are, r.cells_are, q.notes_are, q.cells_are) (join_four h (range a).some-ticks (range a).kept-within t u (solid_first a) (solid_second a))

    module _ (to : ℕ) (low : shelf_at h k ≤ to) (high : to + 4 * length (notes_of h (join_takes h.delta t u)) ≤ shelf_at h k + h.words) where
      within : to + 4 * length (lanes_joined h t.beats s first second) ≤ shelf_at h k + h.words
      within = rw notes_are_joined high

      -- with room for them in the other shelf they can be written
      pub join-notes_asks : JoinNotesAsks s to h t.beats first second
      join-notes_asks =
          record {
            beats_few = first_few;
            ticks_few = (range a).few_ticks;
            four = lanes_ordered;
            joinable =
                record {
                  first-placed = placed (first_read a) r s refl to _ low within;
                  second_placed = placed (second_read a) q s refl to _ low within;
                  first_shiftable = rw r.notes_are (shiftable t (solid_first a) first_few first_few);
                  second_shiftable = rw q.notes_are (shiftable u (solid_second a) second_few first_few);
                  second_reaching = rw q.cells_are reaching;
                };
          }

    -- the joined notes, written
    pub join_noted : {to : ℕ} {m : List ℕ} {b : ℕ} → Noted s to (lanes_joined h t.beats s first second) m b → Noted s to (notes_of h (join_takes h.delta t u)) m b
    join_noted d = rw (← notes_are_joined) d

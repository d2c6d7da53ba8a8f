-- The join of two sound shelves' takes: its cells are those that the walk over both shelves writes. Assumes nothing.
use mathlib.Core.Path.{◌≡◌, refl, sym}
use mathlib.Core.List.{List}
use Prim.Native.Nat.{ℕ, ◌+◌, ◌-◌, ◌*◌, ◌≤◌}
use native.Mathlib.Omega.{arith}
use lib.ListN.{length}
use Rattle.words.specs.Apart.{Apart, apart_swap, apart-within}
use Rattle.model.specs.Questions.{take_at}
use Rattle.model.specs.Session.{shelf, shelf_at}
use Rattle.model.specs.Takes.{Take, join_takes, split_left}
use Rattle.model.specs.declared.Header.{Header}
use Rattle.model.proofs.Headers.{InRange, in_range}
use Rattle.laws.specs.Joining.{join_cells}
use Rattle.laws.specs.Relations.{All, all_imp}
use Rattle.laws.specs.Solid.{Fine, Solid}
use Rattle.laws.specs.Sound.{sound_solid}
use Rattle.session.specs.Reading.{last_cells}
use Rattle.cuts.specs.declared.halves.Contents.{Contents}
use Rattle.cuts.specs.Making.{Made}
use Rattle.cuts.specs.Halving.{left_half, half_of, Placed, HalfAsks}
use Rattle.cuts.specs.Joined.{Movable, JoinedAsks, JoinAsks, cells_joined, later_cells}
use Rattle.cuts.proofs.HalfWords.{Read, placed}

-- the last cells of what is placed are apart from what is written
cells-apart : {s : List ℕ} {from : Contents} {to size : ℕ} → Placed s from to size → Apart (from.cells.end - 6 * from.cells.left) (6 * from.cells.left) to size
cells-apart {from = from} p =
    apart_swap (apart-within (from.cells.end - 6 * from.cells.left) (6 * from.cells.left) (apart_swap p.apart) (omega (arith, p.cells_in)) (omega (arith, p.cells_in)))

module _ {s : List ℕ} {h : Header} {i j k : ℕ} (a : JoinAsks s h i j k) where
  pub range : InRange h (length s)
  range = in_range a.header

  abbrev t : Take
  t = take_at h s i

  abbrev u : Take
  u = take_at h s j

  pub solid_first : Solid h.delta t
  solid_first = sound_solid h range.some-ticks (shelf h s i) a.first-sound

  pub solid_second : Solid h.delta u
  solid_second = sound_solid h range.some-ticks (shelf h s j) a.second_sound

  -- each is read as for its half before beat 0
  pub first_read : HalfAsks s h (left_half h.delta 0) i k
  unfolding half_of split_left
  first_read =
      record {
        header = a.header;
        take_below = a.first_below;
        to_below = a.to_below;
        differ = a.first_differs;
        sound = a.first-sound;
        half = record { line_is = refl; edge_is = refl };
        beats_are = refl;
      }

  pub second_read : HalfAsks s h (left_half h.delta 0) j k
  unfolding half_of split_left
  second_read =
      record {
        header = a.header;
        take_below = a.second_below;
        to_below = a.to_below;
        differ = a.second_differs;
        sound = a.second_sound;
        half = record { line_is = refl; edge_is = refl };
        beats_are = refl;
      }

  second_movable : All (Movable t.beats) u.cells
  second_movable =
      all_imp (Fine h.delta u.beats) (Movable t.beats) u.cells
      (λ c f. record { lane_below = f.lane_below; beat_word = omega (arith, f.beat_below, a.beats_few) })
      solid_second.cells_fine

  -- l is the session while the other shelf is written: the cells of both are as they were
  module _ {first second : Contents} (r : Read first_read first) (q : Read second_read second) (l : List ℕ) (long : length l ≡ length s)
      (e : last_cells l first.cells.end first.cells.left ≡ t.cells) (f : last_cells l second.cells.end second.cells.left ≡ u.cells) where
    pub cells_are_joined : cells_joined t.beats l first.cells second.cells first.cells.left second.cells.left ≡ (join_takes h.delta t u).cells
    unfolding cells_joined later_cells
    cells_are_joined = rw (e, f) (sym (join_cells h.delta t u solid_first solid_second))

    module _ (to : ℕ) (low : shelf_at h k ≤ to) (high : to + 6 * length (join_takes h.delta t u).cells ≤ shelf_at h k + h.words) where
      abbrev size : ℕ
      size = 6 * length (cells_joined t.beats l first.cells second.cells first.cells.left second.cells.left)

      within : to + size ≤ shelf_at h k + h.words
      within = rw cells_are_joined high

      pub joined_asks : JoinedAsks l to t.beats first.cells second.cells
      joined_asks =
          let p = placed first_read r l long to size low within in
          let o = placed second_read q l long to size low within in
          record {
            first-inside = p.inside;
            first-apart = cells-apart p;
            run =
                record {
                  inside = o.inside;
                  movable = rw f second_movable;
                  apart = cells-apart o;
                  room = o.room;
                };
          }

      -- the joined cells, written
      pub joined_made : {m : List ℕ} {b : ℕ} → Made l to (cells_joined t.beats l first.cells second.cells first.cells.left second.cells.left) m b
          → Made l to (join_takes h.delta t u).cells m b
      joined_made d = rw (← cells_are_joined) d

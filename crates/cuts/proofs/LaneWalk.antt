-- The joined notes of all lanes, the least lane in front of both takes next. Assumes nothing.
use mathlib.Core.Path.{◌≡◌, refl, sym, ap, subst, ◌∙◌}
use mathlib.Core.List.{List, [], ◌++◌}
use Prim.Native.Nat.{ℕ, suc, ◌+◌, ◌-◌, ◌*◌, ◌≤◌, ◌<◌}
use native.Mathlib.Omega.{arith}
use lib.ListN.{length, length-append}
use Rattle.words.specs.Apart.{Apart, apart-within}
use Rattle.words.specs.Writes.{Writes, writes_start, writes-run, writes-done, writes_same}
use Rattle.model.specs.Lists.{gather}
use Rattle.model.specs.Takes.{note_words}
use Rattle.model.specs.declared.Header.{Header}
use Rattle.model.specs.declared.Note.{Note}
use Rattle.model.specs.declared.Cell.{Cell}
use Rattle.laws.specs.JoinLanes.{join_lanes}
use Rattle.laws.specs.JoinWalk.{Four, least_lane, note_rest, cell_rest, four_least, four_rest, join_step, least_above, least-none}
use Rattle.laws.specs.Lists.{gather_append}
use Rattle.laws.specs.Relations.{All}
use Rattle.laws.specs.Sessions.{length-note_words}
use Rattle.session.specs.Reading.{last_notes, last_cells}
use Rattle.cuts.specs.declared.halves.Contents.{Contents}
use Rattle.cuts.specs.declared.lanes.Rests.{Rests}
use Rattle.cuts.specs.Halving.{Noted, Placed}
use Rattle.cuts.specs.Seams.{Shiftable}
use Rattle.cuts.specs.LaneNotes.{Reaching, notes_from, cells_from, lane_joined, lanes_joined, Joinable, LeftOf, LanePut, JoinNotesAsks}
use Rattle.cuts.proofs.JoinCells.{all-last}
use Rattle.cuts.proofs.JoinSeam.{all-last_notes}
use Rattle.cuts.proofs.LaneParts.{Still, still_by, still_lane}

-- ---- what is left of a take

-- It stands at the take's places.
pub record Within (from r : Contents) : Type 0 where
  pub middle_is : r.notes.end ≡ from.notes.end
  pub end_is : r.cells.end ≡ from.cells.end
  pub notes_few : r.notes.left ≤ from.notes.left
  pub cells_few : r.cells.left ≤ from.cells.left

within_all : (from : Contents) → Within from from
within_all from = record { middle_is = refl; end_is = refl; notes_few = omega arith; cells_few = omega arith }

module _ {from r : Contents} (w : Within from r) where
  still_within : {s t : List ℕ} → Still s t from → Still s t r
  still_within {s} {t} st = record {
    notes = λ k few.
        ap (λ (m : ℕ). last_notes t m k) w.middle_is ∙ st.notes k (omega (arith, w.notes_few)) ∙ sym (ap (λ (m : ℕ). last_notes s m k) w.middle_is);
    cells = λ k few.
        ap (λ (m : ℕ). last_cells t m k) w.end_is ∙ st.cells k (omega (arith, w.cells_few)) ∙ sym (ap (λ (m : ℕ). last_cells s m k) w.end_is);
  }

  placed-within : {s₀ s : List ℕ} {to size : ℕ} → Placed s₀ from to size → length s ≡ length s₀ → (at n : ℕ) → to ≤ at → at + n ≤ to + size → Placed s r at n
  placed-within p long at n low high =
      record {
        low = p.low;
        notes_in_lem = omega (arith, p.notes_in_lem, w.notes_few, w.middle_is);
        cells_in = omega (arith, p.cells_in, w.cells_few, w.end_is);
        order = omega (arith, p.order, w.middle_is, w.end_is);
        inside = omega (arith, p.inside, w.end_is, long);
        apart = subst (λ (e : ℕ). Apart p.low (e - p.low) at n) (sym w.end_is) (apart-within at n p.apart low high);
        room = omega (arith, p.room, long);
      }

  module _ {s : List ℕ} {to size : ℕ} (p : Placed s from to size) where
    notes-within : (P : Note → Type 0) → All P (notes_from s from) → All P (notes_from s r)
    notes-within P a =
        subst (λ (m : ℕ). All P (last_notes s m r.notes.left)) (sym w.middle_is)
        (all-last_notes P s from.notes.end from.notes.left r.notes.left w.notes_few (omega (arith, p.notes_in_lem)) a)

    cells-within : (P : Cell → Type 0) → All P (cells_from s from) → All P (cells_from s r)
    cells-within P a =
        subst (λ (m : ℕ). All P (last_cells s m r.cells.left)) (sym w.end_is)
        (all-last P s from.cells.end from.cells.left r.cells.left w.cells_few (omega (arith, p.cells_in)) a)

  -- behind a lane
  within-left : {s : List ℕ} {lane : ℕ} {q : Contents} → LeftOf s lane r q → Within from q
  within-left l = record {
    middle_is = l.middle_is ∙ w.middle_is;
    end_is = l.end_is ∙ w.end_is;
    notes_few = omega (arith, l.left.notes_few, w.notes_few);
    cells_few = omega (arith, l.left.cells_few, w.cells_few);
  }

module _ {s₀ s : List ℕ} {lane : ℕ} {from r : Contents} (st : Still s₀ s from) (l : LeftOf s lane from r) where
  left-notes : notes_from s₀ r ≡ note_rest lane (notes_from s₀ from)
  left-notes =
      ap (λ (m : ℕ). last_notes s₀ m r.notes.left) l.middle_is ∙ sym (st.notes r.notes.left l.left.notes_few) ∙ l.left.notes_are
      ∙ ap (note_rest lane) (st.notes from.notes.left (omega arith))

  left_cells_lem : cells_from s₀ r ≡ cell_rest lane (cells_from s₀ from)
  left_cells_lem =
      ap (λ (m : ℕ). last_cells s₀ m r.cells.left) l.end_is ∙ sym (st.cells r.cells.left l.left.cells_few) ∙ l.left.cells_are
      ∙ ap (cell_rest lane) (st.cells from.cells.left (omega arith))

-- ---- the walk

-- The least lane in front of what is left of two takes.
abbrev pub least : List ℕ → Contents → Contents → ℕ
least s a b = least_lane (notes_from s a) (cells_from s a) (notes_from s b) (cells_from s b)

abbrev Lanes : ℕ → List ℕ → Contents → Contents → Type 0
Lanes l s a b = Four l (notes_from s a) (cells_from s a) (notes_from s b) (cells_from s b)

-- What is written, and then the joined notes of what is left, from lane l on, are all joined notes.
pub record Walked (s₀ s : List ℕ) (to : ℕ) (h : Header) (beats : ℕ) (first second : Contents) (rests : Rests) (l : ℕ) : Type 0 where
  pub first_in : Within first rests.first
  pub second_in : Within second rests.second
  pub lanes : Lanes l s₀ rests.first rests.second
  pub writes : Writes s₀ s to rests.at (gather note_words (lanes_joined h beats s₀ first second)) (gather note_words (lanes_joined h beats s₀ rests.first rests.second))

-- The least lane in front is next.
pub record Walking (s₀ s : List ℕ) (to : ℕ) (h : Header) (beats : ℕ) (first second : Contents) (rests : Rests) (lane : ℕ) : Type 0 where
  pub walked : Walked s₀ s to h beats first second rests lane
  pub lane_is : lane ≡ least s₀ rests.first rests.second

module _ {s₀ : List ℕ} {to : ℕ} {h : Header} {beats : ℕ} {first second : Contents} (a : JoinNotesAsks s₀ to h beats first second) where
  abbrev line : ℕ
  line = beats * h.delta

  abbrev all : List Note
  all = lanes_joined h beats s₀ first second

  pub walk_start : Walked s₀ s₀ to h beats first second (record { at = to; first = first; second = second }) 0
  walk_start = record { first_in = within_all first; second_in = within_all second; lanes = a.four; writes = writes_start s₀ to _ }

  module _ {s : List ℕ} {rests : Rests} (l : ℕ) (w : Walked s₀ s to h beats first second rests l) where
    size : length (gather note_words all) ≡ 4 * length all
    size = length-note_words all

    first_still : Still s₀ s rests.first
    first_still =
        let p = a.joinable.first-placed in
        still_within w.first_in (still_by p (writes_same w.writes (subst (λ (n : ℕ). Apart p.low (first.cells.end - p.low) to n) (sym size) p.apart)))

    second_still : Still s₀ s rests.second
    second_still =
        let p = a.joinable.second_placed in
        still_within w.second_in (still_by p (writes_same w.writes (subst (λ (n : ℕ). Apart p.low (second.cells.end - p.low) to n) (sym size) p.apart)))

    first-placed : (n : ℕ) → rests.at + n ≤ to + 4 * length all → Placed s rests.first rests.at n
    first-placed n fits = placed-within w.first_in a.joinable.first-placed w.writes.long rests.at n w.writes.low fits

    second_placed : (n : ℕ) → rests.at + n ≤ to + 4 * length all → Placed s rests.second rests.at n
    second_placed n fits = placed-within w.second_in a.joinable.second_placed w.writes.long rests.at n w.writes.low fits

    -- the lane that is next
    module _ {lane : ℕ} (e : lane ≡ least s rests.first rests.second) where
      lane_is : lane ≡ least s₀ rests.first rests.second
      lane_is =
          let f = first_still.notes rests.first.notes.left (omega arith) in
          let g = first_still.cells rests.first.cells.left (omega arith) in
          let i = second_still.notes rests.second.notes.left (omega arith) in
          let k = second_still.cells rests.second.cells.left (omega arith) in
          e ∙ (λ x. least_lane (f x) (g x) (i x) (k x))

      pub walk_next : Walking s₀ s to h beats first second rests lane
      walk_next = record {
        walked = record {
          first_in = w.first_in;
          second_in = w.second_in;
          lanes = subst (λ (n : ℕ). Lanes n s₀ rests.first rests.second) (sym lane_is) (four_least l _ _ _ _ w.lanes);
          writes = w.writes;
        };
        lane_is = lane_is;
      }

      pub walk_later : l ≤ 2048 → l ≤ lane
      walk_later b = subst (λ (n : ℕ). l ≤ n) (sym lane_is) (least_above l _ _ _ _ w.lanes b)

  module _ {s : List ℕ} {rests : Rests} {lane : ℕ} (v : Walking s₀ s to h beats first second rests lane) where
    w : Walked s₀ s to h beats first second rests lane
    w = v.walked

    -- nothing is left
    pub walk-done : 2048 ≤ lane → Noted s₀ to all s rests.at
    unfolding lanes_joined
    walk-done h' =
        let none = least-none lane _ _ _ _ w.lanes h beats (subst (λ (n : ℕ). 2048 ≤ n) v.lane_is h') in
        let done : Writes s₀ s to rests.at (gather note_words all) [] = subst (λ (ns : List Note). Writes s₀ s to rests.at (gather note_words all) (gather note_words ns)) none w.writes in
        record { words = writes-done done; behind = omega (arith, done.place, length-note_words all) }

    module _ (less : lane < 2048) where
      abbrev here : List Note
      here = lane_joined h beats lane s rests.first rests.second

      abbrev rest : List Note
      rest =
          join_lanes h beats (note_rest lane (notes_from s₀ rests.first)) (cell_rest lane (cells_from s₀ rests.first))
          (note_rest lane (notes_from s₀ rests.second)) (cell_rest lane (cells_from s₀ rests.second))

      step : lanes_joined h beats s₀ rests.first rests.second ≡ here ++ rest
      unfolding lanes_joined lane_joined
      step =
          join_step h beats lane _ _ _ _ less w.lanes
          ∙ ap (λ (ns : List Note). ns ++ rest) (sym (still_lane h beats lane (first_still lane w) (second_still lane w)))

      ahead : Writes s₀ s to rests.at (gather note_words all) (gather note_words here ++ gather note_words rest)
      ahead = subst (λ (ws : List ℕ). Writes s₀ s to rests.at (gather note_words all) ws) (ap (gather note_words) step ∙ gather_append note_words here rest) w.writes

      fits : rests.at + 4 * length here ≤ to + 4 * length all
      fits = omega (arith, ahead.place, length-note_words all, length-note_words here, length-append (gather note_words here) (gather note_words rest))

      pub lane_asks : Joinable s rests.at h beats line rests.first rests.second here
      lane_asks =
          let j = a.joinable in
          let f = first_still lane w in
          let g = second_still lane w in
          let can = Shiftable line in
          record {
            first-placed = first-placed lane w (4 * length here) fits;
            second_placed = second_placed lane w (4 * length here) fits;
            first_shiftable =
                subst (All can) (sym (f.notes rests.first.notes.left (omega arith))) (notes-within w.first_in j.first-placed can j.first_shiftable);
            second_shiftable =
                subst (All can) (sym (g.notes rests.second.notes.left (omega arith))) (notes-within w.second_in j.second_placed can j.second_shiftable);
            second_reaching =
                subst (All (Reaching line)) (sym (g.cells rests.second.cells.left (omega arith))) (cells-within w.second_in j.second_placed (Reaching line) j.second_reaching);
          }

      pub walk-lane : {t : List ℕ} {r : Rests} → LanePut s rests.at h beats lane rests.first rests.second t r → Walked s₀ t to h beats first second r (suc lane)
      unfolding lanes_joined
      walk-lane {t} {r} p =
          let e = left-notes (first_still lane w) p.first-left in
          let f = left_cells_lem (first_still lane w) p.first-left in
          let g = left-notes (second_still lane w) p.second_left in
          let i = left_cells_lem (second_still lane w) p.second_left in
          let next = writes-run (gather note_words here) (4 * length here) (length-note_words here) ahead in
          record {
            first_in = within-left w.first_in p.first-left;
            second_in = within-left w.second_in p.second_left;
            lanes = rw (e, f, g, i) (four_rest lane _ _ _ _ w.lanes);
            writes = rw (e, f, g, i, p.noted.words, p.noted.behind) next;
          }

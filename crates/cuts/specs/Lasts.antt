-- The last notes, or the last cells, up to a place. Assumes nothing.
use Rattle.std.specs.Prelude.{◌≡◌, refl, cond, eqb, List, ℕ, zero, suc, ◌-◌, ◌*◌}
use Rattle.std.proofs.Common.{arith, add-zero, get_or-drop, ne_eqb}
use Rattle.model.specs.Takes.{word, read_notes, read_cells}
use Rattle.laws.specs.JoinWalk.{lane_ahead}
use Rattle.session.specs.Reading.{last_notes, last_cells}

-- The first word of the last `left`, of so many words each, up to place `end`, which is a lane: 2,048 if there is none.
unfoldable pub lane_of_last : ℕ → List ℕ → ℕ → ℕ → ℕ
lane_of_last words s end left = cond (eqb left 0) 2048 (word s (end - words * left))

-- Of notes, which have four words each, it is the lane of the first of the last notes.
pub note_lane : (s : List ℕ) (end k : ℕ) → lane_of_last 4 s end k ≡ lane_ahead (λ n. n.lane) (last_notes s end k)
unfolding lane_of_last lane_ahead last_notes read_notes
note_lane s end zero = refl
note_lane s end (suc k) = rw (ne_eqb (suc k) 0 (omega arith), get_or-drop (end - 4 * suc k) s 0 0, add-zero (end - 4 * suc k))

-- Of cells, which have six, it is the lane of the first of the last cells.
pub cell_lane : (s : List ℕ) (end k : ℕ) → lane_of_last 6 s end k ≡ lane_ahead (λ c. c.lane) (last_cells s end k)
unfolding lane_of_last lane_ahead last_cells read_cells
cell_lane s end zero = refl
cell_lane s end (suc k) = rw (ne_eqb (suc k) 0 (omega arith), get_or-drop (end - 6 * suc k) s 0 0, add-zero (end - 6 * suc k))

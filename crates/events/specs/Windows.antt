-- A window of a track: the bytes of some of its events, one after the other. Assumes nothing.
use Rattle.std.specs.Prelude.{List, [], ◌∷◌, ◌++◌, ℕ, ◌-◌, ◌/◌, ◌≤◌, length}
use Rattle.midi.specs.Numbers.{quantity_bytes}
use Rattle.midi.specs.Writing.{message_bytes}
use Rattle.track.specs.Keys.{tick_of, event_of}
use Rattle.events.specs.Tracks.{track_left, track_most, Timed}

-- The bytes of events, each behind its time from the event before it; the first comes behind one at tick `last`.
unfoldable pub window_bytes : ℕ → List ℕ → List ℕ
window_bytes last [] = []
window_bytes last (k ∷ ks) = (quantity_bytes (tick_of k - last) ++ message_bytes (event_of k)) ++ window_bytes (tick_of k) ks

-- The tick of the last of them.
unfoldable pub last_tick : ℕ → List ℕ → ℕ
last_tick last [] = last
last_tick last (k ∷ ks) = last_tick (tick_of k) ks

-- The greatest time that four groups of seven bits hold.
abbrev pub longest : ℕ
longest = 268435455

-- All events of at most 1,024 notes, one after the other up to `end`.
pub record TableAsks (ks : List ℕ) (end : ℕ) : Type 0 where
  pub timed : Timed end 0 ks
  pub few : length ks ≤ 2048
  pub short : end ≤ longest
  pub bound : length (track_left end 0 ks) ≤ track_most (length ks / 2) end

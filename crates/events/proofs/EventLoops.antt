-- The events of a track one by one: their ticks, and their bytes. Assumes nothing.
use mathlib.Core.Path.{◌≡◌, refl, sym, ap, ◌∙◌}
use mathlib.Core.List.{List, [], ◌∷◌, ◌++◌, append_assoc}
use Prim.Native.Nat.{ℕ, ◌+◌, ◌-◌, ◌≤◌}
use native.Mathlib.Omega.{arith}
use lib.ListN.{length, length-append}
use Rattle.midi.specs.Numbers.{quantity_bytes}
use Rattle.midi.specs.Writing.{event_bytes, message_bytes, end_of_track}
use Rattle.track.specs.Keys.{tick_of, event_of}
use Rattle.events.specs.Tracks.{track_left, Timed, Timed.over, Timed.next}

-- the tick of the event before is at most the end
pub timed_within : {end last : ℕ} {ks : List ℕ} → Timed end last ks → last ≤ end
timed_within (over h) = h
timed_within {end} {last} (next {k = k} h t) = let g : tick_of k ≤ end = timed_within t in omega arith

pub record First (end last k : ℕ) (ks : List ℕ) : Type 0 where
  pub on : last ≤ tick_of k
  pub rest : Timed end (tick_of k) ks

pub timed_first : {end last k : ℕ} {ks : List ℕ} → Timed end last (k ∷ ks) → First end last k ks
timed_first (next h t) = record { on = h; rest = t }

-- the bytes of the first event, and of those behind it
pub left-first : (end last k : ℕ) (ks : List ℕ) → track_left end last (k ∷ ks) ≡ (quantity_bytes (tick_of k - last) ++ message_bytes (event_of k)) ++ track_left end (tick_of k) ks
unfolding event_bytes
left-first end last k ks = sym (append_assoc (quantity_bytes (tick_of k - last)) (message_bytes (event_of k)) (track_left end (tick_of k) ks))

pub left_over : (end last : ℕ) → track_left end last [] ≡ quantity_bytes (end - last) ++ end_of_track
unfolding event_bytes
left_over end last = refl

pub over_length : (end last : ℕ) → length (track_left end last []) ≡ length (quantity_bytes (end - last)) + 3
over_length end last = ap length (left_over end last) ∙ length-append (quantity_bytes (end - last)) end_of_track

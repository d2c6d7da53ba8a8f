-- The track of a take's notes as its code writes it, event by event; events are numbers. Assumes nothing.
use Rattle.std.specs.Prelude.{◌≡◌, List, [], ◌∷◌, map, ℕ, ◌+◌, ◌*◌, ◌/◌, ◌≤◌, ◌<◌, min, length}
use Rattle.order.specs.declared.notes.Notes.{Notes}
use Rattle.order.specs.Notes.{events_of}
use Rattle.order.specs.Queues.{Queues, merged}
use Rattle.midi.specs.Writing.{event_bytes}
use Rattle.track.specs.Keys.{tick_of, event_of}

-- The bytes of the events to come, the one before them at tick `last`, and of the end of track at `end`.
abbrev pub track_left : ℕ → ℕ → List ℕ → List ℕ
track_left end last ks = event_bytes end last (map event_of ks)

-- No track of so many notes that ends at tick `end` is longer: each event, and the end of track, takes four bytes, and one more for each 128
-- ticks at most, three at most.
abbrev pub track_most : ℕ → ℕ → ℕ
track_most count end = 4 + 8 * count + min (3 + 6 * count) (end / 128)

-- Events one after the other, from tick `last` to `end`.
pub data Timed (end : ℕ) : ℕ → List ℕ → Type 0 where
  over : {last : ℕ} → last ≤ end → Timed end last []
  next : {last k : ℕ} {ks : List ℕ} → last ≤ tick_of k → Timed end (tick_of k) ks → Timed end last (k ∷ ks)

-- The events of some notes that are left in some lanes: each lane's from its place up to its end.
abbrev pub events_left : Notes → List ℕ → List ℕ → List ℕ
events_left notes pos ends = merged (events_of notes) pos ends (length pos)

-- What writing the events of some lanes asks: the lanes' events, all those of the notes, up to the end of track.
pub record TrackAsks (notes : Notes) (pos ends to a b places : List ℕ) (end : ℕ) : Type 0 where
  pub few : notes.count < 1048576
  pub queues : Queues (events_of notes) pos ends (length pos)
  pub all : length (events_left notes pos ends) ≡ 2 * notes.count
  pub timed : Timed end 0 (events_left notes pos ends)
  pub short : end < 268435456
  pub lanes : length pos ≤ 2048
  pub room : length pos ≤ length to
  pub here : 2048 ≤ length a
  pub there : 2048 ≤ length b
  pub table : 2048 ≤ length places

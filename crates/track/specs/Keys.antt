-- An event of a note as one number, in whose order tick, kind, lane and velocity count one after the other. Assumes nothing.
use Rattle.std.specs.Prelude.{ℕ, ◌+◌, ◌*◌, ◌/◌, ◌%◌}
use Rattle.midi.specs.Writing.{NoteEvent, note_event, order}

-- The number of an event: its place in the order of events, then its velocity.
abbrev pub key_of : NoteEvent → ℕ
key_of e = order e * 128 + e.velocity

-- The tick of an event, from its number, and the event.
abbrev pub tick_of : ℕ → ℕ
tick_of k = k / 524288

abbrev pub event_of : ℕ → NoteEvent
event_of k = note_event (tick_of k) (k / 262144 % 2) (k / 128 % 2048) (k % 128)

-- Write: the one file of a take's beats and notes in a session of δ ticks to the beat. Edit memory is not in it. Assumes nothing.
use Rattle.std.specs.Prelude.{ℕ, ◌+◌, ◌-◌, ◌*◌, true, false, List, [], ◌∷◌, ◌++◌, leb, length}
use Rattle.model.specs.Lists.{gather}
use Rattle.model.specs.Limits.{lane_count}
use Rattle.model.specs.declared.Note.{Note}
use Rattle.midi.specs.Lanes.{channel_of, key_of}
use Rattle.midi.specs.Numbers.{word16_bytes, word32_bytes, quantity_bytes}
use Rattle.midi.specs.Reading.{MThd, MTrk}

-- ---- events in order

-- An event to write: its tick, kind (0 an end, 1 a start), lane and velocity.
pub record NoteEvent : Type 0 where
  pub tick : ℕ
  pub kind : ℕ
  pub lane : ℕ
  pub velocity : ℕ

abbrev pub note_event : ℕ → ℕ → ℕ → ℕ → NoteEvent
note_event tick kind lane velocity = record { tick = tick; kind = kind; lane = lane; velocity = velocity }

-- The start of a note, and its end; ends have velocity 64.
abbrev pub start_of : Note → NoteEvent
start_of n = note_event n.start 1 n.lane n.velocity

abbrev pub end_of : Note → NoteEvent
end_of n = note_event n.end 0 n.lane 64

abbrev pub events_of : Note → List NoteEvent
events_of n = start_of n ∷ end_of n ∷ []

-- Events by tick, then ends before starts, then lane: as one number.
unfoldable pub order : NoteEvent → ℕ
order e = e.tick * (2 * lane_count) + (e.kind * lane_count + e.lane)

-- An event at its place among events in order.
unfoldable pub insert : NoteEvent → List NoteEvent → List NoteEvent
unfolding order
insert e [] = e ∷ []
insert e (x ∷ xs) = elim (leb (order e) (order x)) [ true ↦ e ∷ x ∷ xs | false ↦ x ∷ insert e xs ]

-- Events in order.
unfoldable pub in_order : List NoteEvent → List NoteEvent
unfolding insert
in_order [] = []
in_order (e ∷ es) = insert e (in_order es)

-- ---- bytes

-- The three bytes of an event: its own status, 8n for an end and 9n for a start, then key and velocity.
unfoldable pub message_bytes : NoteEvent → List ℕ
message_bytes e = (0x80 + e.kind * 16 + channel_of e.lane) ∷ key_of e.lane ∷ e.velocity ∷ []

-- FF 2F 00.
abbrev pub end_of_track : List ℕ
end_of_track = 0xFF ∷ 0x2F ∷ 0x00 ∷ []

-- The events to come, each behind its time from the event before it, at tick `last`; the end of track stands at `end`.
unfoldable pub event_bytes : ℕ → ℕ → List NoteEvent → List ℕ
unfolding quantity_bytes message_bytes
event_bytes end last [] = quantity_bytes (end - last) ++ end_of_track
event_bytes end last (e ∷ es) = quantity_bytes (e.tick - last) ++ (message_bytes e ++ event_bytes end e.tick es)

-- The track: FF 2F 00 stands at n × δ.
unfoldable pub track_bytes : ℕ → ℕ → List Note → List ℕ
unfolding event_bytes in_order
track_bytes δ beats notes = event_bytes (beats * δ) 0 (in_order (gather events_of notes))

-- MThd of length 6, format 0, one track, division δ; then MTrk with the length of the track.
unfoldable pub header_bytes : ℕ → ℕ → List ℕ
header_bytes δ n =
    word32_bytes MThd ++ (word32_bytes 6 ++ (word16_bytes 0 ++ (word16_bytes 1 ++ (word16_bytes δ ++ (word32_bytes MTrk ++ word32_bytes n)))))

-- The file.
unfoldable pub file_bytes : ℕ → ℕ → List Note → List ℕ
unfolding header_bytes track_bytes
file_bytes δ beats notes = header_bytes δ (length (track_bytes δ beats notes)) ++ track_bytes δ beats notes

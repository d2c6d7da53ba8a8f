-- Load: what a file is read as in a session of δ ticks to the beat, or the number of the first question, 9 to 14, whose answer is
-- no. Assumes nothing.
use Rattle.std.specs.Prelude.{ℕ, zero, suc, ◌+◌, ◌-◌, ◌*◌, ◌/◌, Bool, true, false, ◌&&◌, List, [], ◌++◌, leb, eqb, length, take, drop}
use Rattle.model.specs.Limits.{max_beats}
use Rattle.model.specs.Takes.{by_lane}
use Rattle.model.specs.Histories.{Recording}
use Rattle.model.specs.declared.Note.{Note}
use Rattle.midi.specs.Numbers.{word16, word32}
use Rattle.midi.specs.Events.{Place, place, Event, illegal, event, finished, event_at}
use Rattle.midi.specs.Sounding.{Sounding, silence, ended, ended_all, clash, played, play}

-- A refusal with its number, or a recording.
pub data FileAnswer : Type 0 where
  refused : ℕ → FileAnswer
  read : Recording → FileAnswer

-- The number of an answer: 0 for a recording.
abbrev pub number_of : FileAnswer → ℕ
number_of (refused n) = n
number_of (read r) = 0

-- ---- the track

-- The beats are the end time divided by δ, rounded up.
abbrev pub beats_of : ℕ → ℕ → ℕ
beats_of δ tick = (tick + (δ - 1)) / δ

-- The recording at the end of track: the notes ended before it and those that it ends, in order of lanes, in a lane as they ended.
unfoldable pub recorded : ℕ → ℕ → Sounding → List Note → Recording
unfolding ended by_lane
recorded δ tick t notes = record { beats = beats_of δ tick; notes = by_lane (λ n. n.lane) (notes ++ ended_all t tick) }

-- 13. The latest tick allowed is 4,096 × δ.
abbrev pub latest : ℕ → ℕ
latest δ = max_beats * δ

-- Per event, 12 to 14 before the next event; `more` goes on from the place behind it.
unfoldable pub after : ℕ → Event → Sounding → List Note → (Place → Sounding → List Note → FileAnswer) → FileAnswer
unfolding play recorded
after δ illegal t notes more = refused 12
after δ (event p m) t notes more = elim (leb p.tick (latest δ)) [
  | false ↦ refused 13
  | true ↦ elim (play p.tick m t notes) [ clash ↦ refused 14 | played u out ↦ more p u out ]
]
after δ (finished tick) t notes more = elim (leb tick (latest δ)) [ false ↦ refused 13 | true ↦ read (recorded δ tick t notes) ]

-- What a track gives from a place on, with at most `fuel` events to come. An event takes a byte or more, so fuel above the bytes
-- that are left never runs out.
unfoldable pub run : ℕ → ℕ → List ℕ → Place → Sounding → List Note → FileAnswer
unfolding event_at after
run zero δ s p t notes = refused 12
run (suc fuel) δ s p t notes = after δ (event_at s p) t notes (λ p t notes. run fuel δ s p t notes)

-- What a track's bytes give: from its first byte, at tick 0, with no running status and every lane silent.
unfoldable pub read_track : ℕ → List ℕ → FileAnswer
unfolding run
read_track δ s = run (suc (length s)) δ s (place 0 0 0) silence []

-- ---- the file

-- The names of chunks.
abbrev pub MThd : ℕ
MThd = 0x4D546864

abbrev pub MTrk : ℕ
MTrk = 0x4D54726B

-- 9. Is MThd there, its length 6 or more and all inside the file?
unfoldable pub header_there : List ℕ → Bool
header_there s = leb 8 (length s) && eqb (word32 s 0) MThd && leb 6 (word32 s 4) && leb (8 + word32 s 4) (length s)

-- 10. Format 0, one track, division equal to δ?
unfoldable pub header_fits : ℕ → List ℕ → Bool
header_fits δ s = eqb (word16 s 8) 0 && eqb (word16 s 10) 1 && eqb (word16 s 12) δ

-- A complete chunk stands at a position: its name, its length and as many bytes.
unfoldable pub chunk_there : List ℕ → ℕ → Bool
chunk_there s at = leb (at + 8) (length s) && leb (at + 8 + word32 s (at + 4)) (length s)

-- No complete MTrk, or the position of its data and their length.
pub data Chunk : Type 0 where
  no_track : Chunk
  track : ℕ → ℕ → Chunk

-- 11. The first MTrk, reached from a position through complete chunks; other chunks are passed over, at most `fuel` of them.
unfoldable pub track_from : ℕ → List ℕ → ℕ → Chunk
unfolding chunk_there
track_from zero s at = no_track
track_from (suc fuel) s at = elim (chunk_there s at) [
  | false ↦ no_track
  | true ↦ elim (eqb (word32 s at) MTrk) [
    | true ↦ track (at + 8) (word32 s (at + 4))
    | false ↦ track_from fuel s (at + 8 + word32 s (at + 4))
  ]
]

-- What a file's bytes are read as. The chunks start behind the header, its excess passed over; bytes behind the track are unread.
unfoldable pub read_file : ℕ → List ℕ → FileAnswer
unfolding header_there header_fits track_from read_track
read_file δ s = elim (header_there s) [
  | false ↦ refused 9
  | true ↦ elim (header_fits δ s) [
    | false ↦ refused 10
    | true ↦ elim (track_from (length s) s (8 + word32 s 4)) [ no_track ↦ refused 11 | track at n ↦ read_track δ (take n (drop at s)) ]
  ]
]

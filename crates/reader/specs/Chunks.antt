-- Questions 9 to 11 of a file: where its track is. Assumes nothing.
use Rattle.std.specs.Prelude.{ℕ, ◌+◌, ◌-◌, true, false, List, length, take, drop, Result, Ok, Err}
use Rattle.model.specs.Numbers.{number_of}
use Rattle.model.specs.declared.questions.Question.{Question}
use Rattle.midi.specs.Numbers.{word32}
use Rattle.midi.specs.Reading.{FileAnswer, refused, read_track, header_there, header_fits, Chunk, no_track, track, track_from}
use Rattle.reader.specs.declared.chunks.Found.{Found}

-- The number of a question, or the position of the track's first byte and that behind its last.
pub data TrackPlace : Type 0 where
  refusal : ℕ → TrackPlace
  bytes : ℕ → ℕ → TrackPlace

abbrev pub place_of : Result Found Question → TrackPlace
place_of (Err q) = refusal (number_of q)
place_of (Ok f) = bytes f.at f.end

-- 11 if no complete MTrk is reached.
abbrev pub chunk_place : Chunk → TrackPlace
chunk_place no_track = refusal 11
chunk_place (track at n) = bytes at (at + n)

-- 9 and 10 come before it.
unfoldable pub track_place : ℕ → List ℕ → TrackPlace
unfolding header_there header_fits track_from
track_place δ s = elim (header_there s) [
  | false ↦ refusal 9
  | true ↦ elim (header_fits δ s) [ false ↦ refusal 10 | true ↦ chunk_place (track_from (length s) s (8 + word32 s 4)) ]
]

-- What a track at a place of the file is read as.
abbrev pub read_place : ℕ → List ℕ → TrackPlace → FileAnswer
read_place δ s (refusal n) = refused n
read_place δ s (bytes at end) = read_track δ (take (end - at) (drop at s))

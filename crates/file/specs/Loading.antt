-- Load: the number and the words by what the file, or its track, is read as; what laying its recording asks. Assumes nothing.
use Rattle.std.specs.Prelude.{true, List, ◌≡◌, ℕ, zero, suc, ◌≤◌, ◌<◌, length}
use Rattle.model.specs.Lists.{gather}
use Rattle.model.specs.Histories.{Recording}
use Rattle.model.specs.Pieces.{cells_of_note}
use Rattle.model.specs.Questions.{header_ok, first_no}
use Rattle.model.specs.Takes.{words_used}
use Rattle.model.specs.declared.Header.{Header}
use Rattle.midi.specs.Reading.{FileAnswer, read, read_track}
use Rattle.reader.specs.Counting.{LanesCounted}
use Rattle.file.specs.Calls.{file_questions, loaded}

-- The number of the first question, 9 to 14 and then 8, whose answer is no, or 0.
unfoldable pub read_number : Header → FileAnswer → ℕ
unfolding first_no file_questions
read_number h a = first_no (file_questions h a)

-- The session's words after it: a number above 0 changes nothing.
unfoldable pub read_after : Header → List ℕ → ℕ → FileAnswer → List ℕ
unfolding read_number loaded
read_after h s i a = elim (read_number h a) [ zero ↦ loaded h s i a | suc n ↦ s ]

-- Questions 1 and 2 answered yes.
pub record ShelfAsks (s : List ℕ) (h : Header) (shelf : ℕ) : Type 0 where
  pub header : header_ok h (length s) ≡ true
  pub below : shelf < h.shelves

-- A track that is read as a recording of so many beats, notes and cells, which fit the shelf, with the notes of each lane counted.
pub record RecordingAsks (s : List ℕ) (h : Header) (shelf : ℕ) (track counts : List ℕ) (beats notes cells : ℕ) : Type 0 where
  pub entry : ShelfAsks s h shelf
  pub recording : Recording
  pub reads : read_track h.delta track ≡ read recording
  pub beats_are : beats ≡ recording.beats
  pub notes_are : notes ≡ length recording.notes
  pub cells_are : cells ≡ length (gather (cells_of_note h.delta) recording.notes)
  pub fits : words_used notes cells ≤ h.words
  pub counted : LanesCounted recording.notes counts

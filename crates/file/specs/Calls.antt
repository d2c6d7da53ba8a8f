-- "The questions" of write and load, and what each returns and leaves. s is the session's words, out the output's bytes.
-- Assumes nothing.
use Rattle.std.specs.Prelude.{ℕ, zero, suc, Bool, false, List, [], ◌∷◌, leb, ltb, length}
use Rattle.words.specs.Splice.{splice}
use Rattle.model.specs.Questions.{header_ok, fits, first_no}
use Rattle.model.specs.Session.{header_of, shelf, put_shelf}
use Rattle.model.specs.Soundness.{sound_shelf}
use Rattle.model.specs.Takes.{word, notes_in, words_of}
use Rattle.model.specs.Histories.{recording_take}
use Rattle.model.specs.declared.Header.{Header}
use Rattle.midi.specs.Reading.{FileAnswer, refused, read, read_file}
use Rattle.midi.specs.Writing.{file_bytes}

-- ---- write

-- The file of shelf i: of its beats and notes.
unfoldable pub shelf_file : List ℕ → ℕ → List ℕ
unfolding header_of shelf file_bytes
shelf_file s i = let h = header_of s in file_bytes h.delta (word (shelf h s i) 0) (notes_in (shelf h s i))

-- 15. Does the file fit the output?
unfoldable pub file_fits : List ℕ → ℕ → ℕ → Bool
unfolding shelf_file
file_fits s i room = leb (length (shelf_file s i)) room

-- Write goes through 1, 2, 4 and 15.
unfoldable pub write_questions : List ℕ → ℕ → ℕ → List (ℕ × Bool)
unfolding header_of header_ok sound_shelf shelf file_fits
write_questions s i room =
    let h = header_of s in
    (1, header_ok h (length s)) ∷ (2, ltb i h.shelves) ∷ (4, sound_shelf h (shelf h s i)) ∷ (15, file_fits s i room) ∷ []

-- The number that it returns, for an output of so many bytes.
unfoldable pub write_number : List ℕ → ℕ → ℕ → ℕ
unfolding first_no write_questions
write_number s i room = first_no (write_questions s i room)

-- Its byte count: a refused write counts 0 bytes.
unfoldable pub write_count : List ℕ → ℕ → ℕ → ℕ
unfolding write_number shelf_file
write_count s i room = elim (write_number s i room) [ zero ↦ length (shelf_file s i) | suc n ↦ 0 ]

-- The output after it: the file, then what was there before; a refused write leaves the whole output as it was.
unfoldable pub write_output : List ℕ → ℕ → List ℕ → List ℕ
unfolding write_number shelf_file splice
write_output s i out = elim (write_number s i (length out)) [ zero ↦ splice out 0 (shelf_file s i) | suc n ↦ out ]

-- ---- load

-- 9 to 14 as the file is read; then 8: does the result fit W words?
unfoldable pub file_questions : Header → FileAnswer → List (ℕ × Bool)
unfolding fits recording_take
file_questions h (refused n) = (n, false) ∷ []
file_questions h (read r) = (8, fits h (recording_take h.delta r)) ∷ []

-- Load goes through 1, 2, then 9 to 14, and then 8.
unfoldable pub load_questions : List ℕ → ℕ → List ℕ → List (ℕ × Bool)
unfolding header_of header_ok file_questions read_file
load_questions s i file =
    let h = header_of s in
    (1, header_ok h (length s)) ∷ (2, ltb i h.shelves) ∷ file_questions h (read_file h.delta file)

-- The number that it returns.
unfoldable pub load_number : List ℕ → ℕ → List ℕ → ℕ
unfolding first_no load_questions
load_number s i file = first_no (load_questions s i file)

-- The session's words with the take of the recording that was read in shelf i.
unfoldable pub loaded : Header → List ℕ → ℕ → FileAnswer → List ℕ
unfolding put_shelf words_of recording_take
loaded h s i (refused n) = s
loaded h s i (read r) = put_shelf h s i (words_of h (recording_take h.delta r))

-- The session's words after a load: one that returns a number above 0 changes nothing.
unfoldable pub load_after : List ℕ → ℕ → List ℕ → List ℕ
unfolding load_number loaded read_file header_of
load_after s i file =
    elim (load_number s i file) [ zero ↦ loaded (header_of s) s i (read_file (header_of s).delta file) | suc n ↦ s ]

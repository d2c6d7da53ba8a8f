-- The answer to a line: its number, the session afterwards and the line written. s is the session's words, none before an accepted open:
-- then question 1 refuses every call but open. Assumes nothing.
use Rattle.std.specs.Prelude.{Bool, ◌&&◌, cond, List, [], ◌∷◌, ◌++◌, ℕ, zero, suc, leb}
use Rattle.model.specs.Session.{session_length, fresh_words}
use Rattle.model.specs.Machine.{lay_call, split_call, join_call}
use Rattle.model.specs.Questions.{header_ok, number, after}
use Rattle.model.specs.declared.Header.{Header}
use Rattle.file.specs.Calls.{shelf_file, write_number, load_number, load_after}
use Rattle.frames.specs.Digits.{byte_digits, digits_of}
use Rattle.frames.specs.Lines.{Frame, malformed, open_frame, lay_frame, split_frame, join_frame, write_frame, load_frame, frame_in}

-- Its session has at most 8,192 words, its output 8,192 bytes.
abbrev pub max_session : ℕ
max_session = 8192

abbrev pub output_bytes : ℕ
output_bytes = 8192

-- FF, for a malformed line.
abbrev pub malformed_number : ℕ
malformed_number = 255

-- Open is given a list of exactly 4 + K × W words, if there are so many.
unfoldable pub opens : Header → Bool
unfolding header_ok
opens h = leb (session_length h) max_session && header_ok h (session_length h)

-- The number of a frame.
unfoldable pub number_of : List ℕ → Frame → ℕ
unfolding opens number write_number load_number
number_of s malformed = malformed_number
number_of s (open_frame h) = cond (opens h) 0 1
number_of s (lay_frame i beats ws) = number s (lay_call i beats ws)
number_of s (split_frame i k l r) = number s (split_call i k l r)
number_of s (join_frame i j k) = number s (join_call i j k)
number_of s (write_frame i) = write_number s i output_bytes
number_of s (load_frame i file) = load_number s i file

-- The session after it: a refused open keeps the earlier session, an accepted one starts afresh.
unfoldable pub session_after : List ℕ → Frame → List ℕ
unfolding opens fresh_words after load_after
session_after s malformed = s
session_after s (open_frame h) = cond (opens h) (fresh_words h) s
session_after s (lay_frame i beats ws) = after s (lay_call i beats ws)
session_after s (split_frame i k l r) = after s (split_call i k l r)
session_after s (join_frame i j k) = after s (join_call i j k)
session_after s (write_frame i) = s
session_after s (load_frame i file) = load_after s i file

-- The written file, if it is a write that returned 0.
unfoldable pub file_after : List ℕ → Frame → List ℕ
unfolding write_number shelf_file
file_after s malformed = []
file_after s (open_frame h) = []
file_after s (lay_frame i beats ws) = []
file_after s (split_frame i k l r) = []
file_after s (join_frame i j k) = []
file_after s (load_frame i file) = []
file_after s (write_frame i) = elim (write_number s i output_bytes) [ zero ↦ shelf_file s i | suc n ↦ [] ]

-- One line: the number in two hexadecimal digits, then a written file; a line feed.
unfoldable pub answer_of : List ℕ → Frame → List ℕ
unfolding number_of file_after
answer_of s f = byte_digits (number_of s f) ++ digits_of (file_after s f) ++ 10 ∷ []

-- The same of a line of input.
unfoldable pub line_answer : List ℕ → List ℕ → List ℕ
unfolding answer_of frame_in
line_answer s line = answer_of s (frame_in line)

unfoldable pub line_after : List ℕ → List ℕ → List ℕ
unfolding session_after frame_in
line_after s line = session_after s (frame_in line)

-- The answers to lines, one after the other.
unfoldable pub answers : List ℕ → List (List ℕ) → List ℕ
unfolding line_answer line_after
answers s [] = []
answers s (l ∷ ls) = line_answer s l ++ answers (line_after s l) ls

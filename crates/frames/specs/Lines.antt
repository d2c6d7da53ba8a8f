-- Frames: what a line of input, without its line feed, stands for. Assumes nothing.
use Rattle.std.specs.Prelude.{Bool, ◌&&◌, cond, List, [], ◌∷◌, ℕ, zero, suc, ◌-◌, ◌*◌, ◌/◌, ◌%◌, leb, eqb, length, drop, Option, Some, None}
use Rattle.model.specs.Lists.{every}
use Rattle.model.specs.declared.Header.{Header}
use Rattle.midi.specs.Numbers.{word32}
use Rattle.frames.specs.Digits.{is_digit, bytes_of}

-- A line is malformed, or a call with its arguments.
pub data Frame : Type 0 where
  malformed : Frame
  open_frame : Header → Frame
  lay_frame : ℕ → ℕ → List ℕ → Frame
  split_frame : ℕ → ℕ → ℕ → ℕ → Frame
  join_frame : ℕ → ℕ → ℕ → Frame
  write_frame : ℕ → Frame
  load_frame : ℕ → List ℕ → Frame

-- ---- the bytes of a line

-- No more digits are allowed.
abbrev pub max_digits : ℕ
max_digits = 4000

-- At most 4,000 characters, no odd digit, no other character.
unfoldable pub digits_ok : List ℕ → Bool
digits_ok line = leb (length line) max_digits && eqb (length line % 2) 0 && every is_digit line

-- Its bytes; none of a line of more characters, or one with an odd digit or another character.
unfoldable pub decoded : List ℕ → Option (List ℕ)
unfolding bytes_of
decoded line = cond (leb (length line) max_digits) (bytes_of line) None

-- ---- the call of a frame: a call byte, then the bytes of its arguments

-- The word at place i of the arguments: four bytes, high byte first.
abbrev pub argument : List ℕ → ℕ → ℕ
argument bytes i = word32 bytes (4 * i)

-- So many words from place i on.
unfoldable pub arguments : ℕ → List ℕ → ℕ → List ℕ
arguments zero bytes i = []
arguments (suc n) bytes i = argument bytes i ∷ arguments n bytes (suc i)

-- A call with n words; an incomplete word or a wrong count of words is malformed.
unfoldable pub with_words : ℕ → List ℕ → Frame → Frame
with_words n bytes f = cond (eqb (length bytes) (4 * n)) f malformed

-- Open: δ, ε, K, W.
unfoldable pub open_of : List ℕ → Frame
unfolding with_words
open_of bytes =
    with_words 4 bytes
    (open_frame (record { delta = argument bytes 0; epsilon = argument bytes 1; shelves = argument bytes 2; words = argument bytes 3 }))

-- Lay: shelf, beats, and notes of any count of words.
unfoldable pub lay_of : List ℕ → Frame
unfolding arguments
lay_of bytes =
    cond (leb 8 (length bytes) && eqb (length bytes % 4) 0)
    (lay_frame (argument bytes 0) (argument bytes 1) (arguments ((length bytes - 8) / 4) bytes 2)) malformed

-- Split: shelf, k, left, right.
unfoldable pub split_of : List ℕ → Frame
unfolding with_words
split_of bytes = with_words 4 bytes (split_frame (argument bytes 0) (argument bytes 1) (argument bytes 2) (argument bytes 3))

-- Join: first, second, result.
unfoldable pub join_of : List ℕ → Frame
unfolding with_words
join_of bytes = with_words 3 bytes (join_frame (argument bytes 0) (argument bytes 1) (argument bytes 2))

-- Write: shelf.
unfoldable pub write_of : List ℕ → Frame
unfolding with_words
write_of bytes = with_words 1 bytes (write_frame (argument bytes 0))

-- Load: shelf, then file bytes.
unfoldable pub load_of : List ℕ → Frame
load_of bytes = cond (leb 4 (length bytes)) (load_frame (argument bytes 0) (drop 4 bytes)) malformed

-- The calls that change an open session.
unfoldable pub change_of : ℕ → List ℕ → Frame
unfolding lay_of split_of join_of load_of
change_of c bytes =
    cond (eqb c 2) (lay_of bytes) (cond (eqb c 3) (split_of bytes) (cond (eqb c 4) (join_of bytes) (cond (eqb c 6) (load_of bytes) malformed)))

-- The frame of a call byte (01 open, 02 lay, 03 split, 04 join, 05 write, 06 load; another is malformed) and the bytes behind it.
unfoldable pub call_of : ℕ → List ℕ → Frame
unfolding open_of write_of change_of
call_of c bytes = cond (eqb c 1) (open_of bytes) (cond (eqb c 5) (write_of bytes) (change_of c bytes))

-- The frame of bytes: no byte is malformed.
unfoldable pub frame_of : List ℕ → Frame
unfolding call_of
frame_of [] = malformed
frame_of (c ∷ bytes) = call_of c bytes

-- The frame of a line's bytes, and of a line.
unfoldable pub frame_read : Option (List ℕ) → Frame
unfolding frame_of
frame_read None = malformed
frame_read (Some bytes) = frame_of bytes

unfoldable pub frame_in : List ℕ → Frame
unfolding frame_read decoded
frame_in line = frame_read (decoded line)

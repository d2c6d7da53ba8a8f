-- What the functions that answer a line leave, for its frame f. Assumes nothing.
use Rattle.std.specs.Prelude.{◌≡◌, List, ℕ, ◌+◌, ◌≤◌, length}
use Rattle.words.specs.Splice.{splice}
use Rattle.frames.specs.Lines.{Frame}
use Rattle.frames.specs.Answers.{session_after, answer_of}

-- Bytes of answers that are collected.
abbrev pub out_bytes : ℕ
out_bytes = 65536

-- No answer is longer: two digits, those of a file as long as the output, and a line feed.
abbrev pub max_answer : ℕ
max_answer = 16387

-- The bytes ws stand in the output from place at on; to is the place behind them.
pub record Put (out : List ℕ) (at : ℕ) (ws : List ℕ) (out' : List ℕ) (to : ℕ) : Type 0 where
  pub output : out' ≡ splice out at ws
  pub end : to ≡ at + length ws
  pub few : to ≤ at + max_answer

-- The session gives way to the one after the frame; the answer stands in the output from place at on.
pub record Answers (s out : List ℕ) (at : ℕ) (f : Frame) (s' out' : List ℕ) (to : ℕ) : Type 0 where
  pub session : s' ≡ session_after s f
  pub put : Put out at (answer_of s f) out' to

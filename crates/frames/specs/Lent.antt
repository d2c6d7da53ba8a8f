-- What the functions over lent lists leave, whoever owns these: the session is the first words of a list, the line in hand the first characters
-- of another. Assumes nothing.
use Rattle.std.specs.Prelude.{◌≡◌, List, [], ℕ, ◌+◌, ◌-◌, ◌≤◌, ◌<◌, length, take, drop}
use Rattle.std.proofs.Common.{arith, length-drop}
use Rattle.words.specs.Splice.{splice}
use Rattle.frames.specs.Lines.{Frame}
use Rattle.frames.specs.Answers.{max_session, number_of, session_after, file_after, answer_of}
use Rattle.frames.specs.Calling.{number_in}
use Rattle.frames.specs.Answering.{max_answer, Put}
use Rattle.frames.specs.Blocks.{TakesOne, ReadOn}
use Rattle.frames.specs.declared.calls.Done.{Done}
use Rattle.frames.specs.declared.answers.Answered.{Answered}
use Rattle.frames.specs.declared.input.Reading.{Reading}
use Rattle.frames.specs.declared.input.Progress.{Progress}

-- ---- one line

-- The session, the first `held` words, gives way to the one after the frame, n words, and the words behind it are unchanged.
pub record GivesWay (words : List ℕ) (held : ℕ) (f : Frame) (words' : List ℕ) (n : ℕ) : Type 0 where
  pub session : words' ≡ splice words 0 (session_after (take held words) f)
  pub size : n ≡ length (session_after (take held words) f)
  pub few : n ≤ max_session

-- An open gave way to r's session, and wrote no file.
pub record Opened (words : List ℕ) (held : ℕ) (f : Frame) (words' : List ℕ) (r : Done) : Type 0 where
  pub number : number_in r.outcome ≡ number_of (take held words) f
  pub gives : GivesWay words held f words' r.size
  pub file : file_after (take held words) f ≡ []

-- A line was answered: the answer stands in the output from place at on.
pub record AnswersIn (words : List ℕ) (held : ℕ) (out : List ℕ) (at : ℕ) (f : Frame) (words' out' : List ℕ) (r : Answered) : Type 0 where
  pub gives : GivesWay words held f words' r.length
  pub put : Put out at (answer_of (take held words) f) out' r.end

-- ---- blocks of input

-- Characters of a line that are kept.
abbrev pub max_kept : ℕ
max_kept = 4001

-- Where reading stands, in the lent lists.
abbrev pub reading_of : List ℕ → List ℕ → Progress → Reading
reading_of line words p = record { session = take p.length words; line = take p.kept line }

-- What every function here is asked: lists long enough, and no more in use than they hold.
pub record Holds (line words : List ℕ) (p : Progress) : Type 0 where
  pub characters : length line ≡ max_kept
  pub whole : length words ≡ max_session
  pub few : p.kept ≤ max_kept
  pub held : p.length ≤ max_session

-- One byte was taken: the lists hold the reading that it leaves, and what is written for it stands in the output behind p's end.
pub record TakesOneIn (line words out : List ℕ) (p : Progress) (c : ℕ) (line' words' out' : List ℕ) (q : Progress) : Type 0 where
  pub holds : Holds line' words' q
  pub one : TakesOne (reading_of line words p) out p.end c (reading_of line' words' q) out' q.end

-- A block was read on from p's place to q's.
pub record ReadOnIn (block line words out : List ℕ) (p : Progress) (line' words' out' : List ℕ) (q : Progress) : Type 0 where
  pub low : p.at ≤ q.at
  pub holds : Holds line' words' q
  pub read : ReadOn (drop p.at block) (reading_of line words p) out p.end (reading_of line' words' q) out' (record { taken = q.at - p.at; end = q.end })

-- So q's place is within the block, and reading stopped before its end only where the output had no room for another answer.
module _ {block line words out : List ℕ} {p : Progress} {line' words' out' : List ℕ} {q : Progress} (r : ReadOnIn block line words out p line' words' out' q)
    (asked : p.at ≤ length block) where
  pub within : q.at ≤ length block
  within = omega (arith, length-drop p.at block, r.low, r.read.within)

  pub stops : q.at < length block → length out < q.end + max_answer
  stops less = r.read.stops (omega (arith, length-drop p.at block, r.low))

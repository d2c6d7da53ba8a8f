-- Write by the words of a shelf: the answer to questions 4 and 15, and the output then. Assumes nothing.
use Rattle.std.specs.Prelude.{Result, Err, cond, List, ℕ}
use Rattle.std.specs.Option.{ok_or}
use Rattle.model.specs.Soundness.{sound_shelf}
use Rattle.model.specs.declared.Header.{Header}
use Rattle.model.specs.declared.questions.Question.{Question}
use Rattle.model.specs.declared.questions.Question.TheVariants.{ShelvesSound, FileFits}
use Rattle.writer.specs.Files.{file_in, length_in, output_of}

-- The length of their file, or the first of questions 4 and 15 that is answered no.
abbrev pub file_answer : Header → List ℕ → List ℕ → Result ℕ Question
file_answer h ws out = cond (sound_shelf h ws) (ok_or (length_in (file_in h ws) out) FileFits) (Err ShelvesSound)

-- The output: the file, then what was there before; or as it was.
abbrev pub file_left : Header → List ℕ → List ℕ → List ℕ
file_left h ws out = cond (sound_shelf h ws) (output_of (file_in h ws) out) out

-- The paper's number of each question, and what an answer says by that number: for each case the number and the values.
-- Assumes nothing.
use Rattle.std.specs.Prelude.{ℕ, List, [], Result, Ok, Err}
use Rattle.model.specs.declared.questions.Question.{Question}
use Rattle.model.specs.declared.questions.Question.TheVariants.{HeaderInRange, ShelvesBelow, ShelvesDiffer, ShelvesSound, BeatWithin, BeatsFew, ListInOrder, ResultFits, FileHeader, FileFormat, TrackReached, EventLegal, TimeWithin, LaneSilent, FileFits}

-- The number of a question in the paper.
abbrev pub number_of : Question → ℕ
number_of HeaderInRange = 1
number_of ShelvesBelow = 2
number_of ShelvesDiffer = 3
number_of ShelvesSound = 4
number_of BeatWithin = 5
number_of BeatsFew = 6
number_of ListInOrder = 7
number_of ResultFits = 8
number_of FileHeader = 9
number_of FileFormat = 10
number_of TrackReached = 11
number_of EventLegal = 12
number_of TimeWithin = 13
number_of LaneSilent = 14
number_of FileFits = 15

-- An answer by its number: 0 for yes, and the number of the question that is answered no.
abbrev pub answer_number : {T : Type 0} → Result T Question → ℕ
answer_number (Ok v) = 0
answer_number (Err q) = number_of q

-- An answer by its number and values, which are the values of `v` for yes and none for no.
abbrev pub answer_of : {T : Type 0} → (T → List ℕ) → Result T Question → ℕ × List ℕ
answer_of values (Ok v) = (0, values v)
answer_of values (Err q) = (number_of q, [])

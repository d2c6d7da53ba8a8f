-- What the functions that carry out a frame leave, for the frame f: the session, the file and the output. Assumes nothing.
use Rattle.std.specs.Prelude.{◌≡◌, cond, List, [], ℕ, ◌*◌, ◌≤◌, eqb, length, take, Result, Ok, Err}
use Rattle.std.specs.Result.{MatchResult}
use Rattle.model.specs.Numbers as Numbers
use Rattle.frames.specs.Lines.{Frame, arguments}
use Rattle.frames.specs.Answers.{malformed_number, output_bytes, number_of, session_after, file_after}
use Rattle.frames.specs.declared.calls.Refusal.{Refusal}
use Rattle.frames.specs.declared.calls.Refusal.TheVariants.{Malformed, AnsweredNo}

-- The number of a refusal, and of an outcome.
abbrev pub refusal_number : Refusal → ℕ
refusal_number Malformed = malformed_number
refusal_number (AnsweredNo question) = Numbers.number_of question

abbrev pub number_in : {T : Type 0} → Result T Refusal → ℕ
number_in (Ok v) = 0
number_in (Err refusal) = refusal_number refusal

-- The arguments of a call with n words.
unfoldable pub words_in : ℕ → List ℕ → Result (List ℕ) Refusal
unfolding arguments
words_in n bytes = cond (eqb (length bytes) (4 * n)) (Ok (arguments n bytes 0)) (Err Malformed)

-- A call on the session s answered r, left s' and wrote no file.
pub record Changed (s : List ℕ) (f : Frame) (s' : List ℕ) (r : Result (Unit {0}) Refusal) : Type 0 where
  pub number : number_in r ≡ number_of s f
  pub session : s' ≡ session_after s f
  pub file : file_after s f ≡ []

-- A write's file of n bytes stands at the start of the output.
pub record Written (s : List ℕ) (f : Frame) (out : List ℕ) (n : ℕ) : Type 0 where
  pub size : n ≡ length (file_after s f)
  pub few : n ≤ output_bytes
  pub file : take n out ≡ file_after s f

-- A write on the session s answered r: how many bytes its file has, and a refused one has no file.
pub record Wrote (s : List ℕ) (f : Frame) (out : List ℕ) (r : Result ℕ Refusal) : Type 0 where
  pub number : number_in r ≡ number_of s f
  pub file : MatchResult r (Written s f out) (λ _. file_after s f ≡ [])

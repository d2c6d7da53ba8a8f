-- The number of every frame has two digits. Assumes nothing.
use Rattle.std.specs.Prelude.{◌≡◌, refl, Bool, true, false, cond, List, [], ◌∷◌, ℕ, ◌≤◌, length}
use Rattle.std.proofs.Common.{arith}
use Rattle.laws.specs.Relations.{All}
use Rattle.model.specs.Machine.{lay_call, split_call, join_call}
use Rattle.model.specs.Questions.{header_ok, questions, first_no, number}
use Rattle.model.specs.Session.{header_of}
use Rattle.model.specs.declared.Header.{Header}
use Rattle.model.proofs.Headers.{in_range}
use Rattle.midi.specs.Reading.{FileAnswer, refused, read, read_file}
use Rattle.midi.proofs.Recordings.{refused_number}
use Rattle.file.specs.Calls.{write_questions, write_number, file_questions, load_questions, load_number}
use Rattle.frames.specs.Lines.{Frame, malformed, open_frame, lay_frame, split_frame, join_frame, write_frame, load_frame}
use Rattle.frames.specs.Answers.{opens, number_of}

first_few : (qs : List (ℕ × Bool)) → All (λ q. q.0 ≤ 255) qs → first_no qs ≤ 255
unfolding first_no
first_few [] p = omega arith
first_few ((n, true) ∷ qs) p = first_few qs p.1
first_few ((n, false) ∷ qs) p = p.0

one_few : (b : Bool) → cond b 0 1 ≤ 255
one_few true = omega arith
one_few false = omega arith

-- a file is refused with 9 to 14
file_few : (h : Header) (file : List ℕ) → 1 ≤ h.delta → All (λ q. q.0 ≤ 255) (file_questions h (read_file h.delta file))
unfolding file_questions
file_few h file some = go (read_file h.delta file) refl where
  go : (a : FileAnswer) → read_file h.delta file ≡ a → All (λ q. q.0 ≤ 255) (file_questions h a)
  go (refused n) e = (omega (arith, refused_number h.delta some file n e), tt)
  go (read r) e = (omega arith, tt)

-- the number of a load: where question 1 is answered yes, a beat has a tick
load_few : (s : List ℕ) (i : ℕ) (file : List ℕ) → load_number s i file ≤ 255
unfolding load_number load_questions first_no
load_few s i file = go (header_ok (header_of s) (length s)) refl where
  go : (b : Bool) → header_ok (header_of s) (length s) ≡ b → load_number s i file ≤ 255
  go true e = first_few (load_questions s i file) (omega arith, (omega arith, file_few (header_of s) file (in_range {h = header_of s} e).some-ticks))
  go false e = rw (e, load_number) (omega arith)

pub number_few : (s : List ℕ) (f : Frame) → number_of s f ≤ 255
unfolding number_of number questions write_number write_questions load_number load_questions
number_few s malformed = omega arith
number_few s (open_frame h) = one_few (opens h)
number_few s (lay_frame i beats ws) = first_few (questions s (lay_call i beats ws)) (omega arith)
number_few s (split_frame i k l r) = first_few (questions s (split_call i k l r)) (omega arith)
number_few s (join_frame i j k) = first_few (questions s (join_call i j k)) (omega arith)
number_few s (load_frame i file) = load_few s i file
number_few s (write_frame i) = first_few (write_questions s i 8192) (omega arith)

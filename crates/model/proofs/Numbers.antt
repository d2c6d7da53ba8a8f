-- What an answer's number and values say of the question behind them. Assumes nothing.
use Rattle.std.specs.Prelude.{Result, Err, IsErrAnd}
use Rattle.std.proofs.lemmas.Result.{err_from_is_err_and}
use mathlib.Core.Path.{◌≡◌, refl, ap, ◌∙◌}
use mathlib.Core.Bool.{Bool, true, false, cond}
use mathlib.Core.List.{List, []}
use Prim.Native.Nat.{ℕ, zero, suc, ◌<◌}
use native.Mathlib.Omega.{arith}
use Rattle.model.specs.Numbers.{number_of}
use Rattle.model.specs.declared.questions.Question.{Question}
use Rattle.model.specs.declared.questions.Question.TheVariants.{HeaderInRange, ShelvesBelow, ShelvesDiffer, ShelvesSound, BeatWithin, BeatsFew, ListInOrder, ResultFits, FileHeader, FileFormat, TrackReached, EventLegal, TimeWithin, LaneSilent, FileFits}

-- no question has the number 0, which says yes
pub number_positive : (q : Question) → 0 < number_of q
number_positive HeaderInRange = omega arith
number_positive ShelvesBelow = omega arith
number_positive ShelvesDiffer = omega arith
number_positive ShelvesSound = omega arith
number_positive BeatWithin = omega arith
number_positive BeatsFew = omega arith
number_positive ListInOrder = omega arith
number_positive ResultFits = omega arith
number_positive FileHeader = omega arith
number_positive FileFormat = omega arith
number_positive TrackReached = omega arith
number_positive EventLegal = omega arith
number_positive TimeWithin = omega arith
number_positive LaneSilent = omega arith
number_positive FileFits = omega arith

-- what a call leaves, where its number `n` chooses between what it writes and what it leaves for a refusal
pub kept : {A : Type 0} (q : Question) (n : ℕ) → number_of q ≡ n → (written left : A) → left ≡ elim n [ zero ↦ written | suc m ↦ left ]
kept q zero e written left = absurd (omega (arith, number_positive q))
kept q (suc m) e written left = refl

-- ---- an answer to a question `t` with the number `m`, and to the questions behind it, which give `rest`

-- yes: the question is answered yes, and so are those behind it
pub yes_means : (t : Bool) (m : ℕ) {rest : ℕ × List ℕ} {values : List ℕ} → 0 < m
    → ◌≡◌ {A = ℕ × List ℕ} (0, values) (cond t rest (m, [])) → (t ≡ true) × (◌≡◌ {A = ℕ × List ℕ} (0, values) rest)
yes_means true m more e = (refl, e)
yes_means false m more e = absurd (let z : ◌≡◌ {A = ℕ} 0 m = ap (λ (p : ℕ × List ℕ). p.0) e in omega arith)

-- no: the last question is answered no
pub no_means : (t : Bool) (m : ℕ) (values : List ℕ) (q : Question) → ◌≡◌ {A = ℕ × List ℕ} (number_of q, []) (cond t (0, values) (m, []))
    → (t ≡ false) × (number_of q ≡ m)
no_means true m values q e = absurd (let z : number_of q ≡ 0 = ap (λ (p : ℕ × List ℕ). p.0) e in omega (arith, number_positive q))
no_means false m values q e = (refl, ap (λ (p : ℕ × List ℕ). p.0) e)

-- ---- the exit of a `?` passes on the question of the call before it

pub passed_on : {T : Type 0} {r : Result T Question} {q : Question} → IsErrAnd r (λ y. y ≡ q) → r ≡ Err q
passed_on {r = r} e = let p = err_from_is_err_and r e in p.1 ∙ ap Err p.2

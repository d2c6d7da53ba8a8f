-- `frames::digits::put_digits` meets its contract.
use Rattle.frames.proofs.Putting.{Puts}
use Rattle.frames.proofs.digits.put_digits.Given as goal

abbrev pub invariant-loop-i : goal.invariant-loop-i
invariant-loop-i l = Puts l.initial.out l.out l.bytes l.at l.i

-- `frames::input::read_on` meets its contract.
use Rattle.frames.proofs.Inputs.{GoesIn}
use Rattle.frames.proofs.input.read_on.Given as goal

abbrev pub invariant-loop-i : goal.invariant-loop-i
invariant-loop-i l = GoesIn l.block l.initial.line l.initial.words l.initial.out l.fn.p l.i l.line l.words l.out l.kept l.length l.end

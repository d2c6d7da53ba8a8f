-- `frames::digits::put_digits` meets its contract.
use Rattle.std.proofs.Common.{arith}
use Rattle.frames.proofs.Putting.{puts_start, puts_byte, puts_done}
use Rattle.frames.proofs.digits.put_digits.Goals as goal

pub loop-i-init : goal.loop-i-init
loop-i-init c = puts_start _ _ _

pub loop-i-preserved : goal.loop-i-preserved
loop-i-preserved c = puts_byte c.loop-i.invariant (omega arith) c.put_byte.ensures

pub returns-clause-digits : goal.returns-clause-digits
returns-clause-digits c = puts_done c.loop-i.invariant (omega arith)

-- `frames::input::end_line` meets its contract.
use Rattle.std.proofs.Common.{arith}
use Rattle.frames.proofs.Inputs.{line_ended}
use Rattle.frames.proofs.input.end_line.Goals as goal

pub returns : goal.returns
returns c = rw c.reached.ensures (line_ended c.requires.holds c.answer_in-done.ensures (omega arith))

-- `frames::program::Progress::read_on` meets its contract.
use Rattle.std.proofs.Common.{arith}
use Rattle.frames.proofs.Inputs.{reads_block}
use Rattle.frames.proofs.program.Progress.read_on.Goals as goal

pub returns : goal.returns
returns c = rw (← c.self.view_is) (reads_block c.read_on-stop.ensures (omega arith) (omega arith))

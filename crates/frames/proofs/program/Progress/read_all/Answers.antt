-- `frames::program::Progress::read_all` meets its contract.
use Rattle.frames.proofs.Inputs.{some-none, some_more}
use Rattle.frames.proofs.program.Progress.read_all.Goals as goal

pub loop-init : goal.loop-init
loop-init c = some-none _

pub loop-preserved : goal.loop-preserved
loop-preserved c = some_more c.loop.invariant c.read_block.ensures

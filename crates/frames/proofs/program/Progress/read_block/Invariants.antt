-- `frames::program::Progress::read_block` meets its contract. The measure is how many bytes of the block are left.
use Rattle.std.proofs.Common.{length}
use Rattle.frames.proofs.Inputs.{Between}
use Rattle.frames.proofs.program.Progress.read_block.Given as goal

abbrev pub invariant-loop-left : goal.invariant-loop-left
invariant-loop-left l = Between l.initial.self l.block l.left l.sent l.self

abbrev pub decreases-loop-left : goal.decreases-loop-left
decreases-loop-left l = length l.left

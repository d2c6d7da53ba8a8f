-- `frames::program::Progress::make_room` meets its contract.
use Rattle.std.proofs.Common.{arith}
use Rattle.frames.proofs.Inputs.{whole_none, whole_flushed}
use Rattle.frames.proofs.program.Progress.make_room.Goals as goal

pub returns-then-room-ge-MAX_ANSWER : goal.returns-then-room-ge-MAX_ANSWER
returns-then-room-ge-MAX_ANSWER c = record { written = whole_none _; few = omega arith; room = omega arith }

pub returns : goal.returns
returns c = record { written = whole_flushed c.flush.ensures; few = c.flush.ensures.few; room = rw c.flush.ensures.emptied (omega arith) }

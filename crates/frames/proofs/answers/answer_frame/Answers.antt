-- `frames::answers::answer_frame` meets its contract.
use Rattle.std.proofs.Common.{arith}
use Rattle.frames.proofs.Dispatch.{frame_some, frame_empty, answer_none}
use Rattle.frames.proofs.answers.answer_frame.Goals as goal

pub returns-in-len1-up : goal.returns-in-len1-up
returns-in-len1-up c = rw (frame_some c.args.frame.now (omega arith)) c.answer_call.ensures

pub returns-in-empty : goal.returns-in-empty
returns-in-empty c = rw c.leaves.ensures (answer_none _ _ (omega arith) (omega arith) (frame_empty c.args.frame.now (omega arith)) c.put_number.ensures)

-- `frames::answers::answer_in` meets its contract.
use Rattle.std.proofs.Common.{arith}
use Rattle.frames.proofs.Dispatch.{frame_decoded, frame_none, answer_none}
use Rattle.frames.proofs.answers.answer_in.Goals as goal

pub returns-in-Some : goal.returns-in-Some
returns-in-Some c = rw (frame_decoded _ _ c.in-Some.ensures.bytes) c.answer_frame.ensures

pub returns-in-None : goal.returns-in-None
returns-in-None c = rw c.leaves.ensures (answer_none _ _ (omega arith) (omega arith) (frame_none _ c.in-None.ensures.bytes) c.put_number.ensures)

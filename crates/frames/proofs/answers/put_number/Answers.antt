-- `frames::answers::put_number` meets its contract.
use Rattle.frames.proofs.Dispatch.{put_line}
use Rattle.frames.proofs.answers.put_number.Goals as goal

pub returns : goal.returns
returns c = rw c.number.ensures at (put_line _ _ _ c.put_byte.ensures)

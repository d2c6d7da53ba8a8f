-- `frames::answers::answer` meets its contract.
use Rattle.std.proofs.Common.{arith}
use Rattle.frames.proofs.Lending.{answers_of}
use Rattle.frames.proofs.answers.answer.Goals as goal

pub returns : goal.returns
returns c = rw (← c.session.view_is) (answers_of (omega arith) c.answer_in-done.ensures)

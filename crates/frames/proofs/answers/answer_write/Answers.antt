-- `frames::answers::answer_write` meets its contract.
use Rattle.frames.proofs.Dispatch.{answer_file, no_file}
use Rattle.frames.proofs.answers.answer_write.Goals as goal

pub returns-in-Ok : goal.returns-in-Ok
returns-in-Ok c = answer_file c.in-Ok.ensures _ _ c.put_byte.ensures c.put_digits-end.ensures.end c.put_digits-end.ensures.digits

pub returns-in-Err : goal.returns-in-Err
returns-in-Err c = rw (no_file _ _ c.in-Err.ensures.number c.in-Err.ensures.file) at c.put_number.ensures

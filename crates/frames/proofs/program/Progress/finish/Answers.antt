-- `frames::program::Progress::finish` meets its contract.
use Rattle.std.proofs.Common.{arith, ap, length}
use Rattle.frames.proofs.Inputs.{last_whole}
use Rattle.frames.proofs.program.Progress.finish.Goals as goal

pub last_line-requires : goal.last_line-requires
last_line-requires c = omega (arith, ap (λ x. length x.answers) c.flush-sent.ensures.emptied)

pub overflow_add-result : goal.overflow_add-result
overflow_add-result c = omega (arith, c.flush-sent.ensures.few, c.send.ensures, c.as_slice.ensures.few, ap length c.as_slice.ensures.items)

pub returns : goal.returns
returns c = rw (c.send.ensures, c.as_slice.ensures.items) (last_whole c.flush-sent.ensures c.last_line.ensures)

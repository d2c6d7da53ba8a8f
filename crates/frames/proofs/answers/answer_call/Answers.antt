-- `frames::answers::answer_call` meets its contract.
use Rattle.std.proofs.Common.{sym, arith}
use Rattle.frames.proofs.Lending.{gives_same, call_part}
use Rattle.frames.proofs.Dispatch.{answered, write_leaves, call_open, call_write, call_change}
use Rattle.frames.proofs.answers.answer_call.Goals as goal

pub returns-in-1 : goal.returns-in-1
returns-in-1 c = rw (c.leaves.ensures, call_open _ c.in-1.is) (answered _ _ c.open_frame-done.ensures c.put_number.ensures)

pub returns-in-5 : goal.returns-in-5
returns-in-5 c =
    rw (c.leaves-in-5.ensures, call_write _ c.in-5.is)
    (record { gives = gives_same (omega arith) (omega arith) (sym (write_leaves _ _)); put = c.answer_write.ensures })

pub returns-in_default : goal.returns-in_default
returns-in_default c =
    rw (c.leaves-in_default.ensures, call_change {c = c.args.call} _ (λ e. omega arith) (λ e. omega arith))
    (answered _ _ (call_part (omega arith) (omega arith) (omega arith) c.change-outcome.ensures) c.put_number-in_default.ensures)

-- `frames::calls::open_frame` meets its contract.
use Rattle.std.proofs.Common.{refl, arith}
use Rattle.frames.proofs.Carried.{question_some, open_wrong, open_large, open_same, open_kept, open_accepted}
use Rattle.frames.proofs.Lending.{call_kept, call_part}
use Rattle.frames.proofs.calls.open_frame.Goals as goal

pub returns-in-Err : goal.returns-in-Err
returns-in-Err c = rw c.refused.ensures (call_kept (omega arith) (omega arith) (open_wrong _ _ c.in-Err.ensures))

pub returns-then-asked : goal.returns-then-asked
returns-then-asked c = rw c.refused-then-asked.ensures (call_kept (omega arith) (omega arith) (open_large _ _ c.in-Ok.ensures (omega arith)))

pub returns-in-Ok-take_open : goal.returns-in-Ok-take_open
returns-in-Ok-take_open c =
    call_part (omega arith) (omega arith) (omega arith)
    (open_accepted _ _ c.in-Ok.ensures (omega arith) c.args.words.now (omega arith) (c.in-Ok-take_open.ensures.number, c.in-Ok-take_open.ensures.words) refl)

pub returns-in-Err-take_open : goal.returns-in-Err-take_open
returns-in-Err-take_open c =
    rw (
      c.refused-in-Err-take_open.ensures,
      open_same c.args.words.now _ c.in-Ok.ensures (omega arith) c.args.words.now (omega arith)
          (c.in-Err-take_open.ensures.number, c.in-Err-take_open.ensures.words) (question_some _),
    )
    (call_kept (omega arith) (omega arith)
    (open_kept _ _ c.in-Ok.ensures (omega arith) c.args.words.now (omega arith) (c.in-Err-take_open.ensures.number, c.in-Err-take_open.ensures.words)
    (question_some _) refl))

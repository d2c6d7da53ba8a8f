-- `frames::calls::write` meets its contract.
use Rattle.std.proofs.Common.{◌≡◌, refl, length, arith}
use Rattle.std.proofs.lemmas.Result.{err_from_is_err_and}
use Rattle.frames.proofs.Carried.{question_some, write_wrong, write_named, write_refused, write_accepted}
use Rattle.frames.proofs.calls.write.Goals as goal

pub returns-in_err-shelf : goal.returns-in_err-shelf
returns-in_err-shelf c =
    let p = err_from_is_err_and c.from_residual.result c.from_residual.ensures.1 in
    rw (p.1, p.2) (write_wrong _ _ _ c.in_err-shelf.ensures)

pub returns-in_err-take_write : goal.returns-in_err-take_write
returns-in_err-take_write c =
    let p = err_from_is_err_and c.from_residual-in_err-take_write.result c.from_residual-in_err-take_write.ensures.1 in
    let whole : length c.args.output.now ≡ 8192 = omega arith in
    rw (p.1, p.2)
    (write_refused c.args.session.now c.args.bytes.now _ (write_named c.args.session.now c.args.bytes.now c.args.output.now c.in_ok-shelf.ensures)
    (rw whole at c.in_err-take_write.ensures.number) (question_some _) refl)

pub returns : goal.returns
returns c =
    let whole : length c.args.output.now ≡ 8192 = omega arith in
    write_accepted c.args.session.now c.args.bytes.now c.args.output.now
    (write_named c.args.session.now c.args.bytes.now c.args.output.now c.in_ok-shelf.ensures) (rw whole at c.in_ok-take_write.ensures.number) refl whole
    (rw whole at c.in_ok-take_write.ensures.count) c.in_ok-take_write.ensures.output

-- `frames::calls::split` meets its contract.
use Rattle.std.proofs.Common.{refl}
use Rattle.std.proofs.lemmas.Result.{err_from_is_err_and}
use Rattle.frames.proofs.Carried.{split_wrong, split_done}
use Rattle.frames.proofs.calls.split.Goals as goal

pub returns-in_err-take : goal.returns-in_err-take
returns-in_err-take c =
    let p = err_from_is_err_and c.from_residual.result c.from_residual.ensures.1 in
    rw (p.1, p.2) (split_wrong _ _ c.in_err-take.ensures)

pub returns-in_err-take_split : goal.returns-in_err-take_split
returns-in_err-take_split c =
    let p = err_from_is_err_and c.from_residual-in_err-take_split.result c.from_residual-in_err-take_split.ensures.1 in
    rw (p.1, p.2) (split_done _ _ c.in_ok-take.ensures (c.in_err-take_split.ensures.number, c.in_err-take_split.ensures.words) refl)

pub returns : goal.returns
returns c = split_done _ _ c.in_ok-take.ensures (c.in_ok-take_split.ensures.number, c.in_ok-take_split.ensures.words) refl

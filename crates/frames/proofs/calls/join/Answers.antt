-- `frames::calls::join` meets its contract.
use Rattle.std.proofs.Common.{refl}
use Rattle.std.proofs.lemmas.Result.{err_from_is_err_and}
use Rattle.frames.proofs.Carried.{join_wrong, join-done}
use Rattle.frames.proofs.calls.join.Goals as goal

pub returns-in_err-first : goal.returns-in_err-first
returns-in_err-first c =
    let p = err_from_is_err_and c.from_residual.result c.from_residual.ensures.1 in
    rw (p.1, p.2) (join_wrong _ _ c.in_err-first.ensures)

pub returns-in_err-take_join : goal.returns-in_err-take_join
returns-in_err-take_join c =
    let p = err_from_is_err_and c.from_residual-in_err-take_join.result c.from_residual-in_err-take_join.ensures.1 in
    rw (p.1, p.2) (join-done _ _ c.in_ok-first.ensures (c.in_err-take_join.ensures.number, c.in_err-take_join.ensures.words) refl)

pub returns : goal.returns
returns c = join-done _ _ c.in_ok-first.ensures (c.in_ok-take_join.ensures.number, c.in_ok-take_join.ensures.words) refl

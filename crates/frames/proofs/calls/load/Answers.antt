-- `frames::calls::load` meets its contract.
use Rattle.std.proofs.Common.{refl, arith}
use Rattle.std.proofs.lemmas.Result.{err_from_is_err_and}
use Rattle.frames.proofs.Carried.{load_short, load_done}
use Rattle.frames.proofs.calls.load.Goals as goal

pub returns-then-bytes-lt4 : goal.returns-then-bytes-lt4
returns-then-bytes-lt4 c = load_short _ _ c.if-bytes-lt4.true

pub returns-in_err-take_load : goal.returns-in_err-take_load
returns-in_err-take_load c =
    let p = err_from_is_err_and c.from_residual.result c.from_residual.ensures.1 in
    rw (p.1, p.2) (load_done _ _ (omega arith) c.word32.ensures (c.in_err-take_load.ensures.number, c.in_err-take_load.ensures.words) refl)

pub returns : goal.returns
returns c = load_done _ _ (omega arith) c.word32.ensures (c.in_ok-take_load.ensures.number, c.in_ok-take_load.ensures.words) refl

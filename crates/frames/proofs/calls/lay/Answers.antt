-- `frames::calls::lay` meets its contract.
use Rattle.std.proofs.Common.{refl, arith}
use Rattle.std.proofs.lemmas.Result.{err_from_is_err_and}
use lib.Seq.{length-take-le}
use Rattle.frames.proofs.Carried.{lay-short, lay_incomplete, lay_done}
use Rattle.frames.proofs.calls.lay.Goals as goal
use Rattle.frames.proofs.calls.lay.Goals.{then-bytes-lt8-via-then-bytes-lt8, then-bytes-lt8-via-else-bytes-lt8+then-bytes-ne0}

pub returns-then-bytes-lt8 : goal.returns-then-bytes-lt8
returns-then-bytes-lt8 c =
    elim c.then-bytes-lt8.branch [
      | then-bytes-lt8-via-then-bytes-lt8 w ↦ lay-short _ _ w.if-bytes-lt8.true
      | then-bytes-lt8-via-else-bytes-lt8+then-bytes-ne0 w ↦ lay_incomplete _ _ w.if-bytes-ne0.true
    ]

pub returns-in_err-take_lay : goal.returns-in_err-take_lay
returns-in_err-take_lay c =
    let p = err_from_is_err_and c.from_residual.result c.from_residual.ensures.1 in
    rw (p.1, p.2)
    (lay_done _ _ (omega arith) (omega arith) c.word32.ensures c.word32-2.ensures (length-take-le _ _ (omega arith)) c.read_words.ensures (c.in_err-take_lay.ensures.number, c.in_err-take_lay.ensures.words) refl)

pub returns : goal.returns
returns c = lay_done _ _ (omega arith) (omega arith) c.word32.ensures c.word32-2.ensures (length-take-le _ _ (omega arith)) c.read_words.ensures (c.in_ok-take_lay.ensures.number, c.in_ok-take_lay.ensures.words) refl

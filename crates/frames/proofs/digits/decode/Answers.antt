-- `frames::digits::decode` meets its contract.
use Rattle.std.proofs.Common.{◌≡◌, sym, length, arith}
use Rattle.std.proofs.lemmas.Bool.{eqb-true, eqb-false}
use Rattle.frames.proofs.Decoding.{decodes_start, decodes_pair, bad_high, bad_low, decodes_done, too_long, odd}
use Rattle.frames.proofs.digits.decode.Goals as goal

pub returns-then-line-gt-MAX_DIGITS-clause-bytes : goal.returns-then-line-gt-MAX_DIGITS-clause-bytes
returns-then-line-gt-MAX_DIGITS-clause-bytes c = too_long _ (omega arith)

pub loop-i-init : goal.loop-i-init
loop-i-init c = decodes_start _ _

pub returns-in_err-digit_value-clause-bytes : goal.returns-in_err-digit_value-clause-bytes
returns-in_err-digit_value-clause-bytes c =
    rw c.from_residual.ensures (bad_high c.loop-i.invariant c.as_chunks.ensures.front (omega arith) (omega arith) c.in_err-digit_value.ensures.value)

pub returns-in_err-bytes-clause-bytes : goal.returns-in_err-bytes-clause-bytes
returns-in_err-bytes-clause-bytes c =
    rw c.from_residual-in_err-bytes.ensures (bad_low c.loop-i.invariant c.as_chunks.ensures.front (omega arith) (omega arith) c.in_err-bytes.ensures.value)

pub loop-i-preserved : goal.loop-i-preserved
loop-i-preserved c =
    decodes_pair c.loop-i.invariant c.as_chunks.ensures.front (omega arith) (omega arith) (omega arith) c.in_ok-digit_value.ensures.value c.in_ok-bytes.ensures.value

pub returns-then-is_empty-clause-bytes : goal.returns-then-is_empty-clause-bytes
returns-then-is_empty-clause-bytes c =
    let e : c.loop-i.i ≡ length c.as_chunks.result.0.now = omega arith in
    let none = eqb-true _ _ (sym c.if-is_empty.ensures) in
    rw (← e) (decodes_done c.loop-i.invariant (omega arith) (omega arith))

pub returns-else-is_empty-clause-bytes : goal.returns-else-is_empty-clause-bytes
returns-else-is_empty-clause-bytes c = odd _ (omega arith) (λ e. eqb-false _ _ (sym c.if-is_empty.ensures) (omega arith))

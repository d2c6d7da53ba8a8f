-- `track::quantities::quantity_at` meets its contract.
use mathlib.Core.Path.{sym, ap, ◌∙◌}
use native.Mathlib.Omega.{arith}
use borrow.Author.Tests.{ltb-false}
use Rattle.track.specs.Reading.{quantity_of}
use Rattle.track.proofs.Parts.{byte_there}
use Rattle.track.proofs.ReadGroups.{reading_start, reading_full, reading_small, reading_cut, reading_last, reading_more}
use Rattle.track.proofs.quantities.quantity_at.Goals as goal

pub loop-group-init : goal.loop-group-init
loop-group-init c = reading_start _ _

pub returns-in_err-b : goal.returns-in_err-b
returns-in_err-b c = ap quantity_of c.from_residual.ensures ∙ sym (reading_cut c.loop-group.invariant (omega arith) (ltb-false _ _ (sym c.in_err-b.ensures.lookup.0)))

pub overflow_mul-result : goal.overflow_mul-result
overflow_mul-result c = omega (arith, reading_small c.loop-group.invariant (omega arith))

pub overflow_add-result : goal.overflow_add-result
overflow_add-result c = omega (arith, reading_small c.loop-group.invariant (omega arith))

pub returns-then-b-lt128 : goal.returns-then-b-lt128
returns-then-b-lt128 c = let y = byte_there c.in_ok-b.ensures.lookup.3 in sym (reading_last c.loop-group.invariant (omega arith) y.inside y.is c.if-b-lt128.true)

pub overflow_mul-sum : goal.overflow_mul-sum
overflow_mul-sum c = omega (arith, reading_small c.loop-group.invariant (omega arith))

pub overflow_add-sum : goal.overflow_add-sum
overflow_add-sum c = let y = byte_there c.in_ok-b.ensures.lookup.3 in omega (arith, reading_small c.loop-group.invariant (omega arith), y.is, c.type_inv.s c.loop-group.q)

pub loop-group-preserved : goal.loop-group-preserved
loop-group-preserved c = let y = byte_there c.in_ok-b.ensures.lookup.3 in reading_more c.loop-group.invariant (omega arith) y.inside y.is c.if-b-lt128.false (omega (arith, y.is, c.type_inv.s c.loop-group.q))

pub returns : goal.returns
returns c = sym (reading_full c.loop-group.invariant (omega arith))

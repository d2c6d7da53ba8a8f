-- `track::cursor::meta_at` meets its contract.
use mathlib.Core.Path.{sym, ap, ◌∙◌}
use borrow.Author.Tests.{ltb-false}
use native.Mathlib.Omega.{arith}
use Rattle.track.specs.Reading.{event_of}
use Rattle.track.proofs.ReadGroups.{quantity_behind}
use Rattle.track.proofs.Parts.{none_there, some_there, data_inside, data_cut, byte_there, byte_low, byte_high, meta_none, meta_bare, meta_over, meta_end}
use Rattle.track.proofs.cursor.meta_at.Goals as goal

pub returns-in_err-kind : goal.returns-in_err-kind
returns-in_err-kind c = ap event_of c.from_residual.ensures ∙ meta_none _ _ _ (data_cut _ _ (ltb-false _ _ (sym c.in_err-kind.ensures.lookup.0)))

pub returns-then-kind-ge128 : goal.returns-then-kind-ge128
returns-then-kind-ge128 c = meta_none _ _ _ (none_there _ _ (byte_high (byte_there c.in_ok-kind.ensures.lookup.3) (omega (arith, c.if-kind-ge128.true))))

pub overflow_add-q : goal.overflow_add-q
overflow_add-q c = omega (arith, data_inside _ _ (some_there _ _ (byte_low (byte_there c.in_ok-kind.ensures.lookup.3) (omega (arith, c.if-kind-ge128.false)))).0)

pub returns-in_err-size : goal.returns-in_err-size
returns-in_err-size c = ap event_of c.from_residual-in_err-size.ensures ∙ meta_bare _ _ _ (some_there _ _ (byte_low (byte_there c.in_ok-kind.ensures.lookup.3) (omega (arith, c.if-kind-ge128.false)))).0 (sym c.in_err-size.ensures)

pub returns-then-kind-eq-END : goal.returns-then-kind-eq-END
returns-then-kind-eq-END c =
    let d = some_there _ _ (byte_low (byte_there c.in_ok-kind.ensures.lookup.3) (omega (arith, c.if-kind-ge128.false))) in
    c.end_of_track.ensures ∙ meta_end _ _ _ d.0 _ _ (sym c.in_ok-size.ensures) (sym d.1 ∙ c.if-kind-eq-END.true)

pub read_over-requires : goal.read_over-requires
read_over-requires c = quantity_behind _ _ _ _ (sym c.in_ok-size.ensures)

pub returns : goal.returns
returns c =
    let d = some_there _ _ (byte_low (byte_there c.in_ok-kind.ensures.lookup.3) (omega (arith, c.if-kind-ge128.false))) in
    c.read_over.ensures ∙ meta_over _ _ _ d.0 _ _ (sym c.in_ok-size.ensures) (λ e. c.if-kind-eq-END.false (d.1 ∙ e))

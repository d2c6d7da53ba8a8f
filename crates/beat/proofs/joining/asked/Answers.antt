-- `beat::joining::asked` meets its contract.
use mathlib.Core.Path.{sym, ◌∙◌}
use native.Mathlib.Omega.{arith}
use Rattle.model.proofs.Headers.{in_range}
use Rattle.beat.proofs.Joins.{asked_is, few_beats, fit_asks}
use Rattle.beat.proofs.joining.asked.Goals as goal

pub overflow_add-beats_at : goal.overflow_add-beats_at
overflow_add-beats_at c =
    let few = few_beats _ _ _ _ _ (sym c.shelves_ok.ensures ∙ c.if-not-shelves_ok.false) (sym c.differs.ensures ∙ c.if-not-differs.false) (sym c.are_sound.ensures ∙ c.if-not-are_sound.false) (in_range c.args.s.ok).some-ticks in
    omega (arith, few, c.beats_at.ensures, c.beats_at-2.ensures)

pub join_fits-requires : goal.join_fits-requires
join_fits-requires c =
    fit_asks _ _ _ _ _ (sym c.shelves_ok.ensures ∙ c.if-not-shelves_ok.false) (sym c.differs.ensures ∙ c.if-not-differs.false) (sym c.are_sound.ensures ∙ c.if-not-are_sound.false) c.args.s.ok
    (omega (arith, c.if-beats_at-gt-BEATS.false, c.beats_at.ensures, c.beats_at-2.ensures))

pub returns-then-not-join_fits : goal.returns-then-not-join_fits
returns-then-not-join_fits c =
    let room = sym c.join_fits.ensures ∙ c.if-not-join_fits.true in
    grind (arith, asked_is, room)

-- `cuts::seam::from_on` meets its contract.
use mathlib.Core.Path.{◌∙◌}
use Rattle.cuts.proofs.JoinSeam.{on_end, on_other, on_note}
use Rattle.cuts.proofs.seam.from_on.Goals as goal

pub returns-then-notes-eq0 : goal.returns-then-notes-eq0
returns-then-notes-eq0 c = c.starting.ensures ∙ on_end _ _ _ _ _ c.if-notes-eq0.true

pub returns-then-n-d : goal.returns-then-n-d
returns-then-n-d c = c.starting-then-n-d.ensures ∙ on_other _ _ _ _ _ c.if-notes-eq0.false c.args.notes.fits (rw c.place.ensures at c.note_at-n.ensures) c.if-n-d.true

pub returns-then-stands_alone : goal.returns-then-stands_alone
returns-then-stands_alone c = on_note _ _ _ _ _ c.if-notes-eq0.false c.args.notes.fits (rw c.place.ensures at c.note_at-n.ensures) c.stands_alone.ensures c.if-stands_alone.true c.if-n-d.false

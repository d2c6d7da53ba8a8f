-- `cuts::lanes::behind_seam` meets its contract.
use Rattle.cuts.proofs.LaneSeam.{back-apart, back_whole, back_none, back_other, back-first}
use Rattle.cuts.proofs.lanes.behind_seam.Goals as goal

pub returns-in_default-clause-back : goal.returns-in_default-clause-back
returns-in_default-clause-back c = back-apart _ _ _ _ c.in_default.is

pub returns-then-not-over-clause-back : goal.returns-then-not-over-clause-back
returns-then-not-over-clause-back c = back_whole _ _ _ _ c.in-Some.is c.if-not-over.true

pub returns-then-from-eq0-clause-back : goal.returns-then-from-eq0-clause-back
returns-then-from-eq0-clause-back c = back_none _ _ _ _ c.in-Some.is c.if-not-over.false c.if-from-eq0.true

pub returns-then-n-lane-clause-back : goal.returns-then-n-lane-clause-back
returns-then-n-lane-clause-back c = back_other _ _ _ _ c.in-Some.is c.if-not-over.false c.if-from-eq0.false c.args.from.fits (rw c.place.ensures at c.note_at-n.ensures) c.if-n-lane.true

pub returns-clause-back : goal.returns-clause-back
returns-clause-back c =
    rw c.keep.ensures.left_is
    (back-first _ _ _ _ c.in-Some.is c.if-not-over.false c.if-from-eq0.false c.args.from.fits (rw c.place.ensures at c.note_at-n.ensures) c.if-n-lane.false)

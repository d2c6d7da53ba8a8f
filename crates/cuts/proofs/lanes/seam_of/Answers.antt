-- `cuts::lanes::seam_of` meets its contract.
use mathlib.Core.Path.{ap}
use mathlib.Core.Bool.{not}
use Rattle.cuts.proofs.LaneSeam.{seam_no_first, seam_no_second, seam_other, seam_unbound, over_asks, seam_bound}
use Rattle.cuts.proofs.lanes.seam_of.Goals as goal

pub returns-then-rest-first : goal.returns-then-rest-first
returns-then-rest-first c = seam_no_first c.args.at.tick_is c.requires c.if-rest-first.true

pub returns-then-second-eq0 : goal.returns-then-second-eq0
returns-then-second-eq0 c = seam_no_second c.args.at.tick_is c.requires c.if-second-eq0.true

pub returns-then-d-lane : goal.returns-then-d-lane
returns-then-d-lane c = seam_other c.args.at.tick_is c.requires c.if-second-eq0.false (rw c.place.ensures at c.cell_at-d.ensures) c.if-d-lane.true

pub returns-then-not-bound_over : goal.returns-then-not-bound_over
returns-then-not-bound_over c =
    seam_unbound c.args.at.tick_is c.requires c.if-second-eq0.false (rw c.place.ensures at c.cell_at-d.ensures) c.if-rest-first.false c.cell_at-c.ensures c.if-d-lane.false
    c.bound_over.ensures (ap not c.if-not-bound_over.true)

pub seam_over-requires : goal.seam_over-requires
seam_over-requires c = over_asks c.args.at.tick_is c.requires c.if-second-eq0.false (rw c.place.ensures at c.cell_at-d.ensures) c.if-rest-first.false c.cell_at-c.ensures c.if-d-lane.false

pub returns : goal.returns
returns c =
    seam_bound c.args.at.tick_is c.requires c.if-second-eq0.false (rw c.place.ensures at c.cell_at-d.ensures) c.if-rest-first.false c.cell_at-c.ensures c.if-d-lane.false
    c.bound_over.ensures (ap not c.if-not-bound_over.false) c.seam_over.ensures

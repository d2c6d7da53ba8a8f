-- `cuts::lanes::kept_notes` meets its contract.
use Rattle.cuts.proofs.LaneSeam.{kept-all, kept_less}
use mathlib.Core.Path.{◌∙◌}
use Rattle.cuts.proofs.lanes.kept_notes.Goals as goal

pub returns-then-seam : goal.returns-then-seam
returns-then-seam c = c.saturating_sub.ensures ∙ kept_less _ _ c.if-seam.true

pub returns : goal.returns
returns c = kept-all _ _ c.if-seam.false

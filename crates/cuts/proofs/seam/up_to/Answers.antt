-- `cuts::seam::up_to` meets its contract.
use Rattle.cuts.proofs.JoinSeam.{up_last}
use Rattle.cuts.proofs.seam.up_to.Goals as goal

pub returns-then-stands_alone : goal.returns-then-stands_alone
returns-then-stands_alone c = up_last _ _ _ c.args.notes.fits c.requires c.stands_alone.ensures c.if-rest-notes.false c.if-stands_alone.true c.note_at.ensures

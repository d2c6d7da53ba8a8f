-- `session::shelf::put_frame` meets its contract.
use Rattle.session.proofs.Frames.{frame_done}
use Rattle.session.proofs.shelf.put_frame.Goals as goal

pub returns : goal.returns
returns c = frame_done c.args.s.now c.args.at c.args.words c.args.beats c.args.notes c.args.cells _ c.put.ensures _ (rw c.words_used-used.ensures at c.zero_fill.ensures)

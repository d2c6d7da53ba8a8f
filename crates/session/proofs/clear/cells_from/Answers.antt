-- `session::clear::cells_from` meets its contract.
use Rattle.session.proofs.Wholes.{found_from}
use Rattle.session.proofs.clear.cells_from.Goals as goal

pub returns : goal.returns
returns c = found_from c.args.part.now c.args.end c.args.left c.requires.0 c.requires.1 _ _ _ c.as_chunks.ensures.front c.from_beat.ensures

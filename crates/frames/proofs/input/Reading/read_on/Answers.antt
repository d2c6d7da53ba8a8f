-- `frames::input::Reading::read_on` meets its contract.
use Rattle.frames.proofs.Inputs.{read_whole}
use Rattle.frames.proofs.input.Reading.read_on.Goals as goal

pub returns : goal.returns
returns c = rw (← c.self.view_is) (read_whole (rw c.reached-p.ensures at c.read_on-q.ensures))

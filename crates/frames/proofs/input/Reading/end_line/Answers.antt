-- `frames::input::Reading::end_line` meets its contract.
use Rattle.frames.proofs.input.Reading.end_line.Goals as goal

pub returns : goal.returns
returns c = let one = rw c.reached-p.ensures at c.end_line-ended.ensures in rw (← c.self.view_is) one.one

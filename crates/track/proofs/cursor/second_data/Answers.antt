-- `track::cursor::second_data` meets its contract.
use mathlib.Core.Path.{ap, ◌∙◌}
use native.Mathlib.Omega.{arith}
use Rattle.track.specs.Reading.{event_of}
use Rattle.track.proofs.Parts.{none_there, some_there, data_inside, second_none, second_there}
use Rattle.track.proofs.cursor.second_data.Goals as goal

pub returns-in_err-velocity : goal.returns-in_err-velocity
returns-in_err-velocity c = ap event_of c.from_residual.ensures ∙ second_none _ _ _ _ _ (none_there _ _ c.in_err-velocity.ensures)

pub overflow_add-next : goal.overflow_add-next
overflow_add-next c = omega (arith, data_inside _ _ (some_there _ _ c.in_ok-velocity.ensures).0)

pub returns : goal.returns
returns c = let d = some_there _ _ c.in_ok-velocity.ensures in second_there _ _ _ _ _ d.0 _ (rw d.1 at c.channel_message.ensures)

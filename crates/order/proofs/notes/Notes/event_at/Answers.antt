-- `order::notes::Notes::event_at` meets its contract.
use mathlib.Core.Path.{refl, ◌∙◌}
use Rattle.order.specs.Events.{event_read}
use Rattle.order.proofs.notes.Notes.event_at.Goals as goal

pub returns : goal.returns
returns c = c.number.ensures ∙ rw c.velocity_at.ensures (event_read _ _ _ _ _ c.requires refl refl)

-- `track::cursor::any_event` meets its contract.
use mathlib.Core.Path.{sym, ap, ◌∙◌}
use native.Mathlib.Omega.{arith}
use Rattle.track.specs.Reading.{event_of}
use Rattle.track.proofs.ReadGroups.{quantity_small}
use Rattle.track.proofs.Parts.{event-none, event-behind}
use Rattle.track.proofs.cursor.any_event.Goals as goal

pub returns-in_err-time : goal.returns-in_err-time
returns-in_err-time c = ap event_of c.from_residual.ensures ∙ event-none _ _ (sym c.in_err-time.ensures)

pub overflow_add-tick : goal.overflow_add-tick
overflow_add-tick c = omega (arith, c.requires, quantity_small _ _ _ _ (sym c.in_ok-time.ensures) (λ i. omega (arith, c.type_inv.s i)))

pub returns : goal.returns
returns c = c.behind_time.ensures ∙ event-behind _ _ _ _ (sym c.in_ok-time.ensures)

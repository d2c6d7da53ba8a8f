-- `track::cursor::sysex_at` meets its contract.
use mathlib.Core.Path.{sym, ap, ◌∙◌}
use Rattle.track.specs.Reading.{event_of}
use Rattle.track.proofs.ReadGroups.{quantity_behind}
use Rattle.track.proofs.Parts.{sysex_none, sysex_over}
use Rattle.track.proofs.cursor.sysex_at.Goals as goal

pub returns-in_err-size : goal.returns-in_err-size
returns-in_err-size c = ap event_of c.from_residual.ensures ∙ sysex_none _ _ _ (sym c.in_err-size.ensures)

pub read_over-requires : goal.read_over-requires
read_over-requires c = quantity_behind _ _ _ _ (sym c.in_ok-size.ensures)

pub returns : goal.returns
returns c = c.read_over.ensures ∙ sysex_over _ _ _ _ _ (sym c.in_ok-size.ensures)

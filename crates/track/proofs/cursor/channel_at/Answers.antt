-- `track::cursor::channel_at` meets its contract.
use mathlib.Core.Path.{sym, ap, ◌∙◌}
use native.Mathlib.Omega.{arith}
use borrow.Author.Tests.{eqb-true, eqb-false}
use Rattle.track.specs.Reading.{event_of}
use Rattle.track.proofs.Parts.{none_there, some_there, data_inside, channel_none, channel_one, channel_two}
use Rattle.track.proofs.cursor.channel_at.Goals as goal

pub returns-in_err-key : goal.returns-in_err-key
returns-in_err-key c = ap event_of c.from_residual.ensures ∙ channel_none _ _ _ _ (none_there _ _ c.in_err-key.ensures)

pub overflow_add-q : goal.overflow_add-q
overflow_add-q c = omega (arith, data_inside _ _ (some_there _ _ c.in_ok-key.ensures).0)

pub second_data-requires : goal.second_data-requires
second_data-requires c = (some_there _ _ c.in_ok-key.ensures).2

pub returns-then-not-has_one_byte : goal.returns-then-not-has_one_byte
returns-then-not-has_one_byte c = let d = some_there _ _ c.in_ok-key.ensures in c.second_data.ensures ∙ rw d.1 (channel_two _ _ _ _ d.0 (eqb-false _ _ (sym c.if-not-has_one_byte.ensures)))

pub overflow_add-next : goal.overflow_add-next
overflow_add-next c = omega (arith, data_inside _ _ (some_there _ _ c.in_ok-key.ensures).0)

pub returns : goal.returns
returns c = channel_one _ _ _ _ (some_there _ _ c.in_ok-key.ensures).0 (eqb-true _ _ (sym c.if-not-has_one_byte.ensures))

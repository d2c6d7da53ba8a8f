-- `track::cursor::data_at` meets its contract.
use mathlib.Core.Path.{sym, ◌∙◌}
use borrow.Author.Tests.{ltb-false}
use Rattle.track.proofs.Parts.{byte_there, byte_low, byte_high, data_cut, data_none}
use Rattle.track.proofs.cursor.data_at.Goals as goal

pub returns-in_err-b : goal.returns-in_err-b
returns-in_err-b c = c.from_residual.ensures ∙ data_none _ _ (data_cut _ _ (ltb-false _ _ (sym c.in_err-b.ensures.lookup.0)))

pub returns-then-b-lt128 : goal.returns-then-b-lt128
returns-then-b-lt128 c = byte_low (byte_there c.in_ok-b.ensures.lookup.3) c.if-b-lt128.true

pub returns-else-b-lt128 : goal.returns-else-b-lt128
returns-else-b-lt128 c = byte_high (byte_there c.in_ok-b.ensures.lookup.3) c.if-b-lt128.false

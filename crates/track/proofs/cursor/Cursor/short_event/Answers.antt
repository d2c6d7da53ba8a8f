-- `track::cursor::Cursor::short_event` meets its contract.
use Rattle.std.proofs.Common.{arith}
use Rattle.track.proofs.Parts.{event_short}
use Rattle.track.proofs.cursor.Cursor.short_event.Goals as goal

pub returns : goal.returns
returns c = rw c.form-form.ensures (event_short c.args.s.now _ (λ i. omega (arith, c.type_inv.s i)) c.requires.1 _ (rw c.form-form.ensures at c.note_message.ensures))

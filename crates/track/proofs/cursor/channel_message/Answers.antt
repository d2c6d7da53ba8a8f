-- `track::cursor::channel_message` meets its contract.
use mathlib.Core.Path.{sym}
use borrow.Author.Tests.{eqb-false}
use Rattle.track.proofs.Parts.{note_not}
use Rattle.track.proofs.cursor.channel_message.Goals as goal

pub returns : goal.returns
returns c = note_not _ _ _ (eqb-false _ _ (sym c.if-is_note.ensures))

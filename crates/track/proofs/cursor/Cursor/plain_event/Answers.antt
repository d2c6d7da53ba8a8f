-- `track::cursor::Cursor::plain_event` meets its contract.
use Rattle.track.proofs.Parts.{event_plain}
use Rattle.track.proofs.cursor.Cursor.plain_event.Goals as goal

pub returns : goal.returns
returns c = event_plain _ _ c.requires.1 _ c.note_message.ensures

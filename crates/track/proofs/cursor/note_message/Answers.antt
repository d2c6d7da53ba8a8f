-- `track::cursor::note_message` meets its contract.
use Rattle.track.proofs.Parts.{note_plays}
use Rattle.track.proofs.cursor.note_message.Goals as goal

pub returns : goal.returns
returns c = note_plays _ _ _ _ c.requires.0 c.requires.1 c.start_velocity.ensures

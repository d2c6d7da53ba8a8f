-- The events of some notes. Assumes nothing.
use Rattle.std.specs.Prelude.{List, ℕ}
use Rattle.order.specs.declared.notes.Notes.{Notes}
use Rattle.order.specs.Events.{events}

-- the events of the notes: each note's start, then its end
abbrev pub events_of : Notes → List ℕ
events_of notes = events notes.words.now 0 notes.count

-- `beat::cells::put_note` meets its contract.
use Rattle.beat.proofs.Makes.{first_asks, lines_asks, note_made}
use Rattle.beat.proofs.cells.put_note.Goals as goal

pub put_first-to-requires : goal.put_first-to-requires
put_first-to-requires c = rw c.beat_of-first.ensures (first_asks c.requires)

pub put_lines-requires : goal.put_lines-requires
put_lines-requires c = rw c.beat_of-first.ensures (lines_asks c.requires (rw c.beat_of-first.ensures at c.put_first-to.ensures))

pub returns : goal.returns
returns c = note_made c.requires (rw c.beat_of-first.ensures at c.put_first-to.ensures) (rw c.beat_of-first.ensures at c.put_lines.ensures)

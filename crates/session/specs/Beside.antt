-- The cells that are left behind a note, as lists. Assumes nothing.
use Rattle.std.specs.Prelude.{List, Option, Some, None}
use Rattle.model.specs.declared.Cell.{Cell}
use Rattle.session.specs.Sliced.{cells_of}
use Rattle.session.specs.declared.sound.Left.{Left}

abbrev pub left_of : Option Left → Option (List Cell × List Cell)
left_of None = None
left_of (Some l) = Some (cells_of l.beside.now, cells_of l.line.now)

-- `beat::cells::put_line` meets its contract.
use Rattle.beat.proofs.Makes.{crossed}
use Rattle.beat.proofs.cells.put_line.Goals as goal

pub returns : goal.returns
returns c = crossed _ _ _ _ _ c.put_cell.ensures c.put_cell-2.ensures

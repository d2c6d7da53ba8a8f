-- `beat::cells::put_lines` meets its contract. The measure is how many ticks of the note are left.
use Rattle.beat.proofs.Makes.{line_asks, lining_line, last_asks, lines-done}
use native.Mathlib.Omega.{arith}
use Rattle.beat.proofs.cells.put_lines.Goals as goal

pub put_line-requires : goal.put_line-requires
put_line-requires c = line_asks c.requires c.loop-line.invariant c.loop-line-test.true

pub overflow_add-to : goal.overflow_add-to
overflow_add-to c = omega (arith, line_asks c.requires c.loop-line.invariant c.loop-line-test.true)

pub loop-line-preserved : goal.loop-line-preserved
loop-line-preserved c = lining_line c.requires c.loop-line.invariant c.loop-line-test.true c.put_line.ensures

pub put_last-requires : goal.put_last-requires
put_last-requires c = last_asks c.requires c.loop-line.invariant c.loop-line-test.false

pub returns : goal.returns
returns c = lines-done c.requires c.loop-line.invariant c.loop-line-test.false c.put_last.ensures

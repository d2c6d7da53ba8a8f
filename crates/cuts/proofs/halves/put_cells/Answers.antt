-- `cuts::halves::put_cells` meets its contract.
use native.Mathlib.Omega.{arith}
use Rattle.cuts.proofs.BothPasses.{celling_start, cell_asks, celling_cell, cells-done}
use Rattle.cuts.proofs.halves.put_cells.Goals as goal

pub loop-left-init : goal.loop-left-init
loop-left-init c = celling_start c.requires

pub put_cell-at-requires : goal.put_cell-at-requires
put_cell-at-requires c = cell_asks c.requires c.loop-left.invariant c.loop-left-test.true c.cell_at-c.ensures

pub loop-left-preserved : goal.loop-left-preserved
loop-left-preserved c = celling_cell c.requires c.loop-left.invariant c.loop-left-test.true c.cell_at-c.ensures c.put_cell-at.ensures

pub returns : goal.returns
returns c = cells-done c.requires c.loop-left.invariant (omega (arith, c.loop-left-test.false))

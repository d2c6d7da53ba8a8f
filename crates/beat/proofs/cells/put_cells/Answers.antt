-- `beat::cells::put_cells` meets its contract.
use Rattle.beat.proofs.Makes.{celling_start, note_asks, celling_note, celled}
use native.Mathlib.Omega.{arith}
use Rattle.beat.proofs.cells.put_cells.Goals as goal

pub loop-k-init : goal.loop-k-init
loop-k-init c = rw c.new-by.ensures (celling_start c.requires)

pub put_note-to-requires : goal.put_note-to-requires
put_note-to-requires c = note_asks (rw (← c.new-by.ensures) at c.requires) c.loop-k.invariant (omega (arith, c.loop-k-test.true)) c.note_at-n.ensures

pub loop-k-preserved : goal.loop-k-preserved
loop-k-preserved c = celling_note (rw (← c.new-by.ensures) at c.requires) c.loop-k.invariant (omega (arith, c.loop-k-test.true)) c.note_at-n.ensures c.put_note-to.ensures (omega arith)

pub returns : goal.returns
returns c = rw c.new-by.ensures at (celled (rw (← c.new-by.ensures) at c.requires) c.loop-k.invariant (omega (arith, c.loop-k-test.false)))

-- `cuts::halves::put_notes` meets its contract.
use native.Mathlib.Omega.{arith}
use Rattle.cuts.proofs.BothPasses.{noting_start, parts_asks, noting_note, notes-done}
use Rattle.cuts.proofs.halves.put_notes.Goals as goal

pub loop-left-init : goal.loop-left-init
loop-left-init c = noting_start c.args.split.before_ok c.args.split.behind_ok c.requires

pub put_parts-at-requires : goal.put_parts-at-requires
put_parts-at-requires c = parts_asks c.args.split.before_ok c.args.split.behind_ok c.requires c.loop-left.invariant c.loop-left-test.true c.note_at-n.ensures

pub loop-left-preserved : goal.loop-left-preserved
loop-left-preserved c = noting_note c.args.split.before_ok c.args.split.behind_ok c.requires c.loop-left.invariant c.loop-left-test.true c.note_at-n.ensures c.put_parts-at.ensures

pub returns : goal.returns
returns c = notes-done c.args.split.before_ok c.args.split.behind_ok c.requires c.loop-left.invariant (omega (arith, c.loop-left-test.false))

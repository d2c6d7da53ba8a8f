-- `cuts::halves::put_parts` meets its contract.
use native.Mathlib.Omega.{arith}
use Rattle.cuts.proofs.BothParts.{before-room, before-put, behind-room, behind-put}
use Rattle.cuts.proofs.halves.put_parts.Goals as goal

pub put-requires : goal.put-requires
put-requires c = (omega arith, before-room c.args.split.sides c.requires c.if-n-line.true)

pub returns-then-n-line : goal.returns-then-n-line
returns-then-n-line c = before-put c.args.split.sides c.requires c.if-n-line.true (rw c.into.ensures at c.put.ensures)

pub put-requires-then-line-n : goal.put-requires-then-line-n
put-requires-then-line-n c = (omega arith, behind-room c.args.split.sides c.requires c.if-n-line.false c.if-line-n.true)

pub returns-then-line-n : goal.returns-then-line-n
returns-then-line-n c = behind-put c.args.split.sides c.requires c.if-n-line.false c.if-line-n.true (rw c.into-then-line-n.ensures at c.put-then-line-n.ensures)

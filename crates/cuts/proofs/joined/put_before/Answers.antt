-- `cuts::joined::put_before` meets its contract.
use native.Mathlib.Omega.{arith}
use Rattle.cuts.proofs.JoinCells.{lower_asks, behind-lower, before-put}
use Rattle.cuts.proofs.joined.put_before.Goals as goal

pub put_lower-rest-requires : goal.put_lower-rest-requires
put_lower-rest-requires c = lower_asks c.requires

pub put-requires : goal.put-requires
put-requires c = (omega arith, behind-lower c.requires c.put_lower-rest.ensures.put)

pub returns-clause-put : goal.returns-clause-put
returns-clause-put c = before-put c.requires c.put_lower-rest.ensures.put (rw c.into.ensures at c.put.ensures)

-- `beat::opening::put_fresh` meets its contract.
use native.Mathlib.Omega.{arith}
use Rattle.beat.proofs.Opens.{long_enough, fresh_done}
use lib.ListN.{length}
use Rattle.beat.proofs.opening.put_fresh.Goals as goal

pub put-requires : goal.put-requires
put-requires c = omega (arith, long_enough c.args.h (length c.args.s.now) c.requires)

pub zero_fill-requires : goal.zero_fill-requires
zero_fill-requires c = omega (arith, long_enough c.args.h (length c.args.s.now) c.requires)

pub returns : goal.returns
returns c = fresh_done _ _ c.requires _ c.put.ensures _ c.zero_fill.ensures

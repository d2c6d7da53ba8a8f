-- `session::beats::Divisor::cell_count` meets its contract.
use native.Mathlib.Omega.{arith}
use Rattle.session.proofs.Counts.{sides_between}
use Rattle.session.proofs.beats.Divisor.cell_count.Goals as goal

pub overflow_sub-result : goal.overflow_sub-result
overflow_sub-result c = let d = c.args.self in omega (arith, sides_between d.delta c.args.n (d.some, d.few, c.requires.0, c.requires.1))

pub returns : goal.returns
returns c = let d = c.args.self in omega (arith, sides_between d.delta c.args.n (d.some, d.few, c.requires.0, c.requires.1))

-- `session::beats::Divisor::beat_of` meets its contract.
use native.Mathlib.Nat.{div-le_self}
use native.Mathlib.Omega.{arith}
use Rattle.session.proofs.Quotients.{by_product, tick_product_fits}
use Rattle.session.proofs.beats.Divisor.beat_of.Goals as goal

pub overflow_mul-result : goal.overflow_mul-result
overflow_mul-result c = let d = c.args.self in omega (arith, tick_product_fits d.delta c.args.tick d.some d.few c.requires d.inverse)

pub overflow_cast-result-2 : goal.overflow_cast-result-2
overflow_cast-result-2 c = let d = c.args.self in omega (arith, by_product d.delta c.args.tick d.some d.few c.requires d.inverse, div-le_self c.args.tick d.delta)

pub returns : goal.returns
returns c = let d = c.args.self in by_product d.delta c.args.tick d.some d.few c.requires d.inverse

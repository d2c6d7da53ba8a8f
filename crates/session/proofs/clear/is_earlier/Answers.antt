-- `session::clear::is_earlier` meets its contract.
use native.Mathlib.Omega.{arith}
use Rattle.laws.specs.Sweep.{earlier}
use Rattle.session.proofs.WaysOut.{one_number}
use Rattle.session.proofs.clear.is_earlier.Goals as goal

pub returns : goal.returns
unfolding earlier
returns c = one_number _ _ _ _ (omega arith) (omega arith) c.lane_order.ensures c.lane_order-2.ensures

-- `session::neighbours::neighbours_ok` meets its contract.
use native.Mathlib.Omega.{arith}
use Rattle.std.specs.Prelude.{◌<◌}
use Rattle.std.specs.Cmp.{ranked}
use Rattle.std.proofs.Common.{Less, Greater}
use Rattle.session.proofs.WaysOut.{order_no, two_beats}
use Rattle.session.proofs.neighbours.neighbours_ok.Goals as goal

pub returns-in-Less : goal.returns-in-Less
returns-in-Less c =
    two_beats _ _ _ (omega arith) (omega arith) c.lane_order-c_at.ensures c.lane_order-d_at.ensures (ranked _ _ Less c.in-Less.ensures) c.two_beats_ok.ensures

pub returns-in-Greater : goal.returns-in-Greater
returns-in-Greater c =
    let more : c.lane_order-d_at.result < c.lane_order-c_at.result = ranked _ _ Greater c.in-Greater.ensures in
    order_no _ _ _ (omega arith) (omega arith) c.lane_order-c_at.ensures c.lane_order-d_at.ensures (omega arith) (λ e. omega arith)

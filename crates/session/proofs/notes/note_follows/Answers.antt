-- `session::notes::note_follows` meets its contract.
use native.Mathlib.Omega.{arith}
use Rattle.model.specs.Soundness.{follows}
use Rattle.session.proofs.WaysOut.{one-number-within}
use Rattle.session.proofs.notes.note_follows.Goals as goal

pub returns : goal.returns
unfolding follows
returns c = one-number-within _ _ _ _ (omega arith) (omega arith) c.lane_order.ensures c.lane_order-2.ensures

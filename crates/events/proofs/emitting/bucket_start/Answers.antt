-- `events::emitting::bucket_start` meets its contract.
use native.Mathlib.Omega.{arith}
use Rattle.events.proofs.BucketLoops.{start_first, start_later}
use Rattle.events.proofs.emitting.bucket_start.Goals as goal

pub returns-then-v-eq0 : goal.returns-then-v-eq0
returns-then-v-eq0 c = start_first _ _ c.if-v-eq0.true

pub returns-else-v-eq0 : goal.returns-else-v-eq0
returns-else-v-eq0 c = start_later _ _ (omega (arith, c.if-v-eq0.false))

-- `events::emitting::put_buckets` meets its contract.
use lib.ListN.{get_or}
use Rattle.events.proofs.BucketLoops.{Emitting}
use Rattle.events.proofs.emitting.put_buckets.Given as goal

abbrev pub invariant-loop-v : goal.invariant-loop-v
invariant-loop-v l = Emitting l.width l.first (get_or l.starts l.first 0) (get_or l.ticks l.first 0) l.ends l.initial.out l.v l.out

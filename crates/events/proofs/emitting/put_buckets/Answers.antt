-- `events::emitting::put_buckets` meets its contract.
use native.Mathlib.Omega.{arith}
use Rattle.events.proofs.BucketLoops.{emitting_at, emitting_bucket, emitting_next, emitting_over}
use Rattle.events.proofs.emitting.put_buckets.Goals as goal

pub put_bucket-requires : goal.put_bucket-requires
put_bucket-requires c =
    let s = c.requires in
    let t = s.1 in
    (record { limits = t.limits; here = omega (arith, t.here); places = t.places; times = t.times }, s.2, emitting_bucket s.2 s.3 (omega arith) (emitting_at _ (omega arith) c.loop-v.invariant))

pub loop-v-preserved : goal.loop-v-preserved
loop-v-preserved c = let s = c.requires in emitting_next s.2 s.3 (omega arith) (emitting_at _ (omega arith) c.loop-v.invariant) c.put_bucket.ensures

pub returns : goal.returns
returns c = emitting_over (omega arith) c.loop-v.invariant

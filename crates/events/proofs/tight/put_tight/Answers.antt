-- `events::tight::put_tight` meets its contract: the bytes of the buckets passed are written.
use mathlib.Core.Path.{◌≡◌, refl}
use native.Mathlib.Omega.{arith}
use Rattle.events.proofs.TightLoops.{tight_start, tight_bucket, tight_more, last-start, tight_rest}
use Rattle.events.proofs.tight.put_tight.Goals as goal
use Rattle.events.proofs.tight.put_tight.Goals.{else-loop-v-test, then-loop-v-test+in-Some+then-upto-all, then-loop-v-test+in_default}

pub loop-v-init : goal.loop-v-init
loop-v-init c = (tight_start _ _ _, refl)

pub put_tight_bucket-put-requires : goal.put_tight_bucket-put-requires
put_tight_bucket-put-requires c =
    let r = c.requires.2 in
    (tight_bucket c.requires.0 c.loop-v.invariant.0 refl, record { here = omega (arith, r.here); there = omega (arith, r.there); table = omega (arith, r.table) })

pub loop-v-preserved : goal.loop-v-preserved
loop-v-preserved c = (tight_more c.requires.0 c.loop-v.invariant.0 refl c.put_tight_bucket-put.ensures (omega arith) c.in-Some.is, c.loop-v.invariant.1)

pub returns : goal.returns
returns c =
    let i = c.loop-v.invariant in
    elim c.loop-v-test.branch [
      | else-loop-v-test w ↦ rw (w.bucket-is, w.out-is, w.from-is, w.tick-is, i.1) (let e : c.loop-v.v ≡ 2047 = omega (arith, w.loop-v-test.false) in rw e at i.0)
      | then-loop-v-test+in-Some+then-upto-all w ↦ rw (w.bucket-is, w.out-is, w.from-is, w.tick-is, i.1)
          (let t = tight_more c.requires.0 i.0 refl w.put_tight_bucket-put.ensures (omega (arith, w.loop-v-test.true)) w.in-Some.is in
          tight_rest c.requires.0 t (last-start _ _ w.if-upto-all.true))
      | then-loop-v-test+in_default w ↦ rw (w.bucket-is, w.out-is, w.from-is, w.tick-is, (w.put_tight_bucket-put.ensures.loose w.in_default.is).1) i.0
    ]

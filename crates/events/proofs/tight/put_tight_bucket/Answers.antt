-- `events::tight::put_tight_bucket` meets its contract.
use native.Mathlib.Omega.{arith}
use Rattle.events.proofs.Sorting.{sorted_up, sorted_size, sorted_timed}
use Rattle.events.proofs.TightLoops.{tight_empty, tight_one}
use Rattle.events.proofs.tight.put_tight_bucket.Goals as goal

pub returns-then-upto-from : goal.returns-then-upto-from
returns-then-upto-from c = tight_empty c.requires.0 c.if-upto-from.true

pub times_short-requires : goal.times_short-requires
times_short-requires c =
    let s = c.requires.0 in
    let e = sorted_up s.holds _ c.requires.1.here c.read_sorted.ensures in
    (sorted_timed s _ e, omega (arith, sorted_size s _ e), tight_one s _ e)

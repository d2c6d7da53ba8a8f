-- `events::tight::put_tight` meets its contract: the bytes of the buckets passed are written.
use mathlib.Core.Path.{◌≡◌}
use Prim.Native.Nat.{◌+◌, ◌*◌}
use Rattle.events.specs.Tight.{TightPut}
use Rattle.events.proofs.tight.put_tight.Given as goal

abbrev pub invariant-loop-v : goal.invariant-loop-v
invariant-loop-v l = TightPut l.width l.ends l.initial.out l.out l.v (22 + 4 * l.from) l.tick × (l.bucket ≡ 2047)

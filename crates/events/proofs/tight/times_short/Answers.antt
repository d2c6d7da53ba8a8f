-- `events::tight::times_short` meets its contract.
use mathlib.Core.Path.{sym}
use mathlib.Core.Bool.{true≢false}
use Prim.Native.Nat.{◌-◌}
use native.Mathlib.Omega.{arith}
use borrow.Author.Tests.{ltb-true}
use Rattle.events.proofs.TightLoops.{first-tick, times_short_lem}
use Rattle.events.proofs.tight.times_short.Goals as goal

pub returns-then-width-gt128 : goal.returns-then-width-gt128
returns-then-width-gt128 c = λ e. absurd (true≢false (sym e))

pub tick_of-requires : goal.tick_of-requires
tick_of-requires c = let p = c.requires in omega (arith, (first-tick p.0 p.1).1)

pub overflow_sub-result : goal.overflow_sub-result
overflow_sub-result c = let p = c.requires in omega (arith, (first-tick p.0 p.1).0, c.tick_of.ensures)

pub returns : goal.returns
returns c = let p = c.requires in λ e. times_short_lem p.0 p.1 p.2 (omega (arith, c.if-width-gt128.false)) (omega (arith, ltb-true (c.tick_of.result - c.args.tick) 128 e, c.tick_of.ensures))

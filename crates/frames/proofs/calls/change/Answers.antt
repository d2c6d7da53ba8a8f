-- `frames::calls::change` meets its contract.
use Rattle.std.proofs.Common.{arith}
use Rattle.frames.proofs.Carried.{nothing}
use Rattle.frames.proofs.Dispatch.{change_lay, change_split, change_join, change_load, change_unknown}
use Rattle.frames.proofs.calls.change.Goals as goal

pub returns-in-2 : goal.returns-in-2
returns-in-2 c = rw (change_lay _ c.in-2.is) c.lay.ensures

pub returns-in-3 : goal.returns-in-3
returns-in-3 c = rw (change_split _ c.in-3.is) c.split.ensures

pub returns-in-4 : goal.returns-in-4
returns-in-4 c = rw (change_join _ c.in-4.is) c.join.ensures

pub returns-in-6 : goal.returns-in-6
returns-in-6 c = rw (change_load _ c.in-6.is) c.load.ensures

pub returns-in_default : goal.returns-in_default
returns-in_default c = nothing _ (change_unknown _ (λ e. omega arith) (λ e. omega arith) (λ e. omega arith) (λ e. omega arith))

-- `track::putting::group_count` meets its contract: the number of bits from the leading zeros, seven to a group.
use Rattle.midi.proofs.Groups.{groups_by_zeros}
use Rattle.track.proofs.Groups.{group_of_few}
use lib.Count.{leading_le}
use native.Mathlib.Omega.{arith}
use Rattle.track.proofs.putting.group_count.Goals as goal

pub returns-then-x-lt128 : goal.returns-then-x-lt128
returns-then-x-lt128 c = group_of_few _ c.if-x-lt128.true

pub overflow_sub-result : goal.overflow_sub-result
overflow_sub-result c = omega (arith, leading_le 32 c.args.x)

pub returns : goal.returns
returns c = groups_by_zeros c.args.x (omega arith) c.requires

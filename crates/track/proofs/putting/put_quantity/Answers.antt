-- `track::putting::put_quantity` meets its contract, by the count of groups.
use Rattle.words.specs.Splice.{splice}
use Rattle.track.proofs.Groups.{one_group, two_groups, three_groups, four_groups}
use lib.ListN.{length}
use mathlib.Core.Path.{sym, ap, ◌∙◌}
use native.Mathlib.Omega.{arith}
use Rattle.track.proofs.putting.put_quantity.Goals as goal

pub returns-then-groups-eq1 : goal.returns-then-groups-eq1
unfolding splice
returns-then-groups-eq1 c = let h = one_group _ (sym c.group_count-groups.ensures ∙ c.if-groups-eq1.true) in (omega (arith, ap length h), rw h)

pub returns-then-groups-eq2 : goal.returns-then-groups-eq2
returns-then-groups-eq2 c = let h = two_groups _ (sym c.group_count-groups.ensures ∙ c.if-groups-eq2.true) in (omega (arith, ap length h), rw h c.put.ensures)

pub returns-then-groups-eq3 : goal.returns-then-groups-eq3
returns-then-groups-eq3 c = let h = three_groups _ (sym c.group_count-groups.ensures ∙ c.if-groups-eq3.true) in (omega (arith, ap length h), rw h c.put-then-groups-eq3.ensures)

pub put-requires-2 : goal.put-requires-2
put-requires-2 c = let h = four_groups _ (λ d. c.if-groups-eq1.false (c.group_count-groups.ensures ∙ d)) (λ d. c.if-groups-eq2.false (c.group_count-groups.ensures ∙ d)) (λ d. c.if-groups-eq3.false (c.group_count-groups.ensures ∙ d)) in omega (arith, ap length h)

pub returns : goal.returns
returns c = let h = four_groups _ (λ d. c.if-groups-eq1.false (c.group_count-groups.ensures ∙ d)) (λ d. c.if-groups-eq2.false (c.group_count-groups.ensures ∙ d)) (λ d. c.if-groups-eq3.false (c.group_count-groups.ensures ∙ d)) in (omega (arith, ap length h), rw h c.put-2.ensures)

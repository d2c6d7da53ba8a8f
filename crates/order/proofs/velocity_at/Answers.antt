-- `order::velocity_at` meets its contract.
use borrow.Author.Tests.{eq-eqb, ne_eqb}
use Rattle.order.specs.Events.{velocity_of}
use Rattle.order.proofs.velocity_at.Goals as goal

pub returns-then-odd-eq0 : goal.returns-then-odd-eq0
unfolding velocity_of
returns-then-odd-eq0 c = rw (eq-eqb _ _ c.if-odd-eq0.true)

pub returns-else-odd-eq0 : goal.returns-else-odd-eq0
unfolding velocity_of
returns-else-odd-eq0 c = rw (ne_eqb _ _ c.if-odd-eq0.false)

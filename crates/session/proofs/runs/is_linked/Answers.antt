-- `session::runs::is_linked` meets its contract.
use Rattle.session.proofs.Chains.{linked-opening, linked-alone, linked-apart, linked-bound}
use Rattle.session.proofs.runs.is_linked.Goals as goal

pub returns-then-c-eq0 : goal.returns-then-c-eq0
returns-then-c-eq0 c = linked-opening c.args.h c.args.c c.if-c-eq0.true _

pub returns-in_default : goal.returns-in_default
returns-in_default c = linked-alone c.args.h c.args.c c.if-c-eq0.false c.in_default.ensures

pub returns-then-meets : goal.returns-then-meets
returns-then-meets c = linked-bound c.args.h c.args.c c.if-c-eq0.false c.in-Some.ensures c.meets.ensures c.if-meets.true c.is_bound.ensures

pub returns-else-meets : goal.returns-else-meets
returns-else-meets c = linked-apart c.args.h c.args.c c.if-c-eq0.false c.in-Some.ensures c.meets.ensures c.if-meets.false

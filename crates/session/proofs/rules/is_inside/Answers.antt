-- `session::rules::is_inside` meets its contract.
use Rattle.session.proofs.WaysOut.{inside_end, inside_not}
use Rattle.session.proofs.rules.is_inside.Goals as goal

pub returns-then-line-n : goal.returns-then-line-n
returns-then-line-n c = inside_end c.args.delta c.args.n c.requires c.if-line-n.true

pub returns-else-line-n : goal.returns-else-line-n
returns-else-line-n c = inside_not c.args.delta c.args.n c.requires c.if-line-n.false

-- `session::clear::is_clear_of_two` meets its contract.
use Rattle.session.proofs.Chains.{clear_of_none, clear_of_one, not_clear, clear_of_both}
use Rattle.session.proofs.clear.is_clear_of_two.Goals as goal

pub returns-in_default : goal.returns-in_default
returns-in_default c = clear_of_none c.args.delta c.args.n c.in_default.ensures

pub returns-in_default-first_cell : goal.returns-in_default-first_cell
returns-in_default-first_cell c = clear_of_one c.args.delta c.args.n c.in-Some.ensures c.is_clear.ensures c.in_default-first_cell.ensures

pub returns-then-is_clear : goal.returns-then-is_clear
returns-then-is_clear c = clear_of_both c.args.delta c.args.n c.in-Some.ensures c.is_clear-2.ensures c.in-Some-first_cell.ensures c.if-is_clear.true c.is_clear-then-is_clear.ensures

pub returns-else-is_clear : goal.returns-else-is_clear
returns-else-is_clear c = not_clear c.args.delta c.args.n c.in-Some.ensures c.is_clear-2.ensures c.in-Some-first_cell.ensures c.if-is_clear.false

-- `session::sound::pass` meets its contract.
use Rattle.session.proofs.Passes.{by_inner, by_line}
use Rattle.session.proofs.sound.pass.Goals as goal

pub returns-then-is_inside : goal.returns-then-is_inside
returns-then-is_inside c = by_inner _ _ _ _ c.is_inside.ensures c.if-is_inside.true c.pass_inner.ensures

pub returns : goal.returns
returns c = by_line _ _ _ _ c.is_inside.ensures c.if-is_inside.false c.pass_line.ensures

-- `session::sound::pass_inner` meets its contract.
use Rattle.session.proofs.Passes.{inner_not, inner_yes}
use Rattle.session.proofs.sound.pass_inner.Goals as goal

pub returns-then-not-is_clear_of_two : goal.returns-then-not-is_clear_of_two
returns-then-not-is_clear_of_two c = inner_not _ _ _ _ c.requires.1 c.from_beat-beside.ensures c.is_clear_of_two.ensures c.if-not-is_clear_of_two.true

pub returns : goal.returns
returns c = inner_yes _ _ _ _ c.requires.1 c.from_beat-beside.ensures c.is_clear_of_two.ensures c.if-not-is_clear_of_two.false

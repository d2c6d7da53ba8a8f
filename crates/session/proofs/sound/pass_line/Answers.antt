-- `session::sound::pass_line` meets its contract.
use mathlib.Core.Path.{ap, ◌∙◌}
use Rattle.session.specs.Beside.{left_of}
use Rattle.session.proofs.Passes.{line_not, line_yes}
use Rattle.session.proofs.sound.pass_line.Goals as goal

pub returns-in_err-line : goal.returns-in_err-line
returns-in_err-line c = ap left_of c.from_residual.ensures ∙ line_not _ _ _ _ c.in_err-line.ensures

pub returns : goal.returns
returns c = line_yes _ _ _ _ c.in_ok-line.ensures c.fewer.ensures

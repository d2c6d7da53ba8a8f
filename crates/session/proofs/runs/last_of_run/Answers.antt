-- `session::runs::last_of_run` meets its contract.
use mathlib.Core.Path.{◌∙◌}
use Rattle.std.proofs.Common.{rules, not}
use Rattle.laws.specs.Walk.{linked}
use Rattle.session.proofs.Tails.{last_first}
use Rattle.session.proofs.runs.last_of_run.Goals as goal

pub returns : goal.returns
returns c = c.from_first.ensures (λ x ys. not (linked c.args.h x ys)) (λ x b r t. search rules) ∙ last_first c.args.h _

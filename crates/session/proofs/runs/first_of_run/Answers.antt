-- `session::runs::first_of_run` meets its contract.
use mathlib.Core.Path.{◌∙◌}
use Rattle.std.proofs.Common.{rules, ◌||◌}
use Rattle.model.specs.Binding.{stands_alone}
use Rattle.laws.specs.Walk.{linked}
use Rattle.session.proofs.Tails.{shown_first}
use Rattle.session.proofs.runs.first_of_run.Goals as goal

pub returns : goal.returns
returns c = c.from_first.ensures (λ x ys. stands_alone c.args.h x || linked c.args.h x ys) (λ x b r t. search rules) ∙ shown_first c.args.h _

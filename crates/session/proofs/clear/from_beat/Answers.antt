-- `session::clear::from_beat` meets its contract.
use mathlib.Core.Path.{◌∙◌}
use Rattle.std.proofs.Common.{rules, not}
use Rattle.laws.specs.Sweep.{earlier}
use Rattle.session.proofs.Tails.{skip_first}
use Rattle.session.proofs.clear.from_beat.Goals as goal

pub returns : goal.returns
returns c = c.from_first.ensures (λ x ys. not (earlier c.args.lane c.args.beat x)) (λ x b r t. search rules) ∙ skip_first c.args.lane c.args.beat _

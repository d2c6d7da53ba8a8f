-- `session::header::enter` meets its contract.
use mathlib.Core.Path.{ap, ◌∙◌}
use Rattle.model.specs.Session.{words_of_header}
use Rattle.model.specs.Numbers.{answer_of}
use Rattle.model.proofs.Numbers.{passed_on}
use Rattle.session.proofs.Entries.{granted, no_shelf, no_header}
use Rattle.session.proofs.header.enter.Goals as goal

pub returns-in_err-header : goal.returns-in_err-header
returns-in_err-header c = ap (answer_of words_of_header) (passed_on c.from_residual.ensures.1) ∙ no_header _ _ _ c.in_err-header.ensures

pub returns-then-shelf-header : goal.returns-then-shelf-header
returns-then-shelf-header c = granted _ _ _ c.in_ok-header.ensures c.if-shelf-header.true

pub returns-else-shelf-header : goal.returns-else-shelf-header
returns-else-shelf-header c = no_shelf _ _ _ c.in_ok-header.ensures c.if-shelf-header.false

-- `session::runs::gives_none` meets its contract.
use Rattle.session.proofs.Passes.{given_by_last}
use Rattle.session.proofs.runs.gives_none.Goals as goal

pub returns : goal.returns
returns c = given_by_last _ _ c.first_of_run.ensures _ c.last_of_run.ensures c.is_empty.ensures

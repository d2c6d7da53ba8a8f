-- `session::list::check_list` meets its contract.
use Rattle.session.proofs.Checks.{Checked}
use Rattle.session.proofs.list.check_list.Given as goal

abbrev pub invariant-loop-words : goal.invariant-loop-words
invariant-loop-words l = Checked l.h.delta l.beats l.notes l.last l.cells l.words-index

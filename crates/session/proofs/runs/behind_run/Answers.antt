-- `session::runs::behind_run` meets its contract.
use mathlib.Core.Path.{ap, ◌∙◌}
use Rattle.session.specs.Sliced.{cells_of_option}
use Rattle.session.proofs.Passes.{no_first, no_last, other_note, run_note}
use Rattle.session.proofs.runs.behind_run.Goals as goal

pub returns-in_default : goal.returns-in_default
returns-in_default c = no_first _ _ _ c.first_of_run-first.ensures c.in_default.ensures

pub returns-in_err-d : goal.returns-in_err-d
returns-in_err-d c = ap cells_of_option c.from_residual.ensures ∙ no_last _ _ _ c.first_of_run-first.ensures c.last_of_run.ensures c.in-Some.ensures c.in_err-d.ensures

pub returns-then-is_note_of_run : goal.returns-then-is_note_of_run
returns-then-is_note_of_run c = run_note _ _ _ c.first_of_run-first.ensures c.last_of_run.ensures c.in-Some.ensures c.in_ok-d.ensures c.is_note_of_run.ensures c.if-is_note_of_run.true

pub returns-else-is_note_of_run : goal.returns-else-is_note_of_run
returns-else-is_note_of_run c = other_note _ _ _ c.first_of_run-first.ensures c.last_of_run.ensures c.in-Some.ensures c.in_ok-d.ensures c.is_note_of_run.ensures c.if-is_note_of_run.false

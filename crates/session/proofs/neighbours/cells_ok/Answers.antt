-- `session::neighbours::cells_ok` meets its contract.
use mathlib.Core.Path.{sym, ◌∙◌}
use Rattle.session.proofs.Chains.{none_ok, first_wrong, first_right, next_wrong, next_right, last_ok}
use Rattle.std.proofs.lemmas.List.{at_drop_all}
use Rattle.session.specs.Sliced.{cells_of}
use Rattle.session.proofs.Wholes.{cell_behind}
use Rattle.session.proofs.neighbours.cells_ok.Goals as goal

pub returns-in_default : goal.returns-in_default
returns-in_default c = none_ok _ _ c.in_default.ensures

pub returns-then-not-first_ok : goal.returns-then-not-first_ok
returns-then-not-first_ok c = first_wrong _ _ c.in-Some.ensures c.first_ok.ensures c.if-not-first_ok.true

pub loop-words-init : goal.loop-words-init
loop-words-init c = first_right _ _ c.in-Some.ensures c.first_ok.ensures c.if-not-first_ok.false

pub returns-then-not-next_ok : goal.returns-then-not-next_ok
returns-then-not-next_ok c = sym (c.loop-words.invariant ∙ next_wrong _ _ (cell_behind _ _ c.loop-words-test.true _ c.from-c.ensures) _ c.next_ok.ensures c.if-not-next_ok.true)

pub loop-words-preserved : goal.loop-words-preserved
loop-words-preserved c = c.loop-words.invariant ∙ next_right _ _ (cell_behind _ _ c.loop-words-test.true _ c.from-c.ensures) _ c.next_ok.ensures c.if-not-next_ok.false

pub returns : goal.returns
returns c = last_ok _ _ _ (at_drop_all cells_of _ _ c.loop-words-test.false) c.is_filling.ensures ∙ sym c.loop-words.invariant

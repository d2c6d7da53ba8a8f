-- `session::sound::notes_ok` meets its contract.
use mathlib.Core.Path.{sym, ◌∙◌}
use Rattle.std.proofs.lemmas.List.{at_drop_all}
use Rattle.session.specs.Sliced.{notes_of, cells_of}
use Rattle.session.proofs.Checks.{zeros_are}
use Rattle.session.proofs.Standings.{notes_pass, start-within, not_in_order, not_passed, pass_next, pass_none}
use Rattle.session.proofs.Wholes.{note_behind}
use Rattle.session.proofs.sound.notes_ok.Goals as goal

pub returns-then-not-in_order : goal.returns-then-not-in_order
returns-then-not-in_order c =
    sym (not_in_order _ _ _ _ (note_behind _ _ c.loop-words-test.true _ c.from-n.ensures) _ _ c.in_order.ensures c.if-not-in_order.true) ∙ c.loop-words.invariant
    ∙ notes_pass c.args.h c.args.beats c.requires.0 (notes_of c.args.notes.now) (cells_of c.args.cells.now) c.requires.3

pub pass-requires : goal.pass-requires
pass-requires c = (c.new-by.ensures, start-within _ _ _ _ c.requires.2 c.in_order.ensures c.if-not-in_order.false)

pub returns-in_default : goal.returns-in_default
returns-in_default c =
    sym (not_passed _ _ _ _ (note_behind _ _ c.loop-words-test.true _ c.from-n.ensures) _ _ c.in_order.ensures c.if-not-in_order.false (sym c.in_default.ensures)) ∙ c.loop-words.invariant
    ∙ notes_pass c.args.h c.args.beats c.requires.0 (notes_of c.args.notes.now) (cells_of c.args.cells.now) c.requires.3

pub loop-words-init : goal.loop-words-init
loop-words-init c = rw (zeros_are c.default-last.result c.default-last.ensures)

pub loop-words-preserved : goal.loop-words-preserved
loop-words-preserved c = sym (pass_next _ _ _ _ (note_behind _ _ c.loop-words-test.true _ c.from-n.ensures) _ _ c.in_order.ensures c.if-not-in_order.false (sym c.in-Some.ensures)) ∙ c.loop-words.invariant

pub returns : goal.returns
returns c =
    c.gives_none.ensures ∙ sym (pass_none c.args.h c.args.beats c.loop-words.last (at_drop_all notes_of _ _ c.loop-words-test.false) (cells_of c.loop-words.left.beside.now) _) ∙ c.loop-words.invariant
    ∙ notes_pass c.args.h c.args.beats c.requires.0 (notes_of c.args.notes.now) (cells_of c.args.cells.now) c.requires.3

-- `session::list::check_list` meets its contract.
use mathlib.Core.Path.{sym, ap, ◌∙◌}
use lib.ListN.{length}
use Rattle.laws.specs.Booleans.{and_left}
use Rattle.laws.specs.Notes.{fair}
use Rattle.model.specs.Pieces.{cells_of_note}
use Rattle.session.proofs.Checks.{zeros_are, checked-start, checked-done, not_ordered, checked-note, count_asks, not_whole, not_ok, counted}
use Rattle.session.proofs.list.check_list.Goals as goal

pub returns-then-not-is_empty : goal.returns-then-not-is_empty
returns-then-not-is_empty c = not_whole _ _ _ _ c.as_chunks.ensures.front c.as_chunks.ensures.back_len c.is_empty.ensures c.if-not-is_empty.true

pub loop-words-init : goal.loop-words-init
loop-words-init c = checked-start _ _ _ (zeros_are c.default-last.result c.default-last.ensures)

pub returns-then-not-in_order : goal.returns-then-not-in_order
returns-then-not-in_order c =
    let wrong = not_ordered _ _ _ c.loop-words.invariant c.loop-words-test.true _ c.from-note.ensures c.in_order.ensures c.if-not-in_order.true in
    not_ok _ _ _ _ c.as_chunks.ensures.front c.as_chunks.ensures.back_len wrong

pub cell_count-requires : goal.cell_count-requires
cell_count-requires c =
    let asks = count_asks _ _ _ c.requires (fair _ _ _ (and_left _ _ (sym c.in_order.ensures ∙ c.if-not-in_order.false))) in
    rw c.new-by.ensures (asks.2, asks.3)

pub loop-words-preserved : goal.loop-words-preserved
loop-words-preserved c =
    checked-note _ _ _ c.loop-words.invariant c.loop-words-test.true _ c.from-note.ensures c.in_order.ensures c.requires c.if-not-in_order.false
    (c.cell_count.ensures ∙ ap (λ δ. length (cells_of_note δ c.from-note.result)) c.new-by.ensures)

pub returns : goal.returns
returns c =
    let done = checked-done _ _ _ c.loop-words.invariant c.loop-words-test.false in
    counted _ _ _ _ c.as_chunks.ensures.front c.as_chunks.ensures.back_len c.is_empty.ensures c.if-not-is_empty.false done.0 _ done.1

-- `session::sound::sound` meets its contract.
use mathlib.Core.Path.{sym, ◌∙◌}
use native.Mathlib.Omega.{arith}
use Rattle.session.proofs.Shelves.{laid, shelf_notes, shelf_cells, not_laid, cells_wrong, by_notes}
use Rattle.session.proofs.sound.sound.Goals as goal

pub returns-then-not-layout_ok : goal.returns-then-not-layout_ok
returns-then-not-layout_ok c = not_laid c.args.h _ c.requires.0 c.requires.2 c.requires.4 c.layout_ok.ensures c.if-not-layout_ok.true

pub slice_bounds-as_chunks-end : goal.slice_bounds-as_chunks-end
slice_bounds-as_chunks-end c = omega (arith, (laid _ c.layout_ok.ensures c.if-not-layout_ok.false).fits, c.words_used-end.ensures)

pub returns-then-not-cells_ok : goal.returns-then-not-cells_ok
returns-then-not-cells_ok c =
    let l = laid _ c.layout_ok.ensures c.if-not-layout_ok.false in
    cells_wrong c.args.h _ c.requires.0 c.requires.2 c.requires.4 c.layout_ok.ensures c.if-not-layout_ok.false (shelf_cells _ l c.words_used-end.ensures c.as_chunks.ensures.front) c.cells_ok.ensures c.if-not-cells_ok.true

pub slice_bounds-as_chunks-end-2 : goal.slice_bounds-as_chunks-end-2
slice_bounds-as_chunks-end-2 c = omega (arith, (laid _ c.layout_ok.ensures c.if-not-layout_ok.false).fits)

pub notes_ok-requires : goal.notes_ok-requires
notes_ok-requires c = (c.requires.0, c.requires.1, (laid _ c.layout_ok.ensures c.if-not-layout_ok.false).few, sym c.cells_ok.ensures ∙ c.if-not-cells_ok.false)

pub returns : goal.returns
returns c =
    let l = laid _ c.layout_ok.ensures c.if-not-layout_ok.false in
    by_notes c.args.h _ c.requires.0 c.requires.2 c.requires.4 c.layout_ok.ensures c.if-not-layout_ok.false (shelf_cells _ l c.words_used-end.ensures c.as_chunks.ensures.front) c.cells_ok.ensures c.if-not-cells_ok.false (shelf_notes _ l c.as_chunks-2.ensures.front) c.notes_ok.ensures

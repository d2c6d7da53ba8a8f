-- `cuts::halves::put_crossed` meets its contract.
use mathlib.Core.Path.{◌∙◌}
use Rattle.cuts.proofs.BothParts.{found_on, left_asks, right_asks, crossed_put}
use Rattle.cuts.proofs.halves.put_crossed.Goals as goal

pub put_across-left-requires : goal.put_across-left-requires
put_across-left-requires c =
    let x = c.keep-closings.ensures in
    rw (x.end_is, x.left_is) (left_asks c.args.split.sides c.requires.0 c.requires.1 c.requires.2 c.cells_from-closing.ensures)

pub put_across-right-requires : goal.put_across-right-requires
put_across-right-requires c =
    let x = c.keep-closings.ensures in
    let y = c.keep-openings.ensures in
    let on = found_on c.args.split.sides c.requires.0 c.requires.1 c.requires.2 c.cells_from-closing.ensures c.min-ahead.ensures c.cells_from-opening.ensures in
    rw (y.end_is ∙ c.requires.0.openings_end, y.left_is)
    (right_asks c.args.split.sides c.requires.0 c.requires.1 c.requires.2 c.cells_from-closing.ensures on (rw (x.end_is, x.left_is) at c.put_across-left.ensures))

pub returns : goal.returns
returns c =
    let x = c.keep-closings.ensures in
    let y = c.keep-openings.ensures in
    let y_end = y.end_is ∙ c.requires.0.openings_end in
    let on = found_on c.args.split.sides c.requires.0 c.requires.1 c.requires.2 c.cells_from-closing.ensures c.min-ahead.ensures c.cells_from-opening.ensures in
    crossed_put c.args.split.sides c.requires.0 c.requires.1 c.requires.2 c.cells_from-closing.ensures on
    (rw (x.end_is, x.left_is) at c.put_across-left.ensures)
    (x.end_is, x.left_is)
    (y_end, y.left_is)
    (rw (y_end, y.left_is) at c.put_across-right.ensures)

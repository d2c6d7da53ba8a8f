-- `cuts::halves::put_across` meets its contract.
use mathlib.Core.Path.{ap}
use mathlib.Core.Bool.{not}
use native.Mathlib.Omega.{arith}
use Rattle.cuts.proofs.Parts.{across_none, across_hidden, across_room, across_shown}
use Rattle.cuts.proofs.halves.put_across.Goals as goal

pub returns-in_default : goal.returns-in_default
returns-in_default c = across_none _ _ _ _ _ _ _ c.arrays.ensures c.line_cells.ensures _ c.in_default.ensures.value

pub returns-then-not-stands_alone : goal.returns-then-not-stands_alone
returns-then-not-stands_alone c =
    across_hidden _ _ _ _ _ _ _ c.arrays.ensures c.line_cells.ensures c.in-Some.ensures.value c.from-c.ensures c.stands_alone.ensures _
    (ap not c.if-not-stands_alone.true)

pub put-requires : goal.put-requires
put-requires c =
    let room =
    across_room _ _ _ _ _ _ _ c.arrays.ensures c.line_cells.ensures c.in-Some.ensures.value c.from-c.ensures c.stands_alone.ensures
    (ap not c.if-not-stands_alone.false) c.crossed-part.ensures _ c.requires.0 in
    (omega arith, room)

pub returns : goal.returns
returns c =
    across_shown _ _ _ _ _ _ _ c.arrays.ensures c.line_cells.ensures c.in-Some.ensures.value c.from-c.ensures c.stands_alone.ensures
    (ap not c.if-not-stands_alone.false) c.crossed-part.ensures _ (rw c.into.ensures at c.put.ensures)

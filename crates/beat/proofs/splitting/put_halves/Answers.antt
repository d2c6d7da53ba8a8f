-- `beat::splitting::put_halves` meets its contract.
use Rattle.model.proofs.Headers.{in_range}
use native.Mathlib.Omega.{arith}
use Rattle.beat.proofs.Splits.{source_asks, source_inside, left_asks, right_asks, both_asks, both-put}
use Rattle.beat.proofs.splitting.put_halves.Goals as goal

pub shelf_at-at-requires : goal.shelf_at-at-requires
shelf_at-at-requires c = source_asks c.requires

pub offset_bounds-s-at : goal.offset_bounds-s-at
offset_bounds-s-at c = omega (arith, in_range c.requires.header, source_inside c.requires c.shelf_at-at.ensures)

pub bounds-s-at : goal.bounds-s-at
bounds-s-at c = omega (arith, in_range c.requires.header, source_inside c.requires c.shelf_at-at.ensures)

pub left_half-before-requires : goal.left_half-before-requires
left_half-before-requires c = left_asks c.requires

pub right_half-behind-requires : goal.right_half-behind-requires
right_half-behind-requires c = right_asks c.requires c.shelf_at-at.ensures

pub put_both-requires : goal.put_both-requires
put_both-requires c = both_asks c.requires c.shelf_at-at.ensures c.left_half-before.ensures c.right_half-behind.ensures

pub returns : goal.returns
returns c = both-put c.requires c.shelf_at-at.ensures c.left_half-before.ensures c.right_half-behind.ensures c.put_both.ensures

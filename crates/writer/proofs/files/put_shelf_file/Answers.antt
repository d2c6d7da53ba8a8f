-- `writer::files::put_shelf_file` meets its contract.
use Rattle.writer.proofs.Parts.{counts_inside, file_asks, file_is}
use native.Mathlib.Omega.{arith}
use Rattle.writer.proofs.files.put_shelf_file.Goals as goal

pub slice_bounds-notes-count : goal.slice_bounds-notes-count
slice_bounds-notes-count c = omega (arith, counts_inside _ _ c.requires)

pub slice_bounds-notes-start : goal.slice_bounds-notes-start
slice_bounds-notes-start c = omega (arith, counts_inside _ _ c.requires)

pub bounds-part-1 : goal.bounds-part-1
bounds-part-1 c = omega (arith, counts_inside _ _ c.requires)

pub bounds-part-0 : goal.bounds-part-0
bounds-part-0 c = omega (arith, counts_inside _ _ c.requires)

pub invariant_of-notes : goal.invariant_of-notes
invariant_of-notes c = record { room = (file_asks _ _ c.requires).inside }

pub invariant_of-take : goal.invariant_of-take
invariant_of-take c = record { sound = file_asks _ _ c.requires }

pub returns : goal.returns
returns c = rw (file_is _ _ c.requires) at c.put_file.ensures

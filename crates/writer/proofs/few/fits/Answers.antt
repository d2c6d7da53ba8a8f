-- `writer::few::fits` meets its contract: by the bound, or by the events counted.
use mathlib.Core.Path.{ap}
use Prim.Native.Nat.{ℕ}
use native.Mathlib.Omega.{arith}
use lib.Dec.{leb}
use Rattle.writer.proofs.FewNotes.{table_timed, table_last, table_length, table_count}
use Rattle.writer.proofs.few.fits.Goals as goal

pub window_length-reached-requires : goal.window_length-reached-requires
window_length-reached-requires c = (table_timed c.requires, omega (arith, table_length c.requires, c.requires.bound, c.requires.few))

pub overflow_sub-end : goal.overflow_sub-end
overflow_sub-end c = omega (arith, table_last c.requires, c.window_length-reached.ensures.1)

pub overflow_add-result : goal.overflow_add-result
overflow_add-result c = omega (arith, table_count c.requires c.window_length-reached.ensures.0 c.window_length-reached.ensures.1 c.group_count.ensures, c.requires.bound, c.requires.few)

pub overflow_add-result-2 : goal.overflow_add-result-2
overflow_add-result-2 c = omega (arith, table_count c.requires c.window_length-reached.ensures.0 c.window_length-reached.ensures.1 c.group_count.ensures, c.requires.bound, c.requires.few)

pub returns : goal.returns
returns c = ap (λ (i : ℕ). leb i c.args.room) (table_count c.requires c.window_length-reached.ensures.0 c.window_length-reached.ensures.1 c.group_count.ensures)

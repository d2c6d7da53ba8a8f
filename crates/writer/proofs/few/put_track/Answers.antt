-- `writer::few::put_track` meets its contract.
use mathlib.Core.Path.{refl, ◌∙◌}
use native.Mathlib.Omega.{arith}
use Rattle.writer.proofs.FewNotes.{table_timed, table_last, table_length, table_count, table_end, table_put}
use Rattle.writer.proofs.few.put_track.Goals as goal

pub put_window-reached-requires : goal.put_window-reached-requires
put_window-reached-requires c = (table_timed c.requires.0, omega (arith, table_length c.requires.0, c.requires.1))

pub overflow_sub-end : goal.overflow_sub-end
overflow_sub-end c = omega (arith, table_last c.requires.0, c.put_window-reached.ensures.reached.1)

pub put_end-requires : goal.put_end-requires
put_end-requires c = (omega (arith, c.requires.0.short), table_end c.requires.0 _ c.put_window-reached.ensures.reached.0 c.put_window-reached.ensures.reached.1 c.put_window-reached.ensures.bytes c.requires.1)

pub returns : goal.returns
returns c = (c.put_end.ensures.0 ∙ table_count c.requires.0 c.put_window-reached.ensures.reached.0 c.put_window-reached.ensures.reached.1 refl, table_put c.requires.0 _ c.put_window-reached.ensures.reached.0 c.put_window-reached.ensures.reached.1 c.put_window-reached.ensures.bytes c.put_end.ensures.1)

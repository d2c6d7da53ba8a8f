-- `writer::few::put_sorted` meets its contract.
use mathlib.Core.Path.{sym, ap, ◌∙◌}
use native.Mathlib.Omega.{arith}
use lib.Seq.{take_all}
use Rattle.radix.specs.Sort.{sort}
use Rattle.writer.proofs.FewNotes.{sort_asks}
use Rattle.writer.proofs.few.put_sorted.Goals as goal

pub sort-requires : goal.sort-requires
sort-requires c =
    let r = c.requires in
    let all = sym (take_all _ _ (omega arith)) ∙ c.put_all.ensures in
    (rw c.end.ensures (sort_asks c.args.take.sound r.few.0 all r.few.1), omega (arith, r.room.1), r.room.2)

pub returns : goal.returns
returns c = c.sort.ensures ∙ ap sort (sym (take_all _ _ (omega arith)) ∙ c.put_all.ensures)

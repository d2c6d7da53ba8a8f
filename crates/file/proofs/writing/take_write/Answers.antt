-- `file::writing::take_write` meets its contract.
use mathlib.Core.Path.{ap, ◌∙◌}
use Rattle.model.specs.Numbers.{answer_number}
use Rattle.model.proofs.Numbers.{passed_on}
use Rattle.file.proofs.Entries.{shelf_entered}
use Rattle.file.proofs.Writes.{write_refused, write_by_file}
use Rattle.file.proofs.writing.take_write.Goals as goal

pub returns-in_err-header : goal.returns-in_err-header
returns-in_err-header c =
    let all = write_refused _ _ c.args.output.now _ c.in_err-header.ensures in
    record { number = ap answer_number (passed_on c.from_residual.ensures.1) ∙ all.0; count = all.1.0; output = all.1.1 }

pub invariant_of-read : goal.invariant_of-read
invariant_of-read c = record { ok = (shelf_entered _ _ _ c.in_ok-header.ensures).header }

pub put_file-requires : goal.put_file-requires
put_file-requires c = (shelf_entered _ _ _ c.in_ok-header.ensures).below

pub returns-in_err-count : goal.returns-in_err-count
returns-in_err-count c =
    let all = write_by_file _ _ _ c.in_ok-header.ensures c.args.output.now c.in_err-count.ensures.answer c.in_err-count.ensures.output in
    record { number = ap answer_number (passed_on c.from_residual-in_err-count.ensures.1) ∙ all.0; count = all.1.0; output = all.1.1 }

pub returns : goal.returns
returns c =
    let all = write_by_file _ _ _ c.in_ok-header.ensures c.args.output.now c.in_ok-count.ensures.answer c.in_ok-count.ensures.output in
    record { number = all.0; count = all.1.0; output = all.1.1 }

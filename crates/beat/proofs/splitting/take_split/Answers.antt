-- `beat::splitting::take_split` meets its contract.
use mathlib.Core.Path.{ap, ◌∙◌}
use Rattle.model.specs.Numbers.{answer_number}
use Rattle.model.proofs.Numbers.{passed_on}
use Rattle.beat.proofs.Calls.{no_header, header_ok_lem}
use Rattle.beat.proofs.Splits.{number_is, refused, done}
use Rattle.beat.proofs.splitting.take_split.Goals as goal

pub returns-in_err-header : goal.returns-in_err-header
returns-in_err-header c =
    let no = no_header _ _ _ (number_is _ _ _ _ _) _ c.in_err-header.ensures in
    record { number = ap answer_number (passed_on c.from_residual.ensures.1) ∙ no.0; words = no.1 }

pub invariant_of-read : goal.invariant_of-read
invariant_of-read c = record { ok = header_ok_lem _ c.in_ok-header.ensures }

pub returns-in_err-asked : goal.returns-in_err-asked
returns-in_err-asked c =
    let no = refused _ _ _ _ _ c.in_ok-header.ensures _ c.in_err-asked.ensures in
    record { number = ap answer_number (passed_on c.from_residual-in_err-asked.ensures.1) ∙ no.0; words = no.1 }

pub returns : goal.returns
returns c =
    let yes = done _ _ _ _ _ c.in_ok-header.ensures c.in_ok-asked.ensures c.put_halves.ensures in
    record { number = yes.0; words = yes.1 }

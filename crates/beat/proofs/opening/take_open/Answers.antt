-- `beat::opening::take_open` meets its contract.
use mathlib.Core.Path.{ap, ◌∙◌}
use Rattle.model.specs.Numbers.{answer_number}
use Rattle.model.specs.Session.{fresh_words}
use Rattle.model.proofs.Numbers.{passed_on}
use Rattle.model.proofs.Headers.{refused_means, valid_means}
use Rattle.beat.proofs.Opens.{open_refused, open_done}
use Rattle.beat.proofs.opening.take_open.Goals as goal

pub returns-in_err-header : goal.returns-in_err-header
returns-in_err-header c =
    let r = refused_means _ _ _ c.in_err-header.ensures.asked in
    let no = open_refused _ _ r.0 in
    record { number = ap answer_number (passed_on c.from_residual.ensures.1) ∙ r.1 ∙ no.0; words = no.1 }

pub put_fresh-requires : goal.put_fresh-requires
put_fresh-requires c = let v = valid_means _ _ _ c.in_ok-header.ensures.asked in rw v.1 v.0

pub returns : goal.returns
returns c =
    let v = valid_means _ _ _ c.in_ok-header.ensures.asked in
    let yes = open_done _ _ v.0 (c.put_fresh.ensures ∙ ap fresh_words v.1) in
    record { number = yes.0; words = yes.1 }

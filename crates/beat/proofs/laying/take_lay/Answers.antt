-- `beat::laying::take_lay` meets its contract.
use mathlib.Core.Path.{ap, ◌∙◌}
use Rattle.std.proofs.Common.{rules, ◌≡◌, ◌/◌, true, false, length}
use lib.Dec.{leb}
use Rattle.model.specs.Takes.{words_used}
use Rattle.model.specs.Numbers.{answer_number}
use Rattle.model.proofs.Numbers.{passed_on}
use Rattle.model.specs.declared.questions.Question.TheVariants.{ResultFits}
use Rattle.session.proofs.Entries.{granted_means}
use Rattle.beat.proofs.Asks.{no_list, no_room, room, laid_means}
use Rattle.beat.proofs.Calls.{refused_entry, asked_asks, lay_asks, refused_asked, lay_done}
use Rattle.beat.proofs.laying.take_lay.Goals as goal

pub returns-in_err-header : goal.returns-in_err-header
returns-in_err-header c =
    let no = refused_entry _ _ _ _ _ c.in_err-header.ensures in
    record { number = ap answer_number (passed_on c.from_residual.ensures.1) ∙ no.0; words = no.1 }

pub asked-requires : goal.asked-requires
asked-requires c = let r = asked_asks (granted_means _ _ _ c.in_ok-header.ensures) in (r.0, r.1)

pub returns-in_err-cells : goal.returns-in_err-cells
returns-in_err-cells c =
    let no = refused_asked _ _ _ _ (granted_means _ _ _ c.in_ok-header.ensures) _ (no_list _ _ _ _ c.in_err-cells.ensures) in
    record { number = ap answer_number (passed_on c.from_residual-in_err-cells.ensures.1) ∙ no.0; words = no.1 }

pub fits-requires : goal.fits-requires
fits-requires c = let few = (asked_asks (granted_means _ _ _ c.in_ok-header.ensures)).2 in search rules

pub returns-then-not-fits : goal.returns-then-not-fits
returns-then-not-fits c =
    let full : leb (words_used (length c.args.notes.now / 4) c.in_ok-cells.cells) c.in_ok-header.header.words ≡ false = search rules in
    let no = refused_asked _ _ _ _ (granted_means _ _ _ c.in_ok-header.ensures) ResultFits (no_room _ _ _ _ c.in_ok-cells.ensures full) in
    record { number = no.0; words = no.1 }

pub put_list-requires : goal.put_list-requires
put_list-requires c =
    let fits : leb (words_used (length c.args.notes.now / 4) c.in_ok-cells.cells) c.in_ok-header.header.words ≡ true = search rules in
    lay_asks _ _ _ _ (granted_means _ _ _ c.in_ok-header.ensures) (laid_means _ _ _ _ (room _ _ _ _ c.in_ok-cells.ensures fits))

pub returns : goal.returns
returns c =
    let fits : leb (words_used (length c.args.notes.now / 4) c.in_ok-cells.cells) c.in_ok-header.header.words ≡ true = search rules in
    let all = room _ _ _ _ c.in_ok-cells.ensures fits in
    let yes = lay_done _ _ _ _ (granted_means _ _ _ c.in_ok-header.ensures) (laid_means _ _ _ _ all) all c.put_list.ensures in
    record { number = yes.0; words = yes.1 }

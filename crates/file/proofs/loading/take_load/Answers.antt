-- `file::loading::take_load` meets its contract.
use mathlib.Core.Path.{ap, ◌∙◌}
use Rattle.model.specs.Numbers.{answer_number}
use Rattle.model.proofs.Numbers.{passed_on}
use Rattle.file.proofs.Entries.{shelf_entered}
use Rattle.file.proofs.Loads.{load_refused, load_misplaced, load_by_track}
use Rattle.file.proofs.loading.take_load.Goals as goal

pub returns-in_err-header : goal.returns-in_err-header
returns-in_err-header c =
    let all = load_refused _ _ c.args.file.now _ c.in_err-header.ensures in
    record { number = ap answer_number (passed_on c.from_residual.ensures.1) ∙ all.0; words = all.1 }

pub returns-in_err-track : goal.returns-in_err-track
returns-in_err-track c =
    let all = load_misplaced _ _ c.args.file.now c.in_ok-header.ensures _ c.in_err-track.ensures in
    record { number = ap answer_number (passed_on c.from_residual-in_err-track.ensures.1) ∙ all.0; words = all.1 }

pub load_track-requires : goal.load_track-requires
load_track-requires c = shelf_entered _ _ _ c.in_ok-header.ensures

pub returns : goal.returns
returns c =
    let all = load_by_track _ _ c.args.file.now c.in_ok-header.ensures c.in_ok-track.ensures (c.load_track.ensures.number, c.load_track.ensures.words) in
    record { number = all.0; words = all.1 }

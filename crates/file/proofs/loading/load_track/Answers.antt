-- `file::loading::load_track` meets its contract.
use mathlib.Core.Path.{◌≡◌, refl}
use mathlib.Core.Bool.{true, false}
use lib.Dec.{leb}
use Rattle.std.proofs.Common.{rules}
use Rattle.model.specs.Takes.{words_used}
use Rattle.file.proofs.Loads.{track_refused, track_full, track_done}
use Rattle.file.proofs.loading.load_track.Goals as goal

pub returns-in-Err : goal.returns-in-Err
returns-in-Err c =
    let all = track_refused c.requires _ _ c.in-Err.ensures.answer in
    record { number = all.0; words = all.1 }

pub returns-then-not-fits : goal.returns-then-not-fits
returns-then-not-fits c =
    let full : leb (words_used c.in-Ok.counted.notes c.in-Ok.counted.cells) c.args.h.words ≡ false = search rules in
    let all = track_full c.requires _ c.in-Ok.ensures.answer refl full in
    record { number = all.0; words = all.1 }

pub returns : goal.returns
returns c =
    let room : leb (words_used c.in-Ok.counted.notes c.in-Ok.counted.cells) c.args.h.words ≡ true = search rules in
    let all = track_done c.requires _ c.in-Ok.ensures.answer refl room c.put_recording.ensures in
    record { number = all.0; words = all.1 }

-- `session::layout::layout_ok` meets its contract.
use mathlib.Core.Path.{refl}
use Rattle.session.proofs.Layouts.{many_beats, too_long, by_zeros}
use Rattle.session.proofs.layout.layout_ok.Goals as goal

pub returns-then-part-gt-BEATS : goal.returns-then-part-gt-BEATS
returns-then-part-gt-BEATS c = many_beats _ _ c.if-part-gt-BEATS.true

pub returns-then-part-used : goal.returns-then-part-used
returns-then-part-used c = too_long _ _ c.if-part-gt-BEATS.false c.words_used-used.ensures c.if-part-used.true

pub returns : goal.returns
returns c = by_zeros _ _ c.if-part-gt-BEATS.false c.words_used-used.ensures c.if-part-used.false c.are_zeros.ensures refl

-- `beat::laying::asked` meets its contract.
use Rattle.beat.proofs.Asks.{too_long, by_list}
use Rattle.beat.proofs.laying.asked.Goals as goal

pub returns-then-beats-gt-BEATS : goal.returns-then-beats-gt-BEATS
returns-then-beats-gt-BEATS c = too_long _ _ _ c.if-beats-gt-BEATS.true

pub returns : goal.returns
returns c = by_list _ _ _ c.if-beats-gt-BEATS.false _ c.check_list.ensures

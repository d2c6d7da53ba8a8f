-- `track::cursor::end_of_track` meets its contract.
use Rattle.track.proofs.Parts.{end_there, end_early, end_full}
use Rattle.track.proofs.cursor.end_of_track.Goals as goal
use Rattle.track.proofs.cursor.end_of_track.Goals.{else-n-eq0-via-then-n-eq0+else-p-s, else-n-eq0-via-else-n-eq0}

pub returns-then-p-s : goal.returns-then-p-s
returns-then-p-s c = end_there _ _ _ _ c.if-n-eq0.true c.if-p-s.true

pub returns : goal.returns
returns c = elim c.else-n-eq0.branch [
  | else-n-eq0-via-then-n-eq0+else-p-s w ↦ end_early _ _ _ _ w.if-n-eq0.true w.if-p-s.false
  | else-n-eq0-via-else-n-eq0 w ↦ end_full _ _ _ _ w.if-n-eq0.false
]

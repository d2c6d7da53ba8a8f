-- `session::clear::is_clear` meets its contract.
use Rattle.session.proofs.WaysOut.{other_lane, other_beat, opening-clear, closing-clear}
use Rattle.session.proofs.clear.is_clear.Goals as goal

pub returns-then-n-c : goal.returns-then-n-c
returns-then-n-c c =
    elim c.then-n-c.branch [
      | goal.then-n-c-via-then-n-c w ↦ other_lane _ _ _ c.requires.1 w.if-n-c.true
      | goal.then-n-c-via-else-n-c+then-beat-c w ↦ other_beat _ _ _ c.requires.1 w.if-n-c.false w.if-beat-c.true
    ]

pub returns-then-c-eq0 : goal.returns-then-c-eq0
returns-then-c-eq0 c = opening-clear _ _ _ c.requires.1 c.if-n-c.false c.if-beat-c.false c.if-c-eq0.true

pub returns-else-c-eq0 : goal.returns-else-c-eq0
returns-else-c-eq0 c = closing-clear _ _ _ c.requires.1 c.if-n-c.false c.if-beat-c.false c.if-c-eq0.false

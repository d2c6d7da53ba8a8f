-- `track::cursor::read_over` meets its contract.
use native.Mathlib.Omega.{arith}
use Rattle.track.proofs.Parts.{over_cut, over_on}
use Rattle.track.proofs.cursor.read_over.Goals as goal

pub returns-then-s-p : goal.returns-then-s-p
returns-then-s-p c = over_cut _ _ _ _ (omega (arith, c.if-s-p.true, c.requires))

pub returns : goal.returns
returns c = over_on _ _ _ _ (omega (arith, c.if-s-p.false, c.requires))

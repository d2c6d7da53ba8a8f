-- `beat::cells::put_first` meets its contract.
use Rattle.beat.proofs.Makes.{made_early, touched, made_touched}
use lib.ListN.{length}
use mathlib.Core.Path.{ap}
use native.Mathlib.Omega.{arith}
use Rattle.beat.proofs.cells.put_first.Goals as goal

pub returns-then-line-n : goal.returns-then-line-n
returns-then-line-n c = made_early _ _ _ _ (omega arith) _ _

pub put_cell-requires : goal.put_cell-requires
put_cell-requires c = omega (arith, c.requires, ap length (touched c.args.n c.args.beat 0 c.args.line (omega arith) (omega arith)))

pub returns : goal.returns
returns c = made_touched _ _ _ _ (omega arith) (omega arith) c.put_cell.ensures

-- `session::layout::are_zeros` meets its contract, in blocks. The measure is how many words are left.
use mathlib.Core.Path.{◌≡◌}
use lib.Dec.{eqb}
use lib.ListN.{length}
use Rattle.model.specs.Lists.{every}
use Rattle.session.proofs.layout.are_zeros.Given as goal

abbrev pub invariant-loop-block : goal.invariant-loop-block
invariant-loop-block l = every (eqb 0) l.rest ≡ every (eqb 0) l.words

abbrev pub decreases-loop-block : goal.decreases-loop-block
decreases-loop-block l = length l.rest

-- `frames::program::Progress::read_block` meets its contract.
use Rattle.std.proofs.Common.{◌≤◌, sym, length, arith}
use Rattle.std.proofs.lemmas.Bool.{eqb-true, eqb-false}
use Rattle.frames.proofs.Inputs.{between_start, reads_some, reads_less, between_on, between_end}
use Rattle.frames.proofs.program.Progress.read_block.Goals as goal

pub loop-left-init : goal.loop-left-init
loop-left-init c = between_start _ _

pub loop-left-smaller : goal.loop-left-smaller
loop-left-smaller c =
    let some : 1 ≤ length c.loop-left.left.now = omega (arith, eqb-false _ _ (sym c.loop-left-test.ensures)) in
    reads_less c.read_on-taken.ensures some c.make_room-sent.ensures.room

pub loop-left-preserved : goal.loop-left-preserved
loop-left-preserved c =
    let some : 1 ≤ length c.loop-left.left.now = omega (arith, eqb-false _ _ (sym c.loop-left-test.ensures)) in
    between_on c.loop-left.invariant c.make_room-sent.ensures.written c.make_room-sent.ensures.few c.read_on-taken.ensures
    (reads_some c.read_on-taken.ensures some c.make_room-sent.ensures.room)

pub returns : goal.returns
returns c = between_end c.loop-left.invariant (omega (arith, eqb-true _ _ (sym c.loop-left-test.ensures)))

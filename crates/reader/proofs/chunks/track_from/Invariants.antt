-- `reader::chunks::track_from` meets its contract.
use mathlib.Core.Path.{◌≡◌}
use Prim.Native.Nat.{◌≤◌, ◌-◌}
use lib.ListN.{length}
use Rattle.midi.proofs.Loops.{track_after}
use Rattle.reader.proofs.chunks.track_from.Given as goal

abbrev pub invariant-chunks : goal.invariant-chunks
invariant-chunks l = (l.at ≤ length l.s) × (track_after l.s l.from ≡ track_after l.s l.at)

abbrev pub decreases-chunks : goal.decreases-chunks
decreases-chunks l = length l.s - l.at

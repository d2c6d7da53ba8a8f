-- `frames::program::Progress::flush` meets its contract.
use Rattle.std.proofs.Common.{ap, ◌∙◌, length, refl, arith}
use Rattle.frames.proofs.program.Progress.flush.Goals as goal

pub returns : goal.returns
returns c =
    record {
      count = c.send-sent.ensures ∙ ap length c.as_slice.ensures.items;
      few = omega (arith, c.send-sent.ensures, ap length c.as_slice.ensures.items, c.as_slice.ensures.few);
      emptied = rw c.clear.ensures refl;
    }

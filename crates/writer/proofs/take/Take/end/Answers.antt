-- `writer::take::Take::end` meets its contract.
use native.Mathlib.Omega.{arith}
use Rattle.writer.proofs.Shelves.{end_short}
use Rattle.writer.proofs.take.Take.end.Goals as goal

pub overflow_mul-result : goal.overflow_mul-result
overflow_mul-result c = omega (arith, end_short c.args.self.sound)

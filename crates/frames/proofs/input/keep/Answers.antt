-- `frames::input::keep` meets its contract.
use Rattle.std.proofs.Common.{arith}
use Rattle.frames.proofs.Inputs.{keep_more, keep-none}
use Rattle.frames.proofs.input.keep.Goals as goal

pub returns-then-count-lt-MAX_KEPT : goal.returns-then-count-lt-MAX_KEPT
returns-then-count-lt-MAX_KEPT c = record { few = omega arith; character = keep_more c.args.line.now c.args.count c.args.c (omega arith) (omega arith) }

pub returns : goal.returns
returns c = record { few = omega arith; character = keep-none c.args.line.now c.args.count c.args.c (omega arith) (omega arith) (omega arith) }

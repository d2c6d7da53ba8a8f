-- `frames::digits::decode` meets its contract.
use Rattle.frames.proofs.Decoding.{Decodes}
use Rattle.frames.proofs.digits.decode.Given as goal

abbrev pub invariant-loop-i : goal.invariant-loop-i
invariant-loop-i l = Decodes l.line l.bytes l.i

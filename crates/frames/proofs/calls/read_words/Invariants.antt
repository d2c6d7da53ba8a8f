-- `frames::calls::read_words` meets its contract.
use Rattle.std.proofs.Common.{length}
use Rattle.frames.proofs.Words.{Reads}
use Rattle.frames.proofs.calls.read_words.Given as goal

abbrev pub invariant-loop-i : goal.invariant-loop-i
invariant-loop-i l = Reads l.bytes l.words l.first (length l.initial.words) l.i

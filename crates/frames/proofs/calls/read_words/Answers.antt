-- `frames::calls::read_words` meets its contract.
use Rattle.std.proofs.Common.{arith}
use Rattle.frames.proofs.Words.{reads_start, reads_word, reads_done}
use Rattle.frames.proofs.calls.read_words.Goals as goal

pub loop-i-init : goal.loop-i-init
loop-i-init c = reads_start _ _ _

pub loop-i-preserved : goal.loop-i-preserved
loop-i-preserved c = reads_word c.loop-i.invariant (omega arith) c.word32.ensures

pub returns : goal.returns
returns c = reads_done c.loop-i.invariant (omega arith)

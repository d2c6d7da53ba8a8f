-- `frames::calls::words_of` meets its contract.
use Rattle.std.proofs.Common.{arith, ap, ◌∙◌, ℕ}
use Rattle.std.proofs.lemmas.List.{length-replicate}
use Rattle.frames.specs.Lines.{arguments}
use Rattle.frames.proofs.Words.{words_wrong, words_right}
use Rattle.frames.proofs.calls.words_of.Goals as goal
use Rattle.frames.proofs.calls.words_of.Goals.{then-bytes-via-then-bytes, then-bytes-via-else-bytes+then-bytes-ne0}

pub returns-then-bytes : goal.returns-then-bytes
returns-then-bytes g c =
    elim c.then-bytes.branch [
      | then-bytes-via-then-bytes w ↦ words_wrong _ _ (λ e. w.if-bytes.true (omega arith))
      | then-bytes-via-else-bytes+then-bytes-ne0 w ↦ words_wrong _ _ (λ e. w.if-bytes-ne0.true (omega arith))
    ]

pub returns : goal.returns
returns g c = words_right _ _ (omega arith) (c.read_words.ensures ∙ ap (λ (n : ℕ). arguments n c.args.bytes.now 0) (length-replicate {A = ℕ} _ 0))

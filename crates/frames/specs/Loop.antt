-- What the program's loop over standard input leaves. Assumes nothing.
use Rattle.std.specs.Prelude.{◌≡◌, List, [], ◌++◌, ℕ, ◌+◌, ◌≤◌, ◌<◌, length, take, drop}
use Rattle.std.proofs.Common.{sym, ap, ap₂, ◌∙◌, arith}
use Rattle.std.proofs.lemmas.List.{drop-append-le}
use Rattle.frames.specs.Answering.{out_bytes, max_answer}
use Rattle.frames.specs.Input.{start, taken_all, written_all, written_last, output_of}
use Rattle.frames.specs.declared.program.Progress.{Progress}

-- Bytes of standard input that are read at once.
abbrev pub block_bytes : ℕ
block_bytes = 65536

-- The collected answers, n bytes, were written, and are no longer collected.
pub record Flushed (p : Progress) (n : ℕ) (q : Progress) : Type 0 where
  pub count : n ≡ length p.answers
  pub few : n ≤ out_bytes
  pub emptied : q ≡ record p { answers = [] }

-- All these bytes were taken. The answers that were collected before and those to the bytes follow each other; as many as `sent` says,
-- from the first on, were written, and the others are collected.
pub record ReadWhole (p : Progress) (bytes : List ℕ) (sent : ℕ) (q : Progress) : Type 0 where
  pub state : q.reading ≡ taken_all p.reading bytes
  pub count : sent + length q.answers ≡ length p.answers + length (written_all p.reading bytes)
  pub output : q.answers ≡ drop sent (p.answers ++ written_all p.reading bytes)

-- A block was read on, its first n bytes, and nothing written: to its end, or until there is no room for another answer.
pub record Reads (block : List ℕ) (p : Progress) (n : ℕ) (q : Progress) : Type 0 where
  pub within : n ≤ length block
  pub whole : ReadWhole p (take n block) 0 q
  pub stops : n < length block → out_bytes < length q.answers + max_answer

-- The same of some bytes, the input: what the system's read gives is named by no contract.
pub record ReadSome (p q : Progress) : Type 0 where
  pub input : List ℕ
  pub sent : ℕ
  pub whole : ReadWhole p input sent q

-- The answer to a last line without a line feed is what is collected; n bytes were written, what was collected before and it.
pub record Last (p q : Progress) (n : ℕ) : Type 0 where
  pub count : n ≡ length p.answers + length (written_last p.reading)
  pub output : q.answers ≡ written_last p.reading

-- What is collected behind an input, and the answer to its last line, are all that is to be written for it behind what was sent.
pub rest-written : {input : List ℕ} {sent : ℕ} {q : Progress} → ReadWhole (record { reading = start; answers = [] }) input sent q
    → q.answers ++ written_last q.reading ≡ drop sent (output_of input)
unfolding output_of
rest-written {input} {sent} {q} h =
    let ws = written_all start input in
    let last = written_last (taken_all start input) in
    ap₂ ◌++◌ h.output (ap written_last h.state) ∙ sym (drop-append-le sent ws last (omega (arith, h.count)))

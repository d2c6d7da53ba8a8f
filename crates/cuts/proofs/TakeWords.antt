-- A take that fits, written into a shelf: its notes, its cells behind them, then the counts and zeros. Assumes nothing.
use mathlib.Core.Path.{◌≡◌, ap, ◌∙◌}
use mathlib.Core.Bool.{true}
use mathlib.Core.List.{List}
use Prim.Native.Nat.{ℕ, ◌+◌, ◌-◌, ◌*◌, ◌/◌, ◌≤◌}
use native.Mathlib.Omega.{arith}
use borrow.Author.Tests.{leb-true}
use lib.ListN.{length}
use Rattle.words.specs.Parts.{Same, splice_same}
use Rattle.words.specs.Splice.{splice, length-splice}
use Rattle.model.specs.Lists.{gather}
use Rattle.model.specs.Limits.{max_words}
use Rattle.model.specs.Takes.{Take, note_words, cell_words, notes_of, words_of}
use Rattle.model.specs.Questions.{fits}
use Rattle.model.specs.declared.Header.{Header}
use Rattle.model.specs.declared.Note.{Note}
use Rattle.laws.specs.Sessions.{length-note_words}
use Rattle.session.specs.Framing.{framed}
use Rattle.session.specs.Reading.{last_cells}
use Rattle.session.proofs.Frames.{shelf-framed}
use Rattle.cuts.specs.declared.halves.Contents.{Contents}
use Rattle.cuts.specs.Making.{Made}
use Rattle.cuts.specs.Halving.{Noted, Placed}
use Rattle.cuts.proofs.Passes.{cells_agree}

-- the cells of a shelf are as they were while notes are written elsewhere
pub cells_still : {s s₁ : List ℕ} {from : Contents} {to middle : ℕ} (ns : List Note) → Placed s from to (4 * length ns) → Noted s to ns s₁ middle
    → last_cells s₁ from.cells.end from.cells.left ≡ last_cells s from.cells.end from.cells.left
cells_still {s} {s₁} {from} {to} ns p noted =
    let same : Same s₁ s p.low (from.cells.end - p.low) = rw noted.words (splice_same s to (gather note_words ns) p.apart (omega (arith, length-note_words ns))) in
    cells_agree s₁ s from.cells.end from.cells.end from.cells.left (omega (arith, p.cells_in)) (omega (arith, p.cells_in))
    (λ k pos upto. same.at (from.cells.end - k) (omega (arith, p.cells_in)) (omega (arith, p.cells_in)))

-- a take that fits has room
pub take-room : (h : Header) (v : Take) → fits h v ≡ true → 3 + 4 * length (notes_of h v) + 6 * length v.cells ≤ h.words
unfolding fits
take-room h v e = leb-true (3 + 4 * length (notes_of h v) + 6 * length v.cells) h.words e

-- its counts, in words
pub record Counted (h : Header) (v : Take) (at middle end : ℕ) : Type 0 where
  pub notes_low : at + 3 ≤ middle
  pub cells_low : middle ≤ end
  pub notes-count : (middle - (at + 3)) / 4 ≡ length (notes_of h v)
  pub cells_count : (end - middle) / 6 ≡ length v.cells
  pub notes_few : length (notes_of h v) ≤ max_words
  pub cells_few : length v.cells ≤ max_words

module _ (h : Header) (v : Take) (small : h.words ≤ max_words) (fit : fits h v ≡ true) {s : List ℕ} (at : ℕ) (inside : at + h.words ≤ length s)
    {s₁ : List ℕ} {middle : ℕ} (noted : Noted s (at + 3) (notes_of h v) s₁ middle)
    {s₂ : List ℕ} {end : ℕ} (made : Made s₁ middle v.cells s₂ end) where
  long : length s₂ ≡ length s
  long = ap length made.words ∙ length-splice s₁ middle (gather cell_words v.cells) ∙ ap length noted.words ∙ length-splice s (at + 3) (gather note_words (notes_of h v))

  pub counted : Counted h v at middle end
  counted = record {
    notes_low = omega (arith, noted.behind);
    cells_low = omega (arith, made.behind);
    notes-count = omega (arith, noted.behind);
    cells_count = omega (arith, made.behind);
    notes_few = omega (arith, take-room h v fit);
    cells_few = omega (arith, take-room h v fit);
  }

  pub take_put : {beats : ℕ} → beats ≡ v.beats → {s₃ : List ℕ} → s₃ ≡ framed s₂ at h.words beats ((middle - (at + 3)) / 4) ((end - middle) / 6)
      → s₃ ≡ splice s at (words_of h v)
  unfolding words_of
  take_put {beats} b e =
      let ns = notes_of h v in
      let cs = v.cells in
      let s' = splice (splice s (at + 3) (gather note_words ns)) (at + 3 + 4 * length ns) (gather cell_words cs) in
      let parts : framed s₂ at h.words beats ((middle - (at + 3)) / 4) ((end - middle) / 6) ≡ framed s' at h.words beats (length ns) (length cs) =
      rw (counted.notes-count, counted.cells_count, made.words, noted.words, noted.behind) in
      e ∙ parts ∙ ap (λ (n : ℕ). framed s' at h.words n (length ns) (length cs)) b ∙ shelf-framed s at h.words v.beats ns cs

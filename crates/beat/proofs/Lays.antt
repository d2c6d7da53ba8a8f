-- Laying a list whose questions are answered yes. Assumes nothing.
use mathlib.Core.Path.{◌≡◌, ap, ◌∙◌}
use mathlib.Core.List.{List}
use Prim.Native.Nat.{ℕ, ◌+◌, ◌*◌, ◌/◌, ◌≤◌, ◌<◌}
use native.Mathlib.Omega.{arith}
use lib.ListN.{length, drop}
use Rattle.words.specs.Splice.{splice, length-splice}
use Rattle.model.specs.Lists.{gather}
use Rattle.model.specs.Limits.{max_shelves}
use Rattle.model.specs.Session.{shelf_at}
use Rattle.model.specs.Pieces.{cells_of_note}
use Rattle.model.specs.Takes.{note_words, cell_words, words_used, read_notes, shelf_words}
use Rattle.model.specs.Machine.{listed}
use Rattle.model.specs.declared.Header.{Header}
use Rattle.model.specs.declared.Note.{Note}
use Rattle.model.specs.declared.Cell.{Cell}
use Rattle.model.proofs.Headers.{InRange, in_range}
use Rattle.session.specs.Framing.{framed}
use Rattle.session.specs.Listing.{cells_listed}
use Rattle.session.proofs.Frames.{shelf-framed}
use Rattle.laws.specs.Reading.{length_read}
use Rattle.session.proofs.Readings.{notes_words, notes-written}
use Rattle.session.proofs.Sources.{shelf-inside}
use Rattle.cuts.specs.Making.{Made, CellsAsks, cells_at}
use Rattle.beat.specs.Laying.{LayAsks, laid_words}
use Rattle.beat.proofs.Asks.{list_passed}

module _ {s : List ℕ} {h : Header} {shelf beats : ℕ} {ws : List ℕ} {count : ℕ} (a : LayAsks s h shelf beats ws count) where
  abbrev k : ℕ
  k = length ws / 4

  abbrev ns : List Note
  ns = read_notes k ws

  abbrev cs : List Cell
  cs = gather (cells_of_note h.delta) ns

  -- what the arithmetic asks
  pub record Sized : Type 0 where
    pub range : InRange h (length s)
    pub shelf_few : shelf < max_shelves
    pub inside : shelf_at h shelf + h.words ≤ length s
    pub whole : length ws ≡ 4 * k
    pub fits : 3 + 4 * k + 6 * count ≤ h.words
    pub words_few : h.words ≤ 1048576

  pub sized : Sized
  sized =
      let r = in_range a.header in
      let l = list_passed h beats ws a.list in
      record {
        range = r;
        shelf_few = omega (arith, r.few_shelves, a.below);
        inside = shelf-inside h shelf (length s) r a.below;
        whole = l.whole;
        fits = a.fits;
        words_few = r.small;
      }

  cells_are : count ≡ length cs
  unfolding cells_listed listed
  cells_are = a.cells

  module _ {at : ℕ} (place : at ≡ shelf_at h shelf) {s₁ : List ℕ} (copied : s₁ ≡ splice s (at + 3) ws) where
    notes_in_lem : s₁ ≡ splice s (at + 3) ws
    notes_in_lem = copied

    long : length s₁ ≡ length s
    long = ap length notes_in_lem ∙ length-splice s (at + 3) ws

    notes_are : read_notes k (drop (at + 3) s₁) ≡ ns
    notes_are = rw copied (notes-written k s (at + 3) ws sized.whole (omega (arith, sized, place)))

    made_are : cells_at h.delta s₁ (at + 3) k ≡ cs
    unfolding cells_at
    made_are = ap (gather (cells_of_note h.delta)) notes_are

    pub cells_asks : CellsAsks s₁ (at + 3) k h.delta
    unfolding listed
    cells_asks =
        record {
          beats = beats;
          range = (sized.range.some-ticks, sized.range.few_ticks, a.beats_few);
          ok = rw notes_are (list_passed h beats ws a.list).ok;
          room = omega (arith, ap length made_are, cells_are, long, sized, place);
        }

    module _ {s₂ : List ℕ} {r : ℕ} (made : Made s₁ (at + 3 + 4 * k) (cells_at h.delta s₁ (at + 3) k) s₂ r) where
      pub frame_asks : (at + h.words ≤ length s₂) × (words_used k count ≤ h.words)
      frame_asks = (omega (arith, ap length made.words ∙ length-splice s₁ (at + 3 + 4 * k) (gather cell_words (cells_at h.delta s₁ (at + 3) k)), long, sized, place), a.fits)

      pub list_laid : {s₃ : List ℕ} → s₃ ≡ framed s₂ at h.words beats k count → s₃ ≡ splice s (shelf_at h shelf) (laid_words h beats ws)
      unfolding laid_words listed
      list_laid e =
          let many : length ns ≡ k = length_read k ws in
          let parts : framed s₂ at h.words beats k count
          ≡ framed (splice (splice s (at + 3) (gather note_words ns)) (at + 3 + 4 * length ns) (gather cell_words cs)) at h.words beats (length ns) (length cs) =
          rw (made.words, made_are, copied, cells_are, many, notes_words k ws sized.whole) in
          e ∙ parts ∙ shelf-framed s at h.words beats ns cs ∙ ap (λ (x : ℕ). splice s x (shelf_words h.words beats ns cs)) place

-- Laying a recording that was read and that fits its shelf. Assumes nothing.
use mathlib.Core.List.{List, [], append-nil}
use mathlib.Core.Path.{◌≡◌, ap, ◌∙◌}
use Prim.Native.Nat.{ℕ, ◌+◌, ◌*◌, ◌≤◌, ◌<◌}
use native.Mathlib.Omega.{arith}
use lib.ListN.{length, drop}
use Rattle.words.specs.Splice.{splice, length-splice}
use Rattle.model.specs.Lists.{gather}
use Rattle.model.specs.Limits.{lane_count, max_shelves, max_words}
use Rattle.model.specs.Histories.{Recording, recording_take}
use Rattle.model.specs.Pieces.{cells_of_note}
use Rattle.model.specs.Session.{shelf_at, put_shelf}
use Rattle.model.specs.Takes.{note_words, cell_words, words_used, read_notes, words_of, shelf_words}
use Rattle.model.specs.declared.Header.{Header}
use Rattle.model.specs.declared.Note.{Note}
use Rattle.model.specs.declared.Cell.{Cell}
use Rattle.model.proofs.Headers.{InRange, in_range}
use Rattle.laws.specs.Healing.{notes_again, laid_words}
use Rattle.laws.specs.OneNote.{Valid}
use Rattle.laws.specs.Reading.{read_notes_lem}
use Rattle.laws.specs.Relations.{All, all_imp}
use Rattle.laws.specs.Sessions.{length-note_words}
use Rattle.midi.specs.Reading.{read_track}
use Rattle.midi.proofs.Ranges.{Fits, ok_fits}
use Rattle.midi.proofs.Recordings.{track-sound}
use Rattle.midi.proofs.SecondPass.{first-all}
use Rattle.session.specs.Framing.{framed}
use Rattle.session.proofs.Frames.{shelf-framed}
use Rattle.session.proofs.Readings.{notes-written}
use Rattle.session.proofs.Sources.{place_asks, shelf-inside}
use Rattle.cuts.specs.Making.{Made, CellsAsks, cells_at}
use Rattle.reader.specs.Placing.{count_below, FirstPlaces, notes_put, NotesAsks}
use Rattle.reader.proofs.Places.{below-first}
use Rattle.file.specs.Calls.{loaded}
use Rattle.file.specs.Loading.{RecordingAsks}

module _ {s : List ℕ} {h : Header} {shelf : ℕ} {track counts : List ℕ} {beats notes cells : ℕ} (a : RecordingAsks s h shelf track counts beats notes cells) where
  abbrev r : Recording
  r = a.recording

  abbrev ns : List Note
  ns = r.notes

  abbrev cs : List Cell
  cs = gather (cells_of_note h.delta) ns

  range : InRange h (length s)
  range = in_range a.entry.header

  valid : Valid h.delta r
  valid = rw a.reads at (track-sound h.delta range.some-ticks track)

  low : All (λ n. n.lane < 2048) ns
  low = all_imp (Fits (r.beats * h.delta)) (λ n. n.lane < 2048) ns (λ n f. f.low) (ok_fits h.delta r.beats ns valid.1)

  -- what the arithmetic asks
  pub record Sized : Type 0 where
    pub inside : shelf_at h shelf + h.words ≤ length s
    pub fits : 3 + 4 * notes + 6 * cells ≤ h.words
    pub words_few : h.words ≤ max_words

  pub sized : Sized
  sized = record { inside = shelf-inside h shelf (length s) range a.entry.below; fits = a.fits; words_few = range.small }

  pub shelf_asks : (shelf < h.shelves) × (h.shelves ≤ max_shelves) × (h.words ≤ max_words)
  shelf_asks = place_asks range a.entry.below

  pub counts_ask : (length counts ≡ lane_count) × (count_below counts lane_count ≤ 4294967295)
  counts_ask = (a.counted.size, omega (arith, below-first ns counts a.counted lane_count (omega arith), first-all ns low, a.notes_are, sized))

  module _ {places : List ℕ} (p : FirstPlaces counts places) where
    pub notes_asks : NotesAsks h shelf track places s
    notes_asks = record {
      some-ticks = range.some-ticks;
      few_ticks = range.few_ticks;
      at_asks = shelf_asks;
      recording = r;
      reads = a.reads;
      size = p.size;
      first = λ l k. p.each l k ∙ below-first ns counts a.counted l (omega arith);
      few = omega (arith, a.notes_are, sized);
      room = omega (arith, a.notes_are, sized);
    }

  module _ {at : ℕ} (place : at ≡ shelf_at h shelf) {s₁ : List ℕ} (put : s₁ ≡ notes_put (shelf_at h shelf + 3) (read_track h.delta track) s) where
    notes_in_lem : s₁ ≡ splice s (at + 3) (gather note_words ns)
    notes_in_lem = put ∙ rw (a.reads, place)

    long : length s₁ ≡ length s
    long = ap length notes_in_lem ∙ length-splice s (at + 3) (gather note_words ns)

    again : read_notes notes (drop (at + 3) s₁) ≡ ns
    again =
        let e : read_notes (length ns) (drop (at + 3) (splice s (at + 3) (gather note_words ns))) ≡ read_notes (length ns) (gather note_words ns) =
        notes-written (length ns) s (at + 3) (gather note_words ns) (length-note_words ns) (omega (arith, length-note_words ns, a.notes_are, sized, place)) in
        let f : read_notes (length ns) (gather note_words ns) ≡ ns = rw append-nil at (read_notes_lem ns []) in
        ap (λ (k : ℕ). read_notes k (drop (at + 3) s₁)) a.notes_are ∙ ap (λ (l : List ℕ). read_notes (length ns) (drop (at + 3) l)) notes_in_lem ∙ e ∙ f

    made_are : cells_at h.delta s₁ (at + 3) notes ≡ cs
    unfolding cells_at
    made_are = ap (gather (cells_of_note h.delta)) again

    pub cells_asks : CellsAsks s₁ (at + 3) notes h.delta
    cells_asks = record {
      beats = r.beats;
      range = (range.some-ticks, range.few_ticks, valid.0);
      ok = rw again valid.1;
      room = omega (arith, ap length made_are, a.cells_are, long, sized, place);
    }

    module _ {s₂ : List ℕ} {q : ℕ} (made : Made s₁ (at + 3 + 4 * notes) (cells_at h.delta s₁ (at + 3) notes) s₂ q) where
      pub frame_asks : (at + h.words ≤ length s₂) × (words_used notes cells ≤ h.words)
      frame_asks = (
        omega (
          arith,
          ap length made.words ∙ length-splice s₁ (at + 3 + 4 * notes) (gather cell_words (cells_at h.delta s₁ (at + 3) notes)),
          long,
          sized,
          place,
        ),
        a.fits,
      )

      pub recording_laid : {s₃ : List ℕ} → s₃ ≡ framed s₂ at h.words beats notes cells → s₃ ≡ loaded h s shelf (read_track h.delta track)
      unfolding loaded put_shelf
      recording_laid e =
          let t = splice (splice s (at + 3) (gather note_words ns)) (at + 3 + 4 * length ns) (gather cell_words cs) in
          let both : s₂ ≡ t =
          made.words
          ∙ ap (λ (xs : List Cell). splice s₁ (at + 3 + 4 * notes) (gather cell_words xs)) made_are
          ∙ ap (λ (l : List ℕ). splice l (at + 3 + 4 * notes) (gather cell_words cs)) notes_in_lem
          ∙ ap (λ (k : ℕ). splice (splice s (at + 3) (gather note_words ns)) (at + 3 + 4 * k) (gather cell_words cs)) a.notes_are in
          let parts : framed s₂ at h.words beats notes cells ≡ framed t at h.words r.beats (length ns) (length cs) =
          ap (λ (l : List ℕ). framed l at h.words beats notes cells) both
          ∙ ap (λ (k : ℕ). framed t at h.words k notes cells) a.beats_are
          ∙ ap (λ (k : ℕ). framed t at h.words r.beats k cells) a.notes_are
          ∙ ap (framed t at h.words r.beats (length ns)) a.cells_are in
          let words : words_of h (recording_take h.delta r) ≡ shelf_words h.words r.beats ns cs = laid_words h r (notes_again h range.some-ticks r valid.1) in
          rw (a.reads, loaded, words) (e ∙ parts ∙ shelf-framed s at h.words r.beats ns cs ∙ ap (λ (x : ℕ). splice s x (shelf_words h.words r.beats ns cs)) place)

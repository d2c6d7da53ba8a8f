-- Load: the number and the words, by the way that the call goes. Assumes nothing.
use mathlib.Core.Bool.{Bool, true, false, cond}
use mathlib.Core.List.{List, []}
use mathlib.Core.Path.{◌≡◌, refl, sym, ap, ◌∙◌}
use Prim.Native.Nat.{ℕ, zero, suc, ◌+◌, ◌-◌, ◌≤◌, ◌<◌}
use native.Mathlib.Omega.{arith}
use borrow.Author.Tests.{leb-true, lt-ltb}
use lib.Dec.{leb, ltb, eqb}
use lib.ListN.{length, take, drop}
use Rattle.model.specs.Lists.{gather}
use Rattle.model.specs.Limits.{max_words}
use Rattle.model.specs.Histories.{Recording, recording_take}
use Rattle.model.specs.Pieces.{cells_of_note}
use Rattle.model.specs.Questions.{header_ok, fits, first_no}
use Rattle.model.specs.Session.{header_of, words_of_header}
use Rattle.model.specs.Takes.{words_used}
use Rattle.model.specs.declared.Header.{Header}
use Rattle.model.proofs.Headers.{InRange, in_range}
use Rattle.laws.specs.Accepted.{asked-first}
use Rattle.laws.specs.Booleans.{and_right}
use Rattle.laws.specs.Healing.{notes_again}
use Rattle.laws.specs.OneNote.{Valid}
use Rattle.midi.specs.Numbers.{word32}
use Rattle.midi.specs.Reading.{FileAnswer, refused, read, read_track, MTrk, header_there, header_fits, chunk_there, Chunk, track_from, read_file}
use Rattle.midi.proofs.Branches.{by_test}
use Rattle.midi.proofs.Recordings.{track-sound, Sound}
use Rattle.session.proofs.Entries.{Entered, granted_means, entry_refused}
use Rattle.std.specs.Prelude.{Ok, Err}
use Rattle.model.specs.Numbers.{number_of, answer_of}
use Rattle.model.proofs.Numbers.{kept, number_positive}
use Rattle.model.specs.declared.questions.Question.{Question}
use Rattle.model.specs.declared.questions.Question.TheVariants.{ResultFits}
use Rattle.session.specs.Entering.{entry_asked}
use Rattle.reader.specs.Chunks.{TrackPlace, refusal, bytes, chunk_place, track_place, read_place}
use Rattle.reader.specs.Counting.{recording, summary, Times, CountsOf}
use Rattle.reader.specs.Counting as counts
use Rattle.reader.proofs.ChunkLoops.{read_place_lem}
use Rattle.file.specs.Calls.{file_questions, load_questions, load_number, loaded, load_after}
use Rattle.file.specs.Loading.{read_number, read_after, ShelfAsks, RecordingAsks}
use Rattle.file.proofs.Answers.{ReadAs, refused_is, recording_is}

-- ---- the number of an answer, and the words

abbrev pub Answered : Header → List ℕ → ℕ → FileAnswer → ℕ → List ℕ → Type 0
Answered h s i a number after = (number ≡ read_number h a) × (after ≡ read_after h s i a)

module _ (h : Header) (s : List ℕ) (i : ℕ) (a : FileAnswer) where
  answered_refused : (q : Question) → number_of q ≡ read_number h a → Answered h s i a (number_of q) s
  unfolding read_after
  answered_refused q e = (e, kept q (read_number h a) e (loaded h s i a) s)

  answered-done : read_number h a ≡ 0 → {after : List ℕ} → after ≡ loaded h s i a → Answered h s i a 0 after
  unfolding read_after
  answered-done e f = (sym e, rw (read_after, e) f)

number_refused : (h : Header) (q : ℕ) → read_number h (refused q) ≡ q
unfolding read_number first_no file_questions
number_refused h q = refl

-- 8 by the numbers of notes and cells
read_is : (h : Header) (r : Recording) → 0 < h.delta → Valid h.delta r
    → read_number h (read r) ≡ cond (leb (words_used (length r.notes) (length (gather (cells_of_note h.delta) r.notes))) h.words) 0 8
unfolding read_number first_no file_questions fits recording_take
read_is h r z v =
    asked-first 8 (fits h (recording_take h.delta r)) []
    ∙ ap (λ (n : ℕ). cond (leb (words_used n (length (gather (cells_of_note h.delta) r.notes))) h.words) 0 8) (ap length (notes_again h z r v.1))

-- ---- the track

-- what the first pass asks, and question 8
module _ (h : Header) (n : ℕ) (ok : header_ok h n ≡ true) where
  pub times : Times h.delta 0
  times = let range = in_range ok in record { some = range.some-ticks; most = range.few_ticks; early = omega arith }

  pub few_words : h.words ≤ max_words
  few_words = (in_range ok).small

module _ {s : List ℕ} {h : Header} {i : ℕ} (a : ShelfAsks s h i) where
  range : InRange h (length s)
  range = in_range a.header

  module _ (t : List ℕ) where
    abbrev answer : FileAnswer
    answer = read_track h.delta t

    sound : Sound h.delta range.some-ticks answer
    sound = track-sound h.delta range.some-ticks t

    -- refused by question 12, 13 or 14
    pub track_refused : (q : Question) → counts.refusal (number_of q) ≡ summary h.delta answer → Answered h s i answer (number_of q) s
    track_refused q e =
        answered_refused h s i answer q (sym (ap (read_number h) (refused_is h.delta (number_of q) answer e) ∙ number_refused h (number_of q)))

    -- read as a recording of so many beats, notes and cells
    module _ {beats notes cells : ℕ} (e : recording beats notes cells ≡ summary h.delta answer) where
      k : ReadAs h.delta answer beats notes cells
      k = recording_is h.delta beats notes cells answer e

      number_is : read_number h answer ≡ cond (leb (words_used notes cells) h.words) 0 8
      number_is =
          let v : Valid h.delta k.got = rw k.is at sound in
          ap (read_number h) k.is ∙ read_is h k.got range.some-ticks v
          ∙ ap (λ (n : ℕ). cond (leb (words_used n (length (gather (cells_of_note h.delta) k.got.notes))) h.words) 0 8) (sym k.notes_are)
          ∙ ap (λ (n : ℕ). cond (leb (words_used notes n) h.words) 0 8) (sym k.cells_are)

      module _ {o : Bool} (f : o ≡ leb (words_used notes cells) h.words) where
        pub track_full : o ≡ false → Answered h s i answer 8 s
        track_full t = answered_refused h s i answer ResultFits (sym (number_is ∙ rw (sym f ∙ t)))

        pub track_room : o ≡ true → words_used notes cells ≤ h.words
        track_room t = leb-true (words_used notes cells) h.words (sym f ∙ t)

        pub track_asks : o ≡ true → {table : List ℕ} → CountsOf answer table → RecordingAsks s h i t table beats notes cells
        track_asks t c = record {
          entry = a;
          recording = k.got;
          reads = k.is;
          beats_are = k.beats_are;
          notes_are = k.notes_are;
          cells_are = k.cells_are;
          fits = track_room t;
          counted = c.counted k.got k.is;
        }

        pub track_done : o ≡ true → {after : List ℕ} → after ≡ loaded h s i answer → Answered h s i answer 0 after
        track_done t g = answered-done h s i answer (number_is ∙ rw (sym f ∙ t)) g

-- ---- the place of the track

abbrev Inside : ℕ → TrackPlace → Type 0
Inside n (refusal q) = Unit {0}
Inside n (bytes at end) = (at ≤ end) × (end ≤ n)

from-inside : (fuel : ℕ) (s : List ℕ) (at : ℕ) → Inside (length s) (chunk_place (track_from fuel s at))
unfolding track_from chunk_there
from-inside zero s at = tt
from-inside (suc fuel) s at = go (from-inside fuel s (at + 8 + word32 s (at + 4)))
  where
    go : Inside (length s) (chunk_place (track_from fuel s (at + 8 + word32 s (at + 4)))) → Inside (length s) (chunk_place (track_from (suc fuel) s at))
    go ih = by_test (λ (c : Chunk). Inside (length s) (chunk_place c)) (chunk_there s at)
        (λ e. by_test (λ (c : Chunk). Inside (length s) (chunk_place c)) (eqb (word32 s at) MTrk)
        (λ f. (omega arith, leb-true (at + 8 + word32 s (at + 4)) (length s) (and_right (leb (at + 8) (length s)) (leb (at + 8 + word32 s (at + 4)) (length s)) e))) (λ f. ih))
        (λ e. tt)

place_inside : (δ : ℕ) (s : List ℕ) → Inside (length s) (track_place δ s)
unfolding track_place
place_inside δ s =
    by_test (Inside (length s)) (header_there s)
    (λ e. by_test (Inside (length s)) (header_fits δ s) (λ f. from-inside (length s) s (8 + word32 s 4)) (λ f. tt)) (λ e. tt)

pub track_inside : (δ : ℕ) (s : List ℕ) {at end : ℕ} → bytes at end ≡ track_place δ s → (at ≤ end) × (end ≤ length s)
track_inside δ s e = rw (← e) at (place_inside δ s)

-- ---- the call

abbrev pub Loaded : List ℕ → ℕ → List ℕ → ℕ → List ℕ → Type 0
Loaded s i file number after = (number ≡ load_number s i file) × (after ≡ load_after s i file)

module _ (s : List ℕ) (i : ℕ) (file : List ℕ) where
  abbrev g : Header
  g = header_of s

  load_is : load_number s i file ≡ cond (header_ok g (length s)) (cond (ltb i g.shelves) (read_number g (read_file g.delta file)) 2) 1
  unfolding load_number load_questions read_number
  load_is = rw (asked-first, asked-first)

  loaded_refused : (q : ℕ) → load_number s i file ≡ q → 0 < q → Loaded s i file q s
  unfolding load_after
  loaded_refused zero e more = absurd (omega arith)
  loaded_refused (suc q) e more = (sym e, rw (load_after, e))

  -- refused by question 1 or 2
  pub load_refused : (q : Question) → answer_of words_of_header (Err q) ≡ entry_asked s i → Loaded s i file (number_of q) s
  load_refused q e = loaded_refused (number_of q) (sym (entry_refused s i _ load_is q e)) (number_positive q)

  -- questions 1 and 2 answered yes
  module _ {h : Header} (granted : answer_of words_of_header (Ok h) ≡ entry_asked s i) where
    e : Entered s i h
    e = granted_means s i h granted

    entered_number : load_number s i file ≡ read_number h (read_file h.delta file)
    entered_number = load_is ∙ rw (e.header, lt-ltb i g.shelves e.below) (ap (λ (k : Header). read_number k (read_file k.delta file)) (sym e.same))

    entered_after : load_after s i file ≡ read_after h s i (read_file h.delta file)
    unfolding load_after read_after
    entered_after =
        rw (load_after, entered_number)
        (ap (λ (k : Header). elim (read_number h (read_file h.delta file)) [ zero ↦ loaded k s i (read_file k.delta file) | suc n ↦ s ]) (sym e.same))

    answered : (a : FileAnswer) → read_file h.delta file ≡ a → {number : ℕ} {after : List ℕ} → Answered h s i a number after → Loaded s i file number after
    answered a f w = (
      w.0 ∙ ap (read_number h) (sym f) ∙ sym entered_number,
      w.1 ∙ ap (read_after h s i) (sym f) ∙ sym entered_after,
    )

    -- refused by question 9, 10 or 11
    pub load_misplaced : (q : Question) → refusal (number_of q) ≡ track_place h.delta file → Loaded s i file (number_of q) s
    load_misplaced q f =
        let n = number_of q in
        let is : read_file h.delta file ≡ refused n = read_place_lem h.delta file ∙ ap (read_place h.delta file) (sym f) in
        answered (refused n) is (answered_refused h s i (refused n) q (sym (number_refused h n)))

    -- the track decides
    pub load_by_track : {at end : ℕ} → bytes at end ≡ track_place h.delta file → {number : ℕ} {after : List ℕ}
        → Answered h s i (read_track h.delta (take (end - at) (drop at file))) number after → Loaded s i file number after
    load_by_track {at} {end} f w =
        answered (read_track h.delta (take (end - at) (drop at file))) (read_place_lem h.delta file ∙ ap (read_place h.delta file) (sym f)) w

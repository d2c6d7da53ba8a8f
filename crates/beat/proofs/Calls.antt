-- The number and the words of a call, and of lay, by the way that the call goes. Assumes nothing.
use mathlib.Core.Path.{◌≡◌, refl, sym, ap, ◌∙◌}
use mathlib.Core.Bool.{Bool, true, false, cond, not, and-true}
use mathlib.Core.List.{List, [], ◌∷◌}
use Prim.Native.Nat.{ℕ, ◌/◌, ◌≤◌, ◌<◌}
use borrow.Author.Tests.{lt-ltb, eqb-false, not-true}
use lib.Dec.{leb, ltb, eqb}
use lib.ListN.{length}
use Rattle.words.specs.Splice.{splice}
use Rattle.model.specs.Limits.{max_beats, max_delta, max_words}
use Rattle.model.specs.Takes.{words_used, notes_of, words_of}
use Rattle.model.specs.Histories.{recording_take}
use Rattle.model.specs.Session.{header_of, words_of_header, shelf_at, put_shelf}
use Rattle.model.specs.Machine.{Call, lay_call, listed}
use Rattle.model.specs.Questions.{header_ok, shelves_ok, beats_ok, list_ok, fits, results_fit, results, questions, number, put_all, written, after}
use Rattle.model.specs.declared.Header.{Header}
use Rattle.model.proofs.Headers.{InRange, in_range, refused_means, valid_means}
use Rattle.laws.specs.Accepted.{asked-in_turn}
use Rattle.laws.specs.Healing.{notes_again}
use Rattle.std.specs.Prelude.{Ok, Err}
use Rattle.model.specs.Numbers.{number_of, answer_of}
use Rattle.model.specs.Answers.{header_asked}
use Rattle.model.proofs.Numbers.{kept}
use Rattle.model.specs.declared.questions.Question.{Question}
use Rattle.session.specs.Entering.{entry_asked}
use Rattle.session.specs.Listing.{count_words, cells_listed}
use Rattle.session.proofs.Entries.{Entered, entry_refused}
use Rattle.laws.specs.Reading.{length_read}
use Rattle.beat.specs.Laying.{list_fits, lay_asked, laid_words, LayAsks}
use Rattle.beat.proofs.Asks.{list_passed, Laid}

-- ---- any call

-- two shelves that a call asks to differ
pub unlike : (i j : ℕ) → not (eqb i j) ≡ true → i ≡ j → ⊥
unlike i j e = eqb-false i j (not-true (eqb i j) e)

module _ (s : List ℕ) (c : Call) where
  pub after_refused : (q : Question) → number_of q ≡ number s c → (number_of q ≡ number s c) × (s ≡ after s c)
  unfolding after
  after_refused q e = (e, kept q (number s c) e (written s c) s)

  pub after-done : 0 ≡ number s c → {t : List ℕ} → t ≡ written s c → (0 ≡ number s c) × (t ≡ after s c)
  unfolding after
  after-done e f = (e, rw (after, ← e) f)

  -- ---- a call that is put question 1 and then others, whose number is `rest` of the header

  pub no_header : (rest : ℕ) → number s c ≡ cond (header_ok (header_of s) (length s)) rest 1 → (q : Question)
      → answer_of words_of_header (Err q) ≡ header_asked (header_of s) (length s) → (number_of q ≡ number s c) × (s ≡ after s c)
  no_header rest is q e = let r = refused_means (header_of s) (length s) q e in after_refused q (r.1 ∙ sym (is ∙ rw r.0))

  module _ (rest : Header → ℕ) (is : number s c ≡ cond (header_ok (header_of s) (length s)) (rest (header_of s)) 1) where
    module _ {h : Header} (e : answer_of words_of_header (Ok h) ≡ header_asked (header_of s) (length s)) where
      pub number-rest : number s c ≡ rest h
      number-rest = let v = valid_means (header_of s) (length s) h e in is ∙ rw (v.0, v.1)

      pub rest_refused : (q : Question) → number_of q ≡ rest h → (number_of q ≡ number s c) × (s ≡ after s c)
      rest_refused q f = after_refused q (f ∙ sym number-rest)

-- question 1 answered yes
pub header_ok_lem : (s : List ℕ) {h : Header} → answer_of words_of_header (Ok h) ≡ header_asked (header_of s) (length s) → header_ok h (length s) ≡ true
header_ok_lem s {h} e = let v = valid_means (header_of s) (length s) h e in rw v.1 v.0

-- ---- a recording's own notes

module _ (h : Header) (beats : ℕ) (ws : List ℕ) (pos : 0 < h.delta) (e : list_ok h beats ws ≡ true) where
  notes_are : notes_of h (recording_take h.delta (listed beats ws)) ≡ (listed beats ws).notes
  unfolding listed
  notes_are = notes_again h pos (listed beats ws) (list_passed h beats ws e).ok

  many : length (listed beats ws).notes ≡ length ws / 4
  unfolding listed
  many = length_read (length ws / 4) ws

  pub words_are : words_of h (recording_take h.delta (listed beats ws)) ≡ laid_words h beats ws
  unfolding words_of laid_words recording_take listed
  words_are = rw notes_are

  pub fits_are : fits h (recording_take h.delta (listed beats ws)) ≡ leb (words_used (length ws / 4) (cells_listed h beats ws)) h.words
  unfolding fits cells_listed recording_take listed
  fits_are = rw (notes_are, many)

-- ---- questions 1 and 2 answered yes

-- what the other questions ask
pub asked_asks : {s : List ℕ} {i : ℕ} {g : Header} → Entered s i g → (0 < g.delta) × (g.delta ≤ max_delta) × (g.words ≤ max_words)
asked_asks entered = let range = in_range entered.header in rw entered.same (range.some-ticks, range.few_ticks, range.small)

-- ---- the number

module _ (s : List ℕ) (i beats : ℕ) (ws : List ℕ) where
  abbrev h : Header
  h = header_of s

  q2 : shelves_ok h (lay_call i beats ws) ≡ ltb i h.shelves
  unfolding shelves_ok
  q2 = and-true (ltb i h.shelves)

  q6 : beats_ok h s (lay_call i beats ws) ≡ leb beats max_beats
  unfolding beats_ok results recording_take listed
  q6 = and-true (leb beats max_beats)

  q8 : results_fit h s (lay_call i beats ws) ≡ fits h (recording_take h.delta (listed beats ws))
  unfolding results_fit results
  q8 = and-true (fits h (recording_take h.delta (listed beats ws)))

  number_is : number s (lay_call i beats ws)
      ≡ cond (header_ok h (length s)) (cond (ltb i h.shelves) (cond (leb beats max_beats) (cond (list_ok h beats ws) (cond (fits h (recording_take h.delta (listed beats ws))) 0 8) 7) 6) 2) 1
  unfolding number questions
  number_is =
      rw (q2, q6, q8)
      (asked-in_turn ((1, header_ok h (length s)) ∷ (2, ltb i h.shelves) ∷ (6, leb beats max_beats) ∷ (7, list_ok h beats ws) ∷ (8, fits h (recording_take h.delta (listed beats ws))) ∷ []))

  -- ---- questions 6, 7 and 8

  first_of : (t : Bool) (k : ℕ) → cond t 0 8 ≡ (cond {A = ℕ × List ℕ} t (0, k ∷ []) (8, [])).0
  first_of true k = refl
  first_of false k = refl

  asked-number : 0 < h.delta → (c d : Bool) → leb beats max_beats ≡ c → list_ok h beats ws ≡ d
      → cond c (cond d (cond (fits h (recording_take h.delta (listed beats ws))) 0 8) 7) 6 ≡ (lay_asked h beats ws).0
  unfolding lay_asked list_fits
  asked-number pos true true ec ed =
      rw (ec, ed, fits_are h beats ws pos ed) (first_of (leb (words_used (length ws / 4) (cells_listed h beats ws)) h.words) (cells_listed h beats ws))
  asked-number pos true false ec ed = rw (ec, ed)
  asked-number pos false d ec ed = rw ec

  -- ---- refused by question 1 or 2

  pub refused_entry : (q : Question) → answer_of words_of_header (Err q) ≡ entry_asked s i
      → (number_of q ≡ number s (lay_call i beats ws)) × (s ≡ after s (lay_call i beats ws))
  refused_entry q e = after_refused s (lay_call i beats ws) q (entry_refused s i _ number_is q e)

  -- ---- questions 1 and 2 answered yes

  module _ {g : Header} (entered : Entered s i g) where
    range : InRange h (length s)
    range = in_range entered.header

    pub lay_asks : {k : ℕ} → Laid g beats ws k → LayAsks s g i beats ws k
    lay_asks l =
        record {
          header = rw entered.same entered.header;
          below = rw entered.same entered.below;
          beats_few = l.few;
          list = l.list;
          cells = l.cells;
          fits = l.fits;
        }

    number-asked : number s (lay_call i beats ws) ≡ (lay_asked h beats ws).0
    number-asked =
        number_is
        ∙ rw (entered.header, lt-ltb i h.shelves entered.below)
        (asked-number range.some-ticks (leb beats max_beats) (list_ok h beats ws) refl refl)

    pub refused_asked : (q : Question) → answer_of count_words (Err q) ≡ lay_asked g beats ws
        → (number_of q ≡ number s (lay_call i beats ws)) × (s ≡ after s (lay_call i beats ws))
    refused_asked q e =
        let e' : answer_of count_words (Err q) ≡ lay_asked h beats ws = rw entered.same at e in
        after_refused s (lay_call i beats ws) q (ap (λ (p : ℕ × List ℕ). p.0) e' ∙ sym number-asked)

    laid : list_ok h beats ws ≡ true → written s (lay_call i beats ws) ≡ splice s (shelf_at h i) (laid_words h beats ws)
    unfolding written put_all put_shelf results
    laid list = ap (splice s (shelf_at h i)) (words_are h beats ws range.some-ticks list)

    pub lay_done : {k : ℕ} → Laid g beats ws k → answer_of count_words (Ok k) ≡ lay_asked g beats ws → {t : List ℕ} → t ≡ splice s (shelf_at g i) (laid_words g beats ws)
        → (0 ≡ number s (lay_call i beats ws)) × (t ≡ after s (lay_call i beats ws))
    lay_done {k} l e {t} f =
        let e' : answer_of count_words (Ok k) ≡ lay_asked h beats ws = rw entered.same at e in
        let list : list_ok h beats ws ≡ true = rw entered.same at l.list in
        let t-is : t ≡ splice s (shelf_at h i) (laid_words h beats ws) = rw entered.same at f in
        after-done s (lay_call i beats ws) (ap (λ (p : ℕ × List ℕ). p.0) e' ∙ sym number-asked) (t-is ∙ sym (laid list))

-- A write: its number, count and output by the way that it goes. Assumes nothing.
use mathlib.Core.Path.{◌≡◌, refl, sym, ap, ◌∙◌}
use mathlib.Core.Bool.{Bool, true, false, cond}
use mathlib.Core.List.{List, [], ◌∷◌}
use Prim.Native.Nat.{ℕ, ◌≤◌, ◌<◌}
use native.Mathlib.Omega.{arith}
use borrow.Author.Tests.{lt-ltb, lt-leb}
use lib.Dec.{leb, ltb}
use lib.ListN.{length, length-append}
use Rattle.words.specs.Splice.{splice}
use Rattle.model.specs.Limits.{max_delta, min_words}
use Rattle.model.specs.Questions.{header_ok}
use Rattle.model.specs.Session.{header_of, words_of_header, shelf}
use Rattle.model.specs.Soundness.{sound_shelf}
use Rattle.model.specs.Takes.{word, notes_in}
use Rattle.model.specs.declared.Header.{Header}
use Rattle.model.proofs.Headers.{in_range}
use Rattle.laws.specs.Accepted.{asked-in_turn}
use Rattle.midi.specs.Writing.{header_bytes, track_bytes, file_bytes}
use Rattle.session.proofs.Entries.{Entered, granted_means, entry_refused}
use Rattle.std.specs.Prelude.{Result, Ok, Err}
use Rattle.model.specs.Numbers.{number_of, answer_number, answer_of}
use Rattle.model.proofs.Numbers.{kept}
use Rattle.model.specs.declared.questions.Question.{Question}
use Rattle.model.specs.declared.questions.Question.TheVariants.{ShelvesSound, FileFits}
use Rattle.session.specs.Entering.{entry_asked}
use Rattle.file.specs.Calls.{shelf_file, file_fits, write_questions, write_number, write_count, write_output}
use Rattle.file.specs.Writing.{file_answer, file_left}
use Rattle.writer.proofs.Written.{header-length}
use Rattle.writer.specs.Files.{PartAsks, file_in}

-- ---- the number, the count and the output

abbrev pub Wrote : List ℕ → ℕ → List ℕ → ℕ → ℕ → List ℕ → Type 0
Wrote s i out number count after = (number ≡ write_number s i (length out)) × ((count ≡ write_count s i (length out)) × (after ≡ write_output s i out))

module _ (s : List ℕ) (i : ℕ) (out : List ℕ) where
  wrote_refused : (q : Question) → number_of q ≡ write_number s i (length out) → Wrote s i out (number_of q) 0 out
  unfolding write_count write_output
  wrote_refused q e =
      let n = write_number s i (length out) in
      (e, (kept q n e (length (shelf_file s i)) 0, kept q n e (splice out 0 (shelf_file s i)) out))

  wrote_done : 0 ≡ write_number s i (length out) → {count : ℕ} {after : List ℕ} → count ≡ length (shelf_file s i) → after ≡ splice out 0 (shelf_file s i) → Wrote s i out 0 count after
  unfolding write_count write_output
  wrote_done e f g = (e, (rw (write_count, ← e) f, rw (write_output, ← e) g))

module _ (s : List ℕ) (i room : ℕ) where
  abbrev g : Header
  g = header_of s

  number_is : write_number s i room ≡ cond (header_ok g (length s)) (cond (ltb i g.shelves) (cond (sound_shelf g (shelf g s i)) (cond (file_fits s i room) 0 15) 4) 2) 1
  unfolding write_number write_questions
  number_is = asked-in_turn ((1, header_ok g (length s)) ∷ (2, ltb i g.shelves) ∷ (4, sound_shelf g (shelf g s i)) ∷ (15, file_fits s i room) ∷ [])

-- ---- refused by question 1 or 2

pub write_refused : (s : List ℕ) (i : ℕ) (out : List ℕ) (q : Question) → answer_of words_of_header (Err q) ≡ entry_asked s i → Wrote s i out (number_of q) 0 out
write_refused s i out q e = wrote_refused s i out q (entry_refused s i _ (number_is s i (length out)) q e)

-- ---- a shelf's words

module _ (h : Header) (ws : List ℕ) where
  -- no file is shorter than its header
  file_long : 22 ≤ length (file_in h ws)
  unfolding file_bytes
  file_long =
      let track = track_bytes h.delta (word ws 0) (notes_in ws) in
      omega (arith, length-append (header_bytes h.delta (length track)) track, header-length h.delta (length track))

  -- one shorter than that holds none
  pub too_short : (out : List ℕ) → length out < 22 → leb (length (file_in h ws)) (length out) ≡ false
  too_short out short = lt-leb (length (file_in h ws)) (length out) (omega (arith, file_long))

  pub sound_asks : (len : ℕ) → header_ok h len ≡ true → length ws ≡ h.words
      → (0 < h.delta) × (h.delta ≤ max_delta) × (h.epsilon ≤ h.delta) × (min_words ≤ h.words) × (length ws ≡ h.words)
  sound_asks len ok long = let range = in_range ok in (range.some-ticks, range.few_ticks, range.kept-within, range.large, long)

  pub part_asks : (len : ℕ) → header_ok h len ≡ true → length ws ≡ h.words → sound_shelf h ws ≡ true → PartAsks h ws
  part_asks len ok long sound =
      let range = in_range ok in
      record { some-ticks = range.some-ticks; few_ticks = range.few_ticks; small = range.small; whole = long; sound = sound }

-- ---- questions 1 and 2 answered yes

-- what the file's answer counts
abbrev pub counted : Result ℕ Question → ℕ
counted (Ok n) = n
counted (Err q) = 0

module _ (s : List ℕ) (i : ℕ) (h : Header) (granted : answer_of words_of_header (Ok h) ≡ entry_asked s i) (out : List ℕ) where
  e : Entered s i h
  e = granted_means s i h granted

  abbrev ws : List ℕ
  ws = shelf h s i

  abbrev file : List ℕ
  file = file_in h ws

  file_same : file ≡ shelf_file s i
  unfolding shelf_file
  file_same = ap (λ (g : Header). file_in g (shelf g s i)) e.same

  entered_number : write_number s i (length out) ≡ cond (sound_shelf h ws) (cond (leb (length file) (length out)) 0 15) 4
  unfolding file_fits
  entered_number =
      number_is s i (length out)
      ∙ rw (e.header, lt-ltb i (header_of s).shelves e.below)
      (ap (λ (g : Header). cond (sound_shelf g (shelf g s i)) (cond (leb (length (shelf_file s i)) (length out)) 0 15) 4) (sym e.same)
      ∙ ap (λ (f : List ℕ). cond (sound_shelf h ws) (cond (leb (length f) (length out)) 0 15) 4) (sym file_same))

  -- the file's answer decides
  pub write_by_file : {r : Result ℕ Question} {after : List ℕ} → r ≡ file_answer h ws out → after ≡ file_left h ws out → Wrote s i out (answer_number r) (counted r) after
  write_by_file {r} {after} answer leaves = go (sound_shelf h ws) (leb (length file) (length out)) refl refl
    where
      go : (a b : Bool) → sound_shelf h ws ≡ a → leb (length file) (length out) ≡ b → Wrote s i out (answer_number r) (counted r) after
      go true true x y =
          let is : r ≡ Ok (length file) = answer ∙ rw (x, y) in
          let left : after ≡ splice out 0 file = leaves ∙ rw (x, y) in
          rw is (wrote_done s i out (sym (entered_number ∙ rw (x, y))) (ap length file_same) (left ∙ ap (splice out 0) file_same))
      go true false x y =
          let is : r ≡ Err FileFits = answer ∙ rw (x, y) in
          let left : after ≡ out = leaves ∙ rw (x, y) in
          rw (is, left) (wrote_refused s i out FileFits (sym (entered_number ∙ rw (x, y))))
      go false b x y =
          let is : r ≡ Err ShelvesSound = answer ∙ rw x in
          let left : after ≡ out = leaves ∙ rw x in
          rw (is, left) (wrote_refused s i out ShelvesSound (sym (entered_number ∙ rw x)))

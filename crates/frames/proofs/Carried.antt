-- The calls of frames: what each leaves, by the way that it goes. Assumes nothing.
use Rattle.std.specs.Prelude.{◌≡◌, refl, Bool, true, false, List, [], ◌++◌, ℕ, zero, suc, ◌-◌, ◌/◌, ◌%◌, ◌≤◌, ◌<◌, leb, length, get_or, take, drop, Result, Ok, Err}
use Rattle.std.proofs.Common.{sym, ap, ◌∙◌, arith, ne_eqb, length-drop}
use Rattle.std.proofs.lemmas.Bool.{le-leb, lt-leb, eq-eqb}
use borrow.Author.Tests.{leb-true}
use lib.ListN.{take-append-drop}
use lib.Seq.{length-take-le, take_all}
use Rattle.words.specs.Splice.{splice}
use Rattle.words.specs.Parts.{part-splice-written}
use Rattle.model.specs.Session.{session_length, fresh_words}
use Rattle.model.specs.Machine.{open_call, lay_call, split_call, join_call}
use Rattle.model.specs.Questions.{header_ok, number, after}
use Rattle.model.specs.declared.Header.{Header}
use Rattle.model.specs.Numbers as Numbers
use Rattle.model.specs.declared.questions.Question.{Question}
use Rattle.model.specs.declared.questions.Question.TheVariants.{HeaderInRange, ShelvesBelow, ShelvesDiffer, ShelvesSound, BeatWithin, BeatsFew, ListInOrder, ResultFits, FileHeader, FileFormat, TrackReached, EventLegal, TimeWithin, LaneSilent, FileFits}
use Rattle.laws.specs.Accepted.{yes_all}
use Rattle.laws.specs.Booleans.{and_no}
use Rattle.midi.specs.Numbers.{word32}
use Rattle.file.specs.Calls.{shelf_file, file_fits, write_questions, write_number, write_count, write_output, load_number, load_after}
use Rattle.model.proofs.Numbers.{number_positive}
use Rattle.beat.proofs.Opens.{open_refused, open_done}
use Rattle.frames.specs.Lines.{Frame, malformed, open_frame, lay_frame, split_frame, join_frame, write_frame, load_frame, arguments, open_of, lay_of, split_of, join_of, write_of, load_of}
use Rattle.frames.specs.Answers.{opens, number_of, session_after, file_after}
use Rattle.frames.specs.Calling.{refusal_number, number_in, words_in, Changed, Wrote}
use Rattle.frames.specs.declared.calls.Refusal.{Refusal}
use Rattle.frames.specs.declared.calls.Refusal.TheVariants.{Malformed, AnsweredNo}
use Rattle.frames.proofs.Words.{words_err, words_ok}

-- ---- the number of a question

pub question_some : (q : Question) → Numbers.number_of q ≡ 0 → ⊥
question_some q e = omega (arith, number_positive q)

-- it has two digits
pub question_few : (q : Question) → Numbers.number_of q ≤ 255
question_few HeaderInRange = omega arith
question_few ShelvesBelow = omega arith
question_few ShelvesDiffer = omega arith
question_few ShelvesSound = omega arith
question_few BeatWithin = omega arith
question_few BeatsFew = omega arith
question_few ListInOrder = omega arith
question_few ResultFits = omega arith
question_few FileHeader = omega arith
question_few FileFormat = omega arith
question_few TrackReached = omega arith
question_few EventLegal = omega arith
question_few TimeWithin = omega arith
question_few LaneSilent = omega arith
question_few FileFits = omega arith

-- ---- lay, split, join and load

-- a malformed line changes nothing
pub nothing : (s : List ℕ) {f : Frame} → f ≡ malformed → Changed s f s (Err Malformed)
unfolding number_of session_after file_after
nothing s e = record { number = rw e; session = rw e; file = rw e }

changed : {s : List ℕ} {f : Frame} {t : List ℕ} {q : ℕ} → (q ≡ number_of s f) × (t ≡ session_after s f) → file_after s f ≡ [] → {r : Result (Unit {0}) Refusal}
    → number_in r ≡ q → Changed s f t r
changed done none is = record { number = is ∙ done.0; session = done.1; file = none }

module _ (s bytes : List ℕ) where
  pub split_wrong : {r : Refusal} → Err r ≡ words_in 4 bytes → Changed s (split_of bytes) s (Err r)
  unfolding split_of
  split_wrong e = let w = words_err 4 bytes (split_frame (word32 bytes 0) (word32 bytes 4) (word32 bytes 8) (word32 bytes 12)) e in rw w.0 (nothing s w.1)

  pub split_done : {ws : List ℕ} → Ok ws ≡ words_in 4 bytes → {t : List ℕ} {q : ℕ}
      → (q ≡ number s (split_call (get_or ws 0 0) (get_or ws 1 0) (get_or ws 2 0) (get_or ws 3 0)))
      × (t ≡ after s (split_call (get_or ws 0 0) (get_or ws 1 0) (get_or ws 2 0) (get_or ws 3 0)))
      → {r : Result (Unit {0}) Refusal} → number_in r ≡ q → Changed s (split_of bytes) t r
  unfolding split_of arguments number_of session_after file_after
  split_done e done {r} is =
      let w = words_ok 4 bytes (split_frame (word32 bytes 0) (word32 bytes 4) (word32 bytes 8) (word32 bytes 12)) e in
      rw w.1 (changed {f = split_frame (word32 bytes 0) (word32 bytes 4) (word32 bytes 8) (word32 bytes 12)} (rw w.0 at done) refl is)

  pub join_wrong : {r : Refusal} → Err r ≡ words_in 3 bytes → Changed s (join_of bytes) s (Err r)
  unfolding join_of
  join_wrong e = let w = words_err 3 bytes (join_frame (word32 bytes 0) (word32 bytes 4) (word32 bytes 8)) e in rw w.0 (nothing s w.1)

  pub join-done : {ws : List ℕ} → Ok ws ≡ words_in 3 bytes → {t : List ℕ} {q : ℕ}
      → (q ≡ number s (join_call (get_or ws 0 0) (get_or ws 1 0) (get_or ws 2 0))) × (t ≡ after s (join_call (get_or ws 0 0) (get_or ws 1 0) (get_or ws 2 0)))
      → {r : Result (Unit {0}) Refusal} → number_in r ≡ q → Changed s (join_of bytes) t r
  unfolding join_of arguments number_of session_after file_after
  join-done e done {r} is =
      let w = words_ok 3 bytes (join_frame (word32 bytes 0) (word32 bytes 4) (word32 bytes 8)) e in
      rw w.1 (changed {f = join_frame (word32 bytes 0) (word32 bytes 4) (word32 bytes 8)} (rw w.0 at done) refl is)

  pub lay-short : length bytes < 8 → Changed s (lay_of bytes) s (Err Malformed)
  unfolding lay_of
  lay-short h = nothing s (rw (lt-leb 8 (length bytes) h))

  pub lay_incomplete : (length bytes % 4 ≡ 0 → ⊥) → Changed s (lay_of bytes) s (Err Malformed)
  unfolding lay_of
  lay_incomplete h = nothing s (rw (ne_eqb (length bytes % 4) 0 h, and_no (leb 8 (length bytes)) false refl))

  pub lay_done : 8 ≤ length bytes → length bytes % 4 ≡ 0 → {i beats n : ℕ} {ws : List ℕ} → i ≡ word32 bytes 0 → beats ≡ word32 bytes 4
      → n ≡ (length bytes - 8) / 4 → ws ≡ arguments n bytes 2
      → {t : List ℕ} {q : ℕ} → (q ≡ number s (lay_call i beats ws)) × (t ≡ after s (lay_call i beats ws)) → {r : Result (Unit {0}) Refusal} → number_in r ≡ q → Changed s (lay_of bytes) t r
  unfolding lay_of number_of session_after file_after
  lay_done low whole {i} {beats} {n} {ws} a b c d done {r} is =
      rw (le-leb 8 (length bytes) low, eq-eqb (length bytes % 4) 0 whole, ← a, ← b, ← c, ← d) (changed {f = lay_frame i beats ws} done refl is)

  pub load_short : length bytes < 4 → Changed s (load_of bytes) s (Err Malformed)
  unfolding load_of
  load_short h = nothing s (rw (lt-leb 4 (length bytes) h))

  pub load_done : 4 ≤ length bytes → {i : ℕ} → i ≡ word32 bytes 0 → {t : List ℕ} {q : ℕ}
      → (q ≡ load_number s i (take (length bytes - 4) (drop 4 bytes))) × (t ≡ load_after s i (take (length bytes - 4) (drop 4 bytes)))
      → {r : Result (Unit {0}) Refusal} → number_in r ≡ q → Changed s (load_of bytes) t r
  unfolding load_of number_of session_after file_after
  load_done low {i} a {t} {q} done {r} is =
      let whole : take (length bytes - 4) (drop 4 bytes) ≡ drop 4 bytes = take_all (length bytes - 4) (drop 4 bytes) (omega (arith, length-drop 4 bytes)) in
      rw (le-leb 4 (length bytes) low, ← a) (changed {f = load_frame i (drop 4 bytes)} (rw whole at done) refl is)

-- ---- write

-- a file that is written fits the output
file_fits_lem : (s : List ℕ) (i room : ℕ) → write_number s i room ≡ 0 → length (shelf_file s i) ≤ room
unfolding write_number write_questions file_fits
file_fits_lem s i room e =
    let all = yes_all (write_questions s i room) (omega arith) e in
    leb-true (length (shelf_file s i)) room all.1.1.1.0

module _ (s bytes out : List ℕ) where
  pub write_wrong : {r : Refusal} → Err r ≡ words_in 1 bytes → Wrote s (write_of bytes) out (Err r)
  unfolding write_of number_of file_after
  write_wrong e = let w = words_err 1 bytes (write_frame (word32 bytes 0)) e in rw (w.0, w.1) (record { number = refl; file = refl })

  -- the shelf that is named
  pub write_named : {ws : List ℕ} → Ok ws ≡ words_in 1 bytes → (get_or ws 0 0 ≡ word32 bytes 0) × (write_of bytes ≡ write_frame (word32 bytes 0))
  unfolding write_of arguments
  write_named given = let w = words_ok 1 bytes (write_frame (word32 bytes 0)) given in (ap (λ (l : List ℕ). get_or l 0 0) w.0, w.1)

  module _ {i : ℕ} (named : (i ≡ word32 bytes 0) × (write_of bytes ≡ write_frame (word32 bytes 0))) {q : ℕ} (is : q ≡ write_number s i 8192) where
    pub write_refused : {r : Refusal} → (q ≡ 0 → ⊥) → refusal_number r ≡ q → Wrote s (write_of bytes) out (Err r)
    unfolding number_of file_after
    write_refused {r} differs e =
        rw (named.1, ← named.0) (record { number = e ∙ is; file = go (write_number s i 8192) refl (λ z. differs (is ∙ z)) })
      where
        go : (m : ℕ) → write_number s i 8192 ≡ m → (m ≡ 0 → ⊥) → file_after s (write_frame i) ≡ []
        go zero m some = absurd (some refl)
        go (suc k) m some = rw (m, file_after)

    pub write_accepted : q ≡ 0 → length out ≡ 8192 → {out' : List ℕ} {n : ℕ} → n ≡ write_count s i 8192 → out' ≡ write_output s i out
        → Wrote s (write_of bytes) out' (Ok n)
    unfolding number_of file_after write_count write_output
    write_accepted e room {out'} {n} is-count is-out =
        let m : write_number s i 8192 ≡ 0 = sym is ∙ e in
        let m' : write_number s i (length out) ≡ 0 = rw (← room) at m in
        let count : n ≡ length (shelf_file s i) = is-count ∙ rw (m, write_count) in
        let made : out' ≡ splice out 0 (shelf_file s i) = is-out ∙ rw (m', write_output) in
        let fits = file_fits_lem s i 8192 m in
        let file : file_after s (write_frame i) ≡ shelf_file s i = rw (m, file_after) in
        rw (named.1, ← named.0)
        (record {
          number = sym m;
          file = record {
            size = count ∙ ap length (sym file);
            few = omega arith;
            file = rw (count, made, file) (part-splice-written out 0 (shelf_file s i) (omega arith));
          };
        })

-- ---- open

-- the header of four words
abbrev pub header : List ℕ → Header
header ws = record { delta = get_or ws 0 0; epsilon = get_or ws 1 0; shelves = get_or ws 2 0; words = get_or ws 3 0 }

module _ (s bytes : List ℕ) where
  abbrev asked_header : Header
  asked_header = record { delta = word32 bytes 0; epsilon = word32 bytes 4; shelves = word32 bytes 8; words = word32 bytes 12 }

  pub open_wrong : {r : Refusal} → Err r ≡ words_in 4 bytes → Changed s (open_of bytes) s (Err r)
  unfolding open_of
  open_wrong e = let w = words_err 4 bytes (open_frame asked_header) e in rw w.0 (nothing s w.1)

  module _ {ws : List ℕ} (given : Ok ws ≡ words_in 4 bytes) where
    right : open_of bytes ≡ open_frame (header ws)
    unfolding open_of arguments
    right = let w = words_ok 4 bytes (open_frame asked_header) given in w.1 ∙ rw w.0 refl

    pub open_large : 8192 < session_length (header ws) → Changed s (open_of bytes) s (Err (AnsweredNo HeaderInRange))
    unfolding number_of session_after file_after opens
    open_large large =
        let over : leb (session_length (header ws)) 8192 ≡ false = lt-leb (session_length (header ws)) 8192 large in
        rw right (record { number = rw over; session = rw over; file = refl })

    module _ (fits : session_length (header ws) ≤ 8192) (words : List ℕ) (whole : length words ≡ 8192) {p : List ℕ} {q : ℕ} (done : (q ≡ number (take (session_length (header ws)) words) (open_call (header ws))) × (p ≡ after (take (session_length (header ws)) words) (open_call (header ws)))) where
      given_length : length (take (session_length (header ws)) words) ≡ session_length (header ws)
      given_length = length-take-le (session_length (header ws)) words (omega arith)

      yes : leb (session_length (header ws)) 8192 ≡ true
      yes = le-leb (session_length (header ws)) 8192 fits

      -- a refused open leaves the words as they were
      pub open_same : (q ≡ 0 → ⊥) → p ++ drop (session_length (header ws)) words ≡ words
      unfolding number_of session_after file_after opens
      open_same e = go (header_ok (header ws) (session_length (header ws))) refl where
        go : (b : Bool) → header_ok (header ws) (session_length (header ws)) ≡ b → p ++ drop (session_length (header ws)) words ≡ words
        go true h = absurd (e (done.0 ∙ sym (open_done (take (session_length (header ws)) words) (header ws) (rw given_length h) refl).0))
        go false h =
            rw (done.1 ∙ sym (open_refused (take (session_length (header ws)) words) (header ws) (rw given_length h)).1)
            (take-append-drop (session_length (header ws)) words)

      pub open_kept : (q ≡ 0 → ⊥) → {r : Refusal} → refusal_number r ≡ q → Changed s (open_of bytes) s (Err r)
      unfolding number_of session_after file_after opens
      open_kept e {r} is = rw right (go (header_ok (header ws) (session_length (header ws))) refl) where
        go : (b : Bool) → header_ok (header ws) (session_length (header ws)) ≡ b → Changed s (open_frame (header ws)) s (Err r)
        go true h = absurd (e (done.0 ∙ sym (open_done (take (session_length (header ws)) words) (header ws) (rw given_length h) refl).0))
        go false h =
            record {
              number = is ∙ done.0 ∙ sym (open_refused (take (session_length (header ws)) words) (header ws) (rw given_length h)).0 ∙ rw (yes, h);
              session = rw (yes, h);
              file = refl;
            }

      pub open_accepted : q ≡ 0 → Changed s (open_of bytes) p (Ok tt)
      unfolding number_of session_after file_after opens
      open_accepted e = rw right (go (header_ok (header ws) (session_length (header ws))) refl) where
        go : (b : Bool) → header_ok (header ws) (session_length (header ws)) ≡ b → Changed s (open_frame (header ws)) p (Ok tt)
        go true h =
            let fresh : p ≡ fresh_words (header ws) = done.1 ∙ sym (open_done (take (session_length (header ws)) words) (header ws) (rw given_length h) refl).1 in
            record { number = rw (yes, h); session = rw (yes, h, fresh); file = refl }
        go false h =
            let one = (open_refused (take (session_length (header ws)) words) (header ws) (rw given_length h)).0 in
            let wrong : ◌≡◌ {A = ℕ} 0 1 = sym e ∙ done.0 ∙ sym one in
            absurd (omega arith)

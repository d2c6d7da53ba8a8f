-- Join: the number by the way that the questions go. Assumes nothing.
use mathlib.Core.Path.{◌≡◌, refl, sym, ap, ◌∙◌}
use mathlib.Core.Bool.{Bool, true, false, cond, not, ◌&&◌, and-true}
use mathlib.Core.List.{List, [], ◌∷◌}
use Prim.Native.Nat.{ℕ, ◌+◌, ◌*◌, ◌≤◌, ◌<◌}
use native.Mathlib.Omega.{arith}
use borrow.Author.Tests.{leb-true, ltb-true}
use lib.Dec.{leb, ltb, eqb}
use lib.ListN.{length}
use Rattle.words.specs.Splice.{splice}
use Rattle.model.specs.Limits.{max_beats}
use Rattle.model.specs.Takes.{join_takes, take_in, words_of}
use Rattle.model.specs.Session.{header_of, words_of_header, put_shelf, shelf, shelf_at}
use Rattle.model.specs.Soundness.{sound_shelf}
use Rattle.model.specs.Machine.{join_call}
use Rattle.std.specs.Prelude.{Ok}
use Rattle.model.specs.Numbers.{number_of, answer_of}
use Rattle.model.specs.declared.questions.Question.{Question}
use Rattle.model.specs.Answers.{header_asked}
use Rattle.model.specs.Questions.{header_ok, shelves_ok, writes_differ, reads_sound, beats_ok, fits, results_fit, results, put_all, questions, number, written, after, take_at}
use Rattle.model.specs.declared.Header.{Header}
use Rattle.model.proofs.Headers.{valid_means}
use Rattle.laws.specs.Accepted.{asked-first, asked-in_turn, yes_all}
use Rattle.laws.specs.Booleans.{and_left, and_right}
use Rattle.laws.specs.Sound.{sound_beats}
use Rattle.cuts.specs.Counting.{FitAsks}
use Rattle.cuts.specs.Joined.{JoinAsks, PutAsks}
use Rattle.beat.specs.Joining.{join_asked}
use Rattle.beat.proofs.Calls.{after-done, unlike, header_ok_lem, number-rest, rest_refused}

module _ (K i j k : ℕ) where
  shelves_below : ltb i K && (ltb j K && ltb k K) ≡ true → (i < K) × (j < K) × (k < K)
  shelves_below e =
      let two = and_right (ltb i K) (ltb j K && ltb k K) e in
      (ltb-true i K (and_left (ltb i K) (ltb j K && ltb k K) e), ltb-true j K (and_left (ltb j K) (ltb k K) two), ltb-true k K (and_right (ltb j K) (ltb k K) two))

-- ---- questions 2, 3, 4, 6 and 8

module _ (h : Header) (s : List ℕ) (i j k : ℕ) where
  abbrev sound : Bool
  sound = sound_shelf h (shelf h s i) && sound_shelf h (shelf h s j)

  abbrev below : Bool
  below = ltb i h.shelves && (ltb j h.shelves && ltb k h.shelves)

  abbrev apart : Bool
  apart = not (eqb k i) && not (eqb k j)

  abbrev short : Bool
  short = leb ((take_at h s i).beats + (take_at h s j).beats) max_beats

  abbrev room : Bool
  room = fits h (join_takes h.delta (take_at h s i) (take_at h s j))

  abbrev asked : List (ℕ × Bool)
  asked = (2, below) ∷ (3, apart) ∷ (4, sound) ∷ (6, short) ∷ (8, room) ∷ []

  q2 : shelves_ok h (join_call i j k) ≡ below
  unfolding shelves_ok
  q2 = rw (and-true (ltb k h.shelves))

  q3 : writes_differ (join_call i j k) ≡ apart
  unfolding writes_differ
  q3 = go (eqb k i) (eqb k j)
    where
      go : (a b : Bool) → (true && true) && ((not a && (not b && true)) && true) ≡ not a && not b
      go true b = refl
      go false true = refl
      go false false = refl

  q4 : reads_sound h s (join_call i j k) ≡ sound
  unfolding reads_sound
  q4 = rw (and-true (sound_shelf h (shelf h s j)))

  q6 : beats_ok h s (join_call i j k) ≡ short
  unfolding beats_ok results join_takes
  q6 = and-true short

  q8 : results_fit h s (join_call i j k) ≡ room
  unfolding results_fit results
  q8 = and-true room

  pub asked_is : join_asked h s i j k ≡ cond below (cond apart (cond (sound) (cond short (cond room 0 8) 6) 4) 3) 2
  unfolding join_asked
  asked_is = rw (q2, q3, q4, q6, q8) (asked-in_turn asked)

  -- the answers as facts
  facts : header_ok h (length s) ≡ true → below ≡ true → apart ≡ true → sound ≡ true
      → (take_at h s i).beats + (take_at h s j).beats ≤ max_beats → JoinAsks s h i j k
  facts ok a b c d =
      record {
        header = ok;
        first_below = (shelves_below h.shelves i j k a).0;
        second_below = (shelves_below h.shelves i j k a).1;
        to_below = (shelves_below h.shelves i j k a).2;
        first_differs = λ e. unlike k i (and_left (not (eqb k i)) (not (eqb k j)) b) (sym e);
        second_differs = λ e. unlike k j (and_right (not (eqb k i)) (not (eqb k j)) b) (sym e);
        first-sound = and_left (sound_shelf h (shelf h s i)) (sound_shelf h (shelf h s j)) c;
        second_sound = and_right (sound_shelf h (shelf h s i)) (sound_shelf h (shelf h s j)) c;
        beats_few = d;
      }

  -- all are answered yes
  pub put_asks : header_ok h (length s) ≡ true → join_asked h s i j k ≡ 0 → PutAsks s h i j k
  unfolding join_asked
  put_asks ok z =
      let yes = yes_all asked (omega arith) (rw (q2, q3, q4, q6, q8) at z) in
      let few = leb-true ((take_at h s i).beats + (take_at h s j).beats) max_beats yes.1.1.1.0 in
      record { asks = facts ok yes.0 yes.1.0 yes.1.1.0 few; fit = yes.1.1.1.1.0 }

  -- questions 2, 3 and 4 answered yes
  module _ (a : below ≡ true) (b : apart ≡ true) (c : sound ≡ true) where
    pub few_beats : 0 < h.delta → (take_at h s i).beats + (take_at h s j).beats ≤ 2 * max_beats
    unfolding take_in
    few_beats pos =
        omega (
          arith,
          sound_beats h pos (shelf h s i) (and_left (sound_shelf h (shelf h s i)) (sound_shelf h (shelf h s j)) c),
          sound_beats h pos (shelf h s j) (and_right (sound_shelf h (shelf h s i)) (sound_shelf h (shelf h s j)) c),
        )

    pub fit_asks : header_ok h (length s) ≡ true → (take_at h s i).beats + (take_at h s j).beats ≤ max_beats → FitAsks s h i j
    fit_asks ok few = record { result = k; asks = facts ok a b c few }

-- ---- the call

module _ (s : List ℕ) (i j k : ℕ) where
  pub number_is : number s (join_call i j k) ≡ cond (header_ok (header_of s) (length s)) (join_asked (header_of s) s i j k) 1
  unfolding number questions join_asked
  number_is =
      let h = header_of s in
      let c = join_call i j k in
      asked-first 1 (header_ok h (length s)) ((2, shelves_ok h c) ∷ (3, writes_differ c) ∷ (4, reads_sound h s c) ∷ (6, beats_ok h s c) ∷ (8, results_fit h s c) ∷ [])

  pub refused : {h : Header} → answer_of words_of_header (Ok h) ≡ header_asked (header_of s) (length s) → (q : Question) → number_of q ≡ join_asked h s i j k
      → (number_of q ≡ number s (join_call i j k)) × (s ≡ after s (join_call i j k))
  refused e q f = rest_refused s (join_call i j k) (λ h. join_asked h s i j k) number_is e q f

  module _ {h : Header} (e : answer_of words_of_header (Ok h) ≡ header_asked (header_of s) (length s)) where
    pub join_asks : 0 ≡ join_asked h s i j k → PutAsks s h i j k
    join_asks z = put_asks h s i j k (header_ok_lem s e) (sym z)

    pub done : 0 ≡ join_asked h s i j k → {t : List ℕ} → t ≡ splice s (shelf_at h k) (words_of h (join_takes h.delta (take_at h s i) (take_at h s j)))
        → (0 ≡ number s (join_call i j k)) × (t ≡ after s (join_call i j k))
    unfolding written put_all put_shelf results
    done z g =
        let put : splice s (shelf_at h k) (words_of h (join_takes h.delta (take_at h s i) (take_at h s j))) ≡ written s (join_call i j k) =
        ap (λ (g : Header). splice s (shelf_at g k) (words_of g (join_takes g.delta (take_at g s i) (take_at g s j)))) (valid_means (header_of s) (length s) h e).1 in
        after-done s (join_call i j k) (z ∙ sym (number-rest s (join_call i j k) (λ h. join_asked h s i j k) number_is e)) (g ∙ put)

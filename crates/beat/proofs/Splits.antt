-- Split: the number by the way that the questions go, and both halves' words. Assumes nothing.
use mathlib.Core.Path.{ap, ◌≡◌, refl, sym, ◌∙◌}
use mathlib.Core.Bool.{Bool, true, false, cond, not, ◌&&◌, and-true}
use mathlib.Core.List.{List, [], ◌∷◌}
use Prim.Native.Nat.{ℕ, ◌+◌, ◌≤◌, ◌<◌}
use native.Mathlib.Omega.{arith}
use borrow.Author.Tests.{leb-true, ltb-true}
use lib.Dec.{leb, ltb, eqb}
use lib.ListN.{length, get_or}
use Rattle.words.specs.Splice.{splice}
use Rattle.model.specs.Limits.{max_beats, max_delta, max_shelves, max_words}
use Rattle.model.specs.Takes.{take_in, words_of, split_left, split_right}
use Rattle.model.specs.Session.{header_of, words_of_header, shelf, shelf_at, put_shelf}
use Rattle.model.specs.Soundness.{sound_shelf}
use Rattle.model.specs.Machine.{split_call}
use Rattle.std.specs.Prelude.{Ok}
use Rattle.model.specs.Numbers.{number_of, answer_of}
use Rattle.model.specs.declared.questions.Question.{Question}
use Rattle.model.specs.Answers.{header_asked}
use Rattle.model.specs.Questions.{header_ok, shelves_ok, writes_differ, reads_sound, beat_within, results, put_all, number, written, after, take_at}
use Rattle.model.specs.declared.Header.{Header}
use Rattle.model.proofs.Headers.{InRange, in_range, valid_means}
use Rattle.laws.specs.Accepted.{asked-first, asked-in_turn, yes_all}
use Rattle.laws.specs.Booleans.{and_left, and_right}
use Rattle.laws.specs.Reached.{split_number}
use Rattle.laws.specs.Sound.{sound_beats}
use Rattle.cuts.specs.declared.halves.Half.{Half}
use Rattle.cuts.specs.Halving.{left_half, right_half, half_of, HalfAsks}
use Rattle.cuts.specs.BothHalves.{Sides, BothAsks}
use Rattle.beat.specs.Splitting.{split_asked, SplitAsks}
use Rattle.beat.proofs.Calls.{after-done, unlike, header_ok_lem, number-rest, rest_refused}
use Rattle.session.proofs.Sources.{beats_is, inside_session, place_asks}

-- ---- questions 2 to 5

module _ (h : Header) (s : List ℕ) (i k l r : ℕ) where
  abbrev below : Bool
  below = ltb i h.shelves && (ltb l h.shelves && ltb r h.shelves)

  abbrev apart : Bool
  apart = not (eqb l r) && (not (eqb l i) && not (eqb r i))

  abbrev sound : Bool
  sound = sound_shelf h (shelf h s i)

  abbrev within : Bool
  within = leb k (take_at h s i).beats

  abbrev asked : List (ℕ × Bool)
  asked = (2, below) ∷ (3, apart) ∷ (4, sound) ∷ (5, within) ∷ []

  q2 : shelves_ok h (split_call i k l r) ≡ below
  unfolding shelves_ok
  q2 = rw (and-true (ltb r h.shelves))

  q3 : writes_differ (split_call i k l r) ≡ apart
  unfolding writes_differ
  q3 = go (eqb l r) (eqb l i) (eqb r i)
    where
      go : (a b c : Bool) → ((not a && true) && (true && true)) && ((not b && true) && ((not c && true) && true)) ≡ not a && (not b && not c)
      go true b c = refl
      go false true c = refl
      go false false true = refl
      go false false false = refl

  q4 : reads_sound h s (split_call i k l r) ≡ sound
  unfolding reads_sound
  q4 = and-true sound

  pub asked_is : split_asked h s i k l r ≡ cond below (cond apart (cond sound (cond within 0 5) 4) 3) 2
  unfolding split_asked beat_within
  asked_is = rw (q2, q3, q4) (asked-in_turn asked)

-- ---- both halves

module _ {s : List ℕ} {h : Header} {i k l r : ℕ} (a : SplitAsks s h i k l r) where
  range : InRange h (length s)
  range = in_range a.header

  -- questions 2 to 5 as facts
  pub record Granted : Type 0 where
    pub take_below : i < h.shelves
    pub left_below : l < h.shelves
    pub right-below : r < h.shelves
    pub left-right : l ≡ r → ⊥
    pub take_left : i ≡ l → ⊥
    pub take-right : i ≡ r → ⊥
    pub is_sound : sound_shelf h (shelf h s i) ≡ true
    pub beat_in : k ≤ (take_at h s i).beats
    pub beats_few : (take_at h s i).beats ≤ max_beats

  pub granted : Granted
  unfolding split_asked beat_within take_in
  granted =
      let yes = yes_all (asked h s i k l r) (omega arith) (rw (q2 h s i k l r, q3 h s i k l r, q4 h s i k l r) at a.asked) in
      let first = ltb i h.shelves in
      let second = ltb l h.shelves in
      let third = ltb r h.shelves in
      let two = and_right first (second && third) yes.0 in
      let differ = and_right (not (eqb l r)) (not (eqb l i) && not (eqb r i)) yes.1.0 in
      record {
        take_below = ltb-true i h.shelves (and_left first (second && third) yes.0);
        left_below = ltb-true l h.shelves (and_left second third two);
        right-below = ltb-true r h.shelves (and_right second third two);
        left-right = unlike l r (and_left (not (eqb l r)) (not (eqb l i) && not (eqb r i)) yes.1.0);
        take_left = λ e. unlike l i (and_left (not (eqb l i)) (not (eqb r i)) differ) (sym e);
        take-right = λ e. unlike r i (and_right (not (eqb l i)) (not (eqb r i)) differ) (sym e);
        is_sound = yes.1.1.0;
        beat_in = leb-true k (take_at h s i).beats yes.1.1.1.0;
        beats_few = sound_beats h range.some-ticks (shelf h s i) yes.1.1.0;
      }

  pub source_asks : (i < h.shelves) × (h.shelves ≤ max_shelves) × (h.words ≤ max_words)
  source_asks = place_asks range granted.take_below

  pub left_asks : (h.delta ≤ max_delta) × (k ≤ max_beats)
  left_asks = (range.few_ticks, omega (arith, granted.beat_in, granted.beats_few))

  module _ {at : ℕ} (place : at ≡ shelf_at h i) where
    pub source_inside : at + h.words ≤ length s
    source_inside = inside_session range granted.take_below place

    beats_are : get_or s at 0 ≡ (take_at h s i).beats
    beats_are = beats_is h s i range granted.take_below place

    pub right_asks : (h.delta ≤ max_delta) × (get_or s at 0 ≤ max_beats) × (k ≤ get_or s at 0)
    right_asks = (range.few_ticks, omega (arith, beats_are, granted.beats_few), omega (arith, beats_are, granted.beat_in))

    module _ {v : Half} (is : v ≡ left_half h.delta k) {u : Half} (also : u ≡ right_half h.delta k (get_or s at 0)) where
      first_asks : HalfAsks s h v i l
      unfolding half_of split_left
      first_asks =
          rw is
          (record {
            header = a.header;
            take_below = granted.take_below;
            to_below = granted.left_below;
            differ = granted.take_left;
            sound = granted.is_sound;
            half = record { line_is = refl; edge_is = refl };
            beats_are = refl;
          })

      second_asks : HalfAsks s h u i r
      unfolding half_of split_right
      second_asks =
          rw also
          (record {
            header = a.header;
            take_below = granted.take_below;
            to_below = granted.right-below;
            differ = granted.take-right;
            sound = granted.is_sound;
            half = record { line_is = refl; edge_is = refl };
            beats_are = rw beats_are;
          })

      sides : Sides v u
      sides = rw (is, also) (record { left_is = refl; right_is = refl; beat_is = refl; line_is = refl; edges = omega arith })

      pub both_asks : BothAsks s h v u i l r
      both_asks = record { sides = sides; left_asks = first_asks; right_asks = second_asks; differ = granted.left-right }

      pub both-put : {t : List ℕ}
          → t ≡ splice (splice s (shelf_at h l) (words_of h (half_of h.delta v (take_at h s i)))) (shelf_at h r) (words_of h (half_of h.delta u (take_at h s i)))
          → t ≡ put_all h s (results h s (split_call i k l r))
      unfolding put_all put_shelf results half_of
      both-put f = f ∙ rw (is, also)

-- ---- the call

module _ (s : List ℕ) (i k l r : ℕ) where
  pub number_is : number s (split_call i k l r) ≡ cond (header_ok (header_of s) (length s)) (split_asked (header_of s) s i k l r) 1
  unfolding split_asked
  number_is =
      let h = header_of s in
      let c = split_call i k l r in
      split_number s i k l r
      ∙ asked-first 1 (header_ok h (length s)) ((2, shelves_ok h c) ∷ (3, writes_differ c) ∷ (4, reads_sound h s c) ∷ (5, beat_within h s i k) ∷ [])

  pub refused : {h : Header} → answer_of words_of_header (Ok h) ≡ header_asked (header_of s) (length s) → (q : Question) → number_of q ≡ split_asked h s i k l r
      → (number_of q ≡ number s (split_call i k l r)) × (s ≡ after s (split_call i k l r))
  refused e q f = rest_refused s (split_call i k l r) (λ h. split_asked h s i k l r) number_is e q f

  module _ {h : Header} (e : answer_of words_of_header (Ok h) ≡ header_asked (header_of s) (length s)) where
    pub split_asks : 0 ≡ split_asked h s i k l r → SplitAsks s h i k l r
    split_asks z = record { header = header_ok_lem s e; asked = sym z }

    pub done : 0 ≡ split_asked h s i k l r → {t : List ℕ} → t ≡ put_all h s (results h s (split_call i k l r))
        → (0 ≡ number s (split_call i k l r)) × (t ≡ after s (split_call i k l r))
    unfolding written
    done z g =
        after-done s (split_call i k l r) (z ∙ sym (number-rest s (split_call i k l r) (λ h. split_asked h s i k l r) number_is e))
        (g ∙ ap (λ (g : Header). put_all g s (results g s (split_call i k l r))) (valid_means (header_of s) (length s) h e).1)

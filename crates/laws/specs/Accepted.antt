-- Each accepted call, in the session and in the plain machine: open, lay, split and join.
-- Assumes nothing.
use Rattle.std.specs.Prelude.{Bool, ◌&&◌, cond, ◌≡◌, ◌%◌, ◌+◌, ◌<◌, ◌≤◌, ℕ, eqb, leb, ltb, length}
use Rattle.std.proofs.Math.Bool.{false, true}
use mathlib.Core.List.{List, [], ◌++◌, ◌∷◌}
use Rattle.std.proofs.Common.{◌∙◌, ap}
use Rattle.std.proofs.Math.Path.{refl}
use native.Mathlib.Omega.{arith}
use borrow.Author.Tests.{leb-true, ltb-true}
use Rattle.model.specs.Histories.{recording_take}
use Rattle.model.specs.Machine.{Call, join_call, lay_call, listed, open_call, split_call}
use Rattle.model.specs.Questions.{beat_within, beats_ok, first_no, fits, list_ok, number, questions, reads, results, results_fit, shelves_ok, take_at, writes}
use Rattle.model.specs.Session.{header_of}
use Rattle.model.specs.Soundness.{notes_ok}
use Rattle.model.specs.Takes.{join_takes, split_left, split_right}
use Rattle.model.specs.declared.Header.{Header}
use Rattle.laws.specs.Booleans.{and_left, and_right}
use Rattle.laws.specs.OneNote.{Valid}
use Rattle.laws.specs.Relations.{All, all_imp, every-all}

-- ---- questions one after the other

-- the number by the first of them and the others
pub asked-first : (n : ℕ) (b : Bool) (qs : List (ℕ × Bool)) → first_no ((n, b) ∷ qs) ≡ cond b (first_no qs) n
unfolding first_no
asked-first n true qs = refl
asked-first n false qs = refl

-- and by all of them
abbrev pub in_turn : List (ℕ × Bool) → ℕ
in_turn [] = 0
in_turn (q ∷ qs) = cond q.1 (in_turn qs) q.0

pub asked-in_turn : (qs : List (ℕ × Bool)) → first_no qs ≡ in_turn qs
unfolding first_no
asked-in_turn [] = refl
asked-in_turn (q ∷ qs) = asked-first q.0 q.1 qs ∙ ap (λ (k : ℕ). cond q.1 k q.0) (asked-in_turn qs)

-- ---- questions that are all answered yes

module _ where
  -- a number that is 0 says that every question was answered yes
  pub yes_all : (qs : List (ℕ × Bool)) → All (λ q. 0 < q.0) qs → first_no qs ≡ 0 → All (λ q. q.1 ≡ true) qs
  unfolding first_no
  yes_all [] p e = tt
  yes_all (q ∷ qs) p e = go q.1 refl (yes_all qs p.1)
    where
      go : (b : Bool) → q.1 ≡ b → (first_no qs ≡ 0 → All (λ q. q.1 ≡ true) qs) → All (λ q. q.1 ≡ true) (q ∷ qs)
      go true f ih = (f, ih (rw (f, first_no) at e))
      go false f ih = let g : q.0 ≡ 0 = rw (f, first_no) at e in let l : 0 < q.0 = p.0 in absurd (omega arith)

  pub positive_numbers : (s : List ℕ) (c : Call) → All (λ q. 0 < q.0) (questions s c)
  unfolding questions
  positive_numbers s (open_call h) = omega arith
  positive_numbers s (lay_call i beats ws) = omega arith
  positive_numbers s (split_call i k l r) = omega arith
  positive_numbers s (join_call i j k) = omega arith

  pub all_yes : (s : List ℕ) (c : Call) → number s c ≡ 0 → All (λ q. q.1 ≡ true) (questions s c)
  unfolding number
  all_yes s c e = yes_all (questions s c) (positive_numbers s c) e

-- What the answers say, by name. H is the session's header.
pub record LayFacts (H : Header) (s : List ℕ) (i beats : ℕ) (ws : List ℕ) : Type 0 where
  pub shelf-below : i < H.shelves
  pub valid : Valid H.delta (listed beats ws)
  pub fit : fits H (recording_take H.delta (listed beats ws)) ≡ true

pub record SplitFacts (H : Header) (s : List ℕ) (i k l r : ℕ) : Type 0 where
  pub take_below : i < H.shelves
  pub left_below : l < H.shelves
  pub right-below : r < H.shelves
  pub within : k ≤ (take_at H s i).beats
  pub left_fit : fits H (split_left H.delta k (take_at H s i)) ≡ true
  pub right_fit : fits H (split_right H.delta k (take_at H s i)) ≡ true

pub record JoinFacts (H : Header) (s : List ℕ) (i j k : ℕ) : Type 0 where
  pub first_below : i < H.shelves
  pub second_below : j < H.shelves
  pub result_below : k < H.shelves
  pub short : (take_at H s i).beats + (take_at H s j).beats ≤ 4096
  pub fit : fits H (join_takes H.delta (take_at H s i) (take_at H s j)) ≡ true

pub below : (H : Header) (c : Call) → shelves_ok H c ≡ true → All (λ i. i < H.shelves) (reads c ++ writes c)
unfolding shelves_ok
below H c e = all_imp (λ i. ltb i H.shelves ≡ true) (λ i. i < H.shelves) (reads c ++ writes c) (λ i. ltb-true i H.shelves) (every-all (λ i. ltb i H.shelves) (reads c ++ writes c) e)

module _ (s : List ℕ) where
  pub lay_facts : (i beats : ℕ) (ws : List ℕ) → number s (lay_call i beats ws) ≡ 0 → LayFacts (header_of s) s i beats ws
  unfolding questions beats_ok list_ok results_fit results listed recording_take
  lay_facts i beats ws e =
      let c = lay_call i beats ws in
      let a = all_yes s c e in
      let r = recording_take (header_of s).delta (listed beats ws) in
      record {
        shelf-below = (below (header_of s) c a.1.0).0;
        valid = (
          leb-true beats 4096 (and_left (leb beats 4096) true a.1.1.0),
          and_right (eqb (length ws % 4) 0) (notes_ok (header_of s).delta beats (listed beats ws).notes) a.1.1.1.0,
        );
        fit = and_left (fits (header_of s) r) true a.1.1.1.1.0;
      }

  pub split_facts : (i k l r : ℕ) → number s (split_call i k l r) ≡ 0 → SplitFacts (header_of s) s i k l r
  unfolding questions beat_within results_fit results
  split_facts i k l r e =
      let c = split_call i k l r in
      let a = all_yes s c e in
      let b = below (header_of s) c a.1.0 in
      let f = a.1.1.1.1.1.0 in
      let x = fits (header_of s) (split_left (header_of s).delta k (take_at (header_of s) s i)) in
      let y = fits (header_of s) (split_right (header_of s).delta k (take_at (header_of s) s i)) in
      record {
        take_below = b.0;
        left_below = b.1.0;
        right-below = b.1.1.0;
        within = leb-true k (take_at (header_of s) s i).beats a.1.1.1.1.0;
        left_fit = and_left x (y && true) f;
        right_fit = and_left y true (and_right x (y && true) f);
      }

  pub join_facts : (i j k : ℕ) → number s (join_call i j k) ≡ 0 → JoinFacts (header_of s) s i j k
  unfolding questions beats_ok results_fit results join_takes
  join_facts i j k e =
      let c = join_call i j k in
      let a = all_yes s c e in
      let b = below (header_of s) c a.1.0 in
      let n = (take_at (header_of s) s i).beats + (take_at (header_of s) s j).beats in
      record {
        first_below = b.0;
        second_below = b.1.0;
        result_below = b.1.1.0;
        short = leb-true n 4096 (and_left (leb n 4096) true a.1.1.1.1.0);
        fit = and_left (fits (header_of s) (join_takes (header_of s).delta (take_at (header_of s) s i) (take_at (header_of s) s j))) true a.1.1.1.1.1.0;
      }

-- Split and join of what a history gives: the first k pairs, the others, and one history behind the other.
-- Assumes nothing.
use Rattle.std.specs.Prelude.{Bool, false, true, ◌≡◌, eqb, drop, length, take}
use mathlib.Core.List.{List, [], ◌++◌, ◌∷◌, append_assoc, map}
use Rattle.std.proofs.Common.{◌∙◌, sym, suc-add, length-append, length-drop, length-take, le-leb, le-ltb, lt-ltb}
use Rattle.std.proofs.Math.Path.{ap, refl}
use Prim.Native.Nat.{◌+◌, ◌-◌, ◌<◌, ◌≤◌, suc, zero, ℕ}
use Rattle.std.proofs.Math.Nat.{add-suc, add-zero, zero-add}
use native.Mathlib.Omega.{arith}
use Rattle.std.proofs.Math.Dec.{leb, ltb}
use Rattle.std.proofs.Math.ListN.{get_or-append}
use Rattle.std.proofs.lemmas.Bool.{lt-leb}
use Rattle.model.specs.Histories.{Recording, history_take, placed, recording_take, take_of}
use Rattle.model.specs.Lists.{keep}
use Rattle.model.specs.Pieces.{first_beat}
use Rattle.model.specs.Takes.{Take, by_lane, cell_to, join_takes, later_by, left_of, note_to, right_of, split_left, split_right}
use Rattle.model.specs.declared.Cell.{Cell}
use Rattle.model.specs.declared.Note.{Note}
use Rattle.laws.specs.Beats.{note_beat, note_to_lem}
use Rattle.laws.specs.Lanes.{by_lane-append, keep-by_lane, map-by_lane}
use Rattle.laws.specs.Lists.{keep_append, map-append}
use Rattle.laws.specs.Relations.{All, all_imp}

-- ---- places

module _ {A : Type 0} (beat : A → ℕ) (to : ℕ → A → A)
    (beat-to : (i : ℕ) (x : A) → beat (to i x) ≡ i)
    (to-to : (i j : ℕ) (x : A) → to i (to j x) ≡ to i x)
    (of : ℕ → List A) where
  -- what one pair has
  abbrev own : ℕ × ℕ → List A
  own p = keep (λ x. eqb (beat x) p.1) (of p.0)

  -- a test of the beat passes at all that is put into beat i, or at none
  keep_yes : (q : ℕ → Bool) (i : ℕ) (xs : List A) → q i ≡ true → keep (λ x. q (beat x)) (map (to i) xs) ≡ map (to i) xs
  keep_yes q i [] e = refl
  keep_yes q i (x ∷ xs) e = rw (beat-to i x, e, keep_yes q i xs e)

  keep_no : (q : ℕ → Bool) (i : ℕ) (xs : List A) → q i ≡ false → keep (λ x. q (beat x)) (map (to i) xs) ≡ []
  keep_no q i [] e = refl
  keep_no q i (x ∷ xs) e = rw (beat-to i x, e, keep_no q i xs e)

  -- from beat i on there is nothing before beat i
  left-none : (k i : ℕ) (h : List (ℕ × ℕ)) → k ≤ i → left_of beat k (placed beat to of i h) ≡ []
  unfolding left_of placed
  left-none k i [] a = refl
  left-none k i (p ∷ h) a =
      rw (keep_append (λ x. ltb (beat x) k) (map (to i) (own p)), keep_no (λ b. ltb b k) i (own p) (le-ltb i k a), left-none k (suc i) h (omega arith))

  left-placed : (k i : ℕ) (h : List (ℕ × ℕ)) → left_of beat (i + k) (placed beat to of i h) ≡ placed beat to of i (take k h)
  unfolding left_of placed
  left-placed zero i h = left-none (i + zero) i h (omega arith)
  left-placed (suc k) i [] = refl
  left-placed (suc k) i (p ∷ h) =
      let m : suc i + k ≡ i + suc k = omega arith in
      rw (keep_append (λ x. ltb (beat x) (i + suc k)) (map (to i) (own p)), keep_yes (λ b. ltb b (i + suc k)) i (own p) (lt-ltb i (i + suc k) (omega arith)), rw m at (left-placed k (suc i) h))

  -- rebased beats
  back : (k j : ℕ) (xs : List A) → map (λ x. to (beat x - k) x) (map (to (k + j)) xs) ≡ map (to j) xs
  back k j [] = refl
  back k j (x ∷ xs) =
      let e : k + j - k ≡ j = omega arith in
      rw (to-to (beat (to (k + j) x) - k) (k + j) x, beat-to (k + j) x, e, back k j xs)

  right-back : (k j : ℕ) (h : List (ℕ × ℕ)) → right_of beat to k (placed beat to of (k + j) h) ≡ placed beat to of j h
  unfolding right_of placed
  right-back k j [] = refl
  right-back k j (p ∷ h) =
      let rest = placed beat to of (suc (k + j)) h in
      let m : k + suc j ≡ suc (k + j) = omega arith in
      rw (
        keep_append (λ x. leb k (beat x)) (map (to (k + j)) (own p)) rest,
        keep_yes (leb k) (k + j) (own p) (le-leb k (k + j) (omega arith)),
        map-append (λ x. to (beat x - k) x) (map (to (k + j)) (own p)),
        back k j (own p),
        rw m at (right-back k (suc j) h),
      )

  right-placed : (k i : ℕ) (h : List (ℕ × ℕ)) → right_of beat to (i + k) (placed beat to of i h) ≡ placed beat to of 0 (drop k h)
  unfolding right_of placed
  right-placed zero i h = rw add-zero (rw add-zero at (right-back i 0 h))
  right-placed (suc k) i [] = refl
  right-placed (suc k) i (p ∷ h) =
      let rest = placed beat to of (suc i) h in
      let m : suc i + k ≡ i + suc k = omega arith in
      rw (keep_append (λ x. leb (i + suc k) (beat x)) (map (to i) (own p)) rest, keep_no (leb (i + suc k)) i (own p) (lt-leb (i + suc k) i (omega arith))) (rw m at (right-placed k (suc i) h))

  placed-append : (i : ℕ) (h g : List (ℕ × ℕ)) → placed beat to of i (h ++ g) ≡ placed beat to of i h ++ placed beat to of (i + length h) g
  unfolding placed
  placed-append i [] g = rw add-zero
  placed-append i (p ∷ h) g = rw (placed-append (suc i) h g, append_assoc, add-suc, suc-add)

  later_one : (n i : ℕ) (xs : List A) → map (λ x. to (n + beat x) x) (map (to i) xs) ≡ map (to (n + i)) xs
  later_one n i [] = refl
  later_one n i (x ∷ xs) = rw (to-to (n + beat (to i x)) i x, beat-to i x, later_one n i xs)

  placed_later : (n i : ℕ) (h : List (ℕ × ℕ)) → later_by beat to n (placed beat to of i h) ≡ placed beat to of (n + i) h
  unfolding placed later_by
  placed_later n i [] = refl
  placed_later n i (p ∷ h) =
      let m : n + suc i ≡ suc (n + i) = omega arith in
      rw (map-append (λ x. to (n + beat x) x) (map (to i) (own p)), later_one n i (own p), rw m at (placed_later n (suc i) h))

  module _ (lane : A → ℕ) (lane-to : (i : ℕ) (x : A) → lane (to i x) ≡ lane x) where
    -- the first k pairs
    pub left-all : (k : ℕ) (h : List (ℕ × ℕ)) → left_of beat k (by_lane lane (placed beat to of 0 h)) ≡ by_lane lane (placed beat to of 0 (take k h))
    unfolding left_of
    left-all k h = keep-by_lane lane (λ x. ltb (beat x) k) (placed beat to of 0 h) ∙ ap (by_lane lane) (rw zero-add at (left-placed k 0 h))

    -- the pairs behind the first k
    pub right-all : (k : ℕ) (h : List (ℕ × ℕ))
        → right_of beat to k (by_lane lane (placed beat to of 0 h)) ≡ by_lane lane (placed beat to of 0 (drop k h))
    unfolding right_of
    right-all k h =
        ap (map (λ x. to (beat x - k) x)) (keep-by_lane lane (λ x. leb k (beat x)) (placed beat to of 0 h))
        ∙ map-by_lane lane (λ x. to (beat x - k) x) (keep (λ x. leb k (beat x)) (placed beat to of 0 h)) (λ x. lane-to (beat x - k) x)
        ∙ ap (by_lane lane) (rw zero-add at (right-placed k 0 h))

    -- one history behind the other
    pub join-all : (h g : List (ℕ × ℕ))
        → by_lane lane (by_lane lane (placed beat to of 0 h) ++ later_by beat to (length h) (by_lane lane (placed beat to of 0 g))) ≡ by_lane lane (placed beat to of 0 (h ++ g))
    unfolding later_by
    join-all h g =
        ap (λ (ys : List A). by_lane lane (by_lane lane (placed beat to of 0 h) ++ ys))
        (map-by_lane lane (λ x. to (length h + beat x) x) (placed beat to of 0 g) (λ x. lane-to (length h + beat x) x))
        ∙ by_lane-append lane (placed beat to of 0 h) (later_by beat to (length h) (placed beat to of 0 g))
        ∙ ap (by_lane lane) (ap (λ (ys : List A). placed beat to of 0 h ++ ys) (placed_later (length h) 0 g) ∙ rw (placed-append 0 h g, zero-add, add-zero))

-- ---- the two kinds: cells and inner notes

pub take_same : {n m : ℕ} {a b : List Note} {c d : List Cell} → n ≡ m → a ≡ b → c ≡ d
    → ◌≡◌ {A = Take} (record { beats = n; inner = a; cells = c }) (record { beats = m; inner = b; cells = d })
take_same p q r = λ i. record { beats = p i; inner = q i; cells = r i }

module _ (δ : ℕ) (z : 0 < δ) (recordings : List Recording) where
  abbrev inners : ℕ → List Note
  inners r = (take_of δ recordings r).inner

  abbrev cell_lists : ℕ → List Cell
  cell_lists r = (take_of δ recordings r).cells

  -- the left of a split has the first k pairs
  pub split_left_lem : (k : ℕ) (h : List (ℕ × ℕ)) → k ≤ length h → split_left δ k (history_take δ recordings h) ≡ history_take δ recordings (take k h)
  unfolding split_left history_take
  split_left_lem k h f =
      take_same (sym (length-take k h ∙ omega arith))
      (left-all (first_beat δ) (note_to δ) (note_beat δ z) (note_to_lem δ) inners (λ n. n.lane) (λ i n. refl) k h)
      (left-all (λ c. c.beat) cell_to (λ i c. refl) (λ i j c. refl) cell_lists (λ c. c.lane) (λ i c. refl) k h)

  -- the right of a split has the others
  pub split_right_lem : (k : ℕ) (h : List (ℕ × ℕ)) → k ≤ length h → split_right δ k (history_take δ recordings h) ≡ history_take δ recordings (drop k h)
  unfolding split_right history_take
  split_right_lem k h f =
      take_same (sym (length-drop k h))
      (right-all (first_beat δ) (note_to δ) (note_beat δ z) (note_to_lem δ) inners (λ n. n.lane) (λ i n. refl) k h)
      (right-all (λ c. c.beat) cell_to (λ i c. refl) (λ i j c. refl) cell_lists (λ c. c.lane) (λ i c. refl) k h)

  -- a join has the one's pairs and then the other's
  pub join_takes_lem : (h g : List (ℕ × ℕ)) → join_takes δ (history_take δ recordings h) (history_take δ recordings g) ≡ history_take δ recordings (h ++ g)
  unfolding join_takes history_take
  join_takes_lem h g =
      take_same (sym (length-append h g))
      (join-all (first_beat δ) (note_to δ) (note_beat δ z) (note_to_lem δ) inners (λ n. n.lane) (λ i n. refl) h g)
      (join-all (λ c. c.beat) cell_to (λ i c. refl) (λ i j c. refl) cell_lists (λ c. c.lane) (λ i c. refl) h g)

-- ---- later recordings change nothing

placed_agree : {A : Type 0} (beat : A → ℕ) (to : ℕ → A → A) (of up : ℕ → List A) (i : ℕ) (h : List (ℕ × ℕ)) → All (λ p. of p.0 ≡ up p.0) h
    → placed beat to of i h ≡ placed beat to up i h
unfolding placed
placed_agree beat to of up i [] a = refl
placed_agree beat to of up i (p ∷ h) a = rw (a.0, placed_agree beat to of up (suc i) h a.1)

take-kept : (δ : ℕ) (recordings more : List Recording) (k : ℕ) → k < length recordings → take_of δ (recordings ++ more) k ≡ take_of δ recordings k
unfolding take_of
take-kept δ recordings more k b = ap (recording_take δ) (get_or-append recordings more (record { beats = 0; notes = [] }) k b)

pub grow : (δ : ℕ) (recordings more : List Recording) (h : List (ℕ × ℕ)) → All (λ p. p.0 < length recordings) h
    → history_take δ (recordings ++ more) h ≡ history_take δ recordings h
unfolding history_take
grow δ recordings more h a =
    let same : (p : ℕ × ℕ) → p.0 < length recordings → take_of δ (recordings ++ more) p.0 ≡ take_of δ recordings p.0 = λ p b. take-kept δ recordings more p.0 b in
    take_same refl
    (ap (by_lane (λ (n : Note). n.lane)) (placed_agree (first_beat δ) (note_to δ) (λ k. (take_of δ (recordings ++ more) k).inner) (λ k. (take_of δ recordings k).inner) 0 h
    (all_imp (λ p. p.0 < length recordings) (λ p. (take_of δ (recordings ++ more) p.0).inner ≡ (take_of δ recordings p.0).inner) h (λ p b. ap (λ (t : Take). t.inner) (same p b)) a)))
    (ap (by_lane (λ (c : Cell). c.lane)) (placed_agree (λ (c : Cell). c.beat) cell_to (λ k. (take_of δ (recordings ++ more) k).cells) (λ k. (take_of δ recordings k).cells) 0 h
    (all_imp (λ p. p.0 < length recordings) (λ p. (take_of δ (recordings ++ more) p.0).cells ≡ (take_of δ recordings p.0).cells) h (λ p b. ap (λ (t : Take). t.cells) (same p b)) a)))

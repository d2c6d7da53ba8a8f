-- Reversibility for every sound shelf: a split's halves joined give the shelf again, and a join split gives both shelves again.
-- Assumes nothing.
use Rattle.std.specs.Prelude.{false, true, ◌≡◌, ◌+◌, ◌-◌, ◌<◌, ◌≤◌, suc, ℕ, length}
use mathlib.Core.List.{List, [], ◌++◌, ◌∷◌, append-nil, map}
use Rattle.std.proofs.Common.{◌∙◌, sym, arith}
use Rattle.std.proofs.Math.Path.{ap, ap₂, refl}
use Rattle.std.proofs.Math.Decide.{dec_le}
use Rattle.std.proofs.Math.Dec.{eqb, leb, ltb}
use borrow.Author.Tests.{le-leb, le-ltb, leb-true, lt-leb, lt-ltb}
use Rattle.model.specs.Lists.{keep}
use Rattle.model.specs.Pieces.{first_beat}
use Rattle.model.specs.Soundness.{sound_shelf}
use Rattle.model.specs.Takes.{Take, by_lane, cell_to, join_takes, lanes, later_by, left_of, note_to, right_of, split_left, split_right, take_in, word, words_of}
use Rattle.model.specs.declared.Header.{Header}
use Rattle.laws.specs.Beats.{note_beat, note_to_lem}
use Rattle.laws.specs.Histories.{take_same}
use Rattle.laws.specs.Lanes.{all_both, keep-by_lane, map-by_lane}
use Rattle.laws.specs.Lines.{solid_inner}
use Rattle.laws.specs.Lists.{gather_same, keep_append, keep_swap}
use Rattle.laws.specs.Moving.{solid_join, solid_left, solid_right}
use Rattle.laws.specs.Reading.{words_take}
use Rattle.laws.specs.Relations.{All, Pairs, all_imp, all_keep, all-kept, keep_no, keep_yes}
use Rattle.laws.specs.Solid.{Solid}
use Rattle.laws.specs.Sound.{sound_solid, words_again}
use Rattle.laws.specs.Tidy.{Ranged, Tidy, cells_tidy, lane-pairs, notes_tidy, tidy_by_lane, tidy_lanes}

-- ---- lists of anything with a lane and a beat

module _ {A : Type 0} (lane beat : A → ℕ) (to : ℕ → A → A)
    (beat-to : (i : ℕ) (x : A) → beat (to i x) ≡ i)
    (to-to : (i j : ℕ) (x : A) → to i (to j x) ≡ to i x)
    (lane-to : (i : ℕ) (x : A) → lane (to i x) ≡ lane x) where
  -- in the order of beats: the part before k and the rest
  cut : (k : ℕ) (xs : List A) → Pairs (λ x y. beat x ≤ beat y) xs → keep (λ x. ltb (beat x) k) xs ++ keep (λ x. leb k (beat x)) xs ≡ xs
  cut k [] s = refl
  cut k (x ∷ xs) s = elim (dec_le (suc (beat x)) k) [
    | yes l ↦ rw (lt-ltb (beat x) k l, lt-leb k (beat x) l) (ap (◌∷◌ x) (cut k xs s.1))
    | no l ↦ rw (
      le-ltb (beat x) k (omega arith),
      le-leb k (beat x) (omega arith),
      keep_no (λ x. ltb (beat x) k) xs (all_imp (λ y. beat x ≤ beat y) (λ y. ltb (beat y) k ≡ false) xs (λ y h. le-ltb (beat y) k (omega arith)) s.0),
      keep_yes (λ x. leb k (beat x)) xs (all_imp (λ y. beat x ≤ beat y) (λ y. leb k (beat y) ≡ true) xs (λ y h. le-leb k (beat y) (omega arith)) s.0),
    )
  ]

  -- moved back and forth
  there_back : (n k : ℕ) (ys : List A) → All (λ x. Ranged lane beat to n x × (k ≤ beat x)) ys
      → map (λ x. to (k + beat x) x) (map (λ x. to (beat x - k) x) ys) ≡ ys
  there_back n k [] a = refl
  there_back n k (y ∷ ys) a =
      let h : k ≤ beat y = a.0.1 in
      let e : k + (beat y - k) ≡ beat y = omega arith in
      ap₂ ◌∷◌ (to-to (k + beat (to (beat y - k) y)) (beat y - k) y ∙ ap (λ (i : ℕ). to (k + i) y) (beat-to (beat y - k) y) ∙ ap (λ (i : ℕ). to i y) e ∙ a.0.0.2) (there_back n k ys a.1)

  back_there : (n k : ℕ) (ys : List A) → All (Ranged lane beat to n) ys → map (λ x. to (beat x - k) x) (map (λ x. to (k + beat x) x) ys) ≡ ys
  back_there n k [] a = refl
  back_there n k (y ∷ ys) a =
      let e : k + beat y - k ≡ beat y = omega arith in
      ap₂ ◌∷◌ (to-to (beat (to (k + beat y) y) - k) (k + beat y) y ∙ ap (λ (i : ℕ). to (i - k) y) (beat-to (k + beat y) y) ∙ ap (λ (i : ℕ). to i y) e ∙ a.0.2) (back_there n k ys a.1)

  two_parts : (n k : ℕ) (xs : List A) → Tidy lane beat to n xs → by_lane lane (keep (λ x. ltb (beat x) k) xs ++ keep (λ x. leb k (beat x)) xs) ≡ xs
  unfolding by_lane
  two_parts n k xs t =
      gather_same (λ l. keep (λ x. eqb (lane x) l) (keep (λ x. ltb (beat x) k) xs ++ keep (λ x. leb k (beat x)) xs)) (λ l. keep (λ x. eqb (lane x) l) xs) lanes one
      ∙ tidy_lanes lane beat to n xs t
    where
      one : (l : ℕ) → keep (λ x. eqb (lane x) l) (keep (λ x. ltb (beat x) k) xs ++ keep (λ x. leb k (beat x)) xs) ≡ keep (λ x. eqb (lane x) l) xs
      one l =
          keep_append (λ x. eqb (lane x) l) (keep (λ x. ltb (beat x) k) xs) (keep (λ x. leb k (beat x)) xs)
          ∙ ap₂ ◌++◌ (keep_swap (λ x. eqb (lane x) l) (λ x. ltb (beat x) k) xs) (keep_swap (λ x. eqb (lane x) l) (λ x. leb k (beat x)) xs)
          ∙ cut k (keep (λ x. eqb (lane x) l) xs) (lane-pairs lane beat to l xs t.0)

  -- the halves joined
  join_split : (n k : ℕ) (xs : List A) → Tidy lane beat to n xs → by_lane lane (left_of beat k xs ++ later_by beat to k (right_of beat to k xs)) ≡ xs
  unfolding left_of later_by right_of
  join_split n k xs t =
      let ys = keep (λ x. leb k (beat x)) xs in
      ap (λ (zs : List A). by_lane lane (keep (λ x. ltb (beat x) k) xs ++ zs))
      (there_back n k ys (all_both (Ranged lane beat to n) (λ x. k ≤ beat x) ys (all_keep (Ranged lane beat to n) (λ x. leb k (beat x)) xs t.1)
      (all_imp (λ x. leb k (beat x) ≡ true) (λ x. k ≤ beat x) ys (λ x. leb-true k (beat x)) (all-kept (λ x. leb k (beat x)) xs))))
      ∙ two_parts n k xs t

  -- the parts of a join
  late : (k : ℕ) (ys : List A) → All (λ x. k ≤ beat x) (map (λ x. to (k + beat x) x) ys)
  late k [] = tt
  late k (y ∷ ys) = (rw (beat-to (k + beat y) y) (omega arith), late k ys)

  left_join : (n : ℕ) (xs ys : List A) → Tidy lane beat to n xs → left_of beat n (by_lane lane (xs ++ later_by beat to n ys)) ≡ xs
  unfolding left_of later_by
  left_join n xs ys t =
      let zs = map (λ x. to (n + beat x) x) ys in
      keep-by_lane lane (λ x. ltb (beat x) n) (xs ++ zs)
      ∙ ap (by_lane lane) (keep_append (λ x. ltb (beat x) n) xs zs
      ∙ ap₂ ◌++◌ (keep_yes (λ x. ltb (beat x) n) xs (all_imp (Ranged lane beat to n) (λ x. ltb (beat x) n ≡ true) xs (λ x r. lt-ltb (beat x) n r.1) t.1))
      (keep_no (λ x. ltb (beat x) n) zs (all_imp (λ x. n ≤ beat x) (λ x. ltb (beat x) n ≡ false) zs (λ x h. le-ltb (beat x) n h) (late n ys)))
      ∙ append-nil xs)
      ∙ tidy_by_lane lane beat to n xs t

  right-join : (n m : ℕ) (xs ys : List A) → Tidy lane beat to n xs → Tidy lane beat to m ys
      → right_of beat to n (by_lane lane (xs ++ later_by beat to n ys)) ≡ ys
  unfolding right_of later_by
  right-join n m xs ys t u =
      let zs = map (λ x. to (n + beat x) x) ys in
      let f : A → A = λ x. to (beat x - n) x in
      ap (map f) (keep-by_lane lane (λ x. leb n (beat x)) (xs ++ zs)
      ∙ ap (by_lane lane) (keep_append (λ x. leb n (beat x)) xs zs
      ∙ ap₂ ◌++◌ (keep_no (λ x. leb n (beat x)) xs (all_imp (Ranged lane beat to n) (λ x. leb n (beat x) ≡ false) xs (λ x r. lt-leb n (beat x) r.1) t.1))
      (keep_yes (λ x. leb n (beat x)) zs (all_imp (λ x. n ≤ beat x) (λ x. leb n (beat x) ≡ true) zs (λ x h. le-leb n (beat x) h) (late n ys)))))
      ∙ map-by_lane lane f zs (λ x. lane-to (beat x - n) x)
      ∙ ap (by_lane lane) (back_there m n ys u.1)
      ∙ tidy_by_lane lane beat to m ys u

-- ---- takes

module _ (δ : ℕ) (z : 0 < δ) where
  -- a take's halves joined are the take
  pub join_again : (t : Take) → Solid δ t → (k : ℕ) → k ≤ t.beats → join_takes δ (split_left δ k t) (split_right δ k t) ≡ t
  unfolding join_takes split_left split_right
  join_again t s k h =
      take_same (omega arith)
      (join_split (λ n. n.lane) (first_beat δ) (note_to δ) (note_beat δ z) (note_to_lem δ) (λ i n. refl) t.beats k t.inner (notes_tidy δ z t s))
      (join_split (λ c. c.lane) (λ c. c.beat) cell_to (λ i c. refl) (λ i j c. refl) (λ i c. refl) t.beats k t.cells (cells_tidy δ z t s))

  -- a join split at its seam is the two takes
  pub split_again_left : (t u : Take) → Solid δ t → split_left δ t.beats (join_takes δ t u) ≡ t
  unfolding join_takes split_left
  split_again_left t u s =
      take_same refl
      (left_join (λ n. n.lane) (first_beat δ) (note_to δ) (note_beat δ z) (note_to_lem δ) (λ i n. refl) t.beats t.inner u.inner (notes_tidy δ z t s))
      (left_join (λ c. c.lane) (λ c. c.beat) cell_to (λ i c. refl) (λ i j c. refl) (λ i c. refl) t.beats t.cells u.cells (cells_tidy δ z t s))

  pub split_again_right : (t u : Take) → Solid δ t → Solid δ u → split_right δ t.beats (join_takes δ t u) ≡ u
  unfolding join_takes split_right
  split_again_right t u s r =
      take_same (omega arith)
      (right-join (λ n. n.lane) (first_beat δ) (note_to δ) (note_beat δ z) (note_to_lem δ) (λ i n. refl) t.beats u.beats t.inner u.inner (notes_tidy δ z t s) (notes_tidy δ z u r))
      (right-join (λ c. c.lane) (λ c. c.beat) cell_to (λ i c. refl) (λ i j c. refl) (λ i c. refl) t.beats u.beats t.cells u.cells (cells_tidy δ z t s) (cells_tidy δ z u r))

-- ---- words

module _ (H : Header) (z : 0 < H.delta) (le : H.epsilon ≤ H.delta) where
  -- a solid take is in its words
  pub solid_in : (t : Take) → Solid H.delta t → take_in H.delta (words_of H t) ≡ t
  solid_in t s = words_take H t (solid_inner H z t s)

  -- the words that a split and a join leave
  abbrev pub left_words : ℕ → List ℕ → List ℕ
  left_words k ws = words_of H (split_left H.delta k (take_in H.delta ws))

  abbrev pub right_words : ℕ → List ℕ → List ℕ
  right_words k ws = words_of H (split_right H.delta k (take_in H.delta ws))

  abbrev pub join_words : List ℕ → List ℕ → List ℕ
  join_words a b = words_of H (join_takes H.delta (take_in H.delta a) (take_in H.delta b))

  -- split and join: every word as before
  pub split_join : (ws : List ℕ) → length ws ≡ H.words → sound_shelf H ws ≡ true → (k : ℕ) → k ≤ word ws 0
      → join_words (left_words k ws) (right_words k ws) ≡ ws
  split_join ws n e k h =
      let t = take_in H.delta ws in
      let s : Solid H.delta t = sound_solid H z ws e in
      let b : k ≤ t.beats = unfold take_in in h in
      ap₂ (λ (x y : Take). words_of H (join_takes H.delta x y)) (solid_in (split_left H.delta k t) (solid_left H.delta z t s k)) (solid_in (split_right H.delta k t) (solid_right H.delta z t s k))
      ∙ ap (words_of H) (join_again H.delta z t s k b) ∙ words_again H z ws e n

  -- join and split: both shelves' words as before
  pub join-split_left : (a b : List ℕ) → length a ≡ H.words → sound_shelf H a ≡ true → sound_shelf H b ≡ true
      → left_words (word a 0) (join_words a b) ≡ a
  join-split_left a b n e f =
      let t = take_in H.delta a in
      let u = take_in H.delta b in
      let s : Solid H.delta t = sound_solid H z a e in
      let r : Solid H.delta u = sound_solid H z b f in
      let w : t.beats ≡ word a 0 = unfold take_in in refl in
      ap (λ (x : Take). words_of H (split_left H.delta (word a 0) x)) (solid_in (join_takes H.delta t u) (solid_join H.delta z t u s r))
      ∙ ap (λ (k : ℕ). words_of H (split_left H.delta k (join_takes H.delta t u))) (sym w)
      ∙ ap (words_of H) (split_again_left H.delta z t u s) ∙ words_again H z a e n

  pub join-split_right : (a b : List ℕ) → length b ≡ H.words → sound_shelf H a ≡ true → sound_shelf H b ≡ true
      → right_words (word a 0) (join_words a b) ≡ b
  join-split_right a b n e f =
      let t = take_in H.delta a in
      let u = take_in H.delta b in
      let s : Solid H.delta t = sound_solid H z a e in
      let r : Solid H.delta u = sound_solid H z b f in
      let w : t.beats ≡ word a 0 = unfold take_in in refl in
      ap (λ (x : Take). words_of H (split_right H.delta (word a 0) x)) (solid_in (join_takes H.delta t u) (solid_join H.delta z t u s r))
      ∙ ap (λ (k : ℕ). words_of H (split_right H.delta k (join_takes H.delta t u))) (sym w)
      ∙ ap (words_of H) (split_again_right H.delta z t u s r) ∙ words_again H z b f n

-- Lists in the order of lanes.
-- Assumes nothing.
use Rattle.std.specs.Prelude.{Bool, ◌&&◌, ◌≢◌, ◌≡◌}
use Rattle.std.proofs.Math.Bool.{and_self, false, true}
use mathlib.Core.List.{List, [], ◌++◌, ◌∷◌, append-nil, map}
use Rattle.std.proofs.Common.{◌∙◌}
use Rattle.std.proofs.Math.Path.{ap, ap₂, refl, sym}
use Prim.Native.Nat.{◌+◌, ◌<◌, ◌≤◌, suc, zero, ℕ}
use Rattle.std.proofs.Math.Decide.{ℕ_discrete}
use native.Mathlib.Omega.{arith}
use Rattle.std.proofs.Math.Dec.{eqb, leb}
use Rattle.std.proofs.Math.ListN.{length}
use borrow.Author.Tests.{eq-eqb, eqb-true, leb-false, leb-true, ne_eqb}
use Rattle.model.specs.Lists.{count_from, gather, keep}
use Rattle.model.specs.Takes.{by_lane, lanes}
use Rattle.laws.specs.Lists.{gather-count, gather-one, gather_same, keep_append, keep_ext, keep-gather, keep-keep, keep-map, keep_same, keep_swap, map-gather}
use Rattle.laws.specs.Relations.{All, Pairs, all-all, all_append, all-count, all-gather, all_imp, all_keep, all-kept, bucket_step, buckets, keep_no, pairs-append, pairs-keep}

two_lanes : (n l m : ℕ) → l ≢ m → eqb n l && eqb n m ≡ false
two_lanes n l m d = go (eqb n l) refl
  where
    go : (t : Bool) → eqb n l ≡ t → t && eqb n m ≡ false
    go true e = ne_eqb n m (λ f. d (sym (eqb-true n l e) ∙ f))
    go false e = refl

module _ {A : Type 0} (lane : A → ℕ) where
  pub keep-by_lane : (p : A → Bool) (xs : List A) → keep p (by_lane lane xs) ≡ by_lane lane (keep p xs)
  unfolding by_lane
  keep-by_lane p xs =
      keep-gather p (λ l. keep (λ x. eqb (lane x) l) xs) lanes
      ∙ gather_same _ _ lanes (λ l. keep_swap p (λ x. eqb (lane x) l) xs)

  pub map-by_lane : (f : A → A) (xs : List A) → ((x : A) → lane (f x) ≡ lane x) → map f (by_lane lane xs) ≡ by_lane lane (map f xs)
  unfolding by_lane
  map-by_lane f xs h =
      map-gather f (λ l. keep (λ x. eqb (lane x) l) xs) lanes
      ∙ gather_same _ _ lanes (λ l. sym (keep-map (λ x. eqb (lane x) l) f xs ∙ ap (map f) (keep_ext (λ x. eqb (lane (f x)) l) (λ x. eqb (lane x) l) xs (λ x. rw (h x)))))

  -- one lane is as it was
  pub lane-by_lane : (l : ℕ) (xs : List A) → l < 2048 → keep (λ x. eqb (lane x) l) (by_lane lane xs) ≡ keep (λ x. eqb (lane x) l) xs
  unfolding by_lane
  lane-by_lane l xs b =
      keep-gather (λ x. eqb (lane x) l) (λ m. keep (λ x. eqb (lane x) m) xs) lanes
      ∙ gather-one (λ m. keep (λ x. eqb (lane x) l) (keep (λ x. eqb (lane x) m) xs)) 2048 0 l (omega arith) (omega arith)
      (λ m d. keep-keep (λ x. eqb (lane x) l) (λ x. eqb (lane x) m) xs ∙ keep_same _ false xs (λ x. two_lanes (lane x) m l d))
      ∙ keep-keep (λ x. eqb (lane x) l) (λ x. eqb (lane x) l) xs ∙ keep_ext _ _ xs (λ x. and_self (eqb (lane x) l))

  -- to order the parts first changes nothing
  pub by_lane-append : (xs ys : List A) → by_lane lane (by_lane lane xs ++ by_lane lane ys) ≡ by_lane lane (xs ++ ys)
  unfolding by_lane
  by_lane-append xs ys =
      gather-count (λ l. keep (λ x. eqb (lane x) l) (by_lane lane xs ++ by_lane lane ys)) (λ l. keep (λ x. eqb (lane x) l) (xs ++ ys)) 2048 0
      (λ l a b. let c : l < 2048 = omega arith in
      keep_append (λ x. eqb (lane x) l) (by_lane lane xs) (by_lane lane ys)
      ∙ ap₂ ◌++◌ (lane-by_lane l xs c) (lane-by_lane l ys c) ∙ sym (keep_append (λ x. eqb (lane x) l) xs ys))

module _ {A : Type 0} (lane : A → ℕ) where
  -- x before the second list's elements of higher lanes, and from there on `more`
  unfoldable pub insert_lane : A → (List A → List A) → List A → List A
  insert_lane x more [] = x ∷ more []
  insert_lane x more (y ∷ ys) = elim (leb (lane x) (lane y)) [ true ↦ x ∷ more (y ∷ ys) | false ↦ y ∷ insert_lane x more ys ]

  -- Two lists in the order of lanes as one: the first's elements first in each lane.
  unfoldable pub merge_lane : List A → List A → List A
  unfolding insert_lane
  merge_lane [] ys = ys
  merge_lane (x ∷ xs) ys = insert_lane x (λ zs. merge_lane xs zs) ys

  length-insert_lane : (x : A) (more : List A → List A) (n : ℕ) → ((zs : List A) → length (more zs) ≡ n + length zs) → (ys : List A)
      → length (insert_lane x more ys) ≡ suc n + length ys
  unfolding insert_lane
  length-insert_lane x more n h [] = omega (arith, h [])
  length-insert_lane x more n h (y ∷ ys) = go (leb (lane x) (lane y)) (length-insert_lane x more n h ys)
    where
      go : (b : Bool) → length (insert_lane x more ys) ≡ suc n + length ys
          → length {A = A} (elim b [ true ↦ x ∷ more (y ∷ ys) | false ↦ y ∷ insert_lane x more ys ]) ≡ suc n + length (y ∷ ys)
      go true ih = omega (arith, h (y ∷ ys))
      go false ih = omega arith

  -- as many as in both
  pub length-merge_lane : (xs ys : List A) → length (merge_lane xs ys) ≡ length xs + length ys
  unfolding merge_lane
  length-merge_lane [] ys = omega arith
  length-merge_lane (x ∷ xs) ys = length-insert_lane x (λ zs. merge_lane xs zs) (length xs) (length-merge_lane xs) ys

  abbrev Lanes : List A → Type 0
  Lanes xs = Pairs (λ x y. lane x ≤ lane y) xs × All (λ x. lane x < 2048) xs

  -- the least lane's first element comes first
  first_lane : (x : A) (xs : List A) → lane x < 2048 → All (λ y. lane x ≤ lane y) xs → by_lane lane (x ∷ xs) ≡ x ∷ by_lane lane xs
  unfolding by_lane
  first_lane x xs b a = bucket_step lane x xs 2048 0 (omega arith) (omega arith) a

  front : (zs : List A) (y : A) (ys : List A) → All (λ z. lane y < lane z) zs → by_lane lane (zs ++ y ∷ ys) ≡ by_lane lane (y ∷ (zs ++ ys))
  unfolding by_lane
  front zs y ys a = gather_same (λ l. keep (λ x. eqb (lane x) l) (zs ++ y ∷ ys)) (λ l. keep (λ x. eqb (lane x) l) (y ∷ (zs ++ ys))) lanes one
    where
      one : (l : ℕ) → keep (λ x. eqb (lane x) l) (zs ++ y ∷ ys) ≡ keep (λ x. eqb (lane x) l) (y ∷ (zs ++ ys))
      one l = elim (ℕ_discrete (lane y) l) [
        | yes e ↦ rw (
          keep_append (λ x. eqb (lane x) l) zs (y ∷ ys),
          keep_append (λ x. eqb (lane x) l) zs ys,
          eq-eqb (lane y) l e,
          keep_no (λ x. eqb (lane x) l) zs (all_imp (λ z. lane y < lane z) (λ z. eqb (lane z) l ≡ false) zs (λ z h. ne_eqb (lane z) l (omega arith)) a),
        )
        | no d ↦ rw (keep_append (λ x. eqb (lane x) l) zs (y ∷ ys), keep_append (λ x. eqb (lane x) l) zs ys, ne_eqb (lane y) l d)
      ]

  sorted_by_lane : (xs : List A) → Lanes xs → by_lane lane xs ≡ xs
  unfolding by_lane
  sorted_by_lane xs s = buckets lane xs 2048 s.0 s.1

  all_above : (x : A) (y : A) (ys : List A) → lane x ≤ lane y → All (λ z. lane y ≤ lane z) ys → All (λ z. lane x ≤ lane z) (y ∷ ys)
  all_above x y ys h a = (h, all_imp (λ z. lane y ≤ lane z) (λ z. lane x ≤ lane z) ys (λ z b. omega arith) a)

  insert_is : (x : A) (xs : List A) → Lanes (x ∷ xs) → ((ys : List A) → Lanes ys → merge_lane xs ys ≡ by_lane lane (xs ++ ys))
      → (ys : List A) → Lanes ys → insert_lane x (λ zs. merge_lane xs zs) ys ≡ by_lane lane (x ∷ (xs ++ ys))
  unfolding insert_lane
  insert_is x xs s f [] t = ap (◌∷◌ x) (f [] t) ∙ sym (first_lane x (xs ++ []) s.1.0 (rw append-nil s.0.0))
  insert_is x xs s f (y ∷ ys) t = go (leb (lane x) (lane y)) refl (insert_is x xs s f ys (t.0.1, t.1.1))
    where
      go : (b : Bool) → leb (lane x) (lane y) ≡ b → insert_lane x (λ zs. merge_lane xs zs) ys ≡ by_lane lane (x ∷ (xs ++ ys))
          → insert_lane x (λ zs. merge_lane xs zs) (y ∷ ys) ≡ by_lane lane (x ∷ (xs ++ y ∷ ys))
      go true e ih =
          let h : lane x ≤ lane y = leb-true (lane x) (lane y) e in
          rw (e, insert_lane) (ap (◌∷◌ x) (f (y ∷ ys) t)
          ∙ sym (first_lane x (xs ++ y ∷ ys) s.1.0 (all_append (λ z. lane x ≤ lane z) xs (y ∷ ys) s.0.0 (all_above x y ys h t.0.0))))
      go false e ih =
          let h : lane y < lane x = leb-false (lane x) (lane y) e in
          rw (e, insert_lane) (ap (◌∷◌ y) ih ∙ sym (front (x ∷ xs) y ys (h, all_imp (λ z. lane x ≤ lane z) (λ z. lane y < lane z) xs (λ z b. omega arith) s.0.0)
          ∙ first_lane y (x ∷ (xs ++ ys)) t.1.0 (all_append (λ z. lane y ≤ lane z) (x ∷ xs) ys (all_above y x xs (omega arith) s.0.0) t.0.0)))

  -- two lists in the order of lanes, joined, are one walk over both
  pub merge_lane_lem : (xs ys : List A) → Lanes xs → Lanes ys → merge_lane xs ys ≡ by_lane lane (xs ++ ys)
  unfolding merge_lane
  merge_lane_lem [] ys s t = sym (sorted_by_lane ys t)
  merge_lane_lem (x ∷ xs) ys s t = insert_is x xs s (λ zs u. merge_lane_lem xs zs (s.0.1, s.1.1) u) ys t

module _ {A : Type 0} where
  pub all_both : (P Q : A → Type 0) (xs : List A) → All P xs → All Q xs → All (λ x. P x × Q x) xs
  all_both P Q [] a b = tt
  all_both P Q (x ∷ xs) a b = ((a.0, b.0), all_both P Q xs a.1 b.1)

  pub all_moved : {B : Type 0} (P : A → Type 0) (Q : B → Type 0) (f : A → B) (xs : List A) → ((x : A) → P x → Q (f x)) → All P xs → All Q (map f xs)
  all_moved P Q f [] h a = tt
  all_moved P Q f (x ∷ xs) h a = (h x a.0, all_moved P Q f xs h a.1)

  pub pairs_moved : (P : A → Type 0) (R : A → A → Type 0) (f : A → A) (xs : List A) → ((x y : A) → P x → P y → R x y → R (f x) (f y)) → All P xs
      → Pairs R xs → Pairs R (map f xs)
  pairs_moved P R f [] h a s = tt
  pairs_moved P R f (x ∷ xs) h a s =
      (all_moved (λ y. P y × R x y) (R (f x)) f xs (λ y k. h x y a.0 k.0 k.1) (all_both P (R x) xs a.1 s.0), pairs_moved P R f xs h a.1 s.1)

module _ {A : Type 0} (lane : A → ℕ) where
  pub all-by_lane : (P : A → Type 0) (xs : List A) → All P xs → All P (by_lane lane xs)
  unfolding by_lane
  all-by_lane P xs a = all-gather P (λ l. keep (λ x. eqb (lane x) l) xs) lanes (λ l. all_keep P (λ x. eqb (lane x) l) xs a)

  lane-all : (l : ℕ) (xs : List A) → All (λ x. lane x ≡ l) (keep (λ x. eqb (lane x) l) xs)
  lane-all l xs = all_imp (λ x. eqb (lane x) l ≡ true) (λ x. lane x ≡ l) (keep (λ x. eqb (lane x) l) xs) (λ x. eqb-true (lane x) l) (all-kept (λ x. eqb (lane x) l) xs)

  module _ (R : A → A → Type 0) (h : (x y : A) → lane x < lane y → R x y) (xs : List A) (s : Pairs (λ x y. lane x ≡ lane y → R x y) xs) where
    one_lane : (l : ℕ) → Pairs R (keep (λ x. eqb (lane x) l) xs)
    one_lane l = go (keep (λ x. eqb (lane x) l) xs) (lane-all l xs) (pairs-keep (λ x y. lane x ≡ lane y → R x y) (λ x. eqb (lane x) l) xs s)
      where
        go : (ys : List A) → All (λ x. lane x ≡ l) ys → Pairs (λ x y. lane x ≡ lane y → R x y) ys → Pairs R ys
        go [] a p = tt
        go (y ∷ ys) a p =
            (all_imp (λ x. (lane x ≡ l) × (lane y ≡ lane x → R y x)) (R y) ys (λ x k. k.1 (a.0 ∙ sym k.0)) (all_both (λ x. lane x ≡ l) (λ x. lane y ≡ lane x → R y x) ys a.1 p.0), go ys a.1 p.1)

    some_lanes : (n i : ℕ) → Pairs R (gather (λ l. keep (λ x. eqb (lane x) l) xs) (count_from n i))
    some_lanes zero i = tt
    some_lanes (suc n) i =
        let f : ℕ → List A = λ l. keep (λ x. eqb (lane x) l) xs in
        pairs-append R (f i) (gather f (count_from n (suc i))) (one_lane i) (some_lanes n (suc i))
        (all-all (λ x. lane x ≡ i) (λ y. i < lane y) R (f i) (gather f (count_from n (suc i))) (λ x y p q. h x y (omega arith)) (lane-all i xs)
        (all-count (λ y. i < lane y) f n (suc i) (λ k a b. all_imp (λ x. lane x ≡ k) (λ y. i < lane y) (f k) (λ x e. omega arith) (lane-all k xs))))

    pub pairs-by_lane : Pairs R (by_lane lane xs)
    unfolding by_lane
    pairs-by_lane = some_lanes 2048 0

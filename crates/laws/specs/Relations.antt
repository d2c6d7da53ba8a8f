-- A property of each element of a list (All), and of each element with every later one (Pairs).
-- Assumes nothing.
use Rattle.std.specs.Prelude.{Bool, cond, false, true, List, [], ◌++◌, ◌∷◌, ◌≡◌, refl, ◌+◌, ◌<◌, ◌≤◌, suc, zero, ℕ, eqb, drop, get_or, length, set, take}
use Rattle.std.proofs.Common.{◌∙◌, ap, sym, arith, eq-eqb, ne_eqb}
use Rattle.std.proofs.Math.Decide.{ℕ_discrete}
use Rattle.model.specs.Lists.{cons_if, count_from, every, gather, keep}
use Rattle.laws.specs.Booleans.{and_left, and_right, and_yes}
use Rattle.laws.specs.Lists.{gather-count, gather_none}

module _ {A : Type 0} where
  -- P at each element
  abbrev pub All : (A → Type 0) → List A → Type 0
  All P [] = Unit {0}
  All P (x ∷ xs) = P x × All P xs

  pub all_cond : (P : A → Type 0) (b : Bool) (xs ys : List A) → All P xs → All P ys → All P (cond b xs ys)
  all_cond P true xs ys a b = a
  all_cond P false xs ys a b = b

  pub all_append : (P : A → Type 0) (xs ys : List A) → All P xs → All P ys → All P (xs ++ ys)
  all_append P [] ys a b = b
  all_append P (x ∷ xs) ys a b = (a.0, all_append P xs ys a.1 b)

  pub all-cons_if : (P : A → Type 0) (b : Bool) (x : A) (xs : List A) → (b ≡ true → P x) → All P xs → All P (cons_if b x xs)
  all-cons_if P true x xs a b = (a refl, b)
  all-cons_if P false x xs a b = b

  pub all_keep : (P : A → Type 0) (p : A → Bool) (xs : List A) → All P xs → All P (keep p xs)
  all_keep P p [] a = tt
  all_keep P p (x ∷ xs) a = all-cons_if P (p x) x (keep p xs) (λ e. a.0) (all_keep P p xs a.1)

  pub all-kept : (p : A → Bool) (xs : List A) → All (λ x. p x ≡ true) (keep p xs)
  all-kept p [] = tt
  all-kept p (x ∷ xs) = all-cons_if (λ x. p x ≡ true) (p x) x (keep p xs) (λ e. e) (all-kept p xs)

  pub all-gather : {B : Type 0} (P : A → Type 0) (f : B → List A) (xs : List B) → ((x : B) → All P (f x)) → All P (gather f xs)
  all-gather P f [] h = tt
  all-gather P f (x ∷ xs) h = all_append P (f x) (gather f xs) (h x) (all-gather P f xs h)

  pub keep_yes : (p : A → Bool) (xs : List A) → All (λ x. p x ≡ true) xs → keep p xs ≡ xs
  keep_yes p [] a = refl
  keep_yes p (x ∷ xs) a = rw (a.0, keep_yes p xs a.1)

  pub keep_no : (p : A → Bool) (xs : List A) → All (λ x. p x ≡ false) xs → keep p xs ≡ []
  keep_no p [] a = refl
  keep_no p (x ∷ xs) a = rw (a.0, keep_no p xs a.1)

module _ {A : Type 0} where
  pub all_imp : (P Q : A → Type 0) (xs : List A) → ((x : A) → P x → Q x) → All P xs → All Q xs
  all_imp P Q [] h a = tt
  all_imp P Q (x ∷ xs) h a = (h x a.0, all_imp P Q xs h a.1)

  -- each element is in the relation with all behind it
  abbrev pub Pairs : (A → A → Type 0) → List A → Type 0
  Pairs R [] = Unit {0}
  Pairs R (x ∷ xs) = All (R x) xs × Pairs R xs

  pub pairs_imp : (R S : A → A → Type 0) (xs : List A) → ((x y : A) → R x y → S x y) → Pairs R xs → Pairs S xs
  pairs_imp R S [] h s = tt
  pairs_imp R S (x ∷ xs) h s = (all_imp (R x) (S x) xs (h x) s.0, pairs_imp R S xs h s.1)

  pub pairs-keep : (R : A → A → Type 0) (p : A → Bool) (xs : List A) → Pairs R xs → Pairs R (keep p xs)
  pairs-keep R p [] s = tt
  pairs-keep R p (x ∷ xs) s = go (p x) (pairs-keep R p xs s.1)
    where
      go : (b : Bool) → Pairs R (keep p xs) → Pairs R (cons_if b x (keep p xs))
      go true ih = (all_keep (R x) p xs s.0, ih)
      go false ih = ih

  -- ---- a list in the order of a key is its buckets, one after the other

  module _ (key : A → ℕ) where
    abbrev bucket : List A → ℕ → List A
    bucket xs k = keep (λ x. eqb (key x) k) xs

    below : (k : ℕ) (xs : List A) → All (λ y. k < key y) xs → bucket xs k ≡ []
    below k xs a = keep_no (λ x. eqb (key x) k) xs (all_imp (λ y. k < key y) (λ y. eqb (key y) k ≡ false) xs (λ y h. ne_eqb (key y) k (omega arith)) a)

    pub bucket_step : (x : A) (xs : List A) (n i : ℕ) → i ≤ key x → key x < i + n → All (λ y. key x ≤ key y) xs
        → gather (bucket (x ∷ xs)) (count_from n i) ≡ x ∷ gather (bucket xs) (count_from n i)
    bucket_step x xs zero i a b s = absurd (omega arith)
    bucket_step x xs (suc n) i a b s = elim (ℕ_discrete i (key x)) [
      | yes e ↦ rw (eq-eqb (key x) i (sym e), gather-count (bucket (x ∷ xs)) (bucket xs) n (suc i) (λ k c d. rw (ne_eqb (key x) k (omega arith))))
      | no d ↦ rw (
        ne_eqb (key x) i (λ e. d (sym e)),
        below i xs (all_imp (λ y. key x ≤ key y) (λ y. i < key y) xs (λ y h. omega arith) s),
        bucket_step x xs n (suc i) (omega arith) (omega arith) s,
      )
    ]

    pub buckets : (xs : List A) (n : ℕ) → Pairs (λ x y. key x ≤ key y) xs → All (λ x. key x < n) xs → gather (bucket xs) (count_from n 0) ≡ xs
    buckets [] n s a = gather_none (bucket []) n 0 (λ k b. refl)
    buckets (x ∷ xs) n s a = bucket_step x xs n 0 (omega arith) (let l : key x < n = a.0 in omega arith) s.0 ∙ ap (◌∷◌ x) (buckets xs n s.1 a.1)

module _ {A : Type 0} where
  pub all-kept_imp : (P Q : A → Type 0) (p : A → Bool) (xs : List A) → ((x : A) → p x ≡ true → P x → Q x) → All P xs → All Q (keep p xs)
  all-kept_imp P Q p [] h a = tt
  all-kept_imp P Q p (x ∷ xs) h a = go (p x) refl (all-kept_imp P Q p xs h a.1)
    where
      go : (b : Bool) → p x ≡ b → All Q (keep p xs) → All Q (cons_if b x (keep p xs))
      go true e ih = (h x e a.0, ih)
      go false e ih = ih

module _ {A : Type 0} where
  pub all-all : (P Q : A → Type 0) (R : A → A → Type 0) (xs ys : List A) → ((x y : A) → P x → Q y → R x y) → All P xs → All Q ys
      → All (λ x. All (R x) ys) xs
  all-all P Q R [] ys h a b = tt
  all-all P Q R (x ∷ xs) ys h a b = (all_imp Q (R x) ys (λ y q. h x y a.0 q) b, all-all P Q R xs ys h a.1 b)

  pub pairs-append : (R : A → A → Type 0) (xs ys : List A) → Pairs R xs → Pairs R ys → All (λ x. All (R x) ys) xs → Pairs R (xs ++ ys)
  pairs-append R [] ys a b c = b
  pairs-append R (x ∷ xs) ys a b c = (all_append (R x) xs ys a.0 c.0, pairs-append R xs ys a.1 b c.1)

  pub all-count : (P : A → Type 0) (f : ℕ → List A) (k i : ℕ) → ((b : ℕ) → i ≤ b → b < i + k → All P (f b)) → All P (gather f (count_from k i))
  all-count P f zero i h = tt
  all-count P f (suc k) i h = all_append P (f i) (gather f (count_from k (suc i))) (h i (omega arith) (omega arith)) (all-count P f k (suc i) (λ b c d. h b (omega arith) (omega arith)))

module _ {A : Type 0} (p : A → Bool) where
  pub every_yes : (xs : List A) → All (λ x. p x ≡ true) xs → every p xs ≡ true
  every_yes [] a = refl
  every_yes (x ∷ xs) a = and_yes a.0 (every_yes xs a.1)

  pub every-all : (xs : List A) → every p xs ≡ true → All (λ x. p x ≡ true) xs
  every-all [] e = tt
  every-all (x ∷ xs) e = (and_left (p x) (every p xs) e, every-all xs (and_right (p x) (every p xs) e))

-- ---- after a place is written, and parts of a list

module _ {A : Type 0} (P : A → Type 0) where
  pub all_set : (xs : List A) (i : ℕ) (a : A) → All P xs → P a → All P (set xs i a)
  all_set [] i a h p = tt
  all_set (x ∷ xs) zero a h p = (p, h.1)
  all_set (x ∷ xs) (suc i) a h p = (h.0, all_set xs i a h.1 p)

  pub all-at : (xs : List A) (i : ℕ) (d : A) → All P xs → i < length xs → P (get_or xs i d)
  all-at [] i d h b = absurd (omega arith)
  all-at (x ∷ xs) zero d h b = h.0
  all-at (x ∷ xs) (suc i) d h b = all-at xs i d h.1 (omega arith)

  pub all_take : (k : ℕ) (xs : List A) → All P xs → All P (take k xs)
  all_take zero xs h = tt
  all_take (suc k) [] h = tt
  all_take (suc k) (x ∷ xs) h = (h.0, all_take k xs h.1)

  pub all_drop : (k : ℕ) (xs : List A) → All P xs → All P (drop k xs)
  all_drop zero xs h = h
  all_drop (suc k) [] h = tt
  all_drop (suc k) (x ∷ xs) h = all_drop k xs h.1

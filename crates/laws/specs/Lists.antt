-- Lists by a Boolean test, and counted lists.
-- Assumes nothing.
use Rattle.std.specs.Prelude.{Bool, ◌&&◌, cond, false, true, List, [], ◌++◌, ◌∷◌, map, ◌≢◌, ◌≡◌, refl, ◌+◌, ◌<◌, ◌≤◌, suc, zero, ℕ, get_or, length, set}
use Rattle.std.proofs.Math.Bool.{and_comm}
use Rattle.std.proofs.Common.{append_assoc, append-nil, ◌∙◌, ap, sym, arith}
use Rattle.std.proofs.Math.Decide.{ℕ_discrete}
use Rattle.model.specs.Lists.{cons_if, count_from, gather, keep}

module _ {A : Type 0} where
  cons_if-append : (b : Bool) (x : A) (xs ys : List A) → cons_if b x xs ++ ys ≡ cons_if b x (xs ++ ys)
  cons_if-append true x xs ys = refl
  cons_if-append false x xs ys = refl

  keep-cons_if : (p : A → Bool) (b : Bool) (x : A) (xs : List A) → keep p (cons_if b x xs) ≡ cons_if (b && p x) x (keep p xs)
  keep-cons_if p true x xs = refl
  keep-cons_if p false x xs = refl

  pub keep_append : (p : A → Bool) (xs ys : List A) → keep p (xs ++ ys) ≡ keep p xs ++ keep p ys
  keep_append p [] ys = refl
  keep_append p (x ∷ xs) ys = ap (cons_if (p x) x) (keep_append p xs ys) ∙ sym (cons_if-append (p x) x (keep p xs) (keep p ys))

  -- two tests, one after the other
  pub keep-keep : (p q : A → Bool) (xs : List A) → keep p (keep q xs) ≡ keep (λ x. q x && p x) xs
  keep-keep p q [] = refl
  keep-keep p q (x ∷ xs) = keep-cons_if p (q x) x (keep q xs) ∙ ap (cons_if (q x && p x) x) (keep-keep p q xs)

  pub keep_ext : (p q : A → Bool) (xs : List A) → ((x : A) → p x ≡ q x) → keep p xs ≡ keep q xs
  keep_ext p q xs h = λ i. keep (λ x. h x i) xs

  pub keep_swap : (p q : A → Bool) (xs : List A) → keep p (keep q xs) ≡ keep q (keep p xs)
  keep_swap p q xs = keep-keep p q xs ∙ keep_ext _ _ xs (λ x. and_comm (q x) (p x)) ∙ sym (keep-keep q p xs)

  -- a test with one answer
  pub keep_same : (p : A → Bool) (b : Bool) (xs : List A) → ((x : A) → p x ≡ b) → keep p xs ≡ cond b xs []
  keep_same p true [] h = refl
  keep_same p false [] h = refl
  keep_same p true (x ∷ xs) h = rw (h x, keep_same p true xs h)
  keep_same p false (x ∷ xs) h = rw (h x, keep_same p false xs h)

module _ {A B : Type 0} where
  map-cons_if : (f : A → B) (b : Bool) (x : A) (xs : List A) → map f (cons_if b x xs) ≡ cons_if b (f x) (map f xs)
  map-cons_if f true x xs = refl
  map-cons_if f false x xs = refl

  pub keep-map : (p : B → Bool) (f : A → B) (xs : List A) → keep p (map f xs) ≡ map f (keep (λ x. p (f x)) xs)
  keep-map p f [] = refl
  keep-map p f (x ∷ xs) = ap (cons_if (p (f x)) (f x)) (keep-map p f xs) ∙ sym (map-cons_if f (p (f x)) x (keep (λ x. p (f x)) xs))

  -- what passes, changed, by one pass
  pub map-keep : (p : A → Bool) (f : A → B) (xs : List A) → map f (keep p xs) ≡ gather (λ x. cons_if (p x) (f x) []) xs
  map-keep p f [] = refl
  map-keep p f (x ∷ xs) =
      map-cons_if f (p x) x (keep p xs) ∙ ap (cons_if (p x) (f x)) (map-keep p f xs) ∙ sym (cons_if-append (p x) (f x) [] (gather (λ x. cons_if (p x) (f x) []) xs))

  pub map-append : (f : A → B) (xs ys : List A) → map f (xs ++ ys) ≡ map f xs ++ map f ys
  map-append f [] ys = refl
  map-append f (x ∷ xs) ys = ap (◌∷◌ (f x)) (map-append f xs ys)

  pub keep-gather : (p : B → Bool) (f : A → List B) (xs : List A) → keep p (gather f xs) ≡ gather (λ x. keep p (f x)) xs
  keep-gather p f [] = refl
  keep-gather p f (x ∷ xs) = keep_append p (f x) (gather f xs) ∙ ap (◌++◌ (keep p (f x))) (keep-gather p f xs)

  pub gather_append : (f : A → List B) (xs ys : List A) → gather f (xs ++ ys) ≡ gather f xs ++ gather f ys
  gather_append f [] ys = refl
  gather_append f (x ∷ xs) ys = rw (gather_append f xs ys, append_assoc)

  pub gather_same : (f g : A → List B) (xs : List A) → ((x : A) → f x ≡ g x) → gather f xs ≡ gather g xs
  gather_same f g xs h = λ i. gather (λ x. h x i) xs

module _ {A B C : Type 0} where
  pub map-gather : (g : B → C) (f : A → List B) (xs : List A) → map g (gather f xs) ≡ gather (λ x. map g (f x)) xs
  map-gather g f [] = refl
  map-gather g f (x ∷ xs) = map-append g (f x) (gather f xs) ∙ ap (◌++◌ (map g (f x))) (map-gather g f xs)

module _ {B : Type 0} where
  -- over counted numbers it is enough to agree at each of them
  pub gather-count : (f g : ℕ → List B) (n i : ℕ) → ((k : ℕ) → i ≤ k → k < i + n → f k ≡ g k) → gather f (count_from n i) ≡ gather g (count_from n i)
  gather-count f g zero i h = refl
  gather-count f g (suc n) i h =
      rw (h i (omega arith) (omega arith), gather-count f g n (suc i) (λ k a b. h k (omega arith) (omega arith)))

  -- nothing at any of them
  pub gather_none : (f : ℕ → List B) (n i : ℕ) → ((k : ℕ) → i ≤ k → f k ≡ []) → gather f (count_from n i) ≡ []
  gather_none f zero i h = refl
  gather_none f (suc n) i h = rw (h i (omega arith), gather_none f n (suc i) (λ k a. h k (omega arith)))

  -- nothing but at one of them
  pub gather-one : (f : ℕ → List B) (n i l : ℕ) → i ≤ l → l < i + n → ((k : ℕ) → k ≢ l → f k ≡ []) → gather f (count_from n i) ≡ f l
  gather-one f zero i l a b h = absurd (omega arith)
  gather-one f (suc n) i l a b h = elim (ℕ_discrete i l) [
    | yes e ↦ rw (e, gather_none f n (suc l) (λ k c. h k (omega arith)), append-nil)
    | no d ↦ rw (h i d, gather-one f n (suc i) l (omega arith) (omega arith) h)
  ]

pub length-keep : {A : Type 0} (p : A → Bool) (xs : List A) → length (keep p xs) ≤ length xs
length-keep p [] = omega arith
length-keep p (x ∷ xs) = go (p x) (length-keep p xs)
  where
    go : (b : Bool) → length (keep p xs) ≤ length xs → length (cons_if b x (keep p xs)) ≤ suc (length xs)
    go true h = omega arith
    go false h = omega arith

pub length-map : {A B : Type 0} (f : A → B) (xs : List A) → length (map f xs) ≡ length xs
length-map f [] = refl
length-map f (x ∷ xs) = ap suc (length-map f xs)

module _ {A B : Type 0} where
  pub map-set : (f : A → B) (xs : List A) (i : ℕ) (a : A) → map f (set xs i a) ≡ set (map f xs) i (f a)
  map-set f [] i a = refl
  map-set f (x ∷ xs) zero a = refl
  map-set f (x ∷ xs) (suc i) a = ap (◌∷◌ (f x)) (map-set f xs i a)

  pub get_d_map : (f : A → B) (xs : List A) (i : ℕ) (d : A) (e : B) → i < length xs → get_or (map f xs) i e ≡ f (get_or xs i d)
  get_d_map f [] i d e h = absurd (omega arith)
  get_d_map f (x ∷ xs) zero d e h = refl
  get_d_map f (x ∷ xs) (suc i) d e h = get_d_map f xs i d e (omega arith)

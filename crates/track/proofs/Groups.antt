-- The bytes of a time that takes one, two, three and four groups, as the code writes them. Assumes nothing.
use mathlib.Core.Path.{◌≡◌, refl, sym, ap}
use mathlib.Core.List.{List, [], ◌∷◌}
use Prim.Native.Nat.{ℕ, ◌+◌, ◌/◌, ◌%◌, ◌<◌}
use native.Mathlib.Omega.{arith}
use borrow.Author.Tests.{lt-ltb, ltb-true}
use lib.Dec.{ltb}
use lib.ListN.{length}
use Rattle.midi.specs.Numbers.{quantity_bytes}
use Rattle.midi.proofs.Branches.{by_test}

data Groups (n : ℕ) (l : List ℕ) : Type 0 where
  one : l ≡ n % 128 ∷ [] → Groups n l
  two : l ≡ (128 + n / 128 % 128) ∷ n % 128 ∷ [] → Groups n l
  three : l ≡ (128 + n / 16384 % 128) ∷ (128 + n / 128 % 128) ∷ n % 128 ∷ [] → Groups n l
  four : l ≡ (128 + n / 2097152) ∷ (128 + n / 16384 % 128) ∷ (128 + n / 128 % 128) ∷ n % 128 ∷ [] → Groups n l

groups : (n : ℕ) → Groups n (quantity_bytes n)
unfolding quantity_bytes
groups n =
    by_test (Groups n) (ltb n 128) (λ a. let h = ltb-true n 128 a in let e : n % 128 ≡ n = omega arith in one (ap (λ (x : ℕ). x ∷ []) (sym e)))
    (λ a. by_test (Groups n) (ltb n 16384) (λ b. let h = ltb-true n 16384 b in let e : n / 128 % 128 ≡ n / 128 = omega arith in two (ap (λ (x : ℕ). (128 + x) ∷ n % 128 ∷ []) (sym e)))
    (λ b. by_test (Groups n) (ltb n 2097152)
    (λ c. let h = ltb-true n 2097152 c in let e : n / 16384 % 128 ≡ n / 16384 = omega arith in three (ap (λ (x : ℕ). (128 + x) ∷ (128 + n / 128 % 128) ∷ n % 128 ∷ []) (sym e)))
    (λ c. four refl)))

pub group_of_few : (n : ℕ) → n < 128 → 1 ≡ length (quantity_bytes n)
unfolding quantity_bytes
group_of_few n h = rw (lt-ltb n 128 h, quantity_bytes)

pub one_group : (n : ℕ) → length (quantity_bytes n) ≡ 1 → quantity_bytes n ≡ n % 128 ∷ []
one_group n e = go (groups n) where
  go : Groups n (quantity_bytes n) → quantity_bytes n ≡ n % 128 ∷ []
  go (one h) = h
  go (two h) = absurd (omega (arith, ap length h))
  go (three h) = absurd (omega (arith, ap length h))
  go (four h) = absurd (omega (arith, ap length h))

pub two_groups : (n : ℕ) → length (quantity_bytes n) ≡ 2 → quantity_bytes n ≡ (128 + n / 128 % 128) ∷ n % 128 ∷ []
two_groups n e = go (groups n) where
  go : Groups n (quantity_bytes n) → quantity_bytes n ≡ (128 + n / 128 % 128) ∷ n % 128 ∷ []
  go (one h) = absurd (omega (arith, ap length h))
  go (two h) = h
  go (three h) = absurd (omega (arith, ap length h))
  go (four h) = absurd (omega (arith, ap length h))

pub three_groups : (n : ℕ) → length (quantity_bytes n) ≡ 3 → quantity_bytes n ≡ (128 + n / 16384 % 128) ∷ (128 + n / 128 % 128) ∷ n % 128 ∷ []
three_groups n e = go (groups n) where
  go : Groups n (quantity_bytes n) → quantity_bytes n ≡ (128 + n / 16384 % 128) ∷ (128 + n / 128 % 128) ∷ n % 128 ∷ []
  go (one h) = absurd (omega (arith, ap length h))
  go (two h) = absurd (omega (arith, ap length h))
  go (three h) = h
  go (four h) = absurd (omega (arith, ap length h))

pub four_groups : (n : ℕ) → (length (quantity_bytes n) ≡ 1 → ⊥) → (length (quantity_bytes n) ≡ 2 → ⊥) → (length (quantity_bytes n) ≡ 3 → ⊥)
    → quantity_bytes n ≡ (128 + n / 2097152) ∷ (128 + n / 16384 % 128) ∷ (128 + n / 128 % 128) ∷ n % 128 ∷ []
four_groups n a b c = go (groups n) where
  go : Groups n (quantity_bytes n) → quantity_bytes n ≡ (128 + n / 2097152) ∷ (128 + n / 16384 % 128) ∷ (128 + n / 128 % 128) ∷ n % 128 ∷ []
  go (one h) = absurd (a (ap length h))
  go (two h) = absurd (b (ap length h))
  go (three h) = absurd (c (ap length h))
  go (four h) = h

-- How many groups of seven bits a number takes: the fewest, by the count of its leading zeros; and the bytes of each count.
-- Assumes nothing.
use mathlib.Core.List.{List, [], ◌∷◌}
use mathlib.Core.Path.{◌≡◌}
use Prim.Native.Nat.{ℕ, suc, ◌+◌, ◌-◌, ◌/◌, ◌%◌, ◌^◌, ◌≤◌, ◌<◌}
use native.Mathlib.Nat.{le_trans, lt_of_lt_of_le, lt_irrefl, lt_of_not-le}
use native.Mathlib.Omega.{arith}
use lib.Count.{count_leading_zeros, leading_top}
use lib.Dec.{ltb}
use lib.ListN.{length}
use lib.Pow.{pow_mono}
use borrow.Author.Tests.{le-ltb, lt-ltb, ltb-true, ltb-false}
use Rattle.midi.specs.Numbers.{quantity_bytes}
use Rattle.midi.proofs.Branches.{by_test}

-- ---- the fewest

-- One to four groups, and fewer would not do.
pub record Fewest (n : ℕ) (bs : List ℕ) : Type 0 where
  pub some : 1 ≤ length bs
  pub four : length bs ≤ 4
  pub need : 2 ≤ length bs → 128 ^ (length bs - 1) ≤ n

pub quantity_fewest : (n : ℕ) → Fewest n (quantity_bytes n)
unfolding quantity_bytes
quantity_fewest n =
    by_test (Fewest n) (ltb n 128) (λ a. record { some = omega arith; four = omega arith; need = λ k. absurd (omega arith) })
    (λ a. by_test (Fewest n) (ltb n 16384) (λ c. let d = ltb-false n 128 a in record { some = omega arith; four = omega arith; need = λ k. d })
    (λ c. by_test (Fewest n) (ltb n 2097152) (λ e. let d = ltb-false n 16384 c in record { some = omega arith; four = omega arith; need = λ k. d })
    (λ e. let d = ltb-false n 2097152 e in record { some = omega arith; four = omega arith; need = λ k. d })))

-- ---- the bytes of each count

pub one_group : (n : ℕ) → n < 128 → quantity_bytes n ≡ n ∷ []
unfolding quantity_bytes
one_group n h = rw (lt-ltb n 128 h, quantity_bytes)

pub two_groups : (n : ℕ) → 128 ≤ n → n < 16384 → quantity_bytes n ≡ (128 + n / 128) ∷ n % 128 ∷ []
unfolding quantity_bytes
two_groups n a b = rw (le-ltb n 128 a, quantity_bytes, lt-ltb n 16384 b)

pub three_groups : (n : ℕ) → 16384 ≤ n → n < 2097152 → quantity_bytes n ≡ (128 + n / 16384) ∷ (128 + n / 128 % 128) ∷ n % 128 ∷ []
unfolding quantity_bytes
three_groups n a b = rw (le-ltb n 128 (omega arith), quantity_bytes, le-ltb n 16384 a, lt-ltb n 2097152 b)

pub four_groups : (n : ℕ) → 2097152 ≤ n
    → quantity_bytes n ≡ (128 + n / 2097152) ∷ (128 + n / 16384 % 128) ∷ (128 + n / 128 % 128) ∷ n % 128 ∷ []
unfolding quantity_bytes
four_groups n a = rw (le-ltb n 128 (omega arith), quantity_bytes, le-ltb n 16384 (omega arith), le-ltb n 2097152 a)

-- what a count of groups says of the number
pub record Counted (n : ℕ) (bs : List ℕ) : Type 0 where
  pub one : length bs ≡ 1 → n < 128
  pub two : length bs ≡ 2 → (128 ≤ n) × (n < 16384)
  pub three : length bs ≡ 3 → (16384 ≤ n) × (n < 2097152)
  pub four : length bs ≡ 4 → 2097152 ≤ n

-- ---- by leading zeros

-- of a number between 2 ^ j and 2 ^ k, j is below k
exponent : (j k x : ℕ) → 2 ^ j ≤ x → x < 2 ^ k → j < k
exponent j k x low high = lt_of_not-le (λ h. lt_irrefl x (lt_of_lt_of_le high (le_trans (pow_mono h) low)))

-- a number of j + 1 bits, with z zeros above them
by_bits : (x j z : ℕ) → z + suc j ≡ 32 → 2 ^ j ≤ x → x < 2 ^ suc j → x < 2 ^ 28 → (38 - z) / 7 ≡ length (quantity_bytes x)
unfolding quantity_bytes
by_bits x j z e low high top =
    by_test (λ (l : List ℕ). (38 - z) / 7 ≡ length l) (ltb x 128) (λ a. omega (arith, exponent j 7 x low (ltb-true x 128 a)))
    (λ a. by_test (λ (l : List ℕ). (38 - z) / 7 ≡ length l) (ltb x 16384)
    (λ b. omega (arith, exponent 7 (suc j) x (ltb-false x 128 a) high, exponent j 14 x low (ltb-true x 16384 b)))
    (λ b. by_test (λ (l : List ℕ). (38 - z) / 7 ≡ length l) (ltb x 2097152)
    (λ c. omega (arith, exponent 14 (suc j) x (ltb-false x 16384 b) high, exponent j 21 x low (ltb-true x 2097152 c)))
    (λ c. omega (arith, exponent 21 (suc j) x (ltb-false x 2097152 c) high, exponent j 28 x low top))))

pub groups_by_zeros : (x : ℕ) → 0 < x → x < 268435456 → (38 - count_leading_zeros 32 x) / 7 ≡ length (quantity_bytes x)
groups_by_zeros x p h =
    let t = leading_top 32 x p (omega arith) in
    by_bits x t.0 (count_leading_zeros 32 x) t.1 t.2 t.3 h

-- A number read group by group: what the groups read so far stay below, and one group more. Assumes nothing.
use mathlib.Core.List.{List}
use mathlib.Core.Path.{◌≡◌, refl, ap, ◌∙◌}
use Prim.Native.Nat.{ℕ, zero, suc, ◌+◌, ◌-◌, ◌*◌, ◌≤◌, ◌<◌}
use native.Mathlib.Numerals.{add-one}
use native.Mathlib.Omega.{arith}
use lib.Dec.{ltb}
use lib.ListN.{length, get_or}
use borrow.Author.Tests.{lt-ltb, le-ltb, ltb-true}
use Rattle.midi.specs.Numbers.{Quantity, no_quantity, quantity, quantity_from, quantity_at}
use Rattle.midi.proofs.Branches.{by_test}
use Rattle.midi.proofs.Legal.{quantity_inside}

-- What the number stays below, with so many groups left.
pub top : ℕ → ℕ
top zero = 268435456
top (suc zero) = 2097152
top (suc (suc zero)) = 16384
top (suc (suc (suc zero))) = 128
top (suc (suc (suc (suc n)))) = 1

pub top_start : 0 < top 4
unfolding top
top_start = omega arith

pub top_low : (left sum : ℕ) → 0 < left → left ≤ 4 → sum < top left → sum < 2097152
unfolding top
top_low zero sum a b h = absurd (omega arith)
top_low (suc zero) sum a b h = h
top_low (suc (suc zero)) sum a b h = omega arith
top_low (suc (suc (suc zero))) sum a b h = omega arith
top_low (suc (suc (suc (suc n)))) sum a b h = omega arith

pub top_next : (left sum b : ℕ) → 0 < left → left ≤ 4 → sum < top left → b < 128 → sum * 128 + b < top (left - 1)
unfolding top
top_next zero sum b z k h l = absurd (omega arith)
top_next (suc zero) sum b z k h l = omega arith
top_next (suc (suc zero)) sum b z k h l = omega arith
top_next (suc (suc (suc zero))) sum b z k h l = omega arith
top_next (suc (suc (suc (suc zero)))) sum b z k h l = omega arith
top_next (suc (suc (suc (suc (suc n))))) sum b z k h l = absurd (omega arith)

-- ---- one group

module _ (left : ℕ) (s : List ℕ) (q sum : ℕ) (some : 0 < left) where
  one : left ≡ suc (left - 1)
  one = omega arith

  pub group_cut : length s ≤ q → quantity_from left s q sum ≡ no_quantity
  unfolding quantity_from
  group_cut h = rw (one, le-ltb q (length s) h, quantity_from)

  pub group_last : q < length s → get_or s q 0 < 128 → quantity_from left s q sum ≡ quantity (sum * 128 + get_or s q 0) (q + 1)
  unfolding quantity_from
  group_last h k = rw (one, lt-ltb q (length s) h, quantity_from, lt-ltb (get_or s q 0) 128 k, add-one)

  pub group_more : q < length s → 128 ≤ get_or s q 0 → quantity_from left s q sum ≡ quantity_from (left - 1) s (q + 1) (sum * 128 + (get_or s q 0 - 128))
  unfolding quantity_from
  group_more h k = ap (λ n. quantity_from n s q sum) one ∙ go
    where
      go : quantity_from (suc (left - 1)) s q sum ≡ quantity_from (left - 1) s (q + 1) (sum * 128 + (get_or s q 0 - 128))
      go = rw (lt-ltb q (length s) h, quantity_from, le-ltb (get_or s q 0) 128 k, add-one)

pub group_none : (left : ℕ) (s : List ℕ) (q sum : ℕ) → left ≤ 0 → quantity_from left s q sum ≡ no_quantity
unfolding quantity_from
group_none zero s q sum h = refl
group_none (suc n) s q sum h = absurd (omega arith)

-- ---- the groups read so far

-- So many groups are read: the others are read from a position on, after the sum of these.
pub record Reading (s : List ℕ) (at groups q sum : ℕ) : Type 0 where
  pub low : sum < top (4 - groups)
  pub same : quantity_at s at ≡ quantity_from (4 - groups) s q sum

pub reading_start : (s : List ℕ) (at : ℕ) → Reading s at 0 at 0
reading_start s at = record { low = top_start; same = refl }

module _ {s : List ℕ} {at groups q sum : ℕ} (w : Reading s at groups q sum) where
  pub reading_full : 4 ≤ groups → quantity_at s at ≡ no_quantity
  reading_full h = w.same ∙ group_none (4 - groups) s q sum (omega arith)

  module _ (h : groups < 4) where
    pub reading_small : sum < 2097152
    reading_small = top_low (4 - groups) sum (omega arith) (omega arith) w.low

    pub reading_cut : length s ≤ q → quantity_at s at ≡ no_quantity
    reading_cut k = w.same ∙ group_cut (4 - groups) s q sum (omega arith) k

    module _ {b : ℕ} (inside : q < length s) (is : b ≡ get_or s q 0) where
      pub reading_last : b < 128 → quantity_at s at ≡ quantity (sum * 128 + b) (q + 1)
      reading_last k = rw is (w.same ∙ group_last (4 - groups) s q sum (omega arith) inside (omega arith))

      pub reading_more : 128 ≤ b → b < 256 → Reading s at (groups + 1) (q + 1) (sum * 128 + (b - 128))
      reading_more k l =
          let e : 4 - groups - 1 ≡ 4 - (groups + 1) = omega arith in
          record {
            low = rw e at (top_next (4 - groups) sum (b - 128) (omega arith) (omega arith) w.low (omega arith));
            same = rw is (rw e at (w.same ∙ group_more (4 - groups) s q sum (omega arith) inside (omega arith)));
          }

-- ---- the number

-- A number of four groups is below 2 to the 28.
abbrev Small : Quantity → Type 0
Small no_quantity = Unit {0}
Small (quantity n q) = n < 268435456

top_most : (g n : ℕ) → n < top g → n < 268435456
unfolding top
top_most zero n h = h
top_most (suc zero) n h = omega arith
top_most (suc (suc zero)) n h = omega arith
top_most (suc (suc (suc zero))) n h = omega arith
top_most (suc (suc (suc (suc g)))) n h = omega arith

small_from : (s : List ℕ) → ((i : ℕ) → get_or s i 0 < 256) → (g at sum : ℕ) → g ≤ 4 → sum < top g → Small (quantity_from g s at sum)
unfolding quantity_from
small_from s b zero at sum h k = tt
small_from s b (suc g) at sum h k =
    go (small_from s b g (suc at) (sum * 128 + (get_or s at 0 - 128)) (omega arith) (down (get_or s at 0 - 128) (omega (arith, b at))))
  where
    down : (x : ℕ) → x < 128 → sum * 128 + x < top g
    down x l = let e : suc g - 1 ≡ g = omega arith in rw e at (top_next (suc g) sum x (omega arith) h k l)

    go : Small (quantity_from g s (suc at) (sum * 128 + (get_or s at 0 - 128))) → Small (quantity_from (suc g) s at sum)
    go ih = by_test Small (ltb at (length s))
        (λ e. by_test Small (ltb (get_or s at 0) 128) (λ f. top_most g _ (down (get_or s at 0) (ltb-true (get_or s at 0) 128 f))) (λ f. ih))
        (λ e. tt)

module _ (s : List ℕ) (at n q : ℕ) (e : quantity_at s at ≡ quantity n q) where
  pub quantity_small : ((i : ℕ) → get_or s i 0 < 256) → n < 268435456
  quantity_small b = let w = (let v = small_from s b 4 at 0 (omega arith) top_start in rw e at v) in w

  -- the position behind it is inside the list
  pub quantity_behind : q ≤ length s
  quantity_behind = let w = (let v = quantity_inside 4 s at 0 in rw e at v) in w.1

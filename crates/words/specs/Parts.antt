-- Parts of a list: its n items from place a on, `take n (drop a l)`. A write that is apart from a part leaves it as it was.
-- Assumes nothing.
use Rattle.std.specs.Prelude.{◌≡◌, refl, List, ◌∷◌, ◌++◌, ℕ, suc, ◌+◌, ◌≤◌, ◌<◌, length, get_or, take, drop}
use Rattle.std.proofs.Common.{arith, length-drop, drop-cons, length-take-le, take_at, drop_at}
use Rattle.words.specs.Apart.{Apart, Apart.ahead, Apart.behind}
use Rattle.words.specs.Splice.{splice, get_or-splice-before, get_or-splice-behind, splice-parts}

pub length_part : {X : Type 0} (l : List X) (a n : ℕ) → a + n ≤ length l → length (take n (drop a l)) ≡ n
length_part l a n fits = length-take-le n (drop a l) (omega (arith, length-drop a l))

-- the first word of a part, and the rest
pub part_cons : (l : List ℕ) (a n : ℕ) → a < length l → take (suc n) (drop a l) ≡ get_or l a 0 ∷ take n (drop (suc a) l)
part_cons l a n h = rw (drop-cons l a 0 h)

-- ---- lists that agree on a part

-- l and m have the same words at the n places from a on
pub record Same (l m : List ℕ) (a n : ℕ) : Type 0 where
  pub at : (i : ℕ) → a ≤ i → i < a + n → get_or l i 0 ≡ get_or m i 0

-- ---- a part after a write

pub splice_same : (l : List ℕ) (b : ℕ) (ws : List ℕ) {a n m : ℕ} → Apart a n b m → length ws ≤ m → Same (splice l b ws) l a n
splice_same l b ws (ahead h) fits = record { at = λ i low high. get_or-splice-before l b ws i (omega arith) }
splice_same l b ws (behind h) fits = record { at = λ i low high. get_or-splice-behind l b ws i (omega arith) }

-- the part that was written
pub part-splice-written : (l : List ℕ) (b : ℕ) (ws : List ℕ) → b + length ws ≤ length l → take (length ws) (drop b (splice l b ws)) ≡ ws
part-splice-written l b ws fits =
    rw (splice-parts l b ws fits, drop_at (take b l) (ws ++ drop (b + length ws) l) b (length-take-le b l (omega arith)))
    (take_at ws (drop (b + length ws) l) (length ws) refl)

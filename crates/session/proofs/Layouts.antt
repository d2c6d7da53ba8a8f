-- The layout of a shelf, one law for each way out of the code. Assumes nothing.
use mathlib.Core.Path.{◌≡◌, refl, sym, ap, ◌∙◌}
use mathlib.Core.Bool.{Bool, true, false, ◌&&◌, and_assoc}
use mathlib.Core.List.{List, [], ◌∷◌, ◌++◌}
use Prim.Native.Nat.{ℕ, ◌-◌, ◌≤◌, ◌<◌}
use native.Mathlib.Omega.{arith}
use borrow.Author.Tests.{le-leb, lt-leb, eq-eqb, ne_eqb, eqb-true, eqb-false}
use lib.Dec.{eqb}
use lib.Bits.{bit_or, or_add_and, and_le_l, and_le_r}
use lib.ListN.{length, take, drop, length-drop, take-append-drop}
use lib.Seq.{take_all}
use Rattle.std.specs.List.{fold}
use Rattle.model.specs.Limits.{max_beats}
use Rattle.model.specs.Lists.{every}
use Rattle.model.specs.Soundness.{layout_ok}
use Rattle.model.specs.Takes.{word, words_used}

-- ---- zeros

-- two numbers joined by "or" are 0 only if both are
pub or_zero : (a b : ℕ) → eqb (bit_or a b) 0 ≡ eqb 0 b && eqb a 0
or_zero a b = go (eqb 0 b) (eqb a 0) refl refl
  where
    go : (t u : Bool) → eqb 0 b ≡ t → eqb a 0 ≡ u → eqb (bit_or a b) 0 ≡ t && u
    go true true p q = let x : 0 ≡ b = eqb-true 0 b p in let y : a ≡ 0 = eqb-true a 0 q in rw (← x, y) (eq-eqb 0 0 refl)
    go true false p q = ne_eqb (bit_or a b) 0 (λ e. eqb-false a 0 q (omega (arith, or_add_and a b, and_le_r a b)))
    go false u p q = ne_eqb (bit_or a b) 0 (λ e. eqb-false 0 b p (omega (arith, or_add_and a b, and_le_l a b)))

swap : (a b c : Bool) → (a && b) && c ≡ b && (a && c)
swap true true c = refl
swap true false c = refl
swap false true c = refl
swap false false c = refl

joined_from : (a : ℕ) (ws : List ℕ) → eqb (fold bit_or a ws) 0 ≡ eqb a 0 && every (eqb 0) ws
joined_from a [] = go (eqb a 0)
  where
    go : (b : Bool) → b ≡ b && true
    go true = refl
    go false = refl
joined_from a (w ∷ ws) = joined_from (bit_or a w) ws ∙ ap (λ (b : Bool). b && every (eqb 0) ws) (or_zero a w) ∙ swap (eqb 0 w) (eqb a 0) (every (eqb 0) ws)

-- words joined by "or" are 0 only if all are
pub joined_zero : (ws : List ℕ) {r : ℕ} → r ≡ fold bit_or 0 ws → eqb r 0 ≡ every (eqb 0) ws
joined_zero ws e = ap (λ (x : ℕ). eqb x 0) e ∙ joined_from 0 ws

pub every_append : (xs ys : List ℕ) → every (eqb 0) (xs ++ ys) ≡ every (eqb 0) xs && every (eqb 0) ys
every_append [] ys = refl
every_append (x ∷ xs) ys = rw (every_append xs ys) (sym (and_assoc (eqb 0 x) (every (eqb 0) xs) (every (eqb 0) ys)))

-- a block ahead of the other words
module _ (n : ℕ) (ws : List ℕ) {block : List ℕ} (is : block ≡ take n ws) {r : ℕ} (e : r ≡ fold bit_or 0 block) where
  parts : every (eqb 0) ws ≡ eqb r 0 && every (eqb 0) (drop n ws)
  parts = ap (every (eqb 0)) (sym (take-append-drop n ws)) ∙ every_append (take n ws) (drop n ws) ∙ ap (λ (b : Bool). b && every (eqb 0) (drop n ws)) (sym (joined_zero block e ∙ ap (every (eqb 0)) is))

  pub block_not : (r ≡ 0 → ⊥) → false ≡ every (eqb 0) ws
  block_not o = sym (parts ∙ rw (ne_eqb r 0 o))

  pub block_past : r ≡ 0 → {rest : List ℕ} → rest ≡ drop n ws → every (eqb 0) rest ≡ every (eqb 0) ws
  block_past z f = ap (every (eqb 0)) f ∙ sym (parts ∙ rw (eq-eqb r 0 z))

module _ (W : ℕ) (ws : List ℕ) where
  pub many_beats : max_beats < word ws 0 → false ≡ layout_ok W ws
  unfolding layout_ok
  many_beats h = rw (lt-leb (word ws 0) max_beats h)

  module _ (few : word ws 0 ≤ max_beats) {u : ℕ} (is : u ≡ words_used (word ws 1) (word ws 2)) where
    pub too_long : W < u → false ≡ layout_ok W ws
    unfolding layout_ok
    too_long h = rw (le-leb (word ws 0) max_beats few, ← is, lt-leb u W h)

    pub by_zeros : u ≤ W → {p : Bool} → p ≡ every (eqb 0) (take (W - u) (drop u ws)) → W ≡ length ws → p ≡ layout_ok W ws
    unfolding layout_ok
    by_zeros h e long =
        let all : take (W - u) (drop u ws) ≡ drop u ws = take_all (W - u) (drop u ws) (omega (arith, length-drop u ws)) in
        rw (le-leb (word ws 0) max_beats few, ← is, le-leb u W h) (e ∙ ap (every (eqb 0)) all)

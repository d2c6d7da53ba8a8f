-- What stands behind some first elements of a list. Assumes nothing.
use mathlib.Core.Path.{◌≡◌, refl, sym, ◌∙◌}
use mathlib.Core.Bool.{Bool, true, false, not, ◌||◌, true≢false}
use mathlib.Core.List.{List, [], ◌∷◌}
use Prim.Native.Nat.{ℕ, ◌≤◌}
use native.Mathlib.Omega.{arith}
use lib.ListN.{length}
use Rattle.model.specs.Binding.{stands_alone}
use Rattle.model.specs.declared.Header.{Header}
use Rattle.model.specs.declared.Cell.{Cell}
use Rattle.laws.specs.Relations.{All}
use Rattle.laws.specs.Sweep.{earlier, skip}
use Rattle.laws.specs.Walk.{linked}
use Rattle.session.specs.Running.{from_first, from_shown, from_last}

module _ {A : Type 0} where
  pub data Tail : List A → List A → Type 0 where
    here : {xs : List A} → Tail xs xs
    there : {x : A} {xs ys : List A} → Tail xs ys → Tail (x ∷ xs) ys

  pub tail_of_tail : {xs ys zs : List A} → Tail xs ys → Tail ys zs → Tail xs zs
  tail_of_tail here u = u
  tail_of_tail (there t) u = there (tail_of_tail t u)

  pub tail_shorter : {xs ys : List A} → Tail xs ys → length ys ≤ length xs
  tail_shorter here = omega arith
  tail_shorter (there t) = omega (arith, tail_shorter t)

  -- of two tails of one list the shorter is a tail of the longer
  pub two_tails : {xs ys zs : List A} → Tail xs ys → Tail xs zs → length zs ≤ length ys → Tail ys zs
  two_tails here u le = u
  two_tails (there t) here le = absurd (omega (arith, tail_shorter t))
  two_tails (there t) (there u) le = two_tails t u le

  pub all_first : (P : A → Type 0) {xs ys : List A} {y : A} → Tail xs (y ∷ ys) → All P xs → P y
  all_first P here a = a.0
  all_first P (there t) a = all_first P t a.1

-- a search goes past a cell at which the test fails
module _ (p : Cell → List Cell → Bool) {xs ys : List Cell} {x : Cell} (is : xs ≡ x ∷ ys) {r : Bool} (e : r ≡ p x ys) where
  pub past : r ≡ false → from_first p ys ≡ from_first p xs
  past t = rw is (go (p x ys) (sym e ∙ t))
    where
      go : (b : Bool) → b ≡ false → from_first p ys ≡ elim b [ true ↦ x ∷ ys | false ↦ from_first p ys ]
      go true f = absurd (true≢false f)
      go false f = refl

module _ (l b : ℕ) where
  pub skip_first : (cs : List Cell) → from_first (λ c ds. not (earlier l b c)) cs ≡ skip l b cs
  unfolding skip
  skip_first [] = refl
  skip_first (c ∷ cs) = go (earlier l b c) (skip_first cs)
    where
      go : (t : Bool) → from_first (λ c ds. not (earlier l b c)) cs ≡ skip l b cs
          → ◌≡◌ {A = List Cell} (elim (not t) [ true ↦ c ∷ cs | false ↦ from_first (λ c ds. not (earlier l b c)) cs ]) (elim t [ true ↦ skip l b cs | false ↦ c ∷ cs ])
      go true ih = ih
      go false ih = refl

  pub skip_tail : (cs : List Cell) → Tail cs (skip l b cs)
  unfolding skip
  skip_tail [] = here
  skip_tail (c ∷ cs) = go (earlier l b c) (skip_tail cs)
    where
      go : (t : Bool) → Tail cs (skip l b cs) → Tail (c ∷ cs) (elim t [ true ↦ skip l b cs | false ↦ c ∷ cs ])
      go true u = there u
      go false u = here

module _ (h : Header) where
  pub shown_first : (cs : List Cell) → from_first (λ c ds. stands_alone h c || linked h c ds) cs ≡ from_shown h cs
  unfolding from_shown
  shown_first [] = refl
  shown_first (c ∷ cs) = go (stands_alone h c || linked h c cs) (shown_first cs)
    where
      go : (t : Bool) → from_first (λ c ds. stands_alone h c || linked h c ds) cs ≡ from_shown h cs
          → ◌≡◌ {A = List Cell} (elim t [ true ↦ c ∷ cs | false ↦ from_first (λ c ds. stands_alone h c || linked h c ds) cs ]) (elim t [ true ↦ c ∷ cs | false ↦ from_shown h cs ])
      go true ih = refl
      go false ih = ih

  pub last_first : (cs : List Cell) → from_first (λ c ds. not (linked h c ds)) cs ≡ from_last h cs
  unfolding from_last
  last_first [] = refl
  last_first (c ∷ cs) = go (linked h c cs) (last_first cs)
    where
      go : (t : Bool) → from_first (λ c ds. not (linked h c ds)) cs ≡ from_last h cs
          → ◌≡◌ {A = List Cell} (elim (not t) [ true ↦ c ∷ cs | false ↦ from_first (λ c ds. not (linked h c ds)) cs ]) (elim t [ true ↦ from_last h cs | false ↦ c ∷ cs ])
      go true ih = ih
      go false ih = refl

  pub link_none : from_last h [] ≡ []
  unfolding from_last
  link_none = refl

  pub shown_tail : (cs : List Cell) → Tail cs (from_shown h cs)
  unfolding from_shown
  shown_tail [] = here
  shown_tail (c ∷ cs) = go (stands_alone h c || linked h c cs) (shown_tail cs)
    where
      go : (t : Bool) → Tail cs (from_shown h cs) → Tail (c ∷ cs) (elim t [ true ↦ c ∷ cs | false ↦ from_shown h cs ])
      go true u = here
      go false u = there u

  pub last_tail : (cs : List Cell) → Tail cs (from_last h cs)
  unfolding from_last
  last_tail [] = here
  last_tail (c ∷ cs) = go (linked h c cs) (last_tail cs)
    where
      go : (t : Bool) → Tail cs (from_last h cs) → Tail (c ∷ cs) (elim t [ true ↦ from_last h cs | false ↦ c ∷ cs ])
      go true u = there u
      go false u = here

  module _ (c : Cell) (cs : List Cell) where
    pub link_yes : linked h c cs ≡ true → from_last h (c ∷ cs) ≡ from_last h cs
    unfolding from_last
    link_yes e = rw (e, from_last)

    pub link_no : linked h c cs ≡ false → from_last h (c ∷ cs) ≡ c ∷ cs
    unfolding from_last
    link_no e = rw (e, from_last)

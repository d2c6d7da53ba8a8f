-- Lists by a test, and counted lists: what the definitions are written with. Assumes nothing.
use Rattle.std.specs.Prelude.{Bool, true, false, ◌&&◌, ◌||◌, List, [], ◌∷◌, ◌++◌, ℕ, zero, suc}

module _ {A : Type 0} where
  -- x in front of xs, where the test passed.
  abbrev pub cons_if : Bool → A → List A → List A
  cons_if true x xs = x ∷ xs
  cons_if false x xs = xs

  -- The elements at which the test passes.
  abbrev pub keep : (A → Bool) → List A → List A
  keep p [] = []
  keep p (x ∷ xs) = cons_if (p x) x (keep p xs)

  -- The test passes at each element.
  abbrev pub every : (A → Bool) → List A → Bool
  every p [] = true
  every p (x ∷ xs) = p x && every p xs

  -- The test passes at some element.
  abbrev pub some : (A → Bool) → List A → Bool
  some p [] = false
  some p (x ∷ xs) = p x || some p xs

  -- The test passes at each element and the next.
  abbrev pub chain : (A → A → Bool) → List A → Bool
  chain p [] = true
  chain p (x ∷ []) = true
  chain p (x ∷ y ∷ ys) = p x y && chain p (y ∷ ys)

  -- The test passes at each element and every later one.
  abbrev pub pairwise : (A → A → Bool) → List A → Bool
  pairwise p [] = true
  pairwise p (x ∷ xs) = every (p x) xs && pairwise p xs

module _ {A B : Type 0} where
  -- f at each element, one list after the other.
  abbrev pub gather : (A → List B) → List A → List B
  gather f [] = []
  gather f (x ∷ xs) = f x ++ gather f xs

-- n numbers counted up from i.
abbrev pub count_from : ℕ → ℕ → List ℕ
count_from zero i = []
count_from (suc n) i = i ∷ count_from n (suc i)

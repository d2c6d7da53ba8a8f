-- Parts from one on up to another, one behind the other. Assumes nothing.
use mathlib.Core.Path.{◌≡◌, refl, sym, ap, ap₂, ◌∙◌}
use mathlib.Core.List.{List, [], ◌++◌, append_assoc, append-nil}
use Prim.Native.Nat.{ℕ, zero, suc, ◌+◌, ◌-◌, ◌≤◌, ◌<◌}
use native.Mathlib.Omega.{arith}
use Rattle.radix.specs.Parts.{joined}
use Rattle.events.specs.Emitting.{span}

joined_same : (f g : ℕ → List ℕ) (n : ℕ) → ((v : ℕ) → v < n → f v ≡ g v) → joined f n ≡ joined g n
unfolding joined
joined_same f g zero h = refl
joined_same f g (suc v) h = ap₂ (λ (a b : List ℕ). a ++ b) (joined_same f g v (λ w l. h w (omega arith))) (h v (omega arith))

-- parts that are the same
pub span_same : (f g : ℕ → List ℕ) (first v : ℕ) → ((w : ℕ) → first ≤ w → w < v → f w ≡ g w) → span f first v ≡ span g first v
unfolding span
span_same f g first v h = joined_same (λ n. f (first + n)) (λ n. g (first + n)) (v - first) (λ n l. h (first + n) (omega arith) (omega arith))

module _ (f : ℕ → List ℕ) where
  -- all of them
  pub span-all : (n : ℕ) → span f 0 n ≡ joined f n
  unfolding span
  span-all n =
      let e : n - 0 ≡ n = omega arith in
      rw e (joined_same (λ m. f (0 + m)) f n (λ m l. let z : 0 + m ≡ m = omega arith in rw z))

  pub span_none : (v : ℕ) → span f v v ≡ []
  unfolding span joined
  span_none v = let e : v - v ≡ 0 = omega arith in rw e

  pub span_next : (first v : ℕ) → first ≤ v → span f first (suc v) ≡ span f first v ++ f v
  unfolding span joined
  span_next first v h =
      let e : suc v - first ≡ suc (v - first) = omega arith in
      let p : first + (v - first) ≡ v = omega arith in
      rw e (ap (λ (n : ℕ). joined (λ m. f (first + m)) (v - first) ++ f n) p)

  -- parts without events
  pub span_empty : (first v : ℕ) → ((w : ℕ) → first ≤ w → w < v → f w ≡ []) → span f first v ≡ []
  unfolding span joined
  span_empty first v h = empties (v - first) (λ n l. h (first + n) (omega arith) (omega arith))
    where
      empties : (n : ℕ) → ((m : ℕ) → m < n → f (first + m) ≡ []) → joined (λ m. f (first + m)) n ≡ []
      empties zero g = refl
      empties (suc n) g = rw (empties n (λ m l. g m (omega arith)), g n (omega arith))

  parts_on : (first v m : ℕ) → first ≤ v → span f first (m + v) ≡ span f first v ++ span f v (m + v)
  parts_on first v zero h =
      let e : 0 + v ≡ v = omega arith in
      rw e (sym (append-nil (span f first v)) ∙ ap (◌++◌ (span f first v)) (sym (span_none v)))
  parts_on first v (suc m) h =
      let e : suc m + v ≡ suc (m + v) = omega arith in
      let a : List ℕ = span f first v in
      let b : List ℕ = span f v (m + v) in
      rw e
      (span_next first (m + v) (omega arith) ∙ ap (λ (l : List ℕ). l ++ f (m + v)) (parts_on first v m h)
      ∙ append_assoc a b (f (m + v)) ∙ ap (◌++◌ a) (sym (span_next v (m + v) (omega arith))))

  -- up to part v, and from it on
  pub span-parts : (first v n : ℕ) → first ≤ v → v ≤ n → span f first n ≡ span f first v ++ span f v n
  span-parts first v n h l = let e : (n - v) + v ≡ n = omega arith in rw e at (parts_on first v (n - v) h)

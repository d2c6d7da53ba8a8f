-- Values by cases of a test or of a number read. Assumes nothing.
use mathlib.Core.Bool.{Bool, true, false}
use mathlib.Core.Path.{◌≡◌, refl}
use Prim.Native.Nat.{ℕ}
use Rattle.midi.specs.Numbers.{Quantity, no_quantity, quantity}

module _ {A : Type 0} where
  pub by_test : (P : A → Type 0) (b : Bool) {x y : A} → (b ≡ true → P x) → (b ≡ false → P y) → P (elim b [ true ↦ x | false ↦ y ])
  by_test P true f g = f refl
  by_test P false f g = g refl

  pub same_test : (b : Bool) {x y z w : A} → x ≡ z → y ≡ w
      → ◌≡◌ {A = A} (elim b [ true ↦ x | false ↦ y ]) (elim b [ true ↦ z | false ↦ w ])
  same_test true e f = e
  same_test false e f = f

  pub by_quantity : (P : A → Type 0) (v : Quantity) {x : A} {f : ℕ → ℕ → A} → P x → ((n q : ℕ) → v ≡ quantity n q → P (f n q))
      → P (elim v [ no_quantity ↦ x | quantity n q ↦ f n q ])
  by_quantity P no_quantity g h = g
  by_quantity P (quantity n q) g h = h n q refl

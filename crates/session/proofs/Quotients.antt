-- A tick of a take divided by δ is a product divided by 2^42. Assumes nothing.
use mathlib.Core.Path.{◌≡◌}
use Prim.Native.Nat.{ℕ, ◌+◌, ◌*◌, ◌/◌, ◌≤◌, ◌<◌}
use native.Mathlib.Nat.{mul-le-mul, mul-le-mul_left, mul-le-mul_right, lt_of_mul-lt-mul_right, div-mul-le_self, lt-div-mul-add, div-lt_iff_lt-mul, div-eq_of_lt-le}
use native.Mathlib.Omega.{arith}
use Rattle.model.specs.Limits.{max_beats, max_delta}
use Rattle.session.specs.Dividing.{reciprocal_of}

-- m × δ is above 2^42 by at most δ, and t × δ is below 2^42: t × m lies between q × 2^42 and (q + 1) × 2^42
module _ (δ t q m : ℕ) (low : q * δ ≤ t) (high : t < q * δ + δ) (above : 4398046511104 ≤ m * δ) (near : m * δ ≤ 4398046511104 + δ) (small : t * δ < 4398046511104) where
  from : q * 4398046511104 ≤ t * m
  from = omega (arith, mul-le-mul_left q above, mul-le-mul_right m low)

  below : t * m < (q + 1) * 4398046511104
  below =
      let l : t * m * δ < (q + 1) * 4398046511104 * δ = omega (arith, mul-le-mul_left t near) in
      lt_of_mul-lt-mul_right δ l

module _ (δ t : ℕ) (pos : 0 < δ) (most : δ ≤ max_delta) (tick : t ≤ max_beats * δ) where
  small : t * δ < 4398046511104
  small =
      let p : t * δ ≤ 4096 * δ * δ = mul-le-mul_right δ tick in
      let s : δ * δ ≤ 32767 * 32767 = mul-le-mul most most in
      omega arith

  above : 4398046511104 ≤ reciprocal_of δ * δ
  unfolding reciprocal_of
  above =
      let l : 4398046511104 < 4398046511104 / δ * δ + δ = lt-div-mul-add pos in
      omega arith

  near : reciprocal_of δ * δ ≤ 4398046511104 + δ
  unfolding reciprocal_of
  near =
      let l : 4398046511104 / δ * δ ≤ 4398046511104 = div-mul-le_self 4398046511104 δ in
      omega arith

  module _ {m : ℕ} (is : m ≡ reciprocal_of δ) where
    pub by_product : t * m / 4398046511104 ≡ t / δ
    by_product =
        rw is (div-eq_of_lt-le 4398046511104 (from δ t (t / δ) (reciprocal_of δ) (div-mul-le_self t δ) (lt-div-mul-add pos) above near small)
        (below δ t (t / δ) (reciprocal_of δ) (div-mul-le_self t δ) (lt-div-mul-add pos) above near small))

    pub tick_product_fits : t * m ≤ 18446744073709551615
    tick_product_fits =
        let few : t / δ < 4097 = (div-lt_iff_lt-mul pos).1 (omega arith) in
        rw is (omega (arith, below δ t (t / δ) (reciprocal_of δ) (div-mul-le_self t δ) (lt-div-mul-add pos) above near small))

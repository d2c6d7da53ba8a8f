-- Division by δ as a product. Assumes nothing.
use Rattle.std.specs.Prelude.{ℕ, ◌+◌, ◌/◌}

-- 2^42 / δ + 1: a tick times this, divided by 2^42, is the tick divided by δ, for every tick of a take.
unfoldable pub reciprocal_of : ℕ → ℕ
reciprocal_of δ = 4398046511104 / δ + 1

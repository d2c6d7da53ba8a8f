-- A test as a number, and the sides of beat lines before a tick. Assumes nothing.
use Rattle.std.specs.Prelude.{ℕ, ◌+◌, ◌*◌, ◌/◌, Bool, cond, ltb}

abbrev pub one_if : Bool → ℕ
one_if b = cond b 1 0

-- The sides of beat lines before a tick: two for each whole beat, one more inside a beat. A note has line_sides δ end - line_sides δ start cells.
unfoldable pub line_sides : ℕ → ℕ → ℕ
line_sides δ tick = 2 * (tick / δ) + one_if (ltb (tick / δ * δ) tick)

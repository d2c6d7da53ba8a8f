-- `session::beats::Divisor::line_sides` meets its contract.
use mathlib.Core.Path.{◌≡◌, refl}
use mathlib.Core.Bool.{Bool, true, false}
use Prim.Native.Nat.{ℕ, ◌+◌, ◌*◌, ◌/◌}
use lib.Dec.{ltb}
use mir.Val.{bool_byte}
use Rattle.session.specs.Counting.{one_if, line_sides}
use Rattle.session.proofs.beats.Divisor.line_sides.Goals as goal

is-one-if : (b : Bool) → bool_byte b ≡ one_if b
is-one-if true = refl
is-one-if false = refl

-- what the code computes from the beat
value : (δ t : ℕ) {beat : ℕ} → beat ≡ t / δ → 2 * beat + bool_byte (ltb (beat * δ) t) ≡ line_sides δ t
unfolding line_sides
value δ t e = rw (e, is-one-if (ltb (t / δ * δ) t))

pub returns : goal.returns
returns c = value c.args.self.delta c.args.tick c.beat_of-beat.ensures

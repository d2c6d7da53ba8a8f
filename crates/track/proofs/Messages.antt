-- The three bytes of an event from its number. Assumes nothing.
use mathlib.Core.Path.{◌≡◌}
use mathlib.Core.List.{[], ◌∷◌}
use Prim.Native.Nat.{ℕ, ◌+◌, ◌*◌, ◌/◌, ◌%◌}
use native.Mathlib.Omega.{arith}
use Rattle.midi.specs.Writing.{message_bytes}
use Rattle.track.specs.Keys.{event_of}

pub message_is : (k : ℕ) → (128 + k / 262144 % 2 * 16 + k / 16384 % 16) ∷ k / 128 % 128 ∷ k % 128 ∷ [] ≡ message_bytes (event_of k)
unfolding message_bytes
message_is k =
    let a : k / 128 % 2048 / 128 ≡ k / 16384 % 16 = omega arith in
    let b : k / 128 % 2048 % 128 ≡ k / 128 % 128 = omega arith in
    rw (a, b)

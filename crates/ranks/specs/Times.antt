-- The times before the events of a track. Assumes nothing.
use Rattle.std.specs.Prelude.{List, [], ◌∷◌, ℕ, zero, suc, ◌-◌, ◌<◌, length}
use Rattle.track.specs.Keys.{tick_of}

-- The time before event i, from the event before it; the first comes behind one at tick `last`.
unfoldable pub time_at : ℕ → List ℕ → ℕ → ℕ
time_at last [] i = 0
time_at last (k ∷ ks) zero = tick_of k - last
time_at last (k ∷ ks) (suc i) = time_at (tick_of k) ks i

-- Each time takes one byte.
pub record Short (last : ℕ) (ks : List ℕ) : Type 0 where
  pub each : (i : ℕ) → i < length ks → time_at last ks i < 128

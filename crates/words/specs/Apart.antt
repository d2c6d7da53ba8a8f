-- `Apart`: two runs of places that share none. Assumes nothing.
use Rattle.std.specs.Prelude.{ℕ, ◌+◌, ◌≤◌}
use Rattle.std.proofs.Common.{arith}

-- the n places from a on stand ahead of the m places from b on, or behind them
pub data Apart (a n b m : ℕ) : Type 0 where
  ahead : a + n ≤ b → Apart a n b m
  behind : b + m ≤ a → Apart a n b m

pub apart_swap : {a n b m : ℕ} → Apart a n b m → Apart b m a n
apart_swap (ahead h) = behind h
apart_swap (behind h) = ahead h

-- a run inside the second of the two is apart from the first
pub apart-within : {a n b m : ℕ} (c q : ℕ) → Apart a n b m → b ≤ c → c + q ≤ b + m → Apart a n c q
apart-within c q (ahead h) low high = ahead (omega arith)
apart-within c q (behind h) low high = behind (omega arith)

-- The times before the events of a track, and its bytes where each of them takes one. Assumes nothing.
use mathlib.Core.Path.{◌≡◌, refl, ap, ◌∙◌}
use mathlib.Core.List.{List, [], ◌∷◌, ◌++◌}
use Prim.Native.Nat.{ℕ, zero, suc, ◌+◌, ◌-◌, ◌*◌, ◌<◌}
use native.Mathlib.Omega.{arith}
use lib.ListN.{length, get_or}
use borrow.Author.Tests.{lt-ltb}
use Rattle.radix.specs.Ranks.{All}
use Rattle.midi.specs.Numbers.{quantity_bytes}
use Rattle.midi.specs.Writing.{message_bytes}
use Rattle.track.specs.Keys.{tick_of, event_of}
use Rattle.events.specs.Windows.{window_bytes, last_tick}
use Rattle.ranks.specs.Times.{time_at, Short}
use Rattle.ranks.specs.Places.{four_bytes}

-- ---- two lists, one behind the other

pub time_front : (t : ℕ) (xs ys : List ℕ) (i : ℕ) → i < length xs → time_at t (xs ++ ys) i ≡ time_at t xs i
unfolding time_at
time_front t [] ys i h = absurd (omega arith)
time_front t (x ∷ xs) ys zero h = refl
time_front t (x ∷ xs) ys (suc i) h = time_front (tick_of x) xs ys i (omega arith)

pub time_behind : (t : ℕ) (xs ys : List ℕ) (j : ℕ) → time_at t (xs ++ ys) (length xs + j) ≡ time_at (last_tick t xs) ys j
unfolding time_at last_tick
time_behind t [] ys j = let z : 0 + j ≡ j = omega arith in rw z
time_behind t (x ∷ xs) ys j = let z : suc (length xs) + j ≡ suc (length xs + j) = omega arith in rw z (time_behind (tick_of x) xs ys j)

-- ---- events of one tick

pub same_first : (t u : ℕ) (ks : List ℕ) → All (λ k. tick_of k ≡ u) ks → 0 < length ks → time_at t ks 0 ≡ u - t
unfolding time_at
same_first t u [] a h = absurd (omega arith)
same_first t u (k ∷ ks) a h = rw a.0

pub same_rest : (t u : ℕ) (ks : List ℕ) → All (λ k. tick_of k ≡ u) ks → (i : ℕ) → time_at t ks (suc i) ≡ 0
unfolding time_at
same_rest t u [] a i = refl
same_rest t u (k ∷ []) a i = refl
same_rest t u (k ∷ l ∷ ks) a zero = rw (a.0, a.1.0) (omega arith)
same_rest t u (k ∷ l ∷ ks) a (suc i) = same_rest (tick_of k) u (l ∷ ks) a.1 i

pub same_last : (t u : ℕ) (ks : List ℕ) → All (λ k. tick_of k ≡ u) ks → 0 < length ks → last_tick t ks ≡ u
unfolding last_tick
same_last t u [] a h = absurd (omega arith)
same_last t u (k ∷ []) a h = a.0
same_last t u (k ∷ l ∷ ks) a h = same_last (tick_of k) u (l ∷ ks) a.1 (omega arith)

pub none_last : (t : ℕ) (ks : List ℕ) → length ks ≡ 0 → last_tick t ks ≡ t
unfolding last_tick
none_last t [] h = refl
none_last t (k ∷ ks) h = absurd (omega arith)

-- ---- the bytes of events with short times

quantity_short : (n : ℕ) → n < 128 → quantity_bytes n ≡ n ∷ []
unfolding quantity_bytes
quantity_short n h = rw (lt-ltb n 128 h, quantity_bytes)

short-rest : (t k : ℕ) (ks : List ℕ) → Short t (k ∷ ks) → Short (tick_of k) ks
unfolding time_at
short-rest t k ks s = record { each = λ i h. s.each (suc i) (omega arith) }

first-bytes : (t k : ℕ) (ks : List ℕ) → Short t (k ∷ ks) → window_bytes t (k ∷ ks) ≡ four_bytes (tick_of k - t) k ++ window_bytes (tick_of k) ks
unfolding window_bytes time_at
first-bytes t k ks s = ap (λ (q : List ℕ). (q ++ message_bytes (event_of k)) ++ window_bytes (tick_of k) ks) (quantity_short (tick_of k - t) (s.each 0 (omega arith)))

pub short-length : (t : ℕ) (ks : List ℕ) → Short t ks → length (window_bytes t ks) ≡ 4 * length ks
unfolding window_bytes message_bytes
short-length t [] s = refl
short-length t (k ∷ ks) s = omega (arith, ap length (first-bytes t k ks s), short-length (tick_of k) ks (short-rest t k ks s))

four_front : (a k b : ℕ) (ws : List ℕ) → b < 4 → get_or (four_bytes a k ++ ws) b 0 ≡ get_or (four_bytes a k) b 0
unfolding message_bytes
four_front a k zero ws h = refl
four_front a k (suc zero) ws h = refl
four_front a k (suc (suc zero)) ws h = refl
four_front a k (suc (suc (suc zero))) ws h = refl
four_front a k (suc (suc (suc (suc b)))) ws h = absurd (omega arith)

four_behind : (a k j : ℕ) (ws : List ℕ) → get_or (four_bytes a k ++ ws) (suc (suc (suc (suc j)))) 0 ≡ get_or ws j 0
unfolding message_bytes
four_behind a k j ws = refl

pub short-bytes : (t : ℕ) (ks : List ℕ) → Short t ks → (i b : ℕ) → i < length ks → b < 4 → get_or (window_bytes t ks) (4 * i + b) 0 ≡ get_or (four_bytes (time_at t ks i) (get_or ks i 0)) b 0
unfolding time_at
short-bytes t [] s i b h l = absurd (omega arith)
short-bytes t (k ∷ ks) s zero b h l = let z : 4 * 0 + b ≡ b = omega arith in rw (z, first-bytes t k ks s) (four_front (tick_of k - t) k b (window_bytes (tick_of k) ks) l)
short-bytes t (k ∷ ks) s (suc i) b h l =
    let z : 4 * suc i + b ≡ suc (suc (suc (suc (4 * i + b)))) = omega arith in
    rw (z, first-bytes t k ks s)
    (four_behind (tick_of k - t) k (4 * i + b) (window_bytes (tick_of k) ks) ∙ short-bytes (tick_of k) ks (short-rest t k ks s) i b (omega arith) l)

-- What every event of a track has: it moves forward and stays inside the track, time never goes back, and lanes and velocities are in
-- range. Assumes nothing.
use mathlib.Core.Bool.{true, ◌&&◌, ◌||◌}
use mathlib.Core.List.{List}
use mathlib.Core.Path.{◌≡◌}
use Prim.Native.Nat.{ℕ, zero, suc, ◌+◌, ◌-◌, ◌*◌, ◌/◌, ◌≤◌, ◌<◌}
use native.Mathlib.Omega.{arith}
use lib.Dec.{leb, ltb, eqb}
use lib.ListN.{length, get_or}
use borrow.Author.Tests.{eqb-false, leb-true, ltb-true}
use Rattle.laws.specs.Booleans.{and_left, and_right}
use Rattle.midi.specs.Numbers.{Quantity, no_quantity, quantity, quantity_from, quantity_at}
use Rattle.midi.specs.Events.{
  Place,
  place,
  Message,
  starts,
  ends,
  passed,
  Event,
  illegal,
  event,
  finished,
  data_at,
  channel_message,
  channel_at,
  meta_at,
  sysex_at,
  own_status,
  behind_time,
  event_at,
}
use Rattle.midi.proofs.Branches.{by_test, by_quantity}

-- ---- numbers

-- A number read ends behind its first byte and inside the list.
abbrev pub Inside : List ℕ → ℕ → Quantity → Type 0
Inside s at no_quantity = Unit {0}
Inside s at (quantity n q) = (at < q) × (q ≤ length s)

inside-earlier : (s : List ℕ) (at : ℕ) (v : Quantity) → Inside s (suc at) v → Inside s at v
inside-earlier s at no_quantity h = tt
inside-earlier s at (quantity n q) h = (omega (arith, h.0), h.1)

pub quantity_inside : (g : ℕ) (s : List ℕ) (at sum : ℕ) → Inside s at (quantity_from g s at sum)
unfolding quantity_from
quantity_inside zero s at sum = tt
quantity_inside (suc g) s at sum = go (quantity_inside g s (suc at) (sum * 128 + (get_or s at 0 - 128)))
  where
    go : Inside s (suc at) (quantity_from g s (suc at) (sum * 128 + (get_or s at 0 - 128))) → Inside s at (quantity_from (suc g) s at sum)
    go ih = by_test (Inside s at) (ltb at (length s))
        (λ e. by_test (Inside s at) (ltb (get_or s at 0) 128) (λ f. (omega arith, ltb-true at (length s) e))
        (λ f. inside-earlier s at (quantity_from g s (suc at) (sum * 128 + (get_or s at 0 - 128))) ih))
        (λ e. tt)

-- ---- events

-- From one place to another.
pub record Moves (s : List ℕ) (p q : Place) : Type 0 where
  pub on : p.at < q.at
  pub in_track : q.at ≤ length s
  pub not_back : p.tick ≤ q.tick

-- A message's lane and velocity are in range.
abbrev pub InRange : Message → Type 0
InRange (starts l v) = (l < 2048) × (1 ≤ v) × (v < 128)
InRange (ends l) = l < 2048
InRange passed = Unit {0}

abbrev pub Legal : List ℕ → Place → Event → Type 0
Legal s p illegal = Unit {0}
Legal s p (event q m) = Moves s p q × InRange m
Legal s p (finished tick) = p.tick ≤ tick

data_there : (s : List ℕ) (at : ℕ) → data_at s at ≡ true → at < length s
data_there s at e = ltb-true at (length s) (and_left (ltb at (length s)) (ltb (get_or s at 0) 128) e)

data_low : (s : List ℕ) (at : ℕ) → data_at s at ≡ true → get_or s at 0 < 128
data_low s at e = ltb-true (get_or s at 0) 128 (and_right (ltb at (length s)) (ltb (get_or s at 0) 128) e)

message_in_range : (status key velocity : ℕ) → key < 128 → velocity < 128 → InRange (channel_message status key velocity)
unfolding channel_message
message_in_range b k v hk hv =
    by_test InRange (eqb (b / 16) 9)
    (λ e. by_test InRange (eqb v 0) (λ f. omega arith) (λ f. (omega arith, (let d : ¬ (v ≡ 0) = eqb-false v 0 f in omega arith), hv)))
    (λ e. by_test InRange (eqb (b / 16) 8) (λ f. omega arith) (λ f. tt))

module _ (s : List ℕ) (p : Place) where
  channel_legal : (tick b q : ℕ) → p.at < q → p.tick ≤ tick → Legal s p (channel_at s tick b q)
  unfolding channel_at
  channel_legal tick b q h k =
      by_test (Legal s p) (data_at s q)
      (λ e. by_test (Legal s p) (eqb (b / 32) 6)
      (λ f. (record { on = omega arith; in_track = data_there s q e; not_back = k }, tt))
      (λ f. by_test (Legal s p) (data_at s (suc q))
      (λ g. (
        record { on = omega arith; in_track = omega (arith, data_there s (suc q) g); not_back = k },
        message_in_range b (get_or s q 0) (get_or s (suc q) 0) (data_low s q e) (data_low s (suc q) g),
      ))
      (λ g. tt)))
      (λ e. tt)

  passed_legal : (at n r : ℕ) → quantity_at s at ≡ quantity n r → p.at < at → (tick : ℕ) → p.tick ≤ tick → r + n ≤ length s
      → Legal s p (event (place (r + n) tick 0) passed)
  passed_legal at n r e h tick k i =
      let w = (let v = quantity_inside 4 s at 0 in rw e at v) in
      (record { on = omega (arith, w.0); in_track = i; not_back = k }, tt)

  meta_legal : (tick q : ℕ) → p.at < q → p.tick ≤ tick → Legal s p (meta_at s tick q)
  unfolding meta_at
  meta_legal tick q h k =
      by_test (Legal s p) (data_at s q)
      (λ e. by_quantity (Legal s p) (quantity_at s (suc q)) tt
      (λ n r f. by_test (Legal s p) (leb (r + n) (length s))
      (λ g. by_test (Legal s p) (eqb (get_or s q 0) 47)
      (λ i. by_test (Legal s p) (eqb n 0 && eqb r (length s)) (λ j. k) (λ j. tt))
      (λ i. passed_legal (suc q) n r f (omega arith) tick k (leb-true (r + n) (length s) g)))
      (λ g. tt)))
      (λ e. tt)

  sysex_legal : (tick q : ℕ) → p.at < q → p.tick ≤ tick → Legal s p (sysex_at s tick q)
  unfolding sysex_at
  sysex_legal tick q h k =
      by_quantity (Legal s p) (quantity_at s q) tt
      (λ n r f. by_test (Legal s p) (leb (r + n) (length s)) (λ g. passed_legal q n r f h tick k (leb-true (r + n) (length s) g)) (λ g. tt))

  own_legal : (tick b q : ℕ) → p.at < q → p.tick ≤ tick → Legal s p (own_status s tick b q)
  unfolding own_status
  own_legal tick b q h k =
      by_test (Legal s p) (ltb b 240) (λ e. channel_legal tick b q h k)
      (λ e. by_test (Legal s p) (eqb b 255) (λ f. meta_legal tick q h k)
      (λ f. by_test (Legal s p) (eqb b 240 || eqb b 247) (λ g. sysex_legal tick q h k) (λ g. tt)))

  behind_legal : (tick r q : ℕ) → p.at < q → p.tick ≤ tick → Legal s p (behind_time s tick r q)
  unfolding behind_time
  behind_legal tick r q h k =
      by_test (Legal s p) (ltb q (length s))
      (λ e. by_test (Legal s p) (ltb (get_or s q 0) 128)
      (λ f. by_test (Legal s p) (eqb r 0) (λ g. tt) (λ g. channel_legal tick r q h k))
      (λ f. own_legal tick (get_or s q 0) (suc q) (omega arith) k))
      (λ e. tt)

  -- The event at any place.
  pub legal : Legal s p (event_at s p)
  unfolding event_at
  legal =
      by_quantity (Legal s p) (quantity_at s p.at) tt
      (λ d q e. let w = (let v = quantity_inside 4 s p.at 0 in rw e at v) in behind_legal (p.tick + d) p.running q w.0 (omega arith))

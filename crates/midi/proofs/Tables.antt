-- The sounding table, 16 by 128, as a function of the lane. Assumes nothing.
use mathlib.Core.Path.{◌≡◌, refl, ap, ◌∙◌}
use mathlib.Core.Logic.{◌≢◌}
use mathlib.Core.List.{List, []}
use Prim.Native.Nat.{ℕ, ◌+◌, ◌*◌, ◌/◌, ◌%◌, ◌<◌}
use native.Mathlib.Decide.{ℕ_discrete}
use native.Mathlib.Omega.{arith}
use lib.ListN.{length, get_or, set, replicate, length-set, get_or-replicate}
use lib.Seq.{get_or-set_same, get_or-set_other, set-get_or}
use Rattle.midi.specs.Lanes.{channel_of, key_of, table_of, lane_at, put_lane}

-- 16 rows of 128.
pub record Shaped (t : List (List ℕ)) : Type 0 where
  pub rows : length t ≡ 16
  pub row : (c : ℕ) → c < 16 → length (get_or t c []) ≡ 128

pub shaped_new : (v : ℕ) → Shaped (table_of v)
shaped_new v = record { rows = refl; row = λ c h. ap length (get_or-replicate 16 c (replicate 128 v) [] h) }

module _ (t : List (List ℕ)) (s : Shaped t) (l v : ℕ) (h : l < 2048) where
  pub put_shaped : Shaped (put_lane t l v)
  put_shaped = record {
    rows = length-set t (channel_of l) (set (get_or t (channel_of l) []) (key_of l) v) ∙ s.rows;
    row = λ c k. go c k (ℕ_discrete c (channel_of l));
  }
    where
      go : (c : ℕ) → c < 16 → Dec (c ≡ channel_of l) → length (get_or (put_lane t l v) c []) ≡ 128
      go c k (yes e) = rw (e, get_or-set_same t (channel_of l) (set (get_or t (channel_of l) []) (key_of l) v) [] (omega (arith, s.rows)), length-set) (s.row (channel_of l) (omega arith))
      go c k (no d) = rw (get_or-set_other t (channel_of l) c (set (get_or t (channel_of l) []) (key_of l) v) [] d) (s.row c k)

  pub lane-put : lane_at (put_lane t l v) l ≡ v
  lane-put =
      rw (get_or-set_same t (channel_of l) (set (get_or t (channel_of l) []) (key_of l) v) [] (omega (arith, s.rows)))
      (get_or-set_same (get_or t (channel_of l) []) (key_of l) v 0 (omega (arith, s.row (channel_of l) (omega arith))))

  pub lane_other : (j : ℕ) → j ≢ l → lane_at (put_lane t l v) j ≡ lane_at t j
  lane_other j d = go (ℕ_discrete (channel_of j) (channel_of l))
    where
      go : Dec (channel_of j ≡ channel_of l) → lane_at (put_lane t l v) j ≡ lane_at t j
      go (yes e) =
          rw (e, get_or-set_same t (channel_of l) (set (get_or t (channel_of l) []) (key_of l) v) [] (omega (arith, s.rows)))
          (get_or-set_other (get_or t (channel_of l) []) (key_of l) (key_of j) v 0 (λ f. d (omega arith)))
      go (no k) = rw (get_or-set_other t (channel_of l) (channel_of j) (set (get_or t (channel_of l) []) (key_of l) v) [] k)

pub lane_new : (l v : ℕ) → l < 2048 → lane_at (table_of v) l ≡ v
lane_new l v h = rw (get_or-replicate 16 (channel_of l) (replicate 128 v) [] (omega arith)) (get_or-replicate 128 (key_of l) v 0 (omega arith))

-- A lane keeps what it has.
pub lane-keep : (t : List (List ℕ)) (l : ℕ) → put_lane t l (lane_at t l) ≡ t
lane-keep t l = rw (set-get_or (get_or t (channel_of l) []) (key_of l) 0) (set-get_or t (channel_of l) [])

-- The lane of a channel's key.
module _ (t : List (List ℕ)) (channel key : ℕ) (h : key < 128) where
  own_channel : (128 * channel + key) / 128 ≡ channel
  own_channel = omega arith

  own_key : (128 * channel + key) % 128 ≡ key
  own_key = omega arith

  pub key-at : lane_at t (128 * channel + key) ≡ get_or (get_or t channel []) key 0
  key-at = rw (own_channel, own_key)

  pub key-put : (v : ℕ) → put_lane t (128 * channel + key) v ≡ set t channel (set (get_or t channel []) key v)
  key-put v = rw (own_channel, own_key)

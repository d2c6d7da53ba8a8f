-- Silent lanes: a channel's velocities joined by "or". Assumes nothing.
use mathlib.Core.Bool.{true, ◌&&◌}
use mathlib.Core.List.{List, []}
use mathlib.Core.Path.{◌≡◌, refl, sym, ap, ◌∙◌}
use Prim.Native.Nat.{ℕ, zero, suc, ◌+◌, ◌*◌, ◌≤◌, ◌<◌}
use native.Mathlib.Decide.{ℕ_discrete}
use native.Mathlib.Numerals.{add-one}
use native.Mathlib.Omega.{arith}
use borrow.Author.Tests.{eqb-true}
use lib.Bits.{bit_or}
use lib.Dec.{eqb}
use lib.ListN.{length, get_or, take}
use Rattle.std.specs.Prelude.{fold}
use Rattle.std.proofs.lemmas.List.{take_all}
use Rattle.std.proofs.lemmas.List.Sums.{fold_more}
use Rattle.laws.specs.Booleans.{and_left, and_right}
use Rattle.session.proofs.Layouts.{or_zero}
use Rattle.midi.specs.Lanes.{lane_at}
use Rattle.midi.proofs.Tables.{key-at}
use Rattle.reader.specs.CountingSteps.{lanes_silent}

-- Each of them is silent.
pub silent_lane : (v : List (List ℕ)) (first n : ℕ) → lanes_silent v first n ≡ true → (k : ℕ) → k < n → lane_at v (first + k) ≡ 0
unfolding lanes_silent
silent_lane v first zero e k h = absurd (omega arith)
silent_lane v first (suc n) e k h = go (ℕ_discrete k n) (silent_lane v first n (and_right (eqb 0 (lane_at v (first + n))) (lanes_silent v first n) e) k)
  where
    go : Dec (k ≡ n) → (k < n → lane_at v (first + k) ≡ 0) → lane_at v (first + k) ≡ 0
    go (yes f) ih = rw f (sym (eqb-true 0 (lane_at v (first + n)) (and_left (eqb 0 (lane_at v (first + n))) (lanes_silent v first n) e)))
    go (no d) ih = ih (omega arith)

-- The velocities of a channel's first keys, joined by "or", are 0 where each of them is.
joined_keys : (v : List (List ℕ)) (channel n : ℕ) → n ≤ 128 → n ≤ length (get_or v channel [])
    → eqb (fold bit_or 0 (take n (get_or v channel []))) 0 ≡ lanes_silent v (128 * channel) n
unfolding lanes_silent
joined_keys v channel zero h k = refl
joined_keys v channel (suc n) h k =
    let keys = get_or v channel [] in
    let e : fold bit_or 0 (take (suc n) keys) ≡ bit_or (fold bit_or 0 (take n keys)) (get_or keys n 0) = (rw add-one at (fold_more bit_or 0 keys n 0 (omega arith))) in
    rw e (or_zero (fold bit_or 0 (take n keys)) (get_or keys n 0)
    ∙ rw (key-at v channel n (omega arith)) (ap (◌&&◌ (eqb 0 (get_or keys n 0))) (joined_keys v channel n (omega arith) (omega arith))))

pub joined_silent : (v : List (List ℕ)) (channel : ℕ) → length (get_or v channel []) ≡ 128
    → eqb (fold bit_or 0 (get_or v channel [])) 0 ≡ lanes_silent v (128 * channel) 128
joined_silent v channel e =
    let all : take 128 (get_or v channel []) ≡ get_or v channel [] = take_all 128 (get_or v channel []) (omega arith) in
    rw all at (joined_keys v channel 128 (omega arith) (omega arith))

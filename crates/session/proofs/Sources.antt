-- A shelf that a call reads: it lies inside the session, and what its soundness asks. Assumes nothing.
use mathlib.Core.Path.{◌≡◌}
use mathlib.Core.List.{List}
use Prim.Native.Nat.{ℕ, ◌+◌, ◌-◌, ◌≤◌, ◌<◌}
use native.Mathlib.Nat.{add-zero, suc-mul, mul-le-mul_right}
use native.Mathlib.Omega.{arith}
use lib.ListN.{length, get_or, take, drop}
use lib.Seq.{get_or-drop, get_or-take}
use Rattle.words.specs.Parts.{length_part}
use Rattle.model.specs.Limits.{max_shelves, max_words}
use Rattle.model.specs.Session.{shelf, shelf_at}
use Rattle.model.specs.Questions.{take_at}
use Rattle.model.specs.Takes.{take_in}
use Rattle.model.specs.declared.Header.{Header}
use Rattle.model.proofs.Headers.{InRange}

-- what its place asks
pub place_asks : {h : Header} {len i : ℕ} → InRange h len → i < h.shelves → (i < h.shelves) × (h.shelves ≤ max_shelves) × (h.words ≤ max_words)
place_asks range below-K = (below-K, range.few_shelves, range.small)

-- it lies inside the session
pub shelf-inside : (h : Header) (i len : ℕ) → InRange h len → i < h.shelves → shelf_at h i + h.words ≤ len
shelf-inside h i len r below = omega (arith, r.exact, suc-mul i h.words, mul-le-mul_right h.words below)

pub inside_session : {h : Header} {len i : ℕ} → InRange h len → i < h.shelves → {at : ℕ} → at ≡ shelf_at h i → at + h.words ≤ len
inside_session {h} {len} {i} range below-K place = omega (arith, place, shelf-inside h i len range below-K)

module _ (h : Header) (s : List ℕ) (i : ℕ) (range : InRange h (length s)) (below-K : i < h.shelves) {at : ℕ} (place : at ≡ shelf_at h i) where
  -- the part of the session from its place on is its words
  pub part_is : take (at + h.words - at) (drop at s) ≡ shelf h s i
  unfolding shelf
  part_is = let w : at + h.words - at ≡ h.words = omega arith in rw (w, place)

  pub part_long : length (take (at + h.words - at) (drop at s)) ≡ h.words
  part_long = let w : at + h.words - at ≡ h.words = omega arith in rw w (length_part s at h.words (inside_session range below-K place))

  pub beats_is : get_or s at 0 ≡ (take_at h s i).beats
  unfolding take_in shelf
  beats_is = rw (place, get_or-take h.words (drop (shelf_at h i) s) 0 0 (omega (arith, range.large)), get_or-drop (shelf_at h i) s 0 0, add-zero (shelf_at h i))

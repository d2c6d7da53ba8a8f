-- How many cells a note has. Assumes nothing.
use mathlib.Core.Path.{◌≡◌, refl, sym, ap}
use mathlib.Core.Bool.{Bool, true, false}
use mathlib.Core.List.{List, []}
use Prim.Native.Nat.{ℕ, zero, suc, ◌+◌, ◌*◌, ◌-◌, ◌/◌, ◌≤◌, ◌<◌}
use native.Mathlib.Nat.{mul-le-mul_right, le-div_iff_mul-le, div-mul-le_self, lt-div-mul-add, div-lt_iff_lt-mul, suc-mul, lt_of_mul-lt-mul_right}
use native.Mathlib.Omega.{arith}
use borrow.Author.Tests.{le-leb, leb-true, leb-false, lt-ltb, le-ltb, ltb-true, ltb-false}
use lib.Dec.{leb, ltb}
use lib.ListN.{length, length-append}
use Rattle.model.specs.Lists.{cons_if, gather, count_from}
use Rattle.model.specs.Limits.{max_beats, max_delta}
use Rattle.model.specs.Pieces.{first_beat, last_beat, cells_in_beat, cells_of_note, cell_at}
use Rattle.model.specs.declared.Note.{Note}
use Rattle.session.specs.Counting.{one_if, line_sides}

-- where a note's first and last beats lie
pub record Beats (δ : ℕ) (n : Note) : Type 0 where
  pub low : first_beat δ n * δ ≤ n.start
  pub high : n.start < first_beat δ n * δ + δ
  pub order : first_beat δ n ≤ last_beat δ n
  pub last_low : last_beat δ n * δ < n.end
  pub last_high : n.end ≤ last_beat δ n * δ + δ
  pub first_next : (first_beat δ n + 1) * δ ≡ first_beat δ n * δ + δ
  pub last_next : (last_beat δ n + 1) * δ ≡ last_beat δ n * δ + δ
  pub few : last_beat δ n < max_beats
  pub small : max_beats * δ ≤ 134213632

pub note_beats : (δ : ℕ) (n : Note) → (0 < δ) × (δ ≤ max_delta) × (n.start < n.end) × (n.end ≤ max_beats * δ) → Beats δ n
note_beats δ n (pos, few, some, top) =
    let below : first_beat δ n * δ ≤ n.start = div-mul-le_self n.start δ in
    let within : first_beat δ n * δ ≤ n.end - 1 = omega arith in
    let last-below : last_beat δ n * δ ≤ n.end - 1 = div-mul-le_self (n.end - 1) δ in
    let last-above : n.end - 1 < last_beat δ n * δ + δ = lt-div-mul-add pos in
    let top' : n.end - 1 < max_beats * δ = omega arith in
    record {
      low = below;
      high = lt-div-mul-add pos;
      order = (le-div_iff_mul-le pos).1 within;
      last_low = omega arith;
      last_high = omega arith;
      first_next = omega (arith, suc-mul (first_beat δ n) δ);
      last_next = omega (arith, suc-mul (last_beat δ n) δ);
      few = (div-lt_iff_lt-mul pos).1 top';
      small = omega arith;
    }

length-cons_if : {A : Type 0} (b : Bool) (x : A) (xs : List A) → length (cons_if b x xs) ≡ one_if b + length xs
length-cons_if true x xs = omega arith
length-cons_if false x xs = omega arith

-- the cells of one beat: one for each line touched
length_beat : (δ : ℕ) (n : Note) (b : ℕ)
    → length (cells_in_beat δ n b) ≡ one_if (leb n.start (b * δ)) + one_if (leb (suc b * δ) n.end)
unfolding cells_in_beat
length_beat δ n b =
    rw (
      length-cons_if (leb n.start (b * δ)) (cell_at n b 0 (b * δ)) (cons_if (leb (suc b * δ) n.end) (cell_at n b 1 (suc b * δ)) []),
      length-cons_if (leb (suc b * δ) n.end) (cell_at n b 1 (suc b * δ)) [],
    ) (omega arith)

module _ {δ : ℕ} {n : Note} (i : Beats δ n) where
  -- a beat behind the first has an opening cell, one ahead of the last a closing cell
  opens : (b : ℕ) → first_beat δ n ≤ b → one_if (leb n.start (suc b * δ)) ≡ 1
  opens b h =
      let e : n.start ≤ suc b * δ = omega (arith, i.high, suc-mul b δ, mul-le-mul_right δ h) in
      rw (le-leb _ _ e)

  closes : (b : ℕ) → b < last_beat δ n → one_if (leb (suc b * δ) n.end) ≡ 1
  closes b h =
      let e : suc b * δ ≤ n.end = omega (arith, i.last_low, mul-le-mul_right δ h) in
      rw (le-leb _ _ e)

  -- the cells of k + 1 beats from b on, up to the last
  count_from_lem : (k b : ℕ) → first_beat δ n ≤ b → b + k ≡ last_beat δ n
      → length (gather (cells_in_beat δ n) (count_from (suc k) b))
      ≡ one_if (leb n.start (b * δ)) + 2 * k + one_if (leb (suc (last_beat δ n) * δ) n.end)
  count_from_lem zero b low e =
      let e' : b ≡ last_beat δ n = omega arith in
      omega (arith, length-append (cells_in_beat δ n b) [], length_beat δ n b, ap (λ (x : ℕ). one_if (leb (suc x * δ) n.end)) e')
  count_from_lem (suc k) b low e =
      omega (
        arith,
        length-append (cells_in_beat δ n b) (gather (cells_in_beat δ n) (count_from (suc k) (suc b))),
        length_beat δ n b,
        closes b (omega arith),
        opens b low,
        count_from_lem k (suc b) (omega arith) (omega arith),
      )

-- what the code computes from the first and the last beat
pub count-note : (δ : ℕ) (n : Note) → (0 < δ) × (δ ≤ max_delta) × (n.start < n.end) × (n.end ≤ max_beats * δ)
    → one_if (leb n.start (first_beat δ n * δ)) + 2 * (last_beat δ n - first_beat δ n) + one_if (leb ((last_beat δ n + 1) * δ) n.end)
    ≡ length (cells_of_note δ n)
unfolding cells_of_note
count-note δ n h =
    let i = note_beats δ n h in
    let d = last_beat δ n - first_beat δ n in
    let many : suc (last_beat δ n) - first_beat δ n ≡ suc d = omega (arith, i.order) in
    let last : suc (last_beat δ n) ≡ last_beat δ n + 1 = omega arith in
    rw (many, ← last) (sym (count_from_lem i d (first_beat δ n) (omega arith) (omega (arith, i.order))))

-- ---- the sides of lines before a tick

-- a test and its negation as numbers
pub one_le : (b : Bool) → one_if b ≤ 1
one_le true = omega arith
one_le false = omega arith

one_of : (a b : ℕ) → one_if (ltb a b) + one_if (leb b a) ≡ 1
one_of a b = go (leb b a) refl
  where
    go : (x : Bool) → leb b a ≡ x → one_if (ltb a b) + one_if x ≡ 1
    go true e = rw (le-ltb a b (leb-true b a e))
    go false e = rw (lt-ltb a b (leb-false b a e))

-- the sides before a tick that lies at line k or behind it, behind it, at it or ahead of it
module _ (δ : ℕ) (pos : 0 < δ) (t : ℕ) where
  pub sides_from : (k : ℕ) → k * δ ≤ t → 2 * k ≤ line_sides δ t
  unfolding line_sides
  sides_from k h = let below : k ≤ t / δ = (le-div_iff_mul-le pos).1 h in omega arith

  pub sides_behind : (k : ℕ) → k * δ < t → 2 * k < line_sides δ t
  unfolding line_sides
  sides_behind k h = go (ltb (t / δ * δ) t) refl
    where
      go : (b : Bool) → ltb (t / δ * δ) t ≡ b → 2 * k < 2 * (t / δ) + one_if b
      go true e = let below : k ≤ t / δ = (le-div_iff_mul-le pos).1 (omega arith) in omega arith
      go false e = let below : k < t / δ = lt_of_mul-lt-mul_right δ (omega (arith, ltb-false (t / δ * δ) t e)) in omega arith

  pub sides_upto : (k : ℕ) → t ≤ k * δ → line_sides δ t ≤ 2 * k
  unfolding line_sides
  sides_upto k h = go (ltb (t / δ * δ) t) refl
    where
      go : (b : Bool) → ltb (t / δ * δ) t ≡ b → 2 * (t / δ) + one_if b ≤ 2 * k
      go true e = let above : t / δ < k = lt_of_mul-lt-mul_right δ (omega (arith, ltb-true (t / δ * δ) t e)) in omega arith
      go false e = let above : t / δ < suc k = (div-lt_iff_lt-mul pos).1 (omega (arith, suc-mul k δ)) in omega arith

-- a note has as many cells as there are more sides before its end than before its start
pub sides_between : (δ : ℕ) (n : Note) → (0 < δ) × (δ ≤ max_delta) × (n.start < n.end) × (n.end ≤ max_beats * δ)
    → line_sides δ n.end ≡ line_sides δ n.start + length (cells_of_note δ n)
unfolding line_sides
sides_between δ n h =
    let i = note_beats δ n h in
    omega (arith, i.order, count-note δ n h, one_of (first_beat δ n * δ) n.start, upto (leb ((last_beat δ n + 1) * δ) n.end) refl i)
  where
    upto : (b : Bool) → leb ((last_beat δ n + 1) * δ) n.end ≡ b → Beats δ n → line_sides δ n.end ≡ 2 * last_beat δ n + 1 + one_if b
    upto true e i =
        omega (
          arith,
          sides_upto δ h.0 n.end (last_beat δ n + 1) (omega (arith, i.last_high, i.last_next)),
          sides_from δ h.0 n.end (last_beat δ n + 1) (leb-true ((last_beat δ n + 1) * δ) n.end e),
        )
    upto false e i =
        let last : n.end / δ < last_beat δ n + 1 = (div-lt_iff_lt-mul h.0).1 (leb-false ((last_beat δ n + 1) * δ) n.end e) in
        omega (arith, sides_behind δ h.0 n.end (last_beat δ n) i.last_low, one_le (ltb (n.end / δ * δ) n.end))

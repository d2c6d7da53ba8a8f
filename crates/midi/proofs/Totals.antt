-- Sums over a list of notes: they do not depend on the order of lanes; and how many ticks the notes of all lanes take. Assumes nothing.
use mathlib.Core.List.{List, [], ◌∷◌, ◌++◌}
use mathlib.Core.Logic.{◌≢◌}
use mathlib.Core.Path.{◌≡◌, refl, sym, ap, ◌∙◌}
use Prim.Native.Nat.{ℕ, zero, suc, ◌+◌, ◌-◌, ◌*◌, ◌≤◌, ◌<◌}
use native.Mathlib.Decide.{ℕ_discrete}
use native.Mathlib.Omega.{arith}
use lib.Dec.{eqb}
use lib.ListN.{length, length-append}
use borrow.Author.Tests.{eq-eqb, ne_eqb}
use Rattle.model.specs.Lists.{count_from, gather}
use Rattle.model.specs.Takes.{by_lane, lanes}
use Rattle.model.specs.declared.Note.{Note}
use Rattle.laws.specs.Notes.{Follow}
use Rattle.laws.specs.Relations.{All, Pairs, all_imp, all_keep}
use Rattle.midi.proofs.NoteEvents.{starts_later}
use Rattle.midi.proofs.Playing.{lane_notes}
use Rattle.midi.proofs.Ranges.{Fits}
use Rattle.midi.proofs.Recordings.{lane_of}

module _ {A : Type 0} where
  -- The sum of f over a list.
  unfoldable pub total : (A → ℕ) → List A → ℕ
  total f [] = 0
  total f (x ∷ xs) = f x + total f xs

  pub total-append : (f : A → ℕ) (xs ys : List A) → total f (xs ++ ys) ≡ total f xs + total f ys
  unfolding total
  total-append f [] ys = omega arith
  total-append f (x ∷ xs) ys = omega (arith, total-append f xs ys)

  -- lengths are sums
  pub length-total : (xs : List A) → length xs ≡ total (λ x. 1) xs
  unfolding total
  length-total [] = refl
  length-total (x ∷ xs) = omega (arith, length-total xs)

  pub gather-total : {B : Type 0} (g : A → List B) (xs : List A) → length (gather g xs) ≡ total (λ x. length (g x)) xs
  unfolding total
  gather-total g [] = refl
  gather-total g (x ∷ xs) = omega (arith, length-append (g x) (gather g xs), gather-total g xs)

pub total-gather : {A B : Type 0} (f : A → ℕ) (h : B → List A) (ys : List B) → total f (gather h ys) ≡ total (λ y. total f (h y)) ys
unfolding total
total-gather f h [] = refl
total-gather f h (y ∷ ys) = omega (arith, total-append f (h y) (gather h ys), total-gather f h ys)

-- ---- counted sums

total_same : (p q : ℕ → ℕ) (n i : ℕ) → ((j : ℕ) → i ≤ j → p j ≡ q j) → total p (count_from n i) ≡ total q (count_from n i)
unfolding total
total_same p q zero i h = refl
total_same p q (suc n) i h = omega (arith, h i (omega arith), total_same p q n (suc i) (λ j k. h j (omega arith)))

-- more by a at one number
total_more : (p q : ℕ → ℕ) (a l n i : ℕ) → i ≤ l → l < i + n → p l ≡ a + q l → ((j : ℕ) → j ≢ l → p j ≡ q j)
    → total p (count_from n i) ≡ a + total q (count_from n i)
unfolding total
total_more p q a l zero i low high e f = absurd (omega arith)
total_more p q a l (suc n) i low high e f = go (ℕ_discrete i l) (λ k. total_more p q a l n (suc i) k (omega arith) e f)
  where
    go : Dec (i ≡ l) → (suc i ≤ l → total p (count_from n (suc i)) ≡ a + total q (count_from n (suc i)))
        → p i + total p (count_from n (suc i)) ≡ a + (q i + total q (count_from n (suc i)))
    go (yes d) ih = rw d (omega (arith, e, total_same p q n (suc l) (λ j k. f j (λ g. omega arith))))
    go (no d) ih = omega (arith, f i d, ih (omega arith))

total_most : (p : ℕ → ℕ) (top n i : ℕ) → ((j : ℕ) → j < i + n → p j ≤ top) → total p (count_from n i) ≤ n * top
unfolding total
total_most p top zero i h = omega arith
total_most p top (suc n) i h = go (h i (omega arith)) (total_most p top n (suc i) (λ j k. h j (omega arith)))
  where
    go : p i ≤ top → total p (count_from n (suc i)) ≤ n * top → p i + total p (count_from n (suc i)) ≤ suc n * top
    go a b = omega arith

-- ---- by lanes

lanes-total : (f : Note → ℕ) (ns : List Note) → All (λ n. n.lane < 2048) ns → total (λ l. total f (lane_notes l ns)) (count_from 2048 0) ≡ total f ns
unfolding total
lanes-total f [] a = none 2048 0
  where
    none : (n i : ℕ) → total (λ l. 0) (count_from n i) ≡ 0
    none zero i = refl
    none (suc n) i = omega (arith, none n (suc i))
lanes-total f (x ∷ ns) a =
    total_more (λ l. total f (lane_notes l (x ∷ ns))) (λ l. total f (lane_notes l ns)) (f x) x.lane 2048 0 (omega arith) a.0
    (rw (eq-eqb x.lane x.lane refl)) (λ j d. rw (ne_eqb x.lane j (λ e. d (sym e))))
    ∙ ap (λ n. f x + n) (lanes-total f ns a.1)

-- A sum is the same in order of lanes.
pub by_lane-total : (f : Note → ℕ) (ns : List Note) → All (λ n. n.lane < 2048) ns → total f (by_lane (λ n. n.lane) ns) ≡ total f ns
unfolding by_lane
by_lane-total f ns a = total-gather f (λ l. lane_notes l ns) lanes ∙ lanes-total f ns a

pub by_lane-length : (ns : List Note) → All (λ n. n.lane < 2048) ns → length (by_lane (λ n. n.lane) ns) ≡ length ns
by_lane-length ns a = length-total (by_lane (λ n. n.lane) ns) ∙ by_lane-total (λ n. 1) ns a ∙ sym (length-total ns)

pub by_lane-gather : {B : Type 0} (g : Note → List B) (ns : List Note) → All (λ n. n.lane < 2048) ns
    → length (gather g (by_lane (λ n. n.lane) ns)) ≡ length (gather g ns)
by_lane-gather g ns a =
    gather-total g (by_lane (λ n. n.lane) ns) ∙ by_lane-total (λ n. length (g n)) ns a ∙ sym (gather-total g ns)

-- ---- ticks

abbrev pub ticks : Note → ℕ
ticks n = n.end - n.start

module _ (l top : ℕ) where
  lane-ticks : (low : ℕ) (ns : List Note) → low ≤ top → All (λ n. n.lane ≡ l) ns → All (Fits top) ns → Pairs Follow ns → All (λ n. low ≤ n.start) ns
      → low + total ticks ns ≤ top
  unfolding total
  lane-ticks low [] h o f s a = omega arith
  lane-ticks low (n ∷ ns) h o f s a =
      let e : low ≤ n.start = a.0 in
      let ih = lane-ticks n.end ns f.0.within o.1 f.1 s.1 (starts_later l top n ns o.0 o.1 s.0) in
      omega (arith, f.0.long)

-- The notes of a lane take no more ticks than there are, and so do those of all lanes.
pub ticks_most : (top : ℕ) (ns : List Note) → All (Fits top) ns → ((l : ℕ) → l < 2048 → Pairs Follow (lane_notes l ns)) → total ticks ns ≤ 2048 * top
ticks_most top ns f g =
    rw (← (lanes-total ticks ns (all_imp (Fits top) (λ n. n.lane < 2048) ns (λ n h. h.low) f)))
    (total_most (λ l. total ticks (lane_notes l ns)) top 2048 0
    (λ l h. let own = all_keep (Fits top) (λ n. eqb n.lane l) ns f in
    let m = lane-ticks l top 0 (lane_notes l ns) (omega arith) (lane_of l ns) own (g l h) (all_imp (Fits top) (λ n. 0 ≤ n.start) (lane_notes l ns) (λ n k. omega arith) own) in
    omega arith))

-- The notes of a join by one walk over the notes and cells of both takes: lane after lane, the least lane in front of the four lists next.
-- Assumes nothing.
use Rattle.std.specs.Prelude.{Bool, ◌≡◌, ◌+◌, ◌<◌, ◌≤◌, min, suc, zero, ℕ}
use Rattle.std.proofs.Math.Bool.{cond, false, true, true≢false}
use mathlib.Core.List.{List, [], ◌++◌, ◌∷◌}
use Rattle.std.proofs.Common.{◌∙◌, sym}
use Rattle.std.proofs.Math.Path.{ap, refl}
use Rattle.std.proofs.Math.Decide.{ℕ_discrete}
use native.Mathlib.Omega.{arith}
use Rattle.std.proofs.Math.Dec.{eqb}
use borrow.Author.Tests.{eq-eqb, eqb-true, ne_eqb}
use Rattle.model.specs.Lists.{cons_if, count_from, gather, keep}
use Rattle.model.specs.Takes.{Take, lanes, notes_of}
use Rattle.model.specs.declared.Cell.{Cell}
use Rattle.model.specs.declared.Header.{Header}
use Rattle.model.specs.declared.Note.{Note}
use Rattle.laws.specs.JoinLanes.{join_lanes}
use Rattle.laws.specs.Joining.{cell-lanes}
use Rattle.laws.specs.Lists.{gather-count, gather_none}
use Rattle.laws.specs.Notes.{Fair, Follow, fair_notes, follow_lane, ok_pairs}
use Rattle.laws.specs.Order.{solid_notes}
use Rattle.laws.specs.Relations.{All, Pairs, all_imp, keep_no, pairs_imp}
use Rattle.laws.specs.Seam.{join_lane}
use Rattle.laws.specs.SeamLanes.{cells_at, notes_at}
use Rattle.laws.specs.Solid.{Solid}

-- ---- the lane in front

module _ {A : Type 0} (lane : A → ℕ) where
  -- The elements of lane l in front, and those behind them.
  unfoldable pub run_of : ℕ → List A → List A
  run_of l [] = []
  run_of l (x ∷ xs) = cond (eqb (lane x) l) (x ∷ run_of l xs) []

  unfoldable pub rest_of : ℕ → List A → List A
  rest_of l [] = []
  rest_of l (x ∷ xs) = cond (eqb (lane x) l) (rest_of l xs) (x ∷ xs)

  -- The lane in front: 2,048 where there is none.
  unfoldable pub lane_ahead : List A → ℕ
  lane_ahead [] = 2048
  lane_ahead (x ∷ xs) = lane x

  pub run-rest : (l : ℕ) (xs : List A) → run_of l xs ++ rest_of l xs ≡ xs
  unfolding run_of rest_of
  run-rest l [] = refl
  run-rest l (x ∷ xs) = go (eqb (lane x) l) (run-rest l xs)
    where
      go : (b : Bool) → run_of l xs ++ rest_of l xs ≡ xs → cond b (x ∷ run_of l xs) [] ++ cond b (rest_of l xs) (x ∷ xs) ≡ x ∷ xs
      go true ih = ap (◌∷◌ x) ih
      go false ih = refl

  -- In the order of lanes, from lane l on, below 2,048.
  pub record From (l : ℕ) (xs : List A) : Type 0 where
    pub sorted : Pairs (λ x y. lane x ≤ lane y) xs
    pub above : All (λ x. l ≤ lane x) xs
    pub below : All (λ x. lane x < 2048) xs

  from_tail : (l : ℕ) (x : A) (xs : List A) → From l (x ∷ xs) → From l xs
  from_tail l x xs f = record { sorted = f.sorted.1; above = f.above.1; below = f.below.1 }

  -- the first is of a higher lane, so that all are
  higher : (l : ℕ) (x : A) (xs : List A) → From l (x ∷ xs) → (lane x ≡ l → ⊥) → All (λ y. suc l ≤ lane y) (x ∷ xs)
  higher l x xs f d =
      let h : l ≤ lane x = f.above.0 in
      let i : suc l ≤ lane x = omega arith in
      (i, all_imp (λ y. lane x ≤ lane y) (λ y. suc l ≤ lane y) xs (λ y a. omega arith) f.sorted.0)

  none-at : (l : ℕ) (xs : List A) → All (λ y. suc l ≤ lane y) xs → keep (λ x. eqb (lane x) l) xs ≡ []
  none-at l xs a = keep_no (λ x. eqb (lane x) l) xs (all_imp (λ y. suc l ≤ lane y) (λ y. eqb (lane y) l ≡ false) xs (λ y h. ne_eqb (lane y) l (omega arith)) a)

  -- what is in the lane stands in front
  pub keep_run : (l : ℕ) (xs : List A) → From l xs → keep (λ x. eqb (lane x) l) xs ≡ run_of l xs
  unfolding run_of
  keep_run l [] f = refl
  keep_run l (x ∷ xs) f = go (eqb (lane x) l) refl (keep_run l xs (from_tail l x xs f))
    where
      go : (b : Bool) → eqb (lane x) l ≡ b → keep (λ x. eqb (lane x) l) xs ≡ run_of l xs
          → cons_if b x (keep (λ x. eqb (lane x) l) xs) ≡ cond b (x ∷ run_of l xs) []
      go true e ih = ap (◌∷◌ x) ih
      go false e ih = none-at l xs (higher l x xs f (λ h. true≢false (sym (eq-eqb (lane x) l h) ∙ e))).1

  -- what stands behind it is of higher lanes
  pub rest_from : (l : ℕ) (xs : List A) → From l xs → From (suc l) (rest_of l xs)
  unfolding rest_of
  rest_from l [] f = record { sorted = tt; above = tt; below = tt }
  rest_from l (x ∷ xs) f = go (eqb (lane x) l) refl (rest_from l xs (from_tail l x xs f))
    where
      go : (b : Bool) → eqb (lane x) l ≡ b → From (suc l) (rest_of l xs) → From (suc l) (cond b (rest_of l xs) (x ∷ xs))
      go true e ih = ih
      go false e ih = record { sorted = f.sorted; above = higher l x xs f (λ h. true≢false (sym (eq-eqb (lane x) l h) ∙ e)); below = f.below }

  -- a higher lane is as it was
  keep-rest : (l m : ℕ) (xs : List A) → l < m → keep (λ x. eqb (lane x) m) (rest_of l xs) ≡ keep (λ x. eqb (lane x) m) xs
  unfolding rest_of
  keep-rest l m [] h = refl
  keep-rest l m (x ∷ xs) h = go (eqb (lane x) l) refl (keep-rest l m xs h)
    where
      go : (b : Bool) → eqb (lane x) l ≡ b → keep (λ x. eqb (lane x) m) (rest_of l xs) ≡ keep (λ x. eqb (lane x) m) xs
          → keep (λ x. eqb (lane x) m) (cond b (rest_of l xs) (x ∷ xs)) ≡ keep (λ x. eqb (lane x) m) (x ∷ xs)
      go true e ih = let i : lane x ≡ l = eqb-true (lane x) l e in rw (ne_eqb (lane x) m (omega arith)) ih
      go false e ih = refl

  below_none : (l m : ℕ) (xs : List A) → m < l → From l xs → keep (λ x. eqb (lane x) m) xs ≡ []
  below_none l m xs h f = none-at m xs (all_imp (λ y. l ≤ lane y) (λ y. suc m ≤ lane y) xs (λ y a. omega arith) f.above)

-- The notes of lane l in front and those behind them; and the cells.
abbrev pub note_run : ℕ → List Note → List Note
note_run = run_of (λ n. n.lane)

abbrev pub note_rest : ℕ → List Note → List Note
note_rest = rest_of (λ n. n.lane)

abbrev pub cell_run : ℕ → List Cell → List Cell
cell_run = run_of (λ c. c.lane)

abbrev pub cell_rest : ℕ → List Cell → List Cell
cell_rest = rest_of (λ c. c.lane)

-- over counted numbers: nothing before l, at l what the one has, behind l what the other has
gather-first : {B : Type 0} (f g : ℕ → List B) (n i l : ℕ) → i ≤ l → l < i + n → ((k : ℕ) → k < l → f k ≡ []) → ((k : ℕ) → k ≤ l → g k ≡ [])
    → ((k : ℕ) → l < k → f k ≡ g k) → gather f (count_from n i) ≡ f l ++ gather g (count_from n i)
gather-first f g zero i l a b p q r = absurd (omega arith)
gather-first f g (suc n) i l a b p q r = elim (ℕ_discrete i l) [
  | yes e ↦ rw (q i (omega arith), e) (ap (◌++◌ (f l)) (gather-count f g n (suc l) (λ k c d. r k (omega arith))))
  | no e ↦ rw (p i (omega arith), q i (omega arith)) (gather-first f g n (suc i) l (omega arith) (omega arith) p q r)
]

-- ---- the four lists

-- ms and cs are the first take's notes and cells, ns and ds the second's: each in the order of lanes, from lane l on.
pub record Four (l : ℕ) (ms : List Note) (cs : List Cell) (ns : List Note) (ds : List Cell) : Type 0 where
  pub first-notes : From (λ n. n.lane) l ms
  pub first-cells : From (λ c. c.lane) l cs
  pub second_notes : From (λ n. n.lane) l ns
  pub second_cells : From (λ c. c.lane) l ds

-- The least lane in front of them: 2,048 where all are empty.
unfoldable pub least_lane : List Note → List Cell → List Note → List Cell → ℕ
unfolding lane_ahead
least_lane ms cs ns ds = min (min (lane_ahead (λ n. n.lane) ms) (lane_ahead (λ c. c.lane) cs)) (min (lane_ahead (λ n. n.lane) ns) (lane_ahead (λ c. c.lane) ds))

module _ {A : Type 0} (lane : A → ℕ) where
  -- the lane in front is the least
  pub from-ahead : (i l : ℕ) (xs : List A) → From lane i xs → l ≤ lane_ahead lane xs → From lane l xs
  unfolding lane_ahead
  from-ahead i l [] f h = record { sorted = tt; above = tt; below = tt }
  from-ahead i l (x ∷ xs) f h = record {
    sorted = f.sorted;
    above = (h, all_imp (λ y. lane x ≤ lane y) (λ y. l ≤ lane y) xs (λ y a. omega arith) f.sorted.0);
    below = f.below;
  }

  ahead_none : (i : ℕ) (xs : List A) → From lane i xs → 2048 ≤ lane_ahead lane xs → xs ≡ []
  unfolding lane_ahead
  ahead_none i [] f h = refl
  ahead_none i (x ∷ xs) f h = let b : lane x < 2048 = f.below.0 in absurd (omega arith)

  ahead-above : (i : ℕ) (xs : List A) → i ≤ 2048 → From lane i xs → i ≤ lane_ahead lane xs
  unfolding lane_ahead
  ahead-above i [] h f = h
  ahead-above i (x ∷ xs) h f = f.above.0

-- what stands behind a lane
pub four_rest : (l : ℕ) (ms : List Note) (cs : List Cell) (ns : List Note) (ds : List Cell) → Four l ms cs ns ds
    → Four (suc l) (note_rest l ms) (cell_rest l cs) (note_rest l ns) (cell_rest l ds)
four_rest l ms cs ns ds f = record {
  first-notes = rest_from (λ n. n.lane) l ms f.first-notes;
  first-cells = rest_from (λ c. c.lane) l cs f.first-cells;
  second_notes = rest_from (λ n. n.lane) l ns f.second_notes;
  second_cells = rest_from (λ c. c.lane) l ds f.second_cells;
}

-- Cells alone.
pub only-cells : (l : ℕ) (cs ds : List Cell) → From (λ c. c.lane) l cs → From (λ c. c.lane) l ds → Four l [] cs [] ds
only-cells l cs ds f g =
    record { first-notes = record { sorted = tt; above = tt; below = tt }; first-cells = f; second_notes = record { sorted = tt; above = tt; below = tt }; second_cells = g }

-- ---- lane by lane

-- F gives from one lane of each of the lists; nothing from nothing.
module _ {B : Type 0} (F : List Note → List Cell → List Note → List Cell → List B) (none : F [] [] [] [] ≡ []) where
  -- What it gives from all lanes, one after the other.
  abbrev pub each_lane : List Note → List Cell → List Note → List Cell → List B
  each_lane ms cs ns ds = gather (λ l. F (notes_at l ms) (cells_at l cs) (notes_at l ns) (cells_at l ds)) lanes

  pub each_none : each_lane [] [] [] [] ≡ []
  each_none = gather_none (λ l. F [] [] [] []) 2048 0 (λ l a. none)

  one_same : {ms ns xs ys : List Note} {cs ds es gs : List Cell} → ms ≡ xs → cs ≡ es → ns ≡ ys → ds ≡ gs → F ms cs ns ds ≡ F xs es ys gs
  one_same a b c d = λ i. F (a i) (b i) (c i) (d i)

  one_none : (l m : ℕ) (ms : List Note) (cs : List Cell) (ns : List Note) (ds : List Cell) → m < l → Four l ms cs ns ds
      → F (notes_at m ms) (cells_at m cs) (notes_at m ns) (cells_at m ds) ≡ []
  one_none l m ms cs ns ds h f =
      one_same (below_none (λ n. n.lane) l m ms h f.first-notes) (below_none (λ c. c.lane) l m cs h f.first-cells)
      (below_none (λ n. n.lane) l m ns h f.second_notes) (below_none (λ c. c.lane) l m ds h f.second_cells) ∙ none

  -- it is what it gives from lane l in front, and then from what stands behind it
  pub each_step : (l : ℕ) (ms : List Note) (cs : List Cell) (ns : List Note) (ds : List Cell) → l < 2048 → Four l ms cs ns ds
      → each_lane ms cs ns ds
      ≡ F (note_run l ms) (cell_run l cs) (note_run l ns) (cell_run l ds) ++ each_lane (note_rest l ms) (cell_rest l cs) (note_rest l ns) (cell_rest l ds)
  each_step l ms cs ns ds b f =
      let later-at : ℕ → List B = λ m. F (notes_at m (note_rest l ms)) (cells_at m (cell_rest l cs)) (notes_at m (note_rest l ns)) (cells_at m (cell_rest l ds)) in
      gather-first (λ m. F (notes_at m ms) (cells_at m cs) (notes_at m ns) (cells_at m ds)) later-at 2048 0 l (omega arith) (omega arith)
      (λ m h. one_none l m ms cs ns ds h f)
      (λ m h. one_none (suc l) m (note_rest l ms) (cell_rest l cs) (note_rest l ns) (cell_rest l ds) (omega arith) (four_rest l ms cs ns ds f))
      (λ m h. sym (one_same (keep-rest (λ n. n.lane) l m ms h) (keep-rest (λ c. c.lane) l m cs h) (keep-rest (λ n. n.lane) l m ns h) (keep-rest (λ c. c.lane) l m ds h)))
      ∙ ap (λ (xs : List B). xs ++ gather later-at lanes)
      (one_same (keep_run (λ n. n.lane) l ms f.first-notes) (keep_run (λ c. c.lane) l cs f.first-cells) (keep_run (λ n. n.lane) l ns f.second_notes) (keep_run (λ c. c.lane) l ds f.second_cells))

-- ---- the notes of a join

module _ (H : Header) (k : ℕ) where
  lane-none : join_lane H k [] [] [] [] ≡ []
  unfolding join_lane
  lane-none = refl

  -- nothing of nothing
  pub join-none : join_lanes H k [] [] [] [] ≡ []
  unfolding join_lanes
  join-none = each_none (join_lane H k) lane-none

  -- the notes of the lists are those of lane l in front, and then those of what stands behind it
  pub join_step : (l : ℕ) (ms : List Note) (cs : List Cell) (ns : List Note) (ds : List Cell) → l < 2048 → Four l ms cs ns ds
      → join_lanes H k ms cs ns ds
      ≡ join_lane H k (note_run l ms) (cell_run l cs) (note_run l ns) (cell_run l ds) ++ join_lanes H k (note_rest l ms) (cell_rest l cs) (note_rest l ns) (cell_rest l ds)
  unfolding join_lanes
  join_step l ms cs ns ds b f = each_step (join_lane H k) lane-none l ms cs ns ds b f

module _ (i : ℕ) (ms : List Note) (cs : List Cell) (ns : List Note) (ds : List Cell) (f : Four i ms cs ns ds) where
  -- the lists are from the least lane in front on
  pub four_least : Four (least_lane ms cs ns ds) ms cs ns ds
  unfolding least_lane
  four_least = record {
    first-notes = from-ahead (λ n. n.lane) i (least_lane ms cs ns ds) ms f.first-notes (omega arith);
    first-cells = from-ahead (λ c. c.lane) i (least_lane ms cs ns ds) cs f.first-cells (omega arith);
    second_notes = from-ahead (λ n. n.lane) i (least_lane ms cs ns ds) ns f.second_notes (omega arith);
    second_cells = from-ahead (λ c. c.lane) i (least_lane ms cs ns ds) ds f.second_cells (omega arith);
  }

  pub least_above : i ≤ 2048 → i ≤ least_lane ms cs ns ds
  unfolding least_lane
  least_above h =
      let a = ahead-above (λ n. n.lane) i ms h f.first-notes in
      let b = ahead-above (λ c. c.lane) i cs h f.first-cells in
      let c = ahead-above (λ n. n.lane) i ns h f.second_notes in
      let d = ahead-above (λ c. c.lane) i ds h f.second_cells in
      omega arith

  -- where it is 2,048 there is nothing left
  pub least-none : (H : Header) (k : ℕ) → 2048 ≤ least_lane ms cs ns ds → join_lanes H k ms cs ns ds ≡ []
  unfolding least_lane
  least-none H k h =
      let a = ahead_none (λ n. n.lane) i ms f.first-notes (omega arith) in
      let b = ahead_none (λ c. c.lane) i cs f.first-cells (omega arith) in
      let c = ahead_none (λ n. n.lane) i ns f.second_notes (omega arith) in
      let d = ahead_none (λ c. c.lane) i ds f.second_cells (omega arith) in
      (λ j. join_lanes H k (a j) (b j) (c j) (d j)) ∙ join-none H k

-- ---- a join of two solid takes

module _ (H : Header) (z : 0 < H.delta) (le : H.epsilon ≤ H.delta) (t u : Take) (s : Solid H.delta t) (r : Solid H.delta u) where
  notes_from : (v : Take) → Solid H.delta v → From (λ n. n.lane) 0 (notes_of H v)
  notes_from v w =
      let ok = solid_notes H z le v w in
      record {
        sorted = pairs_imp Follow (λ n m. n.lane ≤ m.lane) (notes_of H v) follow_lane (ok_pairs H.delta v.beats (notes_of H v) ok);
        above = all_imp (Fair H.delta v.beats) (λ n. 0 ≤ n.lane) (notes_of H v) (λ n f. omega arith) (fair_notes H.delta v.beats (notes_of H v) ok);
        below = all_imp (Fair H.delta v.beats) (λ n. n.lane < 2048) (notes_of H v) (λ n f. f.lane_below) (fair_notes H.delta v.beats (notes_of H v) ok);
      }

  cells_from : (v : Take) → Solid H.delta v → From (λ c. c.lane) 0 v.cells
  cells_from v w = record {
    sorted = (cell-lanes H.delta v w).0;
    above = all_imp (λ c. c.lane < 2048) (λ c. 0 ≤ c.lane) v.cells (λ c f. omega arith) (cell-lanes H.delta v w).1;
    below = (cell-lanes H.delta v w).1;
  }

  -- their notes and cells are in the order of lanes
  pub join_four : Four 0 (notes_of H t) t.cells (notes_of H u) u.cells
  join_four = record { first-notes = notes_from t s; first-cells = cells_from t s; second_notes = notes_from u r; second_cells = cells_from u r }

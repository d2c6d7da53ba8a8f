-- How many notes a join of two solid takes has: those of both, one more for each note that goes over the line, and one less for each of its two
-- cells there that stands alone. Only the cells are read for it. Assumes nothing.
use Rattle.std.specs.Prelude.{Bool, ◌&&◌, ◌≡◌}
use Rattle.std.proofs.Math.Bool.{false, not, true}
use mathlib.Core.List.{List, [], ◌++◌, ◌∷◌}
use Rattle.std.proofs.Common.{ap, subst, length-append}
use Rattle.std.proofs.Math.Path.{refl}
use Prim.Native.Nat.{◌*◌, ◌+◌, ◌<◌, ◌≤◌, min, suc, zero, ℕ}
use native.Mathlib.Omega.{arith}
use Rattle.std.proofs.Math.ListN.{length}
use Rattle.model.specs.Binding.{stands_alone}
use Rattle.model.specs.Limits.{lane_count}
use Rattle.model.specs.Lists.{cons_if, count_from, gather, keep}
use Rattle.model.specs.Takes.{Take, cell_to, join_takes, lanes, notes_of}
use Rattle.model.specs.declared.Cell.{Cell}
use Rattle.model.specs.declared.Header.{Header}
use Rattle.model.specs.declared.Note.{Note}
use Rattle.laws.specs.JoinLanes.{join_lane_is, one_lane}
use Rattle.laws.specs.Lists.{gather_none}
use Rattle.laws.specs.JoinWalk.{From, cell_rest, cell_run, each_step, only-cells}
use Rattle.laws.specs.Joined.{OneLane, lane-length}
use Rattle.laws.specs.Moving.{solid_join}
use Rattle.laws.specs.Seam.{bound_at, lone, one, seam_of}
use Rattle.laws.specs.SeamLanes.{cells_at, lane_of, notes-lanes}
use Rattle.laws.specs.SeamWalk.{last_or}
use Rattle.laws.specs.Solid.{Solid}
use Rattle.laws.specs.Tidy.{cells_tidy, tidy_lanes}

-- The pairs of cells that are bound over the line, lane by lane.
unfoldable pub seams : Header → ℕ → List Cell → List Cell → List (Cell × Cell)
unfolding seam_of
seams H k cs ds = gather (λ l. seam_of H k (cells_at l cs) (cells_at l ds)) lanes

-- Neither of the two stands alone.
abbrev pub neither : Header → Cell × Cell → Bool
neither H p = not (stands_alone H p.0) && not (stands_alone H p.1)

module _ (H : Header) (k : ℕ) where
  -- ---- lane by lane

  seam_none : seam_of H k [] [] ≡ []
  unfolding seam_of
  seam_none = refl

  -- nor where the first take has none
  pub seams_over : (ds : List Cell) → seams H k [] ds ≡ []
  unfolding seams seam_of
  seams_over ds = gather_none (λ l. seam_of H k [] (cells_at l ds)) 2048 0 (λ l a. refl)

  -- the pairs are that of lane l in front, and then those of what stands behind it
  pub seams_step : (l : ℕ) (cs ds : List Cell) → l < 2048 → From (λ c. c.lane) l cs → From (λ c. c.lane) l ds
      → seams H k cs ds ≡ seam_of H k (cell_run l cs) (cell_run l ds) ++ seams H k (cell_rest l cs) (cell_rest l ds)
  unfolding seams
  seams_step l cs ds b f g = each_step (λ ms cs ns ds. seam_of H k cs ds) seam_none l [] cs [] ds b (only-cells l cs ds f g)

  -- a lane has at most one pair, and none without cells
  seam_few : (cs ds : List Cell) → length (seam_of H k cs ds) ≤ min 1 (min (length cs) (length ds))
  unfolding seam_of
  seam_few [] ds = omega arith
  seam_few (c ∷ cs) [] = omega arith
  seam_few (c ∷ cs) (d ∷ ds) = go (bound_at H k (last_or c cs) d)
    where
      go : (b : Bool) → length {A = Cell × Cell} (cons_if b (last_or c cs, d) []) ≤ min 1 (min (suc (length cs)) (suc (length ds)))
      go true = omega arith
      go false = omega arith

  -- ---- sums over lanes

  pub lone-append : (ps qs : List (Cell × Cell)) → lone H (ps ++ qs) ≡ lone H ps + lone H qs
  unfolding lone
  lone-append [] qs = omega arith
  lone-append (p ∷ ps) qs = let e = lone-append ps qs in omega arith

  -- each has two cells
  pub lone_few : (ps : List (Cell × Cell)) → lone H ps ≤ 2 * length ps
  unfolding lone
  lone_few [] = omega arith
  lone_few (p ∷ ps) = let e = lone_few ps in let a = one_few (stands_alone H p.0) in let b = one_few (stands_alone H p.1) in omega arith
    where
      one_few : (b : Bool) → one b ≤ 1
      one_few true = omega arith
      one_few false = omega arith

  lengths : (f g h : ℕ → List Note) (p : ℕ → List (Cell × Cell)) (n i : ℕ)
      → ((l : ℕ) → i ≤ l → l < i + n → length (f l) + lone H (p l) ≡ length (g l) + length (h l) + length (p l))
      → length (gather f (count_from n i)) + lone H (gather p (count_from n i)) ≡ length (gather g (count_from n i)) + length (gather h (count_from n i)) + length (gather p (count_from n i))
  lengths f g h p zero i e = unfold lone in refl
  lengths f g h p (suc n) i e =
      let a = e i (omega arith) (omega arith) in
      let b = lengths f g h p n (suc i) (λ l c d. e l (omega arith) (omega arith)) in
      simp (length-append, lone-append) (omega arith)

  -- at most one pair more than cells that stand alone, but where neither does
  few : (ps : List (Cell × Cell)) → length ps ≤ lone H ps + length (keep (neither H) ps)
  unfolding lone
  few [] = omega arith
  few (p ∷ ps) = go (stands_alone H p.0) (stands_alone H p.1) (few ps)
    where
      go : (a b : Bool) → length ps ≤ lone H ps + length (keep (neither H) ps)
          → suc (length ps) ≤ one a + one b + lone H ps + length (cons_if (not a && not b) p (keep (neither H) ps))
      go true true h = omega arith
      go true false h = omega arith
      go false true h = omega arith
      go false false h = omega arith

gather_fewer : {A B : Type 0} (f : ℕ → List A) (g : ℕ → List B) (n i : ℕ) → ((l : ℕ) → length (f l) ≤ length (g l))
    → length (gather f (count_from n i)) ≤ length (gather g (count_from n i))
gather_fewer f g zero i h = omega arith
gather_fewer f g (suc n) i h =
    let a = h i in
    let b = gather_fewer f g n (suc i) h in
    simp length-append (omega arith)

gather_few : {A : Type 0} (f : ℕ → List A) (n i : ℕ) → ((l : ℕ) → length (f l) ≤ 1) → length (gather f (count_from n i)) ≤ n
gather_few f zero i h = omega arith
gather_few f (suc n) i h =
    let a = h i in
    let b = gather_few f n (suc i) h in
    simp length-append (omega arith)

-- ---- a join of two solid takes

module _ (H : Header) (z : 0 < H.delta) (le : H.epsilon ≤ H.delta) (t u : Take) (s : Solid H.delta t) (r : Solid H.delta u) where
  abbrev pairs : List (Cell × Cell)
  pairs = seams H t.beats t.cells u.cells

  -- the number of its notes
  pub join-length : length (notes_of H (join_takes H.delta t u)) + lone H (seams H t.beats t.cells u.cells)
      ≡ length (notes_of H t) + length (notes_of H u) + length (seams H t.beats t.cells u.cells)
  unfolding seams
  join-length =
      let v = join_takes H.delta t u in
      let w : Solid H.delta v = solid_join H.delta z t u s r in
      rw (notes-lanes H z le v w, notes-lanes H z le t s, notes-lanes H z le u r)
      (lengths H t.beats (λ l. notes_of H (lane_of l v)) (λ l. notes_of H (lane_of l t)) (λ l. notes_of H (lane_of l u)) (λ l. seam_of H t.beats (cells_at l t.cells) (cells_at l u.cells)) 2048 0
      (λ l a b.
      let e = join_lane_is H.delta t u r l (omega arith) in
      rw e (lane-length H z le l (lane_of l t) (lane_of l u) (one_lane H.delta t s l) (one_lane H.delta u r l) (subst (OneLane H.delta l) e (one_lane H.delta v w l)))))

  lanes-length : (v : Take) → Solid H.delta v → length (gather (λ l. cells_at l v.cells) lanes) ≡ length v.cells
  lanes-length v w = ap length (tidy_lanes (λ c. c.lane) (λ c. c.beat) cell_to v.beats v.cells (cells_tidy H.delta z v w))

  -- no more pairs than lanes, or than cells in the take that has fewer
  pub pairs_few : length (seams H t.beats t.cells u.cells) ≤ min lane_count (min (length t.cells) (length u.cells))
  unfolding seams
  pairs_few =
      let at : ℕ → List (Cell × Cell) = λ l. seam_of H t.beats (cells_at l t.cells) (cells_at l u.cells) in
      let a = gather_fewer at (λ l. cells_at l t.cells) 2048 0 (λ l. let f = seam_few H t.beats (cells_at l t.cells) (cells_at l u.cells) in omega arith) in
      let b = gather_fewer at (λ l. cells_at l u.cells) 2048 0 (λ l. let f = seam_few H t.beats (cells_at l t.cells) (cells_at l u.cells) in omega arith) in
      let c = lanes-length t s in
      let d = lanes-length u r in
      let e = gather_few at 2048 0 (λ l. let f = seam_few H t.beats (cells_at l t.cells) (cells_at l u.cells) in omega arith) in
      omega arith

  -- at most those of both, and one for each lane or for each cell of the take that has fewer
  pub join-room : length (notes_of H (join_takes H.delta t u))
      ≤ length (notes_of H t) + length (notes_of H u) + min lane_count (min (length t.cells) (length u.cells))
  join-room = let e = join-length in let f = pairs_few in omega arith

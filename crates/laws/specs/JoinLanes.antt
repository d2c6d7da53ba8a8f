-- The notes of a join of two solid takes, lane by lane. By one walk over the notes and cells of both: JoinWalk.
-- Assumes nothing.
use Rattle.std.specs.Prelude.{List, [], ◌++◌, ◌∷◌, map, ◌≡◌, refl, ◌*◌, ◌+◌, ◌<◌, ◌≤◌, ℕ, eqb}
use Rattle.std.proofs.Common.{◌∙◌, ap, ap₂, subst, arith}
use Rattle.std.proofs.Math.Path.{sym}
use Rattle.model.specs.Lists.{gather}
use Rattle.model.specs.Pieces.{first_beat}
use Rattle.model.specs.Takes.{Take, join_takes, lanes, later_by, note_to, notes_of}
use Rattle.model.specs.declared.Cell.{Cell}
use Rattle.model.specs.declared.Header.{Header}
use Rattle.model.specs.declared.Note.{Note}
use Rattle.laws.specs.Joined.{OneLane, behind, lane-join}
use Rattle.laws.specs.Joining.{later_note}
use Rattle.laws.specs.Lanes.{lane-by_lane}
use Rattle.laws.specs.Lists.{gather-count, keep_append, keep-map}
use Rattle.laws.specs.Moving.{solid_join}
use Rattle.laws.specs.Notes.{Fair}
use Rattle.laws.specs.Relations.{All}
use Rattle.laws.specs.Seam.{join_lane}
use Rattle.laws.specs.SeamLanes.{cells_on, cells_at, lane_notes, lane_of, notes-lanes, notes_on, notes_at, solid_lane}
use Rattle.laws.specs.SeamWalk.{cell_later, note_later}
use Rattle.laws.specs.Solid.{Solid}

-- ---- one lane of a join

-- a solid take's lane
pub one_lane : (δ : ℕ) (t : Take) → Solid δ t → (l : ℕ) → OneLane δ l (lane_of l t)
one_lane δ t s l = record { solid = solid_lane δ t s l; notes_there = notes_on l t.inner; cells_there = cells_on l t.cells }

-- inner notes k beats later are k × δ ticks later
inner_later : (δ beats k : ℕ) (ns : List Note) → All (Fair δ beats) ns → map (λ n. note_to δ (k + first_beat δ n) n) ns ≡ map (note_later (k * δ)) ns
inner_later δ beats k [] a = refl
inner_later δ beats k (n ∷ ns) a = let v : n.start < n.end = a.0.order in ap₂ ◌∷◌ (later_note δ n (omega arith) k) (inner_later δ beats k ns a.1)

-- a lane of the join is the second's lane behind the first's
pub join_lane_is : (δ : ℕ) (t u : Take) → Solid δ u → (l : ℕ) → l < 2048 → lane_of l (join_takes δ t u) ≡ behind δ (lane_of l t) (lane_of l u)
unfolding join_takes later_by
join_lane_is δ t u r l b = λ i. record { beats = t.beats + u.beats; inner = inners i; cells = cells i }
  where
    inners : notes_at l (join_takes δ t u).inner ≡ notes_at l t.inner ++ map (note_later (t.beats * δ)) (notes_at l u.inner)
    inners =
        let to : Note → Note = λ n. note_to δ (t.beats + first_beat δ n) n in
        lane-by_lane (λ n. n.lane) l (t.inner ++ map to u.inner) b
        ∙ keep_append (λ n. eqb n.lane l) t.inner (map to u.inner)
        ∙ ap (◌++◌ (notes_at l t.inner)) (keep-map (λ n. eqb n.lane l) to u.inner ∙ inner_later δ u.beats t.beats (notes_at l u.inner) (solid_lane δ u r l).notes_fair)

    cells : cells_at l (join_takes δ t u).cells ≡ cells_at l t.cells ++ map (cell_later t.beats) (cells_at l u.cells)
    cells =
        lane-by_lane (λ c. c.lane) l (t.cells ++ map (cell_later t.beats) u.cells) b
        ∙ keep_append (λ c. eqb c.lane l) t.cells (map (cell_later t.beats) u.cells)
        ∙ ap (◌++◌ (cells_at l t.cells)) (keep-map (λ c. eqb c.lane l) (cell_later t.beats) u.cells)

-- ---- all lanes

-- The notes of both takes, lane by lane: ms and cs are the first's notes and cells, ns and ds the second's; k is the first's beats.
unfoldable pub join_lanes : Header → ℕ → List Note → List Cell → List Note → List Cell → List Note
unfolding join_lane
join_lanes H k ms cs ns ds = gather (λ l. join_lane H k (notes_at l ms) (cells_at l cs) (notes_at l ns) (cells_at l ds)) lanes

module _ (H : Header) (z : 0 < H.delta) (le : H.epsilon ≤ H.delta) (t u : Take) (s : Solid H.delta t) (r : Solid H.delta u) where
  -- the notes of one lane of a join
  pub join_lane_lem : (l : ℕ) → l < 2048
      → notes_at l (notes_of H (join_takes H.delta t u)) ≡ join_lane H t.beats (notes_at l (notes_of H t)) (cells_at l t.cells) (notes_at l (notes_of H u)) (cells_at l u.cells)
  join_lane_lem l b =
      let v = join_takes H.delta t u in
      let w : Solid H.delta v = solid_join H.delta z t u s r in
      let e = join_lane_is H.delta t u r l b in
      lane_notes H z le v w l b ∙ ap (notes_of H) e
      ∙ lane-join H z le l (lane_of l t) (lane_of l u) (one_lane H.delta t s l) (one_lane H.delta u r l) (subst (OneLane H.delta l) e (one_lane H.delta v w l))
      ∙ ap₂ (λ (ms ns : List Note). join_lane H t.beats ms (cells_at l t.cells) ns (cells_at l u.cells)) (sym (lane_notes H z le t s l b)) (sym (lane_notes H z le u r l b))

  -- a join copies the notes of both takes, and only at the seam the rules decide
  pub join-notes : notes_of H (join_takes H.delta t u) ≡ join_lanes H t.beats (notes_of H t) t.cells (notes_of H u) u.cells
  unfolding join_lanes
  join-notes =
      let v = join_takes H.delta t u in
      let w : Solid H.delta v = solid_join H.delta z t u s r in
      notes-lanes H z le v w
      ∙ gather-count (λ l. notes_of H (lane_of l v)) (λ l. join_lane H t.beats (notes_at l (notes_of H t)) (cells_at l t.cells) (notes_at l (notes_of H u)) (cells_at l u.cells)) 2048 0
      (λ l a b. sym (lane_notes H z le v w l (omega arith)) ∙ join_lane_lem l (omega arith))

-- A solid take lane by lane: its notes are those of the takes that its single lanes are. Merging by parts, and some ticks later.
-- Assumes nothing.
use Rattle.std.specs.Prelude.{Bool, ◌||◌, ◌≡◌, ◌+◌, ◌<◌, ◌≤◌, suc, zero, ℕ, eqb, leb}
use Rattle.std.proofs.Math.Bool.{false, true}
use mathlib.Core.List.{List, [], ◌++◌, ◌∷◌, map}
use Rattle.std.proofs.Common.{◌∙◌, ap₂, sym, arith, eq-eqb, eqb-true, le-leb, leb-true, leb-false, ne_eqb}
use Rattle.std.proofs.Math.Path.{ap, refl}
use Rattle.std.proofs.lemmas.Bool.{lt-leb}
use Rattle.model.specs.Binding.{bound_next, meet, stands_alone}
use Rattle.model.specs.Lists.{count_from, gather, keep}
use Rattle.model.specs.Pieces.{first_beat, inside}
use Rattle.model.specs.Takes.{Take, cell_to, lanes, merge, note_before, note_to, notes_of, insert}
use Rattle.model.specs.declared.Cell.{Cell}
use Rattle.model.specs.declared.Header.{Header}
use Rattle.model.specs.declared.Note.{Note}
use Rattle.laws.specs.CutLines.{put}
use Rattle.laws.specs.CutMerge.{merge_seconds}
use Rattle.laws.specs.Lists.{gather-one, gather_same, keep-gather}
use Rattle.laws.specs.Merging.{all-merge, merge-first}
use Rattle.laws.specs.Notes.{Before, Fair, Follow, Long, above, before}
use Rattle.laws.specs.OneNote.{pieced_keep}
use Rattle.laws.specs.Order.{walk_fair}
use Rattle.laws.specs.Relations.{All, all-count, all_imp, all_keep, all-kept, keep_no, keep_yes, pairs-keep}
use Rattle.laws.specs.Rules.{Pieced, own}
use Rattle.laws.specs.SeamWalk.{Free, last-all, last_or, note_later, walk_free}
use Rattle.laws.specs.Solid.{Apart, Clear, Fine, Solid}
use Rattle.laws.specs.Tidy.{cells_tidy, notes_tidy, tidy_lanes}
use Rattle.laws.specs.Walk.{line_walk, linked, walk}

-- ---- merging

-- Each of the first lies before each of the second.
abbrev pub AllBefore : List Note → List Note → Type 0
AllBefore xs ys = All (λ x. All (Before x) ys) xs

insert-apart : (m : Note) (ms ns ys : List Note) → All (Before m) ys
    → ((xs : List Note) → AllBefore xs ns → merge (ms ++ ns) (xs ++ ys) ≡ merge ms xs ++ merge ns ys) → (xs : List Note) → AllBefore xs ns
    → insert m (λ zs. merge (ms ++ ns) zs) (xs ++ ys) ≡ insert m (λ zs. merge ms zs) xs ++ merge ns ys
unfolding merge insert
insert-apart m ms ns ys p h [] q = merge-first m (ms ++ ns) ys p ∙ ap (◌∷◌ m) (h [] q)
insert-apart m ms ns ys p h (x ∷ xs) q = go (note_before m x) refl (insert-apart m ms ns ys p h xs q.1)
  where
    go : (b : Bool) → note_before m x ≡ b → insert m (λ zs. merge (ms ++ ns) zs) (xs ++ ys) ≡ insert m (λ zs. merge ms zs) xs ++ merge ns ys
        → insert m (λ zs. merge (ms ++ ns) zs) (x ∷ (xs ++ ys)) ≡ insert m (λ zs. merge ms zs) (x ∷ xs) ++ merge ns ys
    go true e ih = rw (e, insert) (ap (◌∷◌ m) (h (x ∷ xs) q))
    go false e ih = rw (e, insert) (ap (◌∷◌ x) ih)

-- two lists of two parts each, where each first part lies before the other's second
pub merge-apart : (ms ns xs ys : List Note) → AllBefore ms ys → AllBefore xs ns → merge (ms ++ ns) (xs ++ ys) ≡ merge ms xs ++ merge ns ys
unfolding merge
merge-apart [] ns xs ys p q = merge_seconds xs ns ys q
merge-apart (m ∷ ms) ns xs ys p q = insert-apart m ms ns ys p.0 (λ zs r. merge-apart ms ns zs ys p.1 r) xs q

-- merging is the same some ticks later
module _ (s : ℕ) where
  leb_later : (a b : ℕ) → leb (a + s) (b + s) ≡ leb a b
  leb_later a b = go (leb a b) refl
    where
      go : (t : Bool) → leb a b ≡ t → leb (a + s) (b + s) ≡ t
      go true e = let h : a ≤ b = leb-true a b e in le-leb (a + s) (b + s) (omega arith)
      go false e = let h : b < a = leb-false a b e in lt-leb (a + s) (b + s) (omega arith)

  before_later : (m n : Note) → note_before (note_later s m) (note_later s n) ≡ note_before m n
  unfolding note_before
  before_later m n = rw (leb_later m.start n.start)

  insert_later : (x : Note) (xs : List Note)
      → ((ys : List Note) → merge (map (note_later s) xs) (map (note_later s) ys) ≡ map (note_later s) (merge xs ys)) → (ys : List Note)
      → insert (note_later s x) (λ zs. merge (map (note_later s) xs) zs) (map (note_later s) ys) ≡ map (note_later s) (insert x (λ zs. merge xs zs) ys)
  unfolding insert
  insert_later x xs h [] = ap (◌∷◌ (note_later s x)) (h [])
  insert_later x xs h (y ∷ ys) = go (note_before x y) refl (insert_later x xs h ys)
    where
      go : (b : Bool) → note_before x y ≡ b
          → insert (note_later s x) (λ zs. merge (map (note_later s) xs) zs) (map (note_later s) ys) ≡ map (note_later s) (insert x (λ zs. merge xs zs) ys)
          → insert (note_later s x) (λ zs. merge (map (note_later s) xs) zs) (map (note_later s) (y ∷ ys)) ≡ map (note_later s) (insert x (λ zs. merge xs zs) (y ∷ ys))
      go true e ih = rw (before_later x y, e, insert) (ap (◌∷◌ (note_later s x)) (h (y ∷ ys)))
      go false e ih = rw (before_later x y, e, insert) (ap (◌∷◌ (note_later s y)) ih)

  pub merge_later : (xs ys : List Note) → merge (map (note_later s) xs) (map (note_later s) ys) ≡ map (note_later s) (merge xs ys)
  unfolding merge
  merge_later [] ys = refl
  merge_later (x ∷ xs) ys = insert_later x xs (λ zs. merge_later xs zs) ys

-- ---- lists of single lanes, one after the other

-- Notes, or cells, of lane l.
abbrev pub NotesOn : ℕ → List Note → Type 0
NotesOn l ns = All (λ n. n.lane ≡ l) ns

abbrev pub CellsOn : ℕ → List Cell → Type 0
CellsOn l cs = All (λ c. c.lane ≡ l) cs

-- the notes of cells are of their lane
pub walk-lane : (H : Header) (l : ℕ) (cs : List Cell) (held : Bool) → CellsOn l cs → NotesOn l (walk H held cs)
unfolding walk own
walk-lane H l [] held a = tt
walk-lane H l (c ∷ cs) held a = go (linked H c cs) (stands_alone H c || held) (walk H (linked H c cs) cs) (walk-lane H l cs (linked H c cs) a.1)
  where
    go : (on shown : Bool) (ns : List Note) → NotesOn l ns → NotesOn l (put (own H.delta c) on shown ns)
    go true shown [] b = (a.0, tt)
    go true shown (n ∷ ns) b = (a.0, b.1)
    go false true ns b = (a.0, b)
    go false false ns b = b

lanes-before : (i : ℕ) (ms ns : List Note) → NotesOn i ms → All Long ms → All (λ n. i < n.lane) ns → AllBefore ms ns
lanes-before i [] ns a v b = tt
lanes-before i (m ∷ ms) ns a v b =
    (all_imp (λ n. i < n.lane) (Before m) ns (λ n h. let e = a.0 in before m n v.0 (above (omega arith))) b, lanes-before i ms ns a.1 v.1 b)

module _ (f g : ℕ → List Note) (fl : (l : ℕ) → NotesOn l (f l) × All Long (f l)) (gl : (l : ℕ) → NotesOn l (g l) × All Long (g l)) where
  above-all : (h : ℕ → List Note) → ((l : ℕ) → NotesOn l (h l) × All Long (h l)) → (n i : ℕ) → All (λ m. i < m.lane) (gather h (count_from n (suc i)))
  above-all h a n i = all-count (λ m. i < m.lane) h n (suc i) (λ b c d. all_imp (λ m. m.lane ≡ b) (λ m. i < m.lane) (h b) (λ m e. omega arith) (a b).0)

  merge-lanes : (n i : ℕ) → merge (gather f (count_from n i)) (gather g (count_from n i)) ≡ gather (λ l. merge (f l) (g l)) (count_from n i)
  merge-lanes zero i = unfold merge in refl
  merge-lanes (suc n) i =
      let fs = gather f (count_from n (suc i)) in
      let gs = gather g (count_from n (suc i)) in
      merge-apart (f i) fs (g i) gs (lanes-before i (f i) gs (fl i).0 (fl i).1 (above-all g gl n i)) (lanes-before i (g i) fs (gl i).0 (gl i).1 (above-all f fl n i))
      ∙ ap (◌++◌ (merge (f i) (g i))) (merge-lanes n (suc i))

module _ (H : Header) (le : H.epsilon ≤ H.delta) (f : ℕ → List Cell) (fp : (l : ℕ) → Pieced H.delta (f l)) (fl : (l : ℕ) → CellsOn l (f l)) where
  -- cells of two lanes are not bound
  lanes_free : (i : ℕ) (c : Cell) (ds : List Cell) → c.lane ≡ i → All (λ d. i < d.lane) ds → bound_next H c ds ≡ false
  unfolding bound_next meet
  lanes_free i c [] e a = refl
  lanes_free i c (d ∷ ds) e a = let h : i < d.lane = a.0 in rw (ne_eqb c.lane d.lane (omega arith))

  free_lanes : (i : ℕ) (cs ds : List Cell) → CellsOn i cs → All (λ d. i < d.lane) ds → Free H le ds cs
  free_lanes i [] ds a b = tt
  free_lanes i (c ∷ cs) ds a b = lanes_free i (last_or c cs) ds (last-all (λ x. x.lane ≡ i) c cs a) b

  walk-lanes : (n i : ℕ) → walk H false (gather f (count_from n i)) ≡ gather (λ l. walk H false (f l)) (count_from n i)
  walk-lanes zero i = unfold walk in refl
  walk-lanes (suc n) i =
      let rest = gather f (count_from n (suc i)) in
      walk_free H le rest (fp i) (free_lanes i (f i) rest (fl i) (all-count (λ d. i < d.lane) f n (suc i) (λ b c d. all_imp (λ x. x.lane ≡ b) (λ x. i < x.lane) (f b) (λ x e. omega arith) (fl b))))
      ∙ ap (◌++◌ (walk H false (f i))) (walk-lanes n (suc i))

-- ---- a take's single lanes

-- What of a list is in lane l.
abbrev pub notes_at : ℕ → List Note → List Note
notes_at l ns = keep (λ n. eqb n.lane l) ns

abbrev pub cells_at : ℕ → List Cell → List Cell
cells_at l cs = keep (λ c. eqb c.lane l) cs

-- A take's lane l as a take.
abbrev pub lane_of : ℕ → Take → Take
lane_of l t = record { beats = t.beats; inner = notes_at l t.inner; cells = cells_at l t.cells }

pub cells_on : (l : ℕ) (cs : List Cell) → CellsOn l (cells_at l cs)
cells_on l cs = all_imp (λ c. eqb c.lane l ≡ true) (λ c. c.lane ≡ l) (cells_at l cs) (λ c. eqb-true c.lane l) (all-kept (λ c. eqb c.lane l) cs)

pub notes_on : (l : ℕ) (ns : List Note) → NotesOn l (notes_at l ns)
notes_on l ns = all_imp (λ n. eqb n.lane l ≡ true) (λ n. n.lane ≡ l) (notes_at l ns) (λ n. eqb-true n.lane l) (all-kept (λ n. eqb n.lane l) ns)

-- a lane of a solid take is solid
pub solid_lane : (δ : ℕ) (t : Take) → Solid δ t → (l : ℕ) → Solid δ (lane_of l t)
solid_lane δ t s l =
    let pn : Note → Bool = λ n. eqb n.lane l in
    let pc : Cell → Bool = λ c. eqb c.lane l in
    record {
      notes_fair = all_keep (Fair δ t.beats) pn t.inner s.notes_fair;
      notes-inside = all_keep (λ n. inside δ n ≡ true) pn t.inner s.notes-inside;
      notes-apart = pairs-keep Follow pn t.inner s.notes-apart;
      cells_fine = all_keep (Fine δ t.beats) pc t.cells s.cells_fine;
      cells_pieced = pieced_keep δ pc (λ c d q. rw q.lane_same) s.cells_pieced;
      cells-apart = pairs-keep (Apart δ) pc t.cells s.cells-apart;
      all-clear = all_keep (λ n. All (Clear δ n) (keep pc t.cells)) pn t.inner
          (all_imp (λ n. All (Clear δ n) t.cells) (λ n. All (Clear δ n) (keep pc t.cells)) t.inner (λ n a. all_keep (Clear δ n) pc t.cells a) s.all-clear);
    }

module _ (H : Header) (z : 0 < H.delta) (le : H.epsilon ≤ H.delta) where
  -- a solid take's notes by its cells' walk
  pub notes-walk : (t : Take) → Solid H.delta t → notes_of H t ≡ merge t.inner (walk H false t.cells)
  unfolding notes_of
  notes-walk t s = ap (merge t.inner) (line_walk H le s.cells_pieced)

  fair_long : (beats : ℕ) (ns : List Note) → All (Fair H.delta beats) ns → All Long ns
  fair_long beats ns a = all_imp (Fair H.delta beats) Long ns (λ n f. f.order) a

  module _ (t : Take) (s : Solid H.delta t) where
    -- a solid take's notes are those of its lanes, one after the other
    pub notes-lanes : notes_of H t ≡ gather (λ l. notes_of H (lane_of l t)) lanes
    notes-lanes =
        notes-walk t s
        ∙ ap₂ (λ (ns : List Note) (cs : List Cell). merge ns (walk H false cs))
        (sym (tidy_lanes (λ n. n.lane) (first_beat H.delta) (note_to H.delta) t.beats t.inner (notes_tidy H.delta z t s)))
        (sym (tidy_lanes (λ c. c.lane) (λ c. c.beat) cell_to t.beats t.cells (cells_tidy H.delta z t s)))
        ∙ ap (merge (gather (λ l. notes_at l t.inner) lanes)) (walk-lanes H le (λ l. cells_at l t.cells) (λ l. (solid_lane H.delta t s l).cells_pieced) (λ l. cells_on l t.cells) 2048 0)
        ∙ merge-lanes (λ l. notes_at l t.inner) (λ l. walk H false (cells_at l t.cells))
        (λ l. (notes_on l t.inner, fair_long t.beats (notes_at l t.inner) (solid_lane H.delta t s l).notes_fair))
        (λ l. let r = solid_lane H.delta t s l in (
          walk-lane H l (cells_at l t.cells) false (cells_on l t.cells),
          fair_long t.beats (walk H false (cells_at l t.cells)) (walk_fair H t.beats z r.cells_pieced r.cells_fine r.cells-apart false),
        )) 2048 0
        ∙ gather_same _ _ lanes (λ l. sym (notes-walk (lane_of l t) (solid_lane H.delta t s l)))

    lane_notes_on : (l : ℕ) → NotesOn l (notes_of H (lane_of l t))
    lane_notes_on l =
        rw (notes-walk (lane_of l t) (solid_lane H.delta t s l))
        (all-merge (λ n. n.lane ≡ l) (notes_at l t.inner) (walk H false (cells_at l t.cells)) (notes_on l t.inner) (walk-lane H l (cells_at l t.cells) false (cells_on l t.cells)))

    -- what of its notes is in a lane are the notes of that lane
    pub lane_notes : (l : ℕ) → l < 2048 → notes_at l (notes_of H t) ≡ notes_of H (lane_of l t)
    lane_notes l b =
        ap (notes_at l) notes-lanes
        ∙ keep-gather (λ n. eqb n.lane l) (λ m. notes_of H (lane_of m t)) lanes
        ∙ gather-one (λ m. notes_at l (notes_of H (lane_of m t))) 2048 0 l (omega arith) (omega arith)
        (λ m d. keep_no (λ n. eqb n.lane l) (notes_of H (lane_of m t)) (all_imp (λ n. n.lane ≡ m) (λ n. eqb n.lane l ≡ false) (notes_of H (lane_of m t)) (λ n e. ne_eqb n.lane l (λ f. d (sym e ∙ f))) (lane_notes_on m)))
        ∙ keep_yes (λ n. eqb n.lane l) (notes_of H (lane_of l t)) (all_imp (λ n. n.lane ≡ l) (λ n. eqb n.lane l ≡ true) (notes_of H (lane_of l t)) (λ n. eq-eqb n.lane l) (lane_notes_on l))

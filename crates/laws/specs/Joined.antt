-- The notes of two solid takes of one lane, one behind the other: those of both, and on the line between them what the binding rules decide.
-- Assumes nothing.
use Rattle.std.specs.Prelude.{Bool, ◌≡◌, ◌*◌, ◌+◌, ◌<◌, ◌≤◌, suc, ℕ, length}
use Rattle.std.proofs.Math.Bool.{false, true}
use mathlib.Core.List.{List, [], ◌++◌, ◌∷◌, append-nil, map}
use Rattle.std.proofs.Common.{◌∙◌, ap, ap₂, length-append, eq-eqb, ne_eqb}
use Rattle.std.proofs.Math.Path.{refl, sym}
use native.Mathlib.Omega.{arith}
use Rattle.model.specs.Binding.{bound_next, line_notes, stands_alone}
use Rattle.model.specs.Lists.{cons_if}
use Rattle.model.specs.Takes.{Take, merge, notes_of}
use Rattle.model.specs.declared.Cell.{Cell}
use Rattle.model.specs.declared.Header.{Header}
use Rattle.model.specs.declared.Note.{Note}
use Rattle.laws.specs.CutLines.{joined}
use Rattle.laws.specs.Lists.{length-map}
use Rattle.laws.specs.Merging.{merge_second}
use Rattle.laws.specs.Notes.{Away, Before, Fair, Follow, Long, above, before, later, left, right}
use Rattle.laws.specs.Order.{aways, walk_fair}
use Rattle.laws.specs.Partners.{all-parts}
use Rattle.laws.specs.Relations.{All, all_imp}
use Rattle.laws.specs.Seam.{AtLine, EndsAt, StartsAt0, at-line, bound_at_lem, bound_at, but_last-append, ending_at, join_apart, join_lane, join_over, last-append, line_end, line-start, lone, one, own_ending, own_starting, seam_of, starting_at0}
use Rattle.laws.specs.SeamLanes.{AllBefore, CellsOn, NotesOn, merge-apart, merge_later, notes-walk, walk-lane}
use Rattle.laws.specs.SeamWalk.{Free, Goes, Opened, cell_later, last-all, last_or, note_later, opened, walk-bound, walk_free, walk_later}
use Rattle.laws.specs.Solid.{Fine, Solid}
use Rattle.laws.specs.Walk.{line_walk, walk}

-- ---- two takes of one lane

-- The second take behind the first.
abbrev pub behind : ℕ → Take → Take → Take
behind δ t u = record {
  beats = t.beats + u.beats;
  inner = t.inner ++ map (note_later (t.beats * δ)) u.inner;
  cells = t.cells ++ map (cell_later t.beats) u.cells;
}

-- A solid take with notes and cells of lane l only.
pub record OneLane (δ l : ℕ) (t : Take) : Type 0 where
  pub solid : Solid δ t
  pub notes_there : NotesOn l t.inner
  pub cells_there : CellsOn l t.cells

-- A note goes over the line, from t, where c is its cell, to u, where d is: what the notes of both are then, and how many; it is t's last
-- note if c stands alone, and u's first if d does.
pub record Crossed (H : Header) (t u : Take) (c d : Cell) : Type 0 where
  pub notes_are : notes_of H (behind H.delta t u) ≡ join_over H (t.beats * H.delta) c d (notes_of H t) (notes_of H u)
  pub length_is : length (notes_of H (behind H.delta t u)) + (one (stands_alone H c) + one (stands_alone H d)) ≡ length (notes_of H t) + length (notes_of H u) + 1
  pub last_ends : stands_alone H c ≡ true → EndsAt (t.beats * H.delta) (notes_of H t)
  pub first_starts : stands_alone H d ≡ true → StartsAt0 (notes_of H u)

module _ (H : Header) (z : 0 < H.delta) (le : H.epsilon ≤ H.delta) (l : ℕ) (t u : Take)
    (p : OneLane H.delta l t) (q : OneLane H.delta l u) (w : OneLane H.delta l (behind H.delta t u)) where
  abbrev k : ℕ
  k = t.beats

  abbrev tick : ℕ
  tick = t.beats * H.delta

  abbrev L : Note → Note
  L = note_later (t.beats * H.delta)

  -- what ends at the line or before it lies before what starts there or behind it
  early_one : (n : Note) → Fair H.delta k n → n.lane ≡ l → (ms : List Note) → NotesOn l ms → All (Before n) (map L ms)
  early_one n f e [] a = tt
  early_one n f e (m ∷ ms) a =
      let h : n.end ≤ tick = f.fits in
      (before n (L m) f.order (later (e ∙ sym a.0) (omega arith)), early_one n f e ms a.1)

  early : (ns ms : List Note) → All (Fair H.delta k) ns → NotesOn l ns → NotesOn l ms → AllBefore ns (map L ms)
  early [] ms f e a = tt
  early (n ∷ ns) ms f e a = (early_one n f.0 e.0 ms a, early ns ms f.1 e.1 a)

  first_fair : All (Fair H.delta k) (walk H false t.cells)
  first_fair = walk_fair H k z p.solid.cells_pieced p.solid.cells_fine p.solid.cells-apart false

  first_on : NotesOn l (walk H false t.cells)
  first_on = walk-lane H l t.cells false p.cells_there

  -- the notes of both as merged parts
  whole_is : (ns : List Note) → walk H false (t.cells ++ map (cell_later k) u.cells) ≡ ns
      → notes_of H (behind H.delta t u) ≡ merge (t.inner ++ map L u.inner) ns
  whole_is ns e = notes-walk H z le (behind H.delta t u) w.solid ∙ ap (merge (t.inner ++ map L u.inner)) e

  first_is : notes_of H t ≡ merge t.inner (walk H false t.cells)
  first_is = notes-walk H z le t p.solid

  second_is : notes_of H u ≡ merge u.inner (walk H false u.cells)
  second_is = notes-walk H z le u q.solid

  -- not bound over the line
  apart-notes : Free H le (map (cell_later k) u.cells) t.cells → notes_of H (behind H.delta t u) ≡ join_apart tick (notes_of H t) (notes_of H u)
  apart-notes f =
      let a = walk H false t.cells in
      let b = walk H false u.cells in
      whole_is (a ++ map L b) (walk_free H le (map (cell_later k) u.cells) p.solid.cells_pieced f ∙ ap (◌++◌ a) (walk_later H k q.solid.cells_pieced false))
      ∙ merge-apart t.inner (map L u.inner) a (map L b)
      (early t.inner b p.solid.notes_fair p.notes_there (walk-lane H l u.cells false q.cells_there))
      (early a u.inner first_fair first_on q.notes_there)
      ∙ ap₂ ◌++◌ (sym first_is) (merge_later tick u.inner b ∙ ap (map L) (sym second_is))

  -- ---- bound over the line

  -- a note of the first take that lies away from one that goes over the line lies before it
  first_follow : (n j : Note) → Fair H.delta k n → n.lane ≡ j.lane → tick < j.end → Away n j → Follow n j
  first_follow n j f e h (left g) = g
  first_follow n j f e h (right (above a)) = absurd (omega arith)
  first_follow n j f e h (right (later a b)) = let o = f.order in let i : n.end ≤ tick = f.fits in absurd (omega arith)

  -- one of the second take lies behind it
  second_follow : (n j : Note) → Long n → n.lane ≡ j.lane → j.start < tick → Away (L n) j → Follow j (L n)
  second_follow n j v e h (right g) = g
  second_follow n j v e h (left (above a)) = absurd (omega arith)
  second_follow n j v e h (left (later a b)) = absurd (omega arith)

  -- The note j over the line is x up to it and m from it on.
  record Over (fs : List Note) (x m : Note) (ms : List Note) (a b : Bool) : Type 0 where
    whole : walk H false (t.cells ++ map (cell_later k) u.cells) ≡ fs ++ joined x (L m) ∷ map L ms
    first_part : walk H false t.cells ≡ fs ++ cons_if a x []
    second_part : walk H false u.cells ≡ cons_if b m ms
    first_starts : x.start < tick
    second_ends : m.start < m.end
    second_on : NotesOn l (m ∷ ms)

  module _ (fs : List Note) (x m : Note) (ms : List Note) (a b : Bool) (o : Over fs x m ms a b) where
    abbrev j : Note
    j = joined x (L m)

    over_on : NotesOn l (fs ++ j ∷ map L ms)
    over_on = rw o.whole at (walk-lane H l (behind H.delta t u).cells false w.cells_there)

    lane_is : x.lane ≡ l
    lane_is = (all-parts (λ n. n.lane ≡ l) fs (j ∷ map L ms) over_on).1.0

    away : All (λ n. Away n j) (t.inner ++ map L u.inner)
    away =
        let v = behind H.delta t u in
        let s = w.solid in
        all_imp (λ n. All (Away n) (line_notes H v.cells)) (λ n. Away n j) v.inner
        (λ n c. (all-parts (Away n) fs (j ∷ map L ms) (rw (line_walk H le s.cells_pieced, o.whole) at c)).1.0)
        (aways H z le v s v.inner s.notes_fair s.notes-inside s.all-clear)

    firsts : All (λ n. Follow n j) t.inner
    firsts = go t.inner p.solid.notes_fair p.notes_there (all-parts (λ n. Away n j) t.inner (map L u.inner) away).0
      where
        go : (ns : List Note) → All (Fair H.delta k) ns → NotesOn l ns → All (λ n. Away n j) ns → All (λ n. Follow n j) ns
        go [] f e c = tt
        go (n ∷ ns) f e c =
            let h = o.second_ends in
            (first_follow n j f.0 (e.0 ∙ sym lane_is) (omega arith) c.0, go ns f.1 e.1 c.1)

    seconds : All (λ n. Follow j (L n)) u.inner
    seconds = go u.inner q.solid.notes_fair q.notes_there (all-parts (λ n. Away n j) t.inner (map L u.inner) away).1
      where
        go : (ns : List Note) → All (Fair H.delta u.beats) ns → NotesOn l ns → All (λ n. Away n j) (map L ns) → All (λ n. Follow j (L n)) ns
        go [] f e c = tt
        go (n ∷ ns) f e c = (second_follow n j f.0.order (e.0 ∙ sym lane_is) o.first_starts c.0, go ns f.1 e.1 c.1)

    -- all that lies up to the line, and all that lies behind it
    abbrev ups : List Note
    ups = merge t.inner fs

    abbrev downs : List Note
    downs = merge u.inner ms

    over_whole : notes_of H (behind H.delta t u) ≡ ups ++ j ∷ map L downs
    over_whole =
        let fair-fs = (all-parts (Fair H.delta k) fs (cons_if a x []) (rw o.first_part at first_fair)).0 in
        whole_is (fs ++ j ∷ map L ms) o.whole
        ∙ merge-apart t.inner (map L u.inner) fs (j ∷ map L ms) (before_all t.inner p.solid.notes_fair p.notes_there firsts)
        (early fs u.inner fair-fs (all-parts (λ n. n.lane ≡ l) fs (j ∷ map L ms) over_on).0 q.notes_there)
        ∙ ap (◌++◌ ups) (merge_second j (map L u.inner) (map L ms) (behind-all u.inner seconds) ∙ ap (◌∷◌ j) (merge_later tick u.inner ms))
      where
        before_all : (ns : List Note) → All (Fair H.delta k) ns → NotesOn l ns → All (λ n. Follow n j) ns → AllBefore ns (j ∷ map L ms)
        before_all [] f e c = tt
        before_all (n ∷ ns) f e c = ((before n j f.0.order c.0, early_one n f.0 e.0 ms o.second_on.1), before_all ns f.1 e.1 c.1)

        behind-all : (ns : List Note) → All (λ n. Follow j (L n)) ns → All (Before j) (map L ns)
        behind-all [] c = tt
        behind-all (n ∷ ns) c = let h = o.second_ends in let i = o.first_starts in (before j (L n) (omega arith) c.0, behind-all ns c.1)

    over_first : notes_of H t ≡ ups ++ cons_if a x []
    over_first =
        first_is ∙ ap (merge t.inner) o.first_part
        ∙ sym (ap (λ (ns : List Note). merge ns (fs ++ cons_if a x [])) (append-nil t.inner))
        ∙ merge-apart t.inner [] fs (cons_if a x []) (before_all t.inner p.solid.notes_fair firsts) (none fs) ∙ unfold merge in refl
      where
        to-x : (n : Note) → Follow n j → Follow n x
        to-x n (above h) = above h
        to-x n (later e h) = later e h

        before-one : (a : Bool) (n : Note) → Long n → Follow n j → All (Before n) (cons_if a x [])
        before-one true n v c = (before n x v (to-x n c), tt)
        before-one false n v c = tt

        before_all : (ns : List Note) → All (Fair H.delta k) ns → All (λ n. Follow n j) ns → AllBefore ns (cons_if a x [])
        before_all [] f c = tt
        before_all (n ∷ ns) f c = (before-one a n f.0.order c.0, before_all ns f.1 c.1)

        none : (ns : List Note) → AllBefore ns []
        none [] = tt
        none (n ∷ ns) = (tt, none ns)

    over_second : notes_of H u ≡ cons_if b m downs
    over_second = second_is ∙ ap (merge u.inner) o.second_part ∙ go b
      where
        to-m : (n : Note) → n.lane ≡ l → Follow j (L n) → Follow m n
        to-m n e (above h) = let i = lane_is in absurd (omega arith)
        to-m n e (later i h) = let g : m.lane ≡ l = o.second_on.0 in later (g ∙ sym e) (omega arith)

        before_all : (ns : List Note) → NotesOn l ns → All (λ n. Follow j (L n)) ns → All (Before m) ns
        before_all [] e c = tt
        before_all (n ∷ ns) e c = (before m n o.second_ends (to-m n e.0 c.0), before_all ns e.1 c.1)

        go : (b : Bool) → merge u.inner (cons_if b m ms) ≡ cons_if b m downs
        go true = merge_second m u.inner ms (before_all u.inner q.notes_there seconds)
        go false = refl

    -- c and d are the cells at the line, and say which of the notes are there
    over_join : (c d : Cell) → stands_alone H c ≡ a → stands_alone H d ≡ b → (a ≡ false → x ≡ ending_at tick c) → (b ≡ false → m ≡ starting_at0 d)
        → notes_of H (behind H.delta t u) ≡ join_over H tick c d (notes_of H t) (notes_of H u)
    unfolding join_over
    over_join c d e f g h = over_whole ∙ sym (rw (over_first, over_second) (go a b e f g h ups downs))
      where
        go : (a b : Bool) → stands_alone H c ≡ a → stands_alone H d ≡ b → (a ≡ false → x ≡ ending_at tick c) → (b ≡ false → m ≡ starting_at0 d)
            → (ns ds : List Note) → join_over H tick c d (ns ++ cons_if a x []) (cons_if b m ds) ≡ ns ++ j ∷ map L ds
        go true true e f g h ns ds = rw (e, f, but_last-append ns x, last-append (ending_at tick c) ns x)
        go true false e f g h ns ds = rw (e, f, but_last-append ns x, last-append (ending_at tick c) ns x, h refl)
        go false true e f g h ns ds = rw (e, f, append-nil ns, g refl)
        go false false e f g h ns ds = rw (e, f, append-nil ns, g refl, h refl)

    -- one note more, and one less for each of the two cells that stands alone
    over_length : length (notes_of H (behind H.delta t u)) + (one a + one b) ≡ length (notes_of H t) + length (notes_of H u) + 1
    over_length = rw (over_whole, over_first, over_second) (go a b)
      where
        go : (a b : Bool) → length (ups ++ j ∷ map L downs) + (one a + one b) ≡ length (ups ++ cons_if a x []) + length (cons_if b m downs) + 1
        go true true = simp (length-append, length-map) (omega arith)
        go true false = simp (length-append, length-map) (omega arith)
        go false true = simp (length-append, length-map) (omega arith)
        go false false = simp (length-append, length-map) (omega arith)

  crossed : (fs : List Note) (x m : Note) (ms : List Note) (c d : Cell) → Over fs x m ms (stands_alone H c) (stands_alone H d)
      → x.end ≡ tick → m.start ≡ 0
      → (stands_alone H c ≡ false → x ≡ ending_at tick c) → (stands_alone H d ≡ false → m ≡ starting_at0 d) → Crossed H t u c d
  crossed fs x m ms c d o i k g h =
      let a = stands_alone H c in
      let b = stands_alone H d in
      record {
        notes_are = over_join fs x m ms a b o c d refl refl g h;
        length_is = over_length fs x m ms a b o;
        last_ends = λ e. record { front = merge t.inner fs; note = x; notes_are = over_first fs x m ms a b o ∙ rw e; end_is = i };
        first_starts = λ e. record { note = m; rest = merge u.inner ms; notes_are = over_second fs x m ms a b o ∙ rw e; start_is = k };
      }

-- A take from its parts.
abbrev take_with : ℕ → List Note → List Cell → Take
take_with n ns cs = record { beats = n; inner = ns; cells = cs }

module _ (H : Header) (z : 0 < H.delta) (le : H.epsilon ≤ H.delta) (l n : ℕ) (ti : List Note) (m : ℕ) (ui : List Note) where
  -- Both are of one lane, and so is the second behind the first.
  record Lanes (cs ds : List Cell) : Type 0 where
    first : OneLane H.delta l (take_with n ti cs)
    second : OneLane H.delta l (take_with m ui ds)
    both : OneLane H.delta l (behind H.delta (take_with n ti cs) (take_with m ui ds))

  abbrev Law : List Cell → List Cell → Type 0
  Law cs ds = notes_of H (behind H.delta (take_with n ti cs) (take_with m ui ds)) ≡ join_lane H n (notes_of H (take_with n ti cs)) cs (notes_of H (take_with m ui ds)) ds

  module _ (c : Cell) (cs : List Cell) (d : Cell) (ds : List Cell) (s : Lanes (c ∷ cs) (d ∷ ds)) where
    abbrev x : Cell
    x = last_or c cs

    is_bound : bound_next H x (map (cell_later n) (d ∷ ds)) ≡ bound_at H n x d
    is_bound =
        bound_at_lem H n x d ds (last-all (λ y. y.lane ≡ l) c cs s.first.cells_there ∙ sym s.second.cells_there.0)
        (last-all (Fine H.delta n) c cs s.first.solid.cells_fine).beat_below

    abbrev After : Opened H le d ds → Type 0
    After o = Goes H le (map (cell_later n) (d ∷ ds)) false x (c ∷ cs) (note_later (n * H.delta) o.note) (map (note_later (n * H.delta)) o.rest)

    over_from : AtLine H n x d → (o : Opened H le d ds) → After o → Crossed H (take_with n ti (c ∷ cs)) (take_with m ui (d ∷ ds)) x d
    over_from line o g =
        let v : Solid H.delta (take_with m ui (d ∷ ds)) = s.second.solid in
        let o' : Over H z le l (take_with n ti (c ∷ cs)) (take_with m ui (d ∷ ds)) s.first s.second s.both g.front g.note o.note o.rest (stands_alone H x) (stands_alone H d) = record {
          whole = g.whole;
          first_part = g.part;
          second_part = o.unheld;
          first_starts = starts (stands_alone H x) refl g.part;
          second_ends = (rw o.held at (walk_fair H m z v.cells_pieced v.cells_fine v.cells-apart true)).0.order;
          second_on = rw o.held at (walk-lane H l (d ∷ ds) true s.second.cells_there);
        } in
        crossed H z le l (take_with n ti (c ∷ cs)) (take_with m ui (d ∷ ds)) s.first s.second s.both g.front g.note o.note o.rest x d o' (g.end_is ∙ line_end H n x d line) (o.start_is ∙ line-start H n x d line) (λ i. g.short i ∙ own_ending H n x d line) (λ i. o.short i ∙ own_starting H n x d line)
      where
        starts : (a : Bool) → stands_alone H x ≡ a → walk H false (c ∷ cs) ≡ g.front ++ cons_if a g.note [] → g.note.start < n * H.delta
        starts true e w =
            let t : Solid H.delta (take_with n ti (c ∷ cs)) = s.first.solid in
            let a = (all-parts (Fair H.delta n) g.front (g.note ∷ []) (rw w at (walk_fair H n z t.cells_pieced t.cells_fine t.cells-apart false))).1.0 in
            let b = a.order in
            let i : g.note.end ≤ n * H.delta = a.fits in
            omega arith
        starts false e w =
            let f : Fine H.delta n x = last-all (Fine H.delta n) c cs s.first.solid.cells_fine in
            let side = line.closes in
            let b : 0 < x.before = f.close_ticks (ne_eqb x.side 0 (omega arith)) in
            let i : suc x.beat * H.delta ≡ n * H.delta = ap (λ (k : ℕ). k * H.delta) line.last_beat in
            rw (g.short e ∙ own_ending H n x d line) (omega arith)

    over_law : bound_at H n x d ≡ true → Crossed H (take_with n ti (c ∷ cs)) (take_with m ui (d ∷ ds)) x d
    over_law e =
        let line = at-line H n x d e in
        let o = opened H le s.second.solid.cells_pieced (eq-eqb d.side 0 line.opens) in
        over_from line o (walk-bound H le (map (cell_later n) (d ∷ ds)) (note_later (n * H.delta) o.note) (map (note_later (n * H.delta)) o.rest) s.first.solid.cells_pieced (is_bound ∙ e)
        (walk_later H n s.second.solid.cells_pieced true ∙ ap (map (note_later (n * H.delta))) o.held))

  lane_cases : (cs ds : List Cell) → Lanes cs ds → Law cs ds
  unfolding join_lane
  lane_cases [] ds s = apart-notes H z le l (take_with n ti []) (take_with m ui ds) s.first s.second s.both tt
  lane_cases (c ∷ cs) [] s = apart-notes H z le l (take_with n ti (c ∷ cs)) (take_with m ui []) s.first s.second s.both (unfold bound_next in refl)
  lane_cases (c ∷ cs) (d ∷ ds) s = go (bound_at H n (last_or c cs) d) refl
    where
      go : (b : Bool) → bound_at H n (last_or c cs) d ≡ b → Law (c ∷ cs) (d ∷ ds)
      go true e = rw (e, join_lane) (over_law c cs d ds s e).notes_are
      go false e = rw (e, join_lane) (apart-notes H z le l (take_with n ti (c ∷ cs)) (take_with m ui (d ∷ ds)) s.first s.second s.both (is_bound c cs d ds s ∙ e))

  abbrev Length : List Cell → List Cell → List (Cell × Cell) → Type 0
  Length cs ds ps = length (notes_of H (behind H.delta (take_with n ti cs) (take_with m ui ds))) + lone H ps ≡ length (notes_of H (take_with n ti cs)) + length (notes_of H (take_with m ui ds)) + length ps

  apart-length : (cs ds : List Cell) → Lanes cs ds → Free H le (map (cell_later n) ds) cs → Length cs ds []
  unfolding lone
  apart-length cs ds s f =
      rw (apart-notes H z le l (take_with n ti cs) (take_with m ui ds) s.first s.second s.both f) (simp (length-append, length-map) (omega arith))

  length_cases : (cs ds : List Cell) → Lanes cs ds → Length cs ds (seam_of H n cs ds)
  unfolding seam_of
  length_cases [] ds s = apart-length [] ds s tt
  length_cases (c ∷ cs) [] s = apart-length (c ∷ cs) [] s (unfold bound_next in refl)
  length_cases (c ∷ cs) (d ∷ ds) s = go (bound_at H n (last_or c cs) d) refl
    where
      go : (b : Bool) → bound_at H n (last_or c cs) d ≡ b → Length (c ∷ cs) (d ∷ ds) (cons_if b (last_or c cs, d) [])
      go true e = let k = (over_law c cs d ds s e).length_is in unfold lone in omega arith
      go false e = apart-length (c ∷ cs) (d ∷ ds) s (is_bound c cs d ds s ∙ e)

-- the notes of two takes of one lane, one behind the other
pub lane-join : (H : Header) → 0 < H.delta → H.epsilon ≤ H.delta → (l : ℕ) (t u : Take) → OneLane H.delta l t → OneLane H.delta l u
    → OneLane H.delta l (behind H.delta t u) → notes_of H (behind H.delta t u) ≡ join_lane H t.beats (notes_of H t) t.cells (notes_of H u) u.cells
lane-join H z le l t u p q w = lane_cases H z le l t.beats t.inner u.beats u.inner t.cells u.cells (record { first = p; second = q; both = w })

-- how many there are: one more where a note goes over the line, and one less for each of its two cells there that stands alone
pub lane-length : (H : Header) → 0 < H.delta → H.epsilon ≤ H.delta → (l : ℕ) (t u : Take) → OneLane H.delta l t → OneLane H.delta l u
    → OneLane H.delta l (behind H.delta t u) → length (notes_of H (behind H.delta t u)) + lone H (seam_of H t.beats t.cells u.cells) ≡ length (notes_of H t) + length (notes_of H u) + length (seam_of H t.beats t.cells u.cells)
lane-length H z le l t u p q w = length_cases H z le l t.beats t.inner u.beats u.inner t.cells u.cells (record { first = p; second = q; both = w })

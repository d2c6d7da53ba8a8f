-- What a split leaves of a note, and one pass over notes and cells that leaves it of all notes. That it is so: Halves.
-- Assumes nothing.
use Rattle.std.specs.Prelude.{Bool, ◌&&◌, ◌||◌, ◌≡◌, ◌*◌, ◌-◌, ◌<◌, ◌≤◌, ℕ}
use Rattle.std.proofs.Math.Bool.{cond, false, true}
use Rattle.std.proofs.Common.{true≢false, ◌∙◌}
use mathlib.Core.List.{List, [], ◌++◌, ◌∷◌}
use Rattle.std.proofs.Math.Option.{Option, none, some}
use Rattle.std.proofs.Math.Path.{refl}
use Rattle.std.proofs.Math.Decide.{ℕ_discrete}
use native.Mathlib.Omega.{arith}
use Rattle.std.proofs.Math.Dec.{eqb, leb, ltb}
use borrow.Author.Tests.{eq-eqb, eqb-true, le-leb, le-ltb, leb-false, leb-true, lt-leb, lt-ltb, ltb-false, ltb-true, ne_eqb}
use Rattle.model.specs.Binding.{opening, stands_alone}
use Rattle.model.specs.Lists.{cons_if, gather}
use Rattle.model.specs.declared.Cell.{Cell}
use Rattle.model.specs.declared.Header.{Header}
use Rattle.model.specs.declared.Note.{Note}
use Rattle.laws.specs.Booleans.{and_left, and_no, and_right, or_right}
use Rattle.laws.specs.Lanes.{all_both}
use Rattle.laws.specs.Relations.{All, Pairs, all_imp}
use Rattle.laws.specs.Solid.{Apart, beat_up, lane_up, side_up}
use Rattle.laws.specs.Sweep.{earlier, skip}

-- ---- a note at a line

-- A note's parts at the line: `before` if it ends there or before it, `behind` if it starts there or behind it, else `across`, from its lane's cell on the line.
unfoldable pub cut_by : ℕ → (Note → List Note) → (Note → List Note) → (Note → Option Cell → List Note) → (ℕ → Option Cell) → Note → List Note
cut_by line before behind across at n = cond (leb n.end line) (before n) (cond (leb line n.start) (behind n) (across n (at n.lane)))

module _ (line : ℕ) (before behind : Note → List Note) (across : Note → Option Cell → List Note) (at : ℕ → Option Cell) (n : Note) where
  pub by_before : n.end ≤ line → cut_by line before behind across at n ≡ before n
  unfolding cut_by
  by_before h = rw (le-leb n.end line h)

  pub by_behind : line < n.end → line ≤ n.start → cut_by line before behind across at n ≡ behind n
  unfolding cut_by
  by_behind h i = rw (lt-leb n.end line h, le-leb line n.start i)

  pub by_across : line < n.end → n.start < line → cut_by line before behind across at n ≡ across n (at n.lane)
  unfolding cut_by
  by_across h i = rw (lt-leb n.end line h, lt-leb line n.start i)

  -- what holds of each part in the three cases
  pub by_all : (P : Note → Type 0) → (n.end ≤ line → All P (before n)) → (line < n.end → line ≤ n.start → All P (behind n))
      → (line < n.end → n.start < line → (o : Option Cell) → All P (across n o)) → All P (cut_by line before behind across at n)
  unfolding cut_by
  by_all P f g h = go (leb n.end line) refl (leb line n.start) refl
    where
      go : (t : Bool) → leb n.end line ≡ t → (u : Bool) → leb line n.start ≡ u
          → All P (cond t (before n) (cond u (behind n) (across n (at n.lane))))
      go true e u i = f (leb-true n.end line e)
      go false e true i = g (leb-false n.end line e) (leb-true line n.start i)
      go false e false i = h (leb-false n.end line e) (leb-false line n.start i) (at n.lane)

-- The note s ticks earlier.
abbrev pub note_back : ℕ → Note → Note
note_back s n = record { lane = n.lane; start = n.start - s; end = n.end - s; velocity = n.velocity }

-- What the left half has of a note that crosses line k: all up to the line, if its lane's closing cell there stands alone.
unfoldable pub cross_left : Header → ℕ → Note → Option Cell → List Note
cross_left H k n none = []
cross_left H k n (some c) = cons_if (stands_alone H c) (record { lane = n.lane; start = n.start; end = k * H.delta; velocity = n.velocity }) []

-- What the right half has of it: all from the line on, if its lane's opening cell there stands alone, with that cell's velocity.
unfoldable pub cross_right : Header → ℕ → Note → Option Cell → List Note
cross_right H k n none = []
cross_right H k n (some c) = cons_if (stands_alone H c) (record { lane = n.lane; start = 0; end = n.end - k * H.delta; velocity = c.velocity }) []

-- What the left half has of any note, and the right half.
unfoldable pub left_by : Header → ℕ → (ℕ → Option Cell) → Note → List Note
unfolding cut_by cross_left
left_by H k = cut_by (k * H.delta) (λ n. n ∷ []) (λ n. []) (cross_left H k)

unfoldable pub right_by : Header → ℕ → (ℕ → Option Cell) → Note → List Note
unfolding cut_by cross_right
right_by H k = cut_by (k * H.delta) (λ n. []) (λ n. note_back (k * H.delta) n ∷ []) (cross_right H k)

-- ---- a lane's cell on a line

-- The cell of lane l on side s of beat b.
unfoldable pub find_cell : ℕ → ℕ → ℕ → List Cell → Option Cell
find_cell l b s [] = none
find_cell l b s (c ∷ cs) = cond (eqb c.lane l && eqb c.beat b && eqb c.side s) (some c) (find_cell l b s cs)

-- The first cell, and the first closing cell of the first two.
unfoldable pub first_cell : List Cell → Option Cell
first_cell [] = none
first_cell (c ∷ cs) = some c

unfoldable pub closing_cell : List Cell → Option Cell
unfolding first_cell
closing_cell [] = none
closing_cell (c ∷ cs) = cond (opening c) (first_cell cs) (some c)

-- What the two halves have of a note, the cell on the line looked for among all cells.
unfoldable pub cut_left : Header → ℕ → List Cell → Note → List Note
unfolding left_by find_cell
cut_left H k cells = left_by H k (λ l. find_cell l (k - 1) 1 cells)

-- ---- one pass

-- The parts of notes in order of lanes: only a note across the line looks at cells, from beat b of its lane on, and those behind it look at no earlier cell.
unfoldable pub cut_from : ℕ → (Note → List Note) → (Note → List Note) → (Note → Option Cell → List Note) → (List Cell → Option Cell) → ℕ → List Note
    → List Cell → List Note
unfolding skip
cut_from line before behind across pick b [] cs = []
cut_from line before behind across pick b (n ∷ ns) cs =
    cond (leb n.end line) (before n ++ cut_from line before behind across pick b ns cs)
    (cond (leb line n.start) (behind n ++ cut_from line before behind across pick b ns cs)
    (let ds = skip n.lane b cs in across n (pick ds) ++ cut_from line before behind across pick b ns ds))

unfoldable pub cut_left_from : Header → ℕ → List Note → List Cell → List Note
unfolding cut_from cross_left closing_cell
cut_left_from H k = cut_from (k * H.delta) (λ n. n ∷ []) (λ n. []) (cross_left H k) closing_cell (k - 1)

unfoldable pub cut_right_from : Header → ℕ → List Note → List Cell → List Note
unfolding cut_from cross_right first_cell
cut_right_from H k = cut_from (k * H.delta) (λ n. []) (λ n. note_back (k * H.delta) n ∷ []) (cross_right H k) first_cell k

-- their steps, written out
module _ (H : Header) (k : ℕ) (n : Note) (ns : List Note) (cs : List Cell) where
  pub left_step : cut_left_from H k (n ∷ ns) cs
      ≡ cond (leb n.end (k * H.delta)) (n ∷ cut_left_from H k ns cs)
      (cond (leb (k * H.delta) n.start) (cut_left_from H k ns cs)
      (let ds = skip n.lane (k - 1) cs in cross_left H k n (closing_cell ds) ++ cut_left_from H k ns ds))
  unfolding cut_left_from
  left_step = refl

  pub right_step : cut_right_from H k (n ∷ ns) cs
      ≡ cond (leb n.end (k * H.delta)) (cut_right_from H k ns cs)
      (cond (leb (k * H.delta) n.start) (note_back (k * H.delta) n ∷ cut_right_from H k ns cs)
      (let ds = skip n.lane k cs in cross_right H k n (first_cell ds) ++ cut_right_from H k ns ds))
  unfolding cut_right_from
  right_step = refl

-- what lies before a beat of a lane lies before that beat of a later lane
earlier_more : (l m b : ℕ) (c : Cell) → l ≤ m → earlier l b c ≡ true → earlier m b c ≡ true
unfolding earlier
earlier_more l m b c h e = go (ltb c.lane l) refl e
  where
    go : (t : Bool) → ltb c.lane l ≡ t → t || eqb c.lane l && ltb c.beat b ≡ true
        → ltb c.lane m || eqb c.lane m && ltb c.beat b ≡ true
    go true p q = let x : c.lane < l = ltb-true c.lane l p in rw (lt-ltb c.lane m (omega arith))
    go false p q =
        let x : c.lane ≡ l = eqb-true c.lane l (and_left (eqb c.lane l) (ltb c.beat b) q) in
        let y : ltb c.beat b ≡ true = and_right (eqb c.lane l) (ltb c.beat b) q in
        elim (ℕ_discrete c.lane m) [
          | yes i ↦ or_right (ltb c.lane m) (rw (eq-eqb c.lane m i) y)
          | no i ↦ rw (lt-ltb c.lane m (omega arith))
        ]

skip-skip : (l m b : ℕ) (cs : List Cell) → l ≤ m → skip m b (skip l b cs) ≡ skip m b cs
unfolding skip
skip-skip l m b [] h = refl
skip-skip l m b (c ∷ cs) h = go (earlier l b c) refl (skip-skip l m b cs h)
  where
    go : (t : Bool) → earlier l b c ≡ t → skip m b (skip l b cs) ≡ skip m b cs → skip m b (skip l b (c ∷ cs)) ≡ skip m b (c ∷ cs)
    go true e ih = rw (e, skip, earlier_more l m b c h e) ih
    go false e ih = rw (e, skip)

module _ (line : ℕ) (before behind : Note → List Note) (across : Note → Option Cell → List Note) (pick : List Cell → Option Cell) (b : ℕ) where
  -- the cell that a note of lane l sees
  abbrev sees : List Cell → ℕ → Option Cell
  sees cs l = pick (skip l b cs)

  -- a note of a later lane sees the same from a later cell on
  sees_later : (l : ℕ) (cs : List Cell) (ns : List Note) → All (λ n. l ≤ n.lane) ns
      → gather (cut_by line before behind across (sees (skip l b cs))) ns ≡ gather (cut_by line before behind across (sees cs)) ns
  unfolding cut_by
  sees_later l cs [] a = refl
  sees_later l cs (n ∷ ns) a = rw (skip-skip l n.lane b cs a.0, sees_later l cs ns a.1)

  -- the one pass leaves what is left of each note
  pub from-gather : (ns : List Note) (cs : List Cell) → Pairs (λ n m. n.lane ≤ m.lane) ns
      → cut_from line before behind across pick b ns cs ≡ gather (cut_by line before behind across (sees cs)) ns
  unfolding cut_from cut_by
  from-gather [] cs s = refl
  from-gather (n ∷ ns) cs s =
      rw (from-gather ns cs s.1, from-gather ns (skip n.lane b cs) s.1, sees_later n.lane cs ns s.0)
      (go (leb n.end line) (leb line n.start) (before n) (behind n) (across n (sees cs n.lane)) (gather (cut_by line before behind across (sees cs)) ns))
    where
      go : (t u : Bool) (x y w ms : List Note) → cond t (x ++ ms) (cond u (y ++ ms) (w ++ ms)) ≡ cond t x (cond u y w) ++ ms
      go true u x y w ms = refl
      go false true x y w ms = refl
      go false false x y w ms = refl

-- ---- the cell on the line is found

-- What is looked up for a lane is its cell on side s of beat b.
abbrev pub Found : (ℕ → Option Cell) → ℕ → ℕ → Cell → Type 0
Found at b s c = c.beat ≡ b → c.side ≡ s → at c.lane ≡ some c

module _ (δ : ℕ) where
  -- the order of two cells, in numbers
  record Behind (c d : Cell) : Type 0 where
    lane-from : c.lane ≤ d.lane
    beat_from : c.lane ≡ d.lane → c.beat ≤ d.beat
    sides : c.lane ≡ d.lane → c.beat ≡ d.beat → (c.side ≡ 0) × (d.side ≡ 1)

  is_behind : (c d : Cell) → Apart δ c d → Behind c d
  is_behind c d (lane_up a) = record { lane-from = omega arith; beat_from = λ e. absurd (omega arith); sides = λ e f. absurd (omega arith) }
  is_behind c d (beat_up a b) = record { lane-from = omega arith; beat_from = λ e. omega arith; sides = λ e f. absurd (omega arith) }
  is_behind c d (side_up a b o p i) = record { lane-from = omega arith; beat_from = λ e. omega arith; sides = λ e f. (o, p) }

  find_other : (c d : Cell) (cs : List Cell) → Behind c d
      → find_cell d.lane d.beat d.side (c ∷ cs) ≡ find_cell d.lane d.beat d.side cs
  unfolding find_cell
  find_other c d cs a = go (eqb c.lane d.lane) refl (eqb c.beat d.beat) refl (eqb c.side d.side) refl
    where
      go : (t : Bool) → eqb c.lane d.lane ≡ t → (u : Bool) → eqb c.beat d.beat ≡ u → (v : Bool) → eqb c.side d.side ≡ v
          → cond (t && u && v) (some c) (find_cell d.lane d.beat d.side cs) ≡ find_cell d.lane d.beat d.side cs
      go true p true q true r =
          let s : c.side ≡ d.side = eqb-true c.side d.side r in
          let w = a.sides (eqb-true c.lane d.lane p) (eqb-true c.beat d.beat q) in
          absurd (omega arith)
      go true p true q false r = refl
      go true p false q v r = refl
      go false p u q v r = refl

  find_own : (cs : List Cell) → Pairs (Apart δ) cs → All (λ d. find_cell d.lane d.beat d.side cs ≡ some d) cs
  unfolding find_cell
  find_own [] s = tt
  find_own (c ∷ cs) s = (
    rw (eq-eqb c.lane c.lane refl, eq-eqb c.beat c.beat refl, eq-eqb c.side c.side refl),
    all_imp (λ d. Apart δ c d × (find_cell d.lane d.beat d.side cs ≡ some d)) (λ d. find_cell d.lane d.beat d.side (c ∷ cs) ≡ some d) cs
        (λ d a. find_other c d cs (is_behind c d a.0) ∙ a.1) (all_both (Apart δ c) (λ d. find_cell d.lane d.beat d.side cs ≡ some d) cs s.0 (find_own cs s.1)),
  )

  -- looked for among all cells
  pub find_found : (b s : ℕ) (cs : List Cell) → Pairs (Apart δ) cs → All (Found (λ l. find_cell l b s cs) b s) cs
  find_found b s cs a = all_imp (λ d. find_cell d.lane d.beat d.side cs ≡ some d) (Found (λ l. find_cell l b s cs) b s) cs (λ d e p q. rw (← p, ← q) e) (find_own cs a)

  -- d is the first of the cells behind c, if it is of c's beat.
  abbrev Next : Cell → List Cell → Cell → Type 0
  Next c cs d = c.lane ≡ d.lane → c.beat ≡ d.beat → first_cell cs ≡ some d

  beat_next : (c : Cell) (cs : List Cell) → All (Apart δ c) cs → Pairs (Apart δ) cs → All (Next c cs) cs
  unfolding first_cell
  beat_next c [] a s = tt
  beat_next c (e ∷ es) a s = ((λ l b. refl), all_imp (Apart δ e) (Next c (e ∷ es)) es (λ d x l b. absurd (between d (is_behind c e a.0) (is_behind e d x) l b)) s.0)
    where
      between : (d : Cell) → Behind c e → Behind e d → c.lane ≡ d.lane → c.beat ≡ d.beat → ⊥
      between d x y l b =
          let lx = x.lane-from in
          let ly = y.lane-from in
          let bx : c.beat ≤ e.beat = x.beat_from (omega arith) in
          let by : e.beat ≤ d.beat = y.beat_from (omega arith) in
          let sx = x.sides (omega arith) (omega arith) in
          let sy = y.sides (omega arith) (omega arith) in
          omega arith

  own_beat : (l b : ℕ) (c : Cell) → c.lane ≡ l → c.beat ≡ b → earlier l b c ≡ false
  unfolding earlier
  own_beat l b c p q = rw (le-ltb c.lane l (omega arith)) (and_no (eqb c.lane l) (ltb c.beat b) (le-ltb c.beat b (omega arith)))

  -- A cell that lies before another, and not before its beat, is of its beat.
  same_beat : (c d : Cell) → Behind c d → earlier d.lane d.beat c ≡ false → (c.lane ≡ d.lane) × (c.beat ≡ d.beat)
  unfolding earlier
  same_beat c d a e = go (ltb c.lane d.lane) refl e
    where
      go : (t : Bool) → ltb c.lane d.lane ≡ t → t || eqb c.lane d.lane && ltb c.beat d.beat ≡ false
          → (c.lane ≡ d.lane) × (c.beat ≡ d.beat)
      go true p q = absurd (true≢false q)
      go false p q =
          let x : d.lane ≤ c.lane = ltb-false c.lane d.lane p in
          let y = a.lane-from in
          let l : c.lane ≡ d.lane = omega arith in
          let u : d.beat ≤ c.beat = ltb-false c.beat d.beat (rw (eq-eqb c.lane d.lane l) at q) in
          let v : c.beat ≤ d.beat = a.beat_from l in
          (l, omega arith)

  -- From its own beat on, a closing cell is the first closing cell of the first two, and an opening cell the first.
  record Seen (cs : List Cell) (d : Cell) : Type 0 where
    closing_seen : d.side ≡ 1 → closing_cell (skip d.lane d.beat cs) ≡ some d
    opening_seen : d.side ≡ 0 → first_cell (skip d.lane d.beat cs) ≡ some d

  skip-own : (cs : List Cell) → Pairs (Apart δ) cs → All (Seen cs) cs
  unfolding skip first_cell closing_cell
  skip-own [] s = tt
  skip-own (c ∷ cs) s = (
    record {
      closing_seen = λ e. rw (own_beat c.lane c.beat c refl refl, skip, ne_eqb c.side 0 (omega arith));
      opening_seen = λ e. rw (own_beat c.lane c.beat c refl refl, skip);
    },
    all_imp (λ d. Apart δ c d × (Next c cs d × Seen cs d)) (Seen (c ∷ cs)) cs (λ d a. go d (is_behind c d a.0) a.1.0 a.1.1 (earlier d.lane d.beat c) refl)
        (all_both (Apart δ c) (λ d. Next c cs d × Seen cs d) cs s.0 (all_both (Next c cs) (Seen cs) cs (beat_next c cs s.0 s.1) (skip-own cs s.1))),
  )
    where
      go : (d : Cell) → Behind c d → Next c cs d → Seen cs d → (t : Bool) → earlier d.lane d.beat c ≡ t → Seen (c ∷ cs) d
      go d a n ih true e = record { closing_seen = λ f. rw (e, skip) (ih.closing_seen f); opening_seen = λ f. rw (e, skip) (ih.opening_seen f) }
      go d a n ih false e =
          let w = same_beat c d a e in
          let x = a.sides w.0 w.1 in
          record { closing_seen = λ f. rw (e, skip, eq-eqb c.side 0 x.0) (n w.0 w.1); opening_seen = λ f. absurd (omega arith) }

  -- looked for from the beat on
  pub closing_found : (b : ℕ) (cs : List Cell) → Pairs (Apart δ) cs → All (Found (λ l. closing_cell (skip l b cs)) b 1) cs
  closing_found b cs a = all_imp (Seen cs) (Found (λ l. closing_cell (skip l b cs)) b 1) cs (λ d e p q. rw (← p) (e.closing_seen q)) (skip-own cs a)

  pub opening_found : (b : ℕ) (cs : List Cell) → Pairs (Apart δ) cs → All (Found (λ l. first_cell (skip l b cs)) b 0) cs
  opening_found b cs a = all_imp (Seen cs) (Found (λ l. first_cell (skip l b cs)) b 0) cs (λ d e p q. rw (← p) (e.opening_seen q)) (skip-own cs a)

-- The notes of a solid take are in range, in order and do not overlap.
-- Assumes nothing.
use Rattle.std.specs.Prelude.{Bool, ◌&&◌, ◌||◌, cond, false, ◌≡◌, ◌*◌, ◌<◌, ◌≤◌, suc, ℕ}
use Rattle.std.proofs.Math.Bool.{true}
use Rattle.std.proofs.Common.{true≢false, arith, eqb-true}
use mathlib.Core.List.{List, [], ◌∷◌}
use Rattle.std.proofs.Math.Path.{refl, sym}
use Rattle.std.proofs.Math.Decide.{ℕ_discrete}
use Rattle.std.proofs.Math.Dec.{eqb}
use Rattle.model.specs.Binding.{bound, bound_next, end_of, fills, go_on, line_notes, meet, stands_alone, start_of}
use Rattle.model.specs.Pieces.{first_beat, inside}
use Rattle.model.specs.Soundness.{filled, notes_ok}
use Rattle.model.specs.Takes.{Take, merge, notes_of}
use Rattle.model.specs.declared.Cell.{Cell}
use Rattle.model.specs.declared.Header.{Header}
use Rattle.model.specs.declared.Note.{Note}
use Rattle.laws.specs.Beats.{inside_high, inside_low}
use Rattle.laws.specs.Booleans.{and_left, or_right}
use Rattle.laws.specs.Lines.{meet-line}
use Rattle.laws.specs.Merging.{all-merge, merge-pairs}
use Rattle.laws.specs.Notes.{Away, Fair, Follow, Long, above, follow_end, later, left, pairs_ok, right}
use Rattle.laws.specs.Relations.{All, Pairs, all_imp}
use Rattle.laws.specs.Rules.{Pair, Pieced, double, own, single, span, stop}
use Rattle.laws.specs.Solid.{Apart, Clear, Fine, Solid}
use Rattle.laws.specs.Spans.{away_double, away_single, double_gap, first-from, single_gap, spans_double, spans_single}
use Rattle.laws.specs.Walk.{line_walk, walk, walk_double, walk_single}

-- ---- one piece in front of the notes behind it

abbrev Begins : ℕ → ℕ → List Note → Type 0
Begins l s [] = ⊥
Begins l s (m ∷ ms) = (m.lane ≡ l) × (m.start ≡ s)

data Beyond (l s : ℕ) (n : Note) : Type 0 where
  up : l < n.lane → Beyond l s n
  on : l ≡ n.lane → s ≤ n.start → Beyond l s n

record Out (δ beats l s : ℕ) (held : Bool) (ns : List Note) : Type 0 where
  fair_all : All (Fair δ beats) ns
  pairs : Pairs Follow ns
  beyond : All (Beyond l s) ns
  begins : held ≡ true → Begins l s ns

follow_beyond : (p n : Note) → p.start < p.end → Follow p n → Beyond p.lane p.start n
follow_beyond p n v (above a) = up a
follow_beyond p n v (later a b) = on a (omega arith)

module _ (δ beats : ℕ) where
  step : (p : Note) (ns : List Note) (on-it shown held : Bool) → Fair δ beats p → (held ≡ true → shown ≡ true) → All (Follow p) ns
      → All (Fair δ beats) ns → Pairs Follow ns
      → (on-it ≡ true → Begins p.lane p.end ns) → Out δ beats p.lane p.start held (cond on-it (go_on p ns) (cond shown (p ∷ ns) ns))
  step p [] true shown held f h a b c d = absurd (d refl)
  step p (m ∷ ms) true shown held f h a b c d =
      let g : Fair δ beats m = b.0 in
      let l : m.lane ≡ p.lane = (d refl).0 in
      let s : m.start ≡ p.end = (d refl).1 in
      let o : p.start < p.end = f.order in
      let o2 : m.start < m.end = g.order in
      let q : Note = record { lane = p.lane; start = p.start; end = m.end; velocity = p.velocity } in
      record {
        fair_all = (record { lane_below = f.lane_below; order = omega arith; fits = g.fits; loud = f.loud }, b.1);
        pairs = (all_imp (Follow m) (Follow q) ms (λ x. follow_end m q x l refl) c.0, c.1);
        beyond = (on refl (omega arith), all_imp (Follow p) (Beyond p.lane p.start) ms (λ x. follow_beyond p x o) a.1);
        begins = λ e. (refl, refl);
      }
  step p ns false true held f h a b c d = record {
    fair_all = (f, b);
    pairs = (a, c);
    beyond = (on refl (omega arith), all_imp (Follow p) (Beyond p.lane p.start) ns (λ x. follow_beyond p x f.order) a);
    begins = λ e. (refl, refl);
  }
  step p ns false false held f h a b c d = record {
    fair_all = b;
    pairs = c;
    beyond = all_imp (Follow p) (Beyond p.lane p.start) ns (λ x. follow_beyond p x f.order) a;
    begins = λ e. absurd (true≢false (sym (h e)));
  }

  -- the same for a note that lies away from the piece and from the notes behind it
  step_away : (n p : Note) (ns : List Note) (on-it shown : Bool) → n.start < n.end → Away n p → All (Away n) ns
      → (on-it ≡ true → Begins p.lane p.end ns)
      → All (Away n) (cond on-it (go_on p ns) (cond shown (p ∷ ns) ns))
  step_away n p [] true shown v a b d = absurd (d refl)
  step_away n p (m ∷ ms) true shown v a b d = (go a b.0, b.1)
    where
      q : Note
      q = record { lane = p.lane; start = p.start; end = m.end; velocity = p.velocity }

      l : m.lane ≡ p.lane
      l = (d refl).0

      s : m.start ≡ p.end
      s = (d refl).1

      go : Away n p → Away n m → Away n q
      go (left (above x)) y = left (above x)
      go (left (later x y)) z = left (later x y)
      go (right x) (right y) = right (follow_end m q n l refl y)
      go (right (above x)) (left y) = right (above x)
      go (right (later x y)) (left (above w)) = absurd (omega (arith, l, s))
      go (right (later x y)) (left (later w u)) = absurd (omega (arith, l, s))
  step_away n p ns false true v a b d = (a, b)
  step_away n p ns false false v a b d = b

-- ---- the walk's notes

module _ (H : Header) (beats : ℕ) (z : 0 < H.delta) where
  -- what lies behind a piece follows it
  abbrev Outs : Bool → List Cell → List Note → Type 0
  Outs held [] ns = ns ≡ []
  Outs held (c ∷ cs) ns = Out H.delta beats c.lane (start_of H.delta c) held ns

  outs_fair : (held : Bool) (cs : List Cell) (ns : List Note) → Outs held cs ns → All (Fair H.delta beats) ns
  outs_fair held [] ns o = rw o tt
  outs_fair held (c ∷ cs) ns o = o.fair_all

  outs_pairs : (held : Bool) (cs : List Cell) (ns : List Note) → Outs held cs ns → Pairs Follow ns
  outs_pairs held [] ns o = rw o tt
  outs_pairs held (c ∷ cs) ns o = o.pairs

  beyond_follow : (p n : Note) (l s : ℕ) → (l ≡ p.lane → p.end ≤ s) → p.lane ≤ l → Beyond l s n → Follow p n
  beyond_follow p n l s h k (up a) = above (omega arith)
  beyond_follow p n l s h k (on a b) = elim (ℕ_discrete l p.lane) [
    | yes e ↦ let m : p.end ≤ s = h e in later (omega arith) (omega arith)
    | no d ↦ above (omega arith)
  ]

  -- only the first cell behind is needed
  abbrev FirstGap : Note → List Cell → Type 0
  FirstGap p [] = Unit {0}
  FirstGap p (e ∷ es) = (p.lane ≤ e.lane) × (e.lane ≡ p.lane → p.end ≤ start_of H.delta e)

  follow_first : (p : Note) (held : Bool) (cs : List Cell) (ns : List Note) → Outs held cs ns → FirstGap p cs → All (Follow p) ns
  follow_first p held [] ns o a = rw o tt
  follow_first p held (e ∷ es) ns o a = all_imp (Beyond e.lane (start_of H.delta e)) (Follow p) ns (λ n. beyond_follow p n e.lane (start_of H.delta e) a.1 a.0) o.beyond

  gap_single : (c : Cell) (cs : List Cell) → fills H.delta c ≡ false → filled H.delta c ≡ false → Fine H.delta beats c
      → All (Fine H.delta beats) cs → Pieced H.delta cs → All (Apart H.delta c) cs → FirstGap (own H.delta c) cs
  unfolding own
  gap_single c [] f g k ks p a = tt
  gap_single c (e ∷ es) f g k ks p a = single_gap H.delta beats z c e f g k (first-from H.delta beats z p ks.0) a.0

  gap_double : (c d : Cell) (cs : List Cell) → Pair H.delta c d → Fine H.delta beats c → All (Fine H.delta beats) cs → Pieced H.delta cs
      → All (Apart H.delta d) cs → FirstGap (span H.delta c d) cs
  gap_double c d [] q k ks p a = tt
  gap_double c d (e ∷ es) q k ks p a = double_gap H.delta beats z c d e q k (first-from H.delta beats z p ks.0) a.0

  -- a bound piece's notes begin where it ends
  meet-lane : (c d : Cell) → meet c d ≡ true → d.lane ≡ c.lane
  unfolding meet
  meet-lane c d m =
      sym (eqb-true c.lane d.lane (and_left (eqb c.lane d.lane) (eqb c.side 1) (and_left (eqb c.lane d.lane && eqb c.side 1) (eqb d.side 0) (and_left (eqb c.lane d.lane && eqb c.side 1 && eqb d.side 0) _ m))))

  bound_begins : (c : Cell) (cs : List Cell) (ns : List Note) → Outs (bound_next H c cs) cs ns → bound_next H c cs ≡ true
      → Begins c.lane (end_of H.delta c) ns
  unfolding bound_next
  bound_begins c [] ns o e = absurd (true≢false (sym e))
  bound_begins c (d ∷ ds) ns o e =
      let m : meet c d ≡ true = and_left (meet c d) (bound H c d) e in
      let b : Begins d.lane (start_of H.delta d) ns = o.begins e in
      rw (← (meet-line H.delta z c d m), ← (meet-lane c d m)) b

  outs : {cs : List Cell} → Pieced H.delta cs → All (Fine H.delta beats) cs → Pairs (Apart H.delta) cs → (held : Bool)
      → Outs held cs (walk H held cs)
  unfolding own
  outs stop k a held = unfold walk in refl
  outs (single {c = c} {cs = cs} f g p) k a held =
      let on-it = bound_next H c cs in
      let ih : Outs on-it cs (walk H on-it cs) = outs p k.1 a.1 on-it in
      rw (walk_single H c cs held f)
      (step H.delta beats (own H.delta c) (walk H on-it cs) on-it (stands_alone H c || held) held (spans_single H.delta beats z c f g k.0).is_fair (or_right (stands_alone H c))
      (follow_first (own H.delta c) on-it cs (walk H on-it cs) ih (gap_single c cs f g k.0 k.1 p a.0))
      (outs_fair on-it cs (walk H on-it cs) ih) (outs_pairs on-it cs (walk H on-it cs) ih) (bound_begins c cs (walk H on-it cs) ih))
  outs (double {c = c} {d = d} {cs = cs} q p) k a held =
      let on-it = bound_next H d cs in
      let ih : Outs on-it cs (walk H on-it cs) = outs p k.1.1 a.1.1 on-it in
      rw (walk_double H c d cs held q)
      (step H.delta beats (span H.delta c d) (walk H on-it cs) on-it true held (spans_double H.delta beats z c d q k.0).is_fair (λ e. refl)
      (follow_first (span H.delta c d) on-it cs (walk H on-it cs) ih (gap_double c d cs q k.0 k.1.1 p a.1.0))
      (outs_fair on-it cs (walk H on-it cs) ih) (outs_pairs on-it cs (walk H on-it cs) ih) (λ e. rw (← q.lane_same) (bound_begins d cs (walk H on-it cs) ih e)))

  -- the walk's notes are in range
  pub walk_fair : {cs : List Cell} → Pieced H.delta cs → All (Fine H.delta beats) cs → Pairs (Apart H.delta) cs → (held : Bool)
      → All (Fair H.delta beats) (walk H held cs)
  walk_fair {cs} p k a held = outs_fair held cs (walk H held cs) (outs p k a held)

  -- ---- an inner note lies away from the walk's notes

  module _ (n : Note) (v : n.start < n.end) (low : first_beat H.delta n * H.delta ≤ n.start) (high : n.end ≤ suc (first_beat H.delta n) * H.delta) where
    pub away_all : {cs : List Cell} → Pieced H.delta cs → All (Fine H.delta beats) cs → Pairs (Apart H.delta) cs
        → All (Clear H.delta n) cs → (held : Bool) → All (Away n) (walk H held cs)
    unfolding own
    away_all stop k a w held = unfold walk in tt
    away_all (single {c = c} {cs = cs} f g p) k a w held =
        let on-it = bound_next H c cs in
        let o : Outs on-it cs (walk H on-it cs) = outs p k.1 a.1 on-it in
        rw (walk_single H c cs held f)
        (step_away H.delta beats n (own H.delta c) (walk H on-it cs) on-it (stands_alone H c || held) v (away_single H.delta beats z n v low high c f g k.0 w.0) (away_all p k.1 a.1 w.1 on-it) (bound_begins c cs (walk H on-it cs) o))
    away_all (double {c = c} {d = d} {cs = cs} q p) k a w held =
        let on-it = bound_next H d cs in
        let o : Outs on-it cs (walk H on-it cs) = outs p k.1.1 a.1.1 on-it in
        rw (walk_double H c d cs held q)
        (step_away H.delta beats n (span H.delta c d) (walk H on-it cs) on-it true v (away_double H.delta beats z n v low high c d q k.0 w.0) (away_all p k.1.1 a.1.1 w.1.1 on-it) (λ e. rw (← q.lane_same) (bound_begins d cs (walk H on-it cs) o e)))

module _ (H : Header) (z : 0 < H.delta) (le : H.epsilon ≤ H.delta) (t : Take) (s : Solid H.delta t) where
  line_is : line_notes H t.cells ≡ walk H false t.cells
  line_is = line_walk H le s.cells_pieced

  pub line_fair : All (Fair H.delta t.beats) (line_notes H t.cells)
  line_fair = rw line_is (walk_fair H t.beats z s.cells_pieced s.cells_fine s.cells-apart false)

  pub line-pairs : Pairs Follow (line_notes H t.cells)
  line-pairs = rw line_is (outs_pairs H t.beats z false t.cells (walk H false t.cells) (outs H t.beats z s.cells_pieced s.cells_fine s.cells-apart false))

  pub aways : (ns : List Note) → All (Fair H.delta t.beats) ns → All (λ n. inside H.delta n ≡ true) ns
      → All (λ n. All (Clear H.delta n) t.cells) ns → All (λ n. All (Away n) (line_notes H t.cells)) ns
  aways [] f i c = tt
  aways (n ∷ ns) f i c =
      let l = inside_low H.delta n i.0 in
      let h = inside_high H.delta n i.0 in
      (rw line_is (away_all H t.beats z n f.0.order (omega arith) (omega arith) s.cells_pieced s.cells_fine s.cells-apart c.0 false), aways ns f.1 i.1 c.1)

  -- its notes are in range, in order and do not overlap
  pub solid_notes : notes_ok H.delta t.beats (notes_of H t) ≡ true
  unfolding notes_of
  solid_notes =
      let ns = line_notes H t.cells in
      pairs_ok H.delta t.beats (merge t.inner ns) (all-merge (Fair H.delta t.beats) t.inner ns s.notes_fair line_fair)
      (merge-pairs t.inner ns (all_imp (Fair H.delta t.beats) Long t.inner (λ n f. f.order) s.notes_fair) (all_imp (Fair H.delta t.beats) Long ns (λ n f. f.order) line_fair)
      s.notes-apart line-pairs (aways t.inner s.notes_fair s.notes-inside s.all-clear))

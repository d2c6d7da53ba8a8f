-- The notes that cells give touch a line, so a solid take's inner notes are those of its notes that touch none.
-- Assumes nothing.
use Rattle.std.specs.Prelude.{Bool, ◌&&◌, not, ◌≡◌, leb}
use Rattle.std.proofs.Math.Bool.{cond, false, true}
use Rattle.std.proofs.Common.{true≢false, sym, div-lt_iff_lt-mul, mul-le-mul_right}
use mathlib.Core.List.{List, [], ◌∷◌}
use Rattle.std.proofs.Math.Path.{ap, refl, subst}
use Prim.Native.Nat.{◌*◌, ◌+◌, ◌-◌, ◌/◌, ◌<◌, ◌≤◌, suc, ℕ}
use Rattle.std.proofs.Math.Nat.{mul-div_left}
use native.Mathlib.Omega.{arith}
use Rattle.std.proofs.Math.Dec.{eqb, ltb}
use borrow.Author.Tests.{eqb-true, le-ltb, ltb-false, ne_eqb}
use Rattle.model.specs.Binding.{Piece, bound, bound_next, end_of, fills, first_shown, go_on, line_notes, meet, opening, pieces, runs, start_of}
use Rattle.model.specs.Lists.{keep}
use Rattle.model.specs.Pieces.{inside, inside_at}
use Rattle.model.specs.Takes.{Take, notes_of}
use Rattle.model.specs.declared.Cell.{Cell}
use Rattle.model.specs.declared.Header.{Header}
use Rattle.model.specs.declared.Note.{Note}
use Rattle.laws.specs.Booleans.{and_left, and_no, and_right}
use Rattle.laws.specs.Merging.{merge-keep, merge_other}
use Rattle.laws.specs.Relations.{All, all_cond, all_imp}
use Rattle.laws.specs.Rules.{Pieced, double, pair_close, pair_fills, single, step_fill, step_single, stop}
use Rattle.laws.specs.Solid.{Fine, Solid}

-- ---- runs of pieces that touch a line

-- The first piece starts at s.
abbrev Starts : ℕ → List Piece → Type 0
Starts s [] = Unit {0}
Starts s (p ∷ ps) = p.note.start ≡ s

-- The first note starts at s and ends there or behind it.
abbrev Begins : ℕ → List Note → Type 0
Begins s [] = ⊥
Begins s (m ∷ ms) = (m.start ≡ s) × (s ≤ m.end)

module _ (δ : ℕ) where
  abbrev pub Touches : Note → Type 0
  Touches n = inside δ n ≡ false

  -- Each piece touches a line, and one that is bound to the next ends where that starts.
  abbrev Good : List Piece → Type 0
  Good [] = Unit {0}
  Good (p ∷ ps) = Touches p.note × (p.note.start ≤ p.note.end) × (p.joined ≡ true → Starts p.note.end ps) × Good ps

module _ (δ : ℕ) (z : 0 < δ) where
  pub from-line : (b e : ℕ) → inside_at δ (b * δ) e ≡ false
  unfolding inside_at
  from-line b e = rw (mul-div_left b z, le-ltb (b * δ) (b * δ) (omega arith))

  pub to-line : (s b : ℕ) → s < suc b * δ → inside_at δ s (suc b * δ) ≡ false
  unfolding inside_at
  to-line s b h =
      let q : suc (s / δ) ≤ suc b = (div-lt_iff_lt-mul z).1 h in
      and_no (ltb (s / δ * δ) s) _ (le-ltb (suc b * δ) (suc (s / δ) * δ) (mul-le-mul_right δ q))

  pub longer : (s e f : ℕ) → inside_at δ s e ≡ false → e ≤ f → inside_at δ s f ≡ false
  unfolding inside_at
  longer s e f h l = go (ltb (s / δ * δ) s) h
    where
      go : (t : Bool) → t && ltb e (suc (s / δ) * δ) ≡ false → t && ltb f (suc (s / δ) * δ) ≡ false
      go true k = let m : suc (s / δ) * δ ≤ e = ltb-false e (suc (s / δ) * δ) k in le-ltb f (suc (s / δ) * δ) (omega arith)
      go false k = refl

  begin_step : (p : Piece) (j : Bool) (ns : List Note) → p.note.start ≤ p.note.end → (j ≡ true → Begins p.note.end ns)
      → Begins p.note.start (cond j (go_on p.note ns) (p.note ∷ ns))
  begin_step p true [] a b = absurd (b refl)
  begin_step p true (m ∷ ms) a b = let c : p.note.end ≤ m.end = (b refl).1 in (refl, omega arith)
  begin_step p false ns a b = (refl, a)

  touch_step : (p : Piece) (j : Bool) (ns : List Note) → Touches δ p.note → (j ≡ true → Begins p.note.end ns) → All (Touches δ) ns
      → All (Touches δ) (cond j (go_on p.note ns) (p.note ∷ ns))
  touch_step p true [] t b a = absurd (b refl)
  touch_step p true (m ∷ ms) t b a = (longer p.note.start p.note.end m.end t (b refl).1, a.1)
  touch_step p false ns t b a = (t, a)

  runs_begin : (p : Piece) (ps : List Piece) → Good δ (p ∷ ps) → p.shown ≡ true → Begins p.note.start (runs (p ∷ ps))
  unfolding runs
  runs_begin p [] g e = rw (e, and_no p.joined false refl) (refl, g.1)
  runs_begin p (q ∷ qs) g e =
      rw e (begin_step p (p.joined && q.shown) (runs (q ∷ qs)) g.1
      (λ f. subst (λ (s : ℕ). Begins s (runs (q ∷ qs))) (g.2 (and_left p.joined q.shown f)) (runs_begin q qs g.3 (and_right p.joined q.shown f))))

  -- what a piece that goes on in the next needs of the notes behind it
  goes_on : (p : Piece) (ps : List Piece) → Good δ (p ∷ ps) → p.joined && first_shown ps ≡ true → Begins p.note.end (runs ps)
  goes_on p [] g f = absurd (true≢false (sym (and_right p.joined false f)))
  goes_on p (q ∷ qs) g f = subst (λ (s : ℕ). Begins s (runs (q ∷ qs))) (g.2 (and_left p.joined q.shown f)) (runs_begin q qs g.3 (and_right p.joined q.shown f))

  runs_touch : (ps : List Piece) → Good δ ps → All (Touches δ) (runs ps)
  unfolding runs
  runs_touch [] g = tt
  runs_touch (p ∷ ps) g =
      all_cond (Touches δ) p.shown _ (runs ps)
      (touch_step p (p.joined && first_shown ps) (runs ps) g.0 (goes_on p ps g) (runs_touch ps g.3))
      (runs_touch ps g.3)

  -- ---- a cell's piece

  -- a cell's own piece touches a line
  own_touch : (c : Cell) → (opening c ≡ false → 0 < c.before) → inside_at δ (start_of δ c) (end_of δ c) ≡ false
  unfolding start_of end_of
  own_touch c h = go (opening c) h
    where
      go : (o : Bool) → (o ≡ false → 0 < c.before)
          → inside_at δ (cond o (c.beat * δ) (suc c.beat * δ - c.before)) (cond o (c.beat * δ + c.after) (suc c.beat * δ)) ≡ false
      go true k = from-line c.beat (c.beat * δ + c.after)
      go false k = let b : 0 < c.before = k refl in to-line (suc c.beat * δ - c.before) c.beat (omega arith)

  own-order : (c : Cell) → start_of δ c ≤ end_of δ c
  unfolding start_of end_of
  own-order c = go (opening c)
    where
      go : (o : Bool) → cond o (c.beat * δ) (suc c.beat * δ - c.before) ≤ cond o (c.beat * δ + c.after) (suc c.beat * δ)
      go true = omega arith
      go false = omega arith

  fill_start : (c : Cell) → fills δ c ≡ true → start_of δ c ≡ c.beat * δ
  unfolding start_of fills
  fill_start c e = rw (and_left (opening c) (leb δ c.after) e)

  pub close_end : (c : Cell) → opening c ≡ false → end_of δ c ≡ suc c.beat * δ
  unfolding end_of
  close_end c e = rw e

  -- cells that meet are on one line
  pub meet-line : (c d : Cell) → meet c d ≡ true → start_of δ d ≡ end_of δ c
  unfolding meet start_of
  meet-line c d m =
      let m3 = and_left (eqb c.lane d.lane && eqb c.side 1 && eqb d.side 0) (eqb d.beat (suc c.beat)) m in
      let m2 = and_left (eqb c.lane d.lane && eqb c.side 1) (eqb d.side 0) m3 in
      let b : d.beat ≡ suc c.beat = eqb-true d.beat (suc c.beat) (and_right (eqb c.lane d.lane && eqb c.side 1 && eqb d.side 0) _ m) in
      let o : opening d ≡ true = and_right (eqb c.lane d.lane && eqb c.side 1) (eqb d.side 0) m3 in
      let one : c.side ≡ 1 = eqb-true c.side 1 (and_right (eqb c.lane d.lane) (eqb c.side 1) m2) in
      rw (close_end c (ne_eqb c.side 0 (omega arith)), o, b)

-- ---- the pieces of cells

module _ (H : Header) (z : 0 < H.delta) where
  -- a closing cell has ticks before it
  abbrev Ticks : Cell → Type 0
  Ticks c = opening c ≡ false → 0 < c.before

  -- the first piece starts where its first cell's does
  first_starts : {c : Cell} {cs : List Cell} → Pieced H.delta (c ∷ cs) → (left : Bool) → Starts (start_of H.delta c) (pieces H left (c ∷ cs))
  first_starts {c} {cs} (single f g p) left = rw (step_single H c cs left f) refl
  first_starts (double {c = c} {d = d} {cs = cs} q p) left = rw (step_fill H c d cs left (pair_fills H.delta c d q) q.opens (pair_close H.delta c d q)) refl

  bound_starts : (c : Cell) (cs : List Cell) → Pieced H.delta cs → (left : Bool) → bound_next H c cs ≡ true
      → Starts (end_of H.delta c) (pieces H left cs)
  unfolding bound_next
  bound_starts c [] p left e = unfold pieces in tt
  bound_starts c (d ∷ ds) p left e =
      subst (λ (s : ℕ). Starts s (pieces H left (d ∷ ds))) (meet-line H.delta z c d (and_left (meet c d) (bound H c d) e)) (first_starts p left)

  pieces_good : {cs : List Cell} → Pieced H.delta cs → All Ticks cs → (left : Bool) → Good H.delta (pieces H left cs)
  pieces_good stop k left = unfold pieces in tt
  pieces_good (single {c = c} {cs = cs} f g p) k left =
      rw (step_single H c cs left f) (own_touch H.delta z c k.0, own-order H.delta z c, bound_starts c cs p (bound_next H c cs), pieces_good p k.1 (bound_next H c cs))
  pieces_good (double {c = c} {d = d} {cs = cs} q p) k left =
      let l : start_of H.delta c ≡ c.beat * H.delta = fill_start H.delta z c (pair_fills H.delta c d q) in
      let r : end_of H.delta d ≡ suc d.beat * H.delta = close_end H.delta z d (pair_close H.delta c d q) in
      let b : d.beat * H.delta ≡ c.beat * H.delta = ap (λ (i : ℕ). i * H.delta) q.beat_same in
      rw (step_fill H c d cs left (pair_fills H.delta c d q) q.opens (pair_close H.delta c d q))
      (rw l (from-line H.delta z c.beat (end_of H.delta d)), omega arith, bound_starts d cs p (bound_next H d cs), pieces_good p k.1.1 (bound_next H d cs))

  -- the notes that cells in pieces give touch a line
  line_touch : {cs : List Cell} → Pieced H.delta cs → All Ticks cs → All (Touches H.delta) (line_notes H cs)
  unfolding line_notes
  line_touch {cs} p k = runs_touch H.delta z (pieces H false cs) (pieces_good p k false)

-- ---- a solid take's notes

module _ (H : Header) (z : 0 < H.delta) (t : Take) (s : Solid H.delta t) where
  touch : All (Touches H.delta) (line_notes H t.cells)
  touch = line_touch H z s.cells_pieced (all_imp (Fine H.delta t.beats) (Ticks H z) t.cells (λ c f. f.close_ticks) s.cells_fine)

  -- those that touch no line are its inner notes, the others those that the cells give
  pub solid_inner : keep (inside H.delta) (notes_of H t) ≡ t.inner
  unfolding notes_of
  solid_inner = merge-keep (inside H.delta) t.inner (line_notes H t.cells) s.notes-inside touch

  pub solid_line : keep (λ n. not (inside H.delta n)) (notes_of H t) ≡ line_notes H t.cells
  unfolding notes_of
  solid_line = merge_other (inside H.delta) t.inner (line_notes H t.cells) s.notes-inside touch

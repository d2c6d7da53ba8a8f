-- Pieces and inner notes do not overlap: what the paper asks of every two of them is what the test by neighbours asks of cells.
-- Assumes nothing.
use Rattle.std.specs.Prelude.{Bool, ◌||◌, false, not, List, [], ◌∷◌, map, ◌≡◌, eqb, leb}
use Rattle.std.proofs.Math.Bool.{true}
use Rattle.std.proofs.Common.{true≢false, ◌∙◌}
use Rattle.std.proofs.Math.Path.{ap, refl, sym}
use Prim.Native.Nat.{◌*◌, ◌+◌, ◌-◌, ◌<◌, ◌≤◌, suc, ℕ}
use Rattle.std.proofs.Math.Decide.{dec_le, ℕ_discrete}
use native.Mathlib.Omega.{arith}
use borrow.Author.Tests.{eq-eqb, le-leb, leb-true, lt-leb, ne_eqb}
use Rattle.model.specs.Binding.{Piece, bound_next, end_of, fills, opening, pieces, start_of}
use Rattle.model.specs.Pieces.{first_beat}
use Rattle.model.specs.Soundness.{apart}
use Rattle.model.specs.declared.Cell.{Cell}
use Rattle.model.specs.declared.Header.{Header}
use Rattle.model.specs.declared.Note.{Note}
use Rattle.laws.specs.Booleans.{or_left, or_right}
use Rattle.laws.specs.Notes.{Away, Follow, above, later, left, right}
use Rattle.laws.specs.Relations.{All, Pairs, all_imp}
use Rattle.laws.specs.Rules.{Pair, Pieced, double, own, pair_close, pair_fills, pair_open, single, span, step_fill, step_single, stop}
use Rattle.laws.specs.Solid.{Apart, Clear, Fine, beat_up, lane_up, side_up}
use Rattle.laws.specs.Spans.{away_double, away_single, double_gap, first-from, single_gap}

-- ---- two notes

-- two notes do not overlap if and only if one lies behind the other
pub away_apart : (m n : Note) → Away m n → apart m n ≡ true
unfolding apart
away_apart m n (left (above a)) = rw (ne_eqb m.lane n.lane (omega arith))
away_apart m n (left (later a b)) = or_left (leb n.end m.start) (or_right (not (eqb m.lane n.lane)) (le-leb m.end n.start b))
away_apart m n (right (above a)) = rw (ne_eqb m.lane n.lane (omega arith))
away_apart m n (right (later a b)) = or_right (not (eqb m.lane n.lane) || leb m.end n.start) (le-leb n.end m.start b)

pub apart_away : (m n : Note) → apart m n ≡ true → Away m n
unfolding apart
apart_away m n e = elim (ℕ_discrete m.lane n.lane) [
  | yes l ↦ elim (dec_le m.end n.start) [
    | yes a ↦ left (later l a)
    | no a ↦ right (later (sym l) (leb-true n.end m.start (rw (eq-eqb m.lane n.lane l, lt-leb m.end n.start (omega arith)) at e)))
  ]
  | no d ↦ elim (dec_le (suc m.lane) n.lane) [ yes a ↦ left (above a) | no a ↦ right (above (omega arith)) ]
]

pub away_flip : (m n : Note) → Away m n → Away n m
away_flip m n (left f) = right f
away_flip m n (right f) = left f

-- ---- the pieces of cells

module _ (δ : ℕ) where
  -- the pieces, as notes, hidden ones included
  abbrev pub piece_notes : {cs : List Cell} → Pieced δ cs → List Note
  piece_notes stop = []
  piece_notes (single {c = c} f g p) = own δ c ∷ piece_notes p
  piece_notes (double {c = c} {d = d} q p) = span δ c d ∷ piece_notes p

pub pieces-notes : (H : Header) {cs : List Cell} (p : Pieced H.delta cs) (held : Bool)
    → map (λ (p : Piece). p.note) (pieces H held cs) ≡ piece_notes H.delta p
unfolding own
pieces-notes H stop held = unfold pieces in refl
pieces-notes H (single {c = c} {cs = cs} f g p) held =
    rw (step_single H c cs held f) (ap (◌∷◌ (own H.delta c)) (pieces-notes H p (bound_next H c cs)))
pieces-notes H (double {c = c} {d = d} {cs = cs} q p) held =
    rw (step_fill H c d cs held (pair_fills H.delta c d q) q.opens (pair_close H.delta c d q)) (ap (◌∷◌ (span H.delta c d)) (pieces-notes H p (bound_next H d cs)))

-- ---- from cells to pieces

module _ (δ beats : ℕ) (z : 0 < δ) where
  -- what starts at or behind a note's end, in its lane or above, follows it
  gap_follow : (m n : Note) → m.lane ≤ n.lane → (n.lane ≡ m.lane → m.end ≤ n.start) → Follow m n
  gap_follow m n l h = elim (ℕ_discrete n.lane m.lane) [ yes e ↦ later (sym e) (h e) | no d ↦ above (omega arith) ]

  -- a piece is followed by those of the cells behind it
  pieces_follow : (m : Note) (R : Cell → Type 0)
      → ((e : Cell) → e.beat * δ ≤ start_of δ e → R e → (m.lane ≤ e.lane) × (e.lane ≡ m.lane → m.end ≤ start_of δ e))
      → {cs : List Cell} (p : Pieced δ cs) → All (Fine δ beats) cs → All R cs → All (Follow m) (piece_notes δ p)
  unfolding own
  pieces_follow m R h stop k a = tt
  pieces_follow m R h (single {c = e} f g p) k a =
      let s = h e (first-from δ beats z (single f g p) k.0) a.0 in
      (gap_follow m (own δ e) s.0 s.1, pieces_follow m R h p k.1 a.1)
  pieces_follow m R h (double {c = e} {d = d} q p) k a =
      let s = h e (first-from δ beats z (double q p) k.0) a.0 in
      (gap_follow m (span δ e d) s.0 s.1, pieces_follow m R h p k.1.1 a.1.1)

  pub cells_follow : {cs : List Cell} (p : Pieced δ cs) → All (Fine δ beats) cs → Pairs (Apart δ) cs → Pairs Follow (piece_notes δ p)
  unfolding own
  cells_follow stop k a = tt
  cells_follow (single {c = c} f g p) k a =
      (pieces_follow (own δ c) (Apart δ c) (λ e s b. single_gap δ beats z c e f g k.0 s b) p k.1 a.0, cells_follow p k.1 a.1)
  cells_follow (double {c = c} {d = d} q p) k a =
      (pieces_follow (span δ c d) (Apart δ d) (λ e s b. double_gap δ beats z c d e q k.0 s b) p k.1.1 a.1.0, cells_follow p k.1.1 a.1.1)

-- ---- an inner note and pieces

module _ (δ : ℕ) (n : Note) (v : n.start < n.end) (low : first_beat δ n * δ < n.start) (high : n.end < suc (first_beat δ n) * δ) where
  pub clear_away : (beats : ℕ) → 0 < δ → {cs : List Cell} (p : Pieced δ cs) → All (Fine δ beats) cs → All (Clear δ n) cs
      → All (Away n) (piece_notes δ p)
  clear_away beats z stop k a = tt
  clear_away beats z (single {c = c} f g p) k a =
      (away_single δ beats z n v (omega arith) (omega arith) c f g k.0 a.0, clear_away beats z p k.1 a.1)
  clear_away beats z (double {c = c} {d = d} q p) k a =
      (away_double δ beats z n v (omega arith) (omega arith) c d q k.0 a.0, clear_away beats z p k.1.1 a.1.1)

  -- and back: from a cell's own piece
  own-clear : (c : Cell) → Away n (own δ c) → Clear δ n c
  unfolding own start_of end_of
  own-clear c a = record { behind = λ l b o. behind a l b o; before = λ l b o. before a l b o }
    where
      behind : Away n (own δ c) → n.lane ≡ c.lane → first_beat δ n ≡ c.beat → opening c ≡ true → c.beat * δ + c.after ≤ n.start
      behind (left (above x)) l b o = absurd (omega arith)
      behind (left (later x y)) l b o =
          let s : n.end ≤ c.beat * δ = rw o at y in
          let t : first_beat δ n * δ ≡ c.beat * δ = ap (λ (i : ℕ). i * δ) b in
          absurd (omega arith)
      behind (right (above x)) l b o = absurd (omega arith)
      behind (right (later x y)) l b o = rw o at y

      before : Away n (own δ c) → n.lane ≡ c.lane → first_beat δ n ≡ c.beat → opening c ≡ false → n.end + c.before ≤ suc c.beat * δ
      before (left (above x)) l b o = absurd (omega arith)
      before (left (later x y)) l b o = let s : n.end ≤ suc c.beat * δ - c.before = rw o at y in omega arith
      before (right (above x)) l b o = absurd (omega arith)
      before (right (later x y)) l b o =
          let s : suc c.beat * δ ≤ n.start = rw o at y in
          let t : suc (first_beat δ n) * δ ≡ suc c.beat * δ = ap (λ (i : ℕ). suc i * δ) b in
          absurd (omega arith)

  -- and from a piece that fills its beat: the note is of another lane or beat
  span_other : (c d : Cell) → Pair δ c d → Away n (span δ c d) → n.lane ≡ c.lane → first_beat δ n ≡ c.beat → ⊥
  unfolding start_of end_of
  span_other c d q (left (above x)) l b = omega arith
  span_other c d q (left (later x y)) l b =
      let s : n.end ≤ c.beat * δ = rw (pair_open δ c d q) at y in
      let t : first_beat δ n * δ ≡ c.beat * δ = ap (λ (i : ℕ). i * δ) b in
      omega arith
  span_other c d q (right (above x)) l b = omega arith
  span_other c d q (right (later x y)) l b =
      let s : suc d.beat * δ ≤ n.start = rw (pair_close δ c d q) at y in
      let t : suc (first_beat δ n) * δ ≡ suc d.beat * δ = ap (λ (i : ℕ). suc i * δ) (b ∙ sym q.beat_same) in
      omega arith

  span-clear : (c d : Cell) → Pair δ c d → Away n (span δ c d) → Clear δ n c × Clear δ n d
  span-clear c d q a = (
    record { behind = λ l b o. absurd (span_other c d q a l b); before = λ l b o. absurd (span_other c d q a l b) },
    record {
      behind = λ l b o. absurd (span_other c d q a (l ∙ q.lane_same) (b ∙ q.beat_same));
      before = λ l b o. absurd (span_other c d q a (l ∙ q.lane_same) (b ∙ q.beat_same));
    },
  )

  pub away_clear : {cs : List Cell} (p : Pieced δ cs) → All (Away n) (piece_notes δ p) → All (Clear δ n) cs
  away_clear stop a = tt
  away_clear (single {c = c} f g p) a = (own-clear c a.0, away_clear p a.1)
  away_clear (double {c = c} {d = d} q p) a = let w = span-clear c d q a.0 in (w.0, (w.1, away_clear p a.1))

-- ---- from pieces to cells

-- The order of cells: lane, beat, side.
pub record Ahead (c d : Cell) : Type 0 where
  pub lanes : c.lane ≤ d.lane
  pub beats : c.lane ≡ d.lane → c.beat ≤ d.beat
  pub opens : c.lane ≡ d.lane → c.beat ≡ d.beat → c.side ≡ 0
  pub closes : c.lane ≡ d.lane → c.beat ≡ d.beat → d.side ≡ 1

module _ (δ beats : ℕ) (z : 0 < δ) where
  before-apart : (c d : Cell) → Ahead c d
      → (c.lane ≡ d.lane → c.beat ≡ d.beat → c.side ≡ 0 → d.side ≡ 1 → fills δ c ≡ false → c.after + d.before ≤ δ) → Apart δ c d
  before-apart c d b h = elim (ℕ_discrete c.lane d.lane) [
    | yes l ↦ elim (ℕ_discrete c.beat d.beat) [
      | yes e ↦ side_up l e (b.opens l e) (b.closes l e) (h l e (b.opens l e) (b.closes l e))
      | no e ↦ let x = b.beats l in beat_up l (omega arith)
    ]
    | no l ↦ let x = b.lanes in lane_up (omega arith)
  ]

  -- two pieces of one beat leave a gap
  own_gap : (c d : Cell) → Fine δ beats c → Away (own δ c) (own δ d) → c.lane ≡ d.lane → c.beat ≡ d.beat → c.side ≡ 0 → d.side ≡ 1
      → c.after + d.before ≤ δ
  unfolding own start_of end_of
  own_gap c d k a l b o s = go a
    where
      x : opening c ≡ true
      x = eq-eqb c.side 0 o

      y : opening d ≡ false
      y = ne_eqb d.side 0 (omega arith)

      t : c.beat * δ ≡ d.beat * δ
      t = ap (λ (i : ℕ). i * δ) b

      go : Away (own δ c) (own δ d) → c.after + d.before ≤ δ
      go (left (above i)) = absurd (omega arith)
      go (left (later i j)) =
          let w : 0 < c.after = k.open_ticks x in
          let e : c.beat * δ + c.after ≤ suc d.beat * δ - d.before = rw (x, y) at j in
          omega (arith, t)
      go (right (above i)) = absurd (omega arith)
      go (right (later i j)) =
          let e : suc d.beat * δ ≤ c.beat * δ = rw (x, y) at j in
          absurd (omega (arith, t))

  own-apart : (c : Cell) → Fine δ beats c → {cs : List Cell} (p : Pieced δ cs) → All (Ahead c) cs → All (Away (own δ c)) (piece_notes δ p)
      → All (Apart δ c) cs
  own-apart c k stop b a = tt
  own-apart c k (single {c = e} f g p) b a =
      (before-apart c e b.0 (λ l i o s n. own_gap c e k a.0 l i o s), own-apart c k p b.1 a.1)
  own-apart c k (double {c = e} {d = d} q p) b a = (
    before-apart c e b.0 (λ l i o s n. let x = q.opens in absurd (omega arith)),
    (
      before-apart c d b.1.0 (λ l i o s n. let x = b.0.closes (l ∙ q.lane_same) (i ∙ q.beat_same) in let y = q.opens in absurd (omega arith)),
      own-apart c k p b.1.1 a.1,
    ),
  )

  pub away_cells : {cs : List Cell} (p : Pieced δ cs) → All (Fine δ beats) cs → Pairs Ahead cs → Pairs Away (piece_notes δ p) → Pairs (Apart δ) cs
  away_cells stop k b a = tt
  away_cells (single {c = c} f g p) k b a = (own-apart c k.0 p b.0 a.0, away_cells p k.1 b.1 a.1)
  away_cells (double {c = c} {d = d} {cs = cs} q p) k b a = (
    all_imp (Ahead c) (Apart δ c) (d ∷ cs) (λ e x. before-apart c e x (λ l i o s n. absurd (true≢false (sym (pair_fills δ c d q) ∙ n)))) b.0,
    (
      all_imp (Ahead d) (Apart δ d) cs (λ e x. before-apart d e x (λ l i o s n. let y = q.closes in absurd (omega arith))) b.1.0,
      away_cells p k.1.1 b.1.1 a.1,
    ),
  )

-- What the binding rules give: the three facts that all else uses, and cells as pieces.
-- Assumes nothing.
use Rattle.std.specs.Prelude.{Bool, ◌&&◌, ◌||◌, not, ◌≡◌, ◌+◌, ◌<◌, ◌≤◌, suc, ℕ, leb, ltb}
use Rattle.std.proofs.Math.Bool.{cond, false, or-false, true}
use Rattle.std.proofs.Common.{true≢false, sym, arith}
use mathlib.Core.List.{List, [], ◌∷◌}
use Rattle.std.proofs.Math.Path.{refl}
use Rattle.std.proofs.Math.Dec.{eqb}
use borrow.Author.Tests.{eq-eqb, le-leb, leb-true, lt-ltb, ne_eqb}
use Rattle.model.specs.Binding.{Piece, add_cell, bound, bound_next, end_of, fills, meet, opening, pieces, stands_alone, start_of}
use Rattle.model.specs.Soundness.{filled}
use Rattle.model.specs.Takes.{cell_to}
use Rattle.model.specs.declared.Cell.{Cell}
use Rattle.model.specs.declared.Header.{Header}
use Rattle.model.specs.declared.Note.{Note}
use Rattle.laws.specs.Booleans.{and_left, and_right, and_yes, mid, or_left, or_right}

-- ---- the facts about the rules that all else uses: no other file looks into standing alone or binding

pub meet_open : (d r : Cell) → meet d r ≡ true → opening r ≡ true
unfolding meet
meet_open d r e =
    and_right (eqb d.lane r.lane && eqb d.side 1) (eqb r.side 0) (and_left (eqb d.lane r.lane && eqb d.side 1 && eqb r.side 0) (eqb r.beat (suc d.beat)) e)

-- The first cell opens its beat.
abbrev pub Opening : List Cell → Type 0
Opening [] = ⊥
Opening (c ∷ cs) = opening c ≡ true

-- so it does where the cell before it is bound to it
pub bound-opening : (H : Header) (x : Cell) (cs : List Cell) → bound_next H x cs ≡ true → Opening cs
unfolding bound_next
bound-opening H x [] e = absurd (true≢false (sym e))
bound-opening H x (r ∷ rs) e = meet_open x r (and_left (meet x r) (bound H x r) e)

-- a cell at its note's end, or start, stands alone
pub close_alone : (H : Header) (d : Cell) → d.side ≡ 1 → d.after ≡ 0 → stands_alone H d ≡ true
unfolding stands_alone
close_alone H d o a = rw o (or_right (leb H.epsilon d.before) (eq-eqb d.after 0 a))

pub open_alone : (H : Header) (r : Cell) → opening r ≡ true → r.before ≡ 0 → stands_alone H r ≡ true
unfolding stands_alone
open_alone H r o a = rw o (or_right (leb H.epsilon r.after) (eq-eqb r.before 0 a))

module _ (H : Header) (le : H.epsilon ≤ H.delta) where
  -- the cells of a piece that fills its beat stand alone
  pub fill_open_alone : (c : Cell) → fills H.delta c ≡ true → stands_alone H c ≡ true
  unfolding fills stands_alone
  fill_open_alone c e =
      let a : H.delta ≤ c.after = leb-true H.delta c.after (and_right (opening c) (leb H.delta c.after) e) in
      rw (and_left (opening c) (leb H.delta c.after) e) (or_left (eqb c.before 0) (le-leb H.epsilon c.after (omega arith)))

  pub fill_close_alone : (d : Cell) → filled H.delta d ≡ true → stands_alone H d ≡ true
  unfolding filled stands_alone
  fill_close_alone d e = go (opening d) refl
    where
      go : (o : Bool) → opening d ≡ o
          → cond o (leb H.epsilon d.after || eqb d.before 0) (leb H.epsilon d.before || eqb d.after 0) ≡ true
      go true f = absurd (true≢false (sym (and_left (not true) (leb H.delta d.before) (rw f at e))))
      go false f =
          let a : H.delta ≤ d.before = leb-true H.delta d.before (and_right (not (opening d)) (leb H.delta d.before) e) in
          or_left (eqb d.after 0) (le-leb H.epsilon d.before (omega arith))

-- cells with the same numbers, on both sides of a line inside a note, are bound
pub same_bound : (H : Header) (c d : Cell) → c.before ≡ d.before → c.after ≡ d.after → 0 < c.after → 0 < d.before → bound H c d ≡ true
unfolding bound
same_bound H c d p q a b = go (stands_alone H c) (stands_alone H d)
  where
    go : (t u : Bool)
        → cond t (cond u (ltb 0 c.after && ltb 0 d.before) true)
        (cond u true (eqb c.before d.before && eqb c.after d.after || leb H.epsilon (c.before + d.after))) ≡ true
    go true true = and_yes (lt-ltb 0 c.after a) (lt-ltb 0 d.before b)
    go true false = refl
    go false true = refl
    go false false = or_left (leb H.epsilon (c.before + d.after)) (and_yes (eq-eqb c.before d.before p) (eq-eqb c.after d.after q))

-- a cell at its note's end and one at its note's start stand alone, and are not bound
pub ends_free : (H : Header) (c d : Cell) → c.side ≡ 1 → c.after ≡ 0 → opening d ≡ true → d.before ≡ 0
    → (stands_alone H c ≡ true) × (stands_alone H d ≡ true) × (bound H c d ≡ false)
unfolding bound
ends_free H c d o a p b =
    let s : stands_alone H c ≡ true = close_alone H c o a in
    let t : stands_alone H d ≡ true = open_alone H d p b in
    (s, t, rw (s, t, a))

-- neither rule looks at lanes and beats
pub moved_alone : (H : Header) (i : ℕ) (c : Cell) → stands_alone H (cell_to i c) ≡ stands_alone H c
unfolding stands_alone
moved_alone H i c = refl

pub moved_bound : (H : Header) (i j : ℕ) (c d : Cell) → bound H (cell_to i c) (cell_to j d) ≡ bound H c d
unfolding bound stands_alone
moved_bound H i j c d = refl

-- ---- cells in pieces

-- The two cells of a piece that fills its beat.
pub record Pair (δ : ℕ) (c d : Cell) : Type 0 where
  pub lane_same : d.lane ≡ c.lane
  pub beat_same : d.beat ≡ c.beat
  pub opens : c.side ≡ 0
  pub closes : d.side ≡ 1
  pub long : δ ≤ c.after
  pub before_is : d.before ≡ c.before + δ
  pub after_is : d.after + δ ≡ c.after
  pub velocity_same : d.velocity ≡ c.velocity

-- Cells with both cells of each piece that fills its beat, one behind the other.
pub data Pieced (δ : ℕ) : List Cell → Type 0 where
  stop : Pieced δ []
  single : {c : Cell} {cs : List Cell} → fills δ c ≡ false → filled δ c ≡ false → Pieced δ cs → Pieced δ (c ∷ cs)
  double : {c d : Cell} {cs : List Cell} → Pair δ c d → Pieced δ cs → Pieced δ (c ∷ d ∷ cs)

module _ (δ : ℕ) (c d : Cell) (q : Pair δ c d) where
  pub pair_open : opening c ≡ true
  pair_open = let o : c.side ≡ 0 = q.opens in eq-eqb c.side 0 o

  pub pair_close : opening d ≡ false
  pair_close = let o : d.side ≡ 1 = q.closes in ne_eqb d.side 0 (omega arith)

  pub pair_fills : fills δ c ≡ true
  unfolding fills
  pair_fills = and_yes pair_open (le-leb δ c.after q.long)

  pub pair_filled : filled δ d ≡ true
  unfolding filled
  pair_filled = let b : d.before ≡ c.before + δ = q.before_is in rw pair_close (le-leb δ d.before (omega arith))

-- A cell's own piece.
unfoldable pub own : ℕ → Cell → Note
unfolding start_of end_of
own δ c = record { lane = c.lane; start = start_of δ c; end = end_of δ c; velocity = c.velocity }

-- The piece of two cells.
abbrev pub span : ℕ → Cell → Cell → Note
span δ c d = record { lane = c.lane; start = start_of δ c; end = end_of δ d; velocity = c.velocity }

-- ---- the first piece of cells

pub not_open : (δ : ℕ) (c : Cell) → opening c ≡ false → fills δ c ≡ false
unfolding fills
not_open δ c e = rw e

-- The first cell is no opening cell of a note that sounds before it.
abbrev pub Fresh : List Cell → Type 0
Fresh [] = Unit {0}
Fresh (r ∷ rs) = opening r ≡ true → r.before ≡ 0

module _ (H : Header) where
  -- a cell's own piece
  abbrev pub alone : Cell → Bool → Bool → Piece
  alone c held right = record { note = record { lane = c.lane; start = start_of H.delta c; end = end_of H.delta c; velocity = c.velocity }; shown = held; joined = right }

  pub add_single : (c : Cell) (held right : Bool) (ps : List Piece) → fills H.delta c ≡ false
      → add_cell H.delta c held right ps ≡ alone c held right ∷ ps
  unfolding add_cell
  add_single c held right [] e = refl
  add_single c held right (p ∷ ps) e = rw (e, add_cell)

  pub step_single : (c : Cell) (cs : List Cell) (left : Bool) → fills H.delta c ≡ false
      → pieces H left (c ∷ cs) ≡ alone c (stands_alone H c || left || bound_next H c cs) (bound_next H c cs) ∷ pieces H (bound_next H c cs) cs
  unfolding pieces
  step_single c cs left e = add_single c (stands_alone H c || left || bound_next H c cs) (bound_next H c cs) (pieces H (bound_next H c cs) cs) e

  -- an opening cell is bound to nothing behind it
  pub open_meet : (c d : Cell) → c.side ≡ 0 → meet c d ≡ false
  unfolding meet
  open_meet c d e = mid (eqb c.lane d.lane) (eqb d.side 0) (eqb d.beat (suc c.beat)) (ne_eqb c.side 1 (omega arith))

  pub open_free : (c : Cell) (cs : List Cell) → c.side ≡ 0 → bound_next H c cs ≡ false
  unfolding bound_next
  open_free c [] e = refl
  open_free c (d ∷ ds) e = rw (open_meet c d e)

  pub step_fill : (c d : Cell) (cs : List Cell) (left : Bool) → fills H.delta c ≡ true → c.side ≡ 0 → opening d ≡ false
      → pieces H left (c ∷ d ∷ cs)
      ≡ record {
        note = record { lane = c.lane; start = start_of H.delta c; end = end_of H.delta d; velocity = c.velocity };
        shown = (stands_alone H c || left) && (stands_alone H d || bound_next H d cs);
        joined = bound_next H d cs;
      } ∷ pieces H (bound_next H d cs) cs
  unfolding pieces
  step_fill c d cs left e f g =
      rw (
        open_free c (d ∷ cs) f,
        or-false (stands_alone H c || left),
        or-false (stands_alone H d),
        add_single d (stands_alone H d || bound_next H d cs) (bound_next H d cs) (pieces H (bound_next H d cs) cs) (not_open H.delta d g),
      ) (rw (e, add_cell))

  -- a closing cell at its note's end is bound to nothing
  pub fresh_free : (d : Cell) (cs : List Cell) → d.side ≡ 1 → d.after ≡ 0 → Fresh cs → bound_next H d cs ≡ false
  unfolding bound_next
  fresh_free d [] o a f = refl
  fresh_free d (r ∷ rs) o a f = go (meet d r) refl
    where
      go : (t : Bool) → meet d r ≡ t → t && bound H d r ≡ false
      go false e = refl
      go true e = (ends_free H d r o a (meet_open d r e) (f (meet_open d r e))).2

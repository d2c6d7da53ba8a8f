-- The notes of cells by one walk over them; bound pieces, and pieces that fill their beat, are shown.
-- Assumes nothing.
use Rattle.std.specs.Prelude.{Bool, ◌||◌, ◌≤◌, ℕ}
use Rattle.std.proofs.Math.Bool.{cond, false, or-false, true}
use Rattle.std.proofs.Common.{true≢false, ◌∙◌, ap, sym}
use mathlib.Core.List.{List, [], ◌∷◌}
use Rattle.std.proofs.Math.Option.{Option, none, some}
use Rattle.std.proofs.Math.Path.{◌≡◌, refl}
use native.Mathlib.Omega.{arith}
use Rattle.model.specs.Binding.{Piece, bound_next, end_of, fills, first_shown, go_on, line_notes, opening, pieces, runs, stands_alone, start_of}
use Rattle.model.specs.declared.Cell.{Cell}
use Rattle.model.specs.declared.Header.{Header}
use Rattle.model.specs.declared.Note.{Note}
use Rattle.laws.specs.Booleans.{and_yes, or_left, or_right}
use Rattle.laws.specs.Rules.{Pair, Pieced, double, fill_close_alone, fill_open_alone, not_open, own, pair_close, pair_filled, pair_fills, single, span, step_fill, step_single, stop}

-- The cell's piece goes on in the next cell: they are one piece, or bound.
unfoldable pub linked : Header → Cell → List Cell → Bool
unfolding fills bound_next
linked H c cs = fills H.delta c || bound_next H c cs

-- The notes that the rules give; `held`: the first cell goes on from the one before it. A piece that is not linked on is shown if it is held or its cell stands alone.
unfoldable pub walk : Header → Bool → List Cell → List Note
unfolding linked stands_alone own
walk H held [] = []
walk H held (c ∷ cs) =
    let on = linked H c cs in
    let ns = walk H on cs in
    cond on (go_on (own H.delta c) ns) (cond (stands_alone H c || held) (own H.delta c ∷ ns) ns)

go_on_twice : (n m : Note) (ns : List Note)
    → go_on n (go_on m ns) ≡ go_on (record { lane = n.lane; start = n.start; end = m.end; velocity = n.velocity }) ns
go_on_twice n m [] = refl
go_on_twice n m (k ∷ ks) = refl

module _ (H : Header) (le : H.epsilon ≤ H.delta) where
  -- what is bound to the cell before it is shown
  pub held_shown : {c : Cell} {cs : List Cell} → Pieced H.delta (c ∷ cs) → first_shown (pieces H true (c ∷ cs)) ≡ true
  held_shown {c} {cs} (single f g p) =
      rw (step_single H c cs true f) (or_left (bound_next H c cs) (or_right (stands_alone H c) refl))
  held_shown (double {c = c} {d = d} {cs = cs} q p) =
      rw (step_fill H c d cs true (pair_fills H.delta c d q) q.opens (pair_close H.delta c d q))
      (and_yes (or_right (stands_alone H c) refl) (or_left (bound_next H d cs) (fill_close_alone H le d (pair_filled H.delta c d q))))

  next_shown : (c : Cell) (cs : List Cell) → Pieced H.delta cs → bound_next H c cs ≡ true → first_shown (pieces H true cs) ≡ true
  unfolding bound_next
  next_shown c [] p e = absurd (true≢false (sym e))
  next_shown c (d ∷ ds) p e = held_shown p

  -- the walk gives what pieces and runs give
  pub walk-runs : {cs : List Cell} → Pieced H.delta cs → (left : Bool) → runs (pieces H left cs) ≡ walk H left cs
  unfolding walk runs pieces
  walk-runs stop left = refl
  walk-runs (single {c = c} {cs = cs} f g p) left = go (bound_next H c cs) refl (walk-runs p (bound_next H c cs))
    where
      go : (b : Bool) → bound_next H c cs ≡ b → runs (pieces H (bound_next H c cs) cs) ≡ walk H (bound_next H c cs) cs
          → runs (pieces H left (c ∷ cs)) ≡ walk H left (c ∷ cs)
      go true e ih = rw (step_single H c cs left f, f, e, or_right (stands_alone H c || left) {b = true} refl, next_shown c cs p e) (ap (go_on (own H.delta c)) (rw e at ih))
      go false e ih = rw (step_single H c cs left f, f, e, or-false (stands_alone H c || left)) (ap (λ (ns : List Note). cond (stands_alone H c || left) (own H.delta c ∷ ns) ns) (rw e at ih))
  walk-runs (double {c = c} {d = d} {cs = cs} q p) left = go (bound_next H d cs) refl (walk-runs p (bound_next H d cs))
    where
      sc : stands_alone H c ≡ true
      sc = fill_open_alone H le c (pair_fills H.delta c d q)

      sd : stands_alone H d ≡ true
      sd = fill_close_alone H le d (pair_filled H.delta c d q)

      go : (b : Bool) → bound_next H d cs ≡ b → runs (pieces H (bound_next H d cs) cs) ≡ walk H (bound_next H d cs) cs
          → runs (pieces H left (c ∷ d ∷ cs)) ≡ walk H left (c ∷ d ∷ cs)
      go true e ih =
          rw (step_fill H c d cs left (pair_fills H.delta c d q) q.opens (pair_close H.delta c d q), pair_fills H.delta c d q, not_open H.delta d (pair_close H.delta c d q), sc, sd, e, next_shown d cs p e)
          (ap (go_on (record { lane = c.lane; start = start_of H.delta c; end = end_of H.delta d; velocity = c.velocity })) (rw e at ih) ∙ sym (go_on_twice (own H.delta c) (own H.delta d) (walk H true cs)))
      go false e ih =
          rw (step_fill H c d cs left (pair_fills H.delta c d q) q.opens (pair_close H.delta c d q), pair_fills H.delta c d q, not_open H.delta d (pair_close H.delta c d q), sc, sd, e)
          (ap (◌∷◌ (record { lane = c.lane; start = start_of H.delta c; end = end_of H.delta d; velocity = c.velocity })) (rw e at ih))

  pub line_walk : {cs : List Cell} → Pieced H.delta cs → line_notes H cs ≡ walk H false cs
  unfolding line_notes
  line_walk p = walk-runs p false

  -- a piece that fills its beat is never hidden
  pub fill_shown : (c d : Cell) (cs : List Cell) (left : Bool) → Pair H.delta c d → first_shown (pieces H left (c ∷ d ∷ cs)) ≡ true
  fill_shown c d cs left q =
      rw (step_fill H c d cs left (pair_fills H.delta c d q) q.opens (pair_close H.delta c d q))
      (and_yes (or_left left (fill_open_alone H le c (pair_fills H.delta c d q))) (or_left (bound_next H d cs) (fill_close_alone H le d (pair_filled H.delta c d q))))

  -- A piece bound to the next is shown, and so is the next.
  abbrev pub Bound : List Piece → Type 0
  Bound [] = Unit {0}
  Bound (p ∷ ps) = (p.joined ≡ true → (p.shown ≡ true) × (first_shown ps ≡ true)) × Bound ps

  pub bound_shown : {cs : List Cell} → Pieced H.delta cs → (left : Bool) → Bound (pieces H left cs)
  bound_shown stop left = unfold pieces in tt
  bound_shown (single {c = c} {cs = cs} f g p) left =
      rw (step_single H c cs left f) ((λ e. (or_right (stands_alone H c || left) e, rw e (next_shown c cs p e))), bound_shown p (bound_next H c cs))
  bound_shown (double {c = c} {d = d} {cs = cs} q p) left =
      rw (step_fill H c d cs left (pair_fills H.delta c d q) q.opens (pair_close H.delta c d q))
      ((λ e. (and_yes (or_left left (fill_open_alone H le c (pair_fills H.delta c d q))) (or_left (bound_next H d cs) (fill_close_alone H le d (pair_filled H.delta c d q))), rw e (next_shown d cs p e))), bound_shown p (bound_next H d cs))

-- ---- the same walk from left to right, with the note in hand

-- The note in hand with the cell's piece behind it.
unfoldable pub grown : ℕ → Option Note → Cell → Note
unfolding own
grown δ none c = own δ c
grown δ (some n) c = record { lane = n.lane; start = n.start; end = end_of δ c; velocity = n.velocity }

-- Linked: the note stays in hand. Else it is written, if there was one in hand or the cell stands alone.
abbrev pub in_hand : Option Note → Bool
in_hand none = false
in_hand (some n) = true

unfoldable pub walk_from : Header → Option Note → List Cell → List Note
unfolding grown linked stands_alone
walk_from H o [] = []
walk_from H o (c ∷ cs) = elim (linked H c cs) [
  | true ↦ walk_from H (some (grown H.delta o c)) cs
  | false ↦ elim (stands_alone H c || in_hand o) [ true ↦ grown H.delta o c ∷ walk_from H none cs | false ↦ walk_from H none cs ]
]

-- The same by `walk`: the note in hand goes on in the first note.
abbrev after : Option Note → List Note → List Note
after none ns = ns
after (some n) ns = go_on n ns

-- Nothing is linked behind the last cell.
linked-last : (H : Header) (c : Cell) → Pieced H.delta (c ∷ []) → linked H c [] ≡ false
unfolding linked bound_next
linked-last H c (single f g p) = rw f

module _ (H : Header) where
  -- what is left of cells in pieces: a list, or one that starts with the second cell of a piece
  pub data Rest : List Cell → Type 0 where
    whole : {cs : List Cell} → Pieced H.delta cs → Rest cs
    half : {d : Cell} {cs : List Cell} → opening d ≡ false → Pieced H.delta cs → Rest (d ∷ cs)

  rest-last : (c : Cell) → Rest (c ∷ []) → linked H c [] ≡ false
  unfolding linked bound_next
  rest-last c (whole p) = linked-last H c p
  rest-last c (half e p) = rw (not_open H.delta c e)

  rest_more : {c d : Cell} {cs : List Cell} → Rest (c ∷ d ∷ cs) → Rest (d ∷ cs)
  rest_more (whole (single f g p)) = whole p
  rest_more (whole (double {c = c} {d = d} q p)) = half (pair_close H.delta c d q) p
  rest_more (half e p) = whole p

  grown_on : (o : Option Note) (c : Cell) (ns : List Note) → after (some (grown H.delta o c)) ns ≡ after o (go_on (own H.delta c) ns)
  unfolding grown own
  grown_on none c [] = refl
  grown_on none c (n ∷ ns) = refl
  grown_on (some m) c [] = refl
  grown_on (some m) c (n ∷ ns) = refl

  grown_end : (o : Option Note) (c : Cell) (ns : List Note) → grown H.delta o c ∷ ns ≡ after o (own H.delta c ∷ ns)
  unfolding grown own
  grown_end none c ns = refl
  grown_end (some m) c ns = refl

  from_step : (o : Option Note) (c : Cell) (cs : List Cell)
      → (linked H c cs ≡ true → (n : Note) → walk_from H (some n) cs ≡ go_on n (walk H true cs)) → walk_from H none cs ≡ walk H false cs
      → walk_from H o (c ∷ cs) ≡ after o (walk H (in_hand o) (c ∷ cs))
  unfolding walk_from walk
  from_step o c cs f g = go (linked H c cs) refl (stands_alone H c || in_hand o) refl
    where
      none_held : (o : Option Note) → stands_alone H c || in_hand o ≡ false → walk H false cs ≡ after o (walk H false cs)
      none_held none e = refl
      none_held (some n) e = absurd (true≢false (sym (or_right (stands_alone H c) refl) ∙ e))

      go : (b : Bool) → linked H c cs ≡ b → (t : Bool) → stands_alone H c || in_hand o ≡ t
          → walk_from H o (c ∷ cs) ≡ after o (walk H (in_hand o) (c ∷ cs))
      go true e t h = rw (e, walk_from) (f e (grown H.delta o c) ∙ grown_on o c (walk H true cs))
      go false e true h = rw (e, h, walk_from) (ap (◌∷◌ (grown H.delta o c)) g ∙ grown_end o c (walk H false cs))
      go false e false h = rw (e, h, walk_from) (g ∙ none_held o h)

  pub from-walk : (cs : List Cell) (o : Option Note) → Rest cs → (cs ≡ [] → o ≡ none) → walk_from H o cs ≡ after o (walk H (in_hand o) cs)
  from-walk [] o r h = rw (h refl) (unfold walk_from walk in refl)
  from-walk (c ∷ []) o r h =
      from_step o c [] (λ e n. absurd (true≢false (sym e ∙ rest-last c r))) (from-walk [] none (whole stop) (λ e. refl))
  from-walk (c ∷ d ∷ cs) o r h =
      from_step o c (d ∷ cs) (λ e n. from-walk (d ∷ cs) (some n) (rest_more r) (λ k. absurd (not_nil k))) (from-walk (d ∷ cs) none (rest_more r) (λ k. refl))
    where
      not_nil : d ∷ cs ≡ [] → ⊥
      not_nil k = let zz : ◌≡◌ {A = ℕ} 0 1 = cc in omega arith

-- the notes of cells in pieces, from left to right
pub line-from : (H : Header) → H.epsilon ≤ H.delta → {cs : List Cell} → Pieced H.delta cs → line_notes H cs ≡ walk_from H none cs
line-from H le {cs} p = line_walk H le p ∙ sym (from-walk H cs none (whole p) (λ e. refl))

-- ---- the first piece of the walk

module _ (H : Header) where
  pub walk_single : (c : Cell) (cs : List Cell) (held : Bool) → fills H.delta c ≡ false
      → walk H held (c ∷ cs) ≡ cond (bound_next H c cs) (go_on (own H.delta c) (walk H (bound_next H c cs) cs)) (cond (stands_alone H c || held) (own H.delta c ∷ walk H (bound_next H c cs) cs) (walk H (bound_next H c cs) cs))
  unfolding walk
  walk_single c cs held f = rw f

  pub walk_double : (c d : Cell) (cs : List Cell) (held : Bool) → Pair H.delta c d
      → walk H held (c ∷ d ∷ cs) ≡ cond (bound_next H d cs) (go_on (span H.delta c d) (walk H (bound_next H d cs) cs)) (cond true (span H.delta c d ∷ walk H (bound_next H d cs) cs) (walk H (bound_next H d cs) cs))
  unfolding walk own
  walk_double c d cs held q =
      rw (pair_fills H.delta c d q, not_open H.delta d (pair_close H.delta c d q), or_right (stands_alone H d) {b = true} refl) (go (bound_next H d cs) (walk H (bound_next H d cs) cs))
    where
      go : (b : Bool) (ns : List Note)
          → go_on (own H.delta c) (cond b (go_on (own H.delta d) ns) (own H.delta d ∷ ns)) ≡ cond b (go_on (span H.delta c d) ns) (span H.delta c d ∷ ns)
      go true [] = refl
      go true (k ∷ ks) = refl
      go false ns = refl

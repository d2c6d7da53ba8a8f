-- The pieces that a note's cells give are the note's own pieces, as beat lines cut it. So a take needs to keep only its inner notes and its cells.
-- Assumes nothing.
use Rattle.std.specs.Prelude.{Bool, true, ◌≡◌, leb}
use Rattle.std.proofs.Math.Bool.{false}
use mathlib.Core.List.{List, [], ◌∷◌, map}
use Rattle.std.proofs.Common.{◌∙◌, ap, ap₂, div-lt_iff_lt-mul}
use Rattle.std.proofs.Math.Path.{refl, sym}
use Prim.Native.Nat.{◌*◌, ◌+◌, ◌-◌, ◌/◌, ◌<◌, ◌≤◌, max, min, suc, zero, ℕ}
use Rattle.std.proofs.Math.Nat.{max-eq_left, max-eq_right, min-eq_left, min-eq_right}
use native.Mathlib.Omega.{arith}
use borrow.Author.Tests.{le-leb, leb-false, leb-true, lt-leb}
use Rattle.model.specs.Binding.{Piece, bound_next, end_of, fills, pieces, start_of}
use Rattle.model.specs.Lists.{count_from, gather}
use Rattle.model.specs.Pieces.{cell_at, cells_in_beat, cells_of_note, inside, note_pieces, piece_in}
use Rattle.model.specs.declared.Cell.{Cell}
use Rattle.model.specs.declared.Header.{Header}
use Rattle.model.specs.declared.Note.{Note}
use Rattle.laws.specs.Beats.{div_mono, high, inside_high, inside_low, low, touch_line}
use Rattle.laws.specs.Notes.{note_same}
use Rattle.laws.specs.Rules.{not_open, step_fill, step_single}

module _ (H : Header) (z : 0 < H.delta) (n : Note) where
  abbrev ticks : Piece → Note
  ticks p = p.note

  -- the note's cells of k + 1 beats from b on
  abbrev cells : ℕ → ℕ → List Cell
  cells k b = gather (cells_in_beat H.delta n) (count_from (suc k) b)

  opened_piece : (b : ℕ) → n.start ≤ b * H.delta → start_of H.delta (cell_at n b 0 (b * H.delta)) ≡ (piece_in H.delta n b).start
  unfolding start_of cell_at piece_in
  opened_piece b h = sym (max-eq_right h)

  closed_piece : (b : ℕ) → suc b * H.delta ≤ n.end → end_of H.delta (cell_at n b 1 (suc b * H.delta)) ≡ (piece_in H.delta n b).end
  unfolding end_of cell_at piece_in
  closed_piece b h = sym (min-eq_right h)

  ended_piece : (b : ℕ) → b * H.delta ≤ n.end → n.end < suc b * H.delta
      → end_of H.delta (cell_at n b 0 (b * H.delta)) ≡ (piece_in H.delta n b).end
  unfolding end_of cell_at piece_in
  ended_piece b l h = let e : b * H.delta + (n.end - b * H.delta) ≡ n.end = omega arith in e ∙ sym (min-eq_left (let w : n.end ≤ suc b * H.delta = omega arith in w))

  begun_piece : (b : ℕ) → b * H.delta ≤ n.start → n.start < suc b * H.delta
      → start_of H.delta (cell_at n b 1 (suc b * H.delta)) ≡ (piece_in H.delta n b).start
  unfolding start_of cell_at piece_in
  begun_piece b l h = let e : suc b * H.delta - (suc b * H.delta - n.start) ≡ n.start = omega arith in e ∙ sym (max-eq_left l)

  filling : (b : ℕ) → suc b * H.delta ≤ n.end → fills H.delta (cell_at n b 0 (b * H.delta)) ≡ true
  unfolding fills cell_at
  filling b h = le-leb H.delta (n.end - b * H.delta) (omega arith)

  not_filling : (b : ℕ) → n.end < suc b * H.delta → fills H.delta (cell_at n b 0 (b * H.delta)) ≡ false
  unfolding fills cell_at
  not_filling b h = lt-leb H.delta (n.end - b * H.delta) (omega arith)

  -- one piece of the note, and then others
  full : (b : ℕ) (left : Bool) (cs : List Cell) (ps : List Note) → n.start ≤ b * H.delta → suc b * H.delta ≤ n.end
      → ((l : Bool) → map ticks (pieces H l cs) ≡ ps)
      → map ticks (pieces H left (cell_at n b 0 (b * H.delta) ∷ cell_at n b 1 (suc b * H.delta) ∷ cs)) ≡ piece_in H.delta n b ∷ ps
  full b left cs ps h l e =
      let c = cell_at n b 0 (b * H.delta) in
      let d = cell_at n b 1 (suc b * H.delta) in
      rw (step_fill H c d cs left (filling b l) (unfold cell_at in refl) (unfold cell_at in refl))
      (ap₂ ◌∷◌ (unfold piece_in in note_same (unfold cell_at in refl) (opened_piece b h) (closed_piece b l) (unfold cell_at in refl)) (e (bound_next H d cs)))

  last : (b : ℕ) (left : Bool) → n.start ≤ b * H.delta → b * H.delta ≤ n.end → n.end < suc b * H.delta
      → map ticks (pieces H left (cell_at n b 0 (b * H.delta) ∷ [])) ≡ piece_in H.delta n b ∷ []
  last b left h m l =
      let c = cell_at n b 0 (b * H.delta) in
      rw (step_single H c [] left (not_filling b l)) (ap₂ ◌∷◌ (unfold piece_in in note_same (unfold cell_at in refl) (opened_piece b h) (ended_piece b m l) (unfold cell_at in refl)) (unfold pieces in refl))

  first : (b : ℕ) (left : Bool) (cs : List Cell) (ps : List Note) → b * H.delta ≤ n.start → n.start < suc b * H.delta → suc b * H.delta ≤ n.end
      → ((l : Bool) → map ticks (pieces H l cs) ≡ ps)
      → map ticks (pieces H left (cell_at n b 1 (suc b * H.delta) ∷ cs)) ≡ piece_in H.delta n b ∷ ps
  first b left cs ps h m l e =
      let d = cell_at n b 1 (suc b * H.delta) in
      rw (step_single H d cs left (not_open H.delta d (unfold cell_at in refl)))
      (ap₂ ◌∷◌ (unfold piece_in in note_same (unfold cell_at in refl) (begun_piece b h m) (closed_piece b l) (unfold cell_at in refl)) (e (bound_next H d cs)))

  from : (k b : ℕ) (left : Bool) → n.start < suc b * H.delta → (b + k) * H.delta < n.end → n.end ≤ suc (b + k) * H.delta
      → (b * H.delta < n.start → suc b * H.delta ≤ n.end)
      → map ticks (pieces H left (cells k b)) ≡ map (piece_in H.delta n) (count_from (suc k) b)
  unfolding cells_in_beat
  from zero b left h l m t = go (leb n.start (b * H.delta)) (leb (suc b * H.delta) n.end) refl refl
    where
      nothing : (l : Bool) → map ticks (pieces H l []) ≡ []
      nothing l = unfold pieces in refl

      go : (t u : Bool) → leb n.start (b * H.delta) ≡ t → leb (suc b * H.delta) n.end ≡ u
          → map ticks (pieces H left (cells 0 b)) ≡ piece_in H.delta n b ∷ []
      go true true e g = rw (e, g) (full b left [] [] (leb-true n.start (b * H.delta) e) (leb-true (suc b * H.delta) n.end g) nothing)
      go true false e g = rw (e, g) (last b left (leb-true n.start (b * H.delta) e) (omega arith) (leb-false (suc b * H.delta) n.end g))
      go false true e g =
          let w : b * H.delta < n.start = leb-false n.start (b * H.delta) e in
          rw (e, g) (first b left [] [] (omega arith) h (leb-true (suc b * H.delta) n.end g) nothing)
      go false false e g =
          let w : suc b * H.delta ≤ n.end = t (leb-false n.start (b * H.delta) e) in
          let x : n.end < suc b * H.delta = leb-false (suc b * H.delta) n.end g in
          absurd (omega arith)
  from (suc k) b left h l m t = go (leb n.start (b * H.delta)) refl (λ f. from k (suc b) f (omega arith) (omega arith) (omega arith) (λ a. absurd (omega arith)))
    where
      go : (t : Bool) → leb n.start (b * H.delta) ≡ t
          → ((f : Bool) → map ticks (pieces H f (cells k (suc b))) ≡ map (piece_in H.delta n) (count_from (suc k) (suc b)))
          → map ticks (pieces H left (cells (suc k) b)) ≡ piece_in H.delta n b ∷ map (piece_in H.delta n) (count_from (suc k) (suc b))
      go true e ih =
          let w : suc b * H.delta ≤ n.end = omega arith in
          rw (e, le-leb (suc b * H.delta) n.end w) (full b left (cells k (suc b)) (map (piece_in H.delta n) (count_from (suc k) (suc b))) (leb-true n.start (b * H.delta) e) w ih)
      go false e ih =
          let w : suc b * H.delta ≤ n.end = omega arith in
          let x : b * H.delta < n.start = leb-false n.start (b * H.delta) e in
          rw (e, le-leb (suc b * H.delta) n.end w) (first b left (cells k (suc b)) (map (piece_in H.delta n) (count_from (suc k) (suc b))) (omega arith) h w ih)

  -- a note that touches a line: its cells give its pieces
  pub note_pieces_lem : n.start < n.end → inside H.delta n ≡ false → map ticks (pieces H false (cells_of_note H.delta n)) ≡ note_pieces H.delta n
  unfolding cells_of_note note_pieces
  note_pieces_lem v e =
      let B = n.start / H.delta in
      let E = (n.end - 1) / H.delta in
      let le : E * H.delta ≤ n.end - 1 = low H.delta (n.end - 1) in
      let he : n.end - 1 < suc E * H.delta = high H.delta z (n.end - 1) in
      let q : B ≤ E = div_mono H.delta z n.start (n.end - 1) (omega arith) in
      let k : suc E - B ≡ suc (E - B) = omega arith in
      let j : B + (E - B) ≡ E = omega arith in
      rw k (from (E - B) B false (high H.delta z n.start) (rw j (omega arith)) (rw j (omega arith)) (touch_line H.delta n e))

  -- a note that touches none: it is its only piece
  pub inside_piece : n.start < n.end → inside H.delta n ≡ true → note_pieces H.delta n ≡ n ∷ []
  unfolding note_pieces piece_in
  inside_piece v e =
      let B = n.start / H.delta in
      let a : B * H.delta < n.start = inside_low H.delta n e in
      let b : n.end < suc B * H.delta = inside_high H.delta n e in
      let p : (n.end - 1) / H.delta < suc B = (div-lt_iff_lt-mul z).1 (omega arith) in
      let q : B ≤ (n.end - 1) / H.delta = div_mono H.delta z n.start (n.end - 1) (omega arith) in
      let c : suc ((n.end - 1) / H.delta) - B ≡ 1 = omega arith in
      let x : max n.start (B * H.delta) ≡ n.start = max-eq_left (let w : B * H.delta ≤ n.start = omega arith in w) in
      let y : min n.end (suc B * H.delta) ≡ n.end = min-eq_left (let w : n.end ≤ suc B * H.delta = omega arith in w) in
      rw c (ap (λ (m : Note). m ∷ []) (note_same refl x y refl))

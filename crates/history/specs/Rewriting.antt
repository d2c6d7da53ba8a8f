-- The notes of a sound shelf, laid as a recording, have no more cells than the shelf: so a written take fits the shelf that it was
-- written from. Assumes nothing.
use Rattle.std.specs.Prelude.{Bool, cond, ◌&&◌, ◌||◌, ◌≡◌, drop}
use Rattle.std.proofs.Math.Bool.{true, false, not}
use Rattle.std.proofs.Common.{true≢false, ◌∙◌, sym, div-lt_iff_lt-mul, le-div_iff_mul-le, mul-le-mul_right}
use mathlib.Core.List.{List, [], ◌∷◌, ◌++◌}
use Rattle.std.proofs.Math.Path.{ap, refl}
use Prim.Native.Nat.{◌*◌, ◌+◌, ◌-◌, ◌/◌, ◌<◌, ◌≤◌, suc, ℕ}
use Rattle.std.proofs.Math.Nat.{mul-div_left, suc-mul}
use native.Mathlib.Omega.{arith}
use Rattle.std.proofs.Math.Dec.{eqb, ltb}
use Rattle.std.proofs.Math.ListN.{length, length-append}
use borrow.Author.Tests.{eqb-true, le-leb, leb-false, le-ltb, lt-ltb, ltb-false, ltb-true}
use Rattle.model.specs.Binding.{Piece, bound, bound_next, end_of, fills, first_shown, go_on, line_notes, meet, opening, pieces, runs, stands_alone, start_of}
use Rattle.model.specs.Histories.{Recording, recording_take}
use Rattle.model.specs.Limits.{max_beats, max_delta}
use Rattle.model.specs.Lists.{cons_if, gather, keep}
use Rattle.model.specs.Questions.{fits}
use Rattle.model.specs.Takes.{Take, notes_in, notes_of, take_in, word, words_used}
use Rattle.model.proofs.Headers.{InRange}
use Rattle.model.specs.Soundness.{filled, sound_shelf}
use Rattle.model.specs.Pieces.{cells_of_note, inside}
use Rattle.model.specs.declared.Cell.{Cell}
use Rattle.model.specs.declared.Header.{Header}
use Rattle.model.specs.declared.Note.{Note}
use Rattle.laws.specs.Booleans.{and_left, and_right}
use Rattle.laws.specs.Healing.{no_cells, notes_again}
use Rattle.laws.specs.ChainSolid.{Parts, parts}
use Rattle.laws.specs.Clauses.{sound-chain}
use Rattle.laws.specs.Lines.{solid_line}
use Rattle.laws.specs.Solid.{Solid}
use Rattle.laws.specs.Sound.{sound-notes, sound_solid}
use Rattle.laws.specs.Reading.{length-cells, length_read}
use Rattle.laws.specs.Notes.{Fair, fair_notes}
use Rattle.laws.specs.Relations.{All, all_keep}
use Rattle.laws.specs.Rules.{Pair, Pieced, double, alone, meet_open, open_free, pair_close, pair_fills, pair_open, single, span, step_fill, step_single, stop}
use Rattle.session.specs.Counting.{line_sides}
use Rattle.session.proofs.Counts.{sides_between}

-- ---- the sides of lines before a tick

module _ (δ : ℕ) (z : 0 < δ) where
  at-line : (k : ℕ) → line_sides δ (k * δ) ≡ 2 * k
  unfolding line_sides
  at-line k = rw (mul-div_left k z, le-ltb (k * δ) (k * δ) (omega arith)) (omega arith)

  quotient : (k x : ℕ) → k * δ ≤ x → x < suc k * δ → x / δ ≡ k
  quotient k x a b = let c : k ≤ x / δ = (le-div_iff_mul-le z).1 a in let d : x / δ < suc k = (div-lt_iff_lt-mul z).1 b in omega arith

  in_beat : (k x : ℕ) → k * δ < x → x < suc k * δ → line_sides δ x ≡ 2 * k + 1
  unfolding line_sides
  in_beat k x a b = rw (quotient k x (omega arith) b, lt-ltb (k * δ) x a) (omega arith)

  -- at a line or behind it, and up to the next
  from-line : (k x : ℕ) → k * δ ≤ x → x ≤ suc k * δ → 2 * k ≤ line_sides δ x
  unfolding line_sides
  from-line k x a b = let c : k ≤ x / δ = (le-div_iff_mul-le z).1 a in omega arith

  -- what a note grows by
  abbrev pub growth : Note → ℕ
  growth n = line_sides δ n.end - line_sides δ n.start

  unfoldable pub total : List Note → ℕ
  total [] = 0
  total (n ∷ ns) = growth n + total ns

  -- ---- pieces

  -- one cell's piece grows by one at most
  open_one : (c : Cell) → opening c ≡ true → fills δ c ≡ false → line_sides δ (end_of δ c) - line_sides δ (start_of δ c) ≤ 1
  unfolding fills end_of start_of
  open_one c o f =
      let a : c.after < δ = leb-false δ c.after (rw o at f) in
      rw o (go (ltb 0 c.after) refl a)
    where
      go : (t : Bool) → ltb 0 c.after ≡ t → c.after < δ → line_sides δ (c.beat * δ + c.after) - line_sides δ (c.beat * δ) ≤ 1
      go true e a = let b = ltb-true 0 c.after e in omega (arith, at-line c.beat, in_beat c.beat (c.beat * δ + c.after) (omega arith) (omega (arith, suc-mul c.beat δ)))
      go false e a = let b = ltb-false 0 c.after e in let d : c.beat * δ + c.after ≡ c.beat * δ = omega arith in rw d (omega arith)

  close_one : (c : Cell) → opening c ≡ false → filled δ c ≡ false → line_sides δ (end_of δ c) - line_sides δ (start_of δ c) ≤ 1
  unfolding filled end_of start_of
  close_one c o f =
      let a : c.before < δ = leb-false δ c.before (rw o at f) in
      rw o (go (ltb 0 c.before) refl a)
    where
      go : (t : Bool) → ltb 0 c.before ≡ t → c.before < δ → line_sides δ (suc c.beat * δ) - line_sides δ (suc c.beat * δ - c.before) ≤ 1
      go true e a =
          let b = ltb-true 0 c.before e in
          omega (arith, at-line (suc c.beat), in_beat c.beat (suc c.beat * δ - c.before) (omega (arith, suc-mul c.beat δ)) (omega (arith, suc-mul c.beat δ)))
      go false e a = let b = ltb-false 0 c.before e in let d : suc c.beat * δ - c.before ≡ suc c.beat * δ = omega arith in rw d (omega arith)

  own-one : (c : Cell) → fills δ c ≡ false → filled δ c ≡ false → line_sides δ (end_of δ c) - line_sides δ (start_of δ c) ≤ 1
  own-one c f g = go (opening c) refl
    where
      go : (o : Bool) → opening c ≡ o → line_sides δ (end_of δ c) - line_sides δ (start_of δ c) ≤ 1
      go true e = open_one c e f
      go false e = close_one c e g

  -- a piece that fills its beat grows by two
  pair_two : (c d : Cell) → Pair δ c d → line_sides δ (end_of δ d) - line_sides δ (start_of δ c) ≤ 2
  unfolding end_of start_of
  pair_two c d q =
      rw (pair_open δ c d q, pair_close δ c d q, q.beat_same) (omega (arith, at-line c.beat, at-line (suc c.beat)))

  -- ---- runs

  -- The first note starts at s.
  abbrev FirstAt : ℕ → List Note → Type 0
  FirstAt s [] = ⊥
  FirstAt s (m ∷ ms) = m.start ≡ s

  goes_at : (n : Note) (ns : List Note) → FirstAt n.start (go_on n ns)
  goes_at n [] = refl
  goes_at n (m ∷ ms) = refl

  runs-at : (p : Piece) (ps : List Piece) → p.shown ≡ true → FirstAt p.note.start (runs (p ∷ ps))
  unfolding runs
  runs-at p ps e = rw e (go (p.joined && first_shown ps) (runs ps))
    where
      go : (j : Bool) (ns : List Note) → FirstAt p.note.start (cond j (go_on p.note ns) (p.note ∷ ns))
      go true ns = goes_at p.note ns
      go false ns = refl

  -- one piece more, with k cells
  piece_more : (p : Piece) (ps : List Piece) (k most : ℕ) → growth p.note ≤ k → total (runs ps) ≤ most
      → (p.joined && first_shown ps ≡ true → FirstAt p.note.end (runs ps)) → total (runs (p ∷ ps)) ≤ k + most
  unfolding runs total
  piece_more p ps k most a b h = go p.shown (p.joined && first_shown ps) refl (runs ps) b h
    where
      go : (t j : Bool) → p.joined && first_shown ps ≡ j → (ns : List Note) → total ns ≤ most → (j ≡ true → FirstAt p.note.end ns)
          → total (cond t (cond j (go_on p.note ns) (p.note ∷ ns)) ns) ≤ k + most
      go false j e ns b h = omega arith
      go true false e ns b h = omega (arith, a, b)
      go true true e [] b h = absurd (h refl)
      go true true e (m ∷ ms) b h = omega (arith, a, b, ap (line_sides δ) (h refl))

-- ---- the notes that cells give

module _ (H : Header) (z : 0 < H.delta) where
  abbrev δ : ℕ
  δ = H.delta

  -- the first piece of cells in pieces starts where the first cell's does
  first_starts : {d : Cell} {ds : List Cell} → Pieced δ (d ∷ ds) → (left : Bool) → first_shown (pieces H left (d ∷ ds)) ≡ true → FirstAt δ z (start_of δ d) (runs (pieces H left (d ∷ ds)))
  first_starts (single {c = c} {cs = cs} f g p) left e = rw (step_single H c cs left f) (runs-at δ z _ _ (rw (step_single H c cs left f) at e))
  first_starts (double {c = c} {d = d} {cs = cs} q p) left e =
      let s = step_fill H c d cs left (pair_fills δ c d q) q.opens (pair_close δ c d q) in
      rw s (runs-at δ z _ _ (rw s at e))

  -- a cell bound to the next ends where that starts
  meet-line : (c d : Cell) → meet c d ≡ true → opening c ≡ false → start_of δ d ≡ end_of δ c
  unfolding start_of end_of meet
  meet-line c d e o =
      let b : d.beat ≡ suc c.beat = eqb-true d.beat (suc c.beat) (and_right (eqb c.lane d.lane && eqb c.side 1 && eqb d.side 0) (eqb d.beat (suc c.beat)) e) in
      rw (meet_open c d e, o, b)

  next_at : (c : Cell) (cs : List Cell) → Pieced δ cs → opening c ≡ false → (left : Bool) → bound_next H c cs && first_shown (pieces H left cs) ≡ true
      → FirstAt δ z (end_of δ c) (runs (pieces H left cs))
  unfolding bound_next
  next_at c [] p o left e = absurd (true≢false (sym e))
  next_at c (d ∷ ds) p o left e =
      let m : meet c d ≡ true = and_left (meet c d) (bound H c d) (and_left (meet c d && bound H c d) (first_shown (pieces H left (d ∷ ds))) e) in
      rw (← (meet-line c d m o)) (first_starts p left (and_right (meet c d && bound H c d) (first_shown (pieces H left (d ∷ ds))) e))

  -- a single cell's piece goes on only if it is a closing cell
  own_at : (c : Cell) (cs : List Cell) → Pieced δ cs → (left : Bool) → bound_next H c cs && first_shown (pieces H left cs) ≡ true → FirstAt δ z (end_of δ c) (runs (pieces H left cs))
  own_at c cs p left e = go (opening c) refl
    where
      go : (o : Bool) → opening c ≡ o → FirstAt δ z (end_of δ c) (runs (pieces H left cs))
      go true o = absurd (true≢false (sym (and_left (bound_next H c cs) (first_shown (pieces H left cs)) e) ∙ open_free H c cs (eqb-true c.side 0 o)))
      go false o = next_at c cs p o left e

  -- the notes grow by no more than the cells
  pub runs_few : {cs : List Cell} → Pieced δ cs → (left : Bool) → total δ z (runs (pieces H left cs)) ≤ length cs
  runs_few stop left = unfold pieces runs total in omega arith
  runs_few (single {c = c} {cs = cs} f g p) left =
      rw (step_single H c cs left f)
      (let x = piece_more δ z (alone H c (stands_alone H c || left || bound_next H c cs) (bound_next H c cs)) (pieces H (bound_next H c cs) cs) 1 (length cs)
      (own-one δ z c f g) (runs_few p (bound_next H c cs)) (own_at c cs p (bound_next H c cs)) in
      omega (arith, x))
  runs_few (double {c = c} {d = d} {cs = cs} q p) left =
      rw (step_fill H c d cs left (pair_fills δ c d q) q.opens (pair_close δ c d q))
      (let x = piece_more δ z (record { note = span δ c d; shown = (stands_alone H c || left) && (stands_alone H d || bound_next H d cs); joined = bound_next H d cs }) (pieces H (bound_next H d cs) cs) 2 (length cs)
      (pair_two δ z c d q) (runs_few p (bound_next H d cs)) (next_at d cs p (pair_close δ c d q) (bound_next H d cs)) in
      omega (arith, x))

-- ---- the cells of a note

module _ (δ beats : ℕ) (z : 0 < δ) (few : δ ≤ max_delta) (short : beats ≤ max_beats) where
  note-cells : (n : Note) → Fair δ beats n → length (cells_of_note δ n) ≡ growth δ z n
  note-cells n f =
      let top : n.end ≤ max_beats * δ = omega (arith, f.fits, mul-le-mul_right δ short) in
      omega (arith, sides_between δ n (z, few, f.order, top))

  line-cells : (ns : List Note) → All (Fair δ beats) ns → length (gather (cells_of_note δ) ns) ≡ total δ z ns
  unfolding total
  line-cells [] f = refl
  line-cells (n ∷ ns) f =
      omega (arith, length-append (cells_of_note δ n) (gather (cells_of_note δ) ns), note-cells n f.0, line-cells ns f.1)

  -- notes that touch no line have no cells
  only-lines : (ns : List Note) → All (Fair δ beats) ns → gather (cells_of_note δ) ns ≡ gather (cells_of_note δ) (keep (λ n. not (inside δ n)) ns)
  only-lines [] f = refl
  only-lines (n ∷ ns) f = go (inside δ n) refl (only-lines ns f.1)
    where
      go : (b : Bool) → inside δ n ≡ b → gather (cells_of_note δ) ns ≡ gather (cells_of_note δ) (keep (λ n. not (inside δ n)) ns)
          → cells_of_note δ n ++ gather (cells_of_note δ) ns ≡ gather (cells_of_note δ) (cons_if (not b) n (keep (λ n. not (inside δ n)) ns))
      go true e ih = rw (no_cells δ z n f.0.order e) ih
      go false e ih = ap (◌++◌ (cells_of_note δ n)) ih

-- ---- a sound shelf

module _ (H : Header) (len : ℕ) (r : InRange H len) (ws : List ℕ) (e : sound_shelf H ws ≡ true) where
  abbrev t : Take
  t = take_in H.delta ws

  solid : Solid H.delta t
  solid = sound_solid H r.some-ticks ws e

  lines_are : keep (λ n. not (inside H.delta n)) (notes_in ws) ≡ line_notes H t.cells
  lines_are = ap (keep (λ n. not (inside H.delta n))) (sym (sound-notes H r.some-ticks ws e)) ∙ solid_line H r.some-ticks t solid

  given : Parts H ws
  given = parts H ws (sym (sound-chain H r.some-ticks ws) ∙ e)

  fair : All (Fair H.delta (word ws 0)) (notes_in ws)
  fair = fair_notes H.delta (word ws 0) (notes_in ws) given.notes_ok_lem

  cells_few : length (gather (cells_of_note H.delta) (notes_in ws)) ≤ length t.cells
  unfolding line_notes
  cells_few =
      let a = only-lines H.delta (word ws 0) r.some-ticks r.few_ticks given.beats_ok (notes_in ws) fair in
      let b = all_keep (Fair H.delta (word ws 0)) (λ n. not (inside H.delta n)) (notes_in ws) fair in
      let c = line-cells H.delta (word ws 0) r.some-ticks r.few_ticks given.beats_ok (keep (λ n. not (inside H.delta n)) (notes_in ws)) b in
      let d = runs_few H r.some-ticks solid.cells_pieced false in
      omega (arith, ap length a, c, ap (total H.delta r.some-ticks) lines_are, d)

  -- A written take fits the shelf that it was written from.
  pub written-fits : fits H (recording_take H.delta (record { beats = word ws 0; notes = notes_in ws })) ≡ true
  unfolding fits recording_take
  written-fits =
      let R : Recording = record { beats = word ws 0; notes = notes_in ws } in
      let n : length (notes_of H (recording_take H.delta R)) ≡ word ws 1 = ap length (notes_again H r.some-ticks R given.notes_ok_lem) ∙ length_read (word ws 1) (drop 3 ws) in
      let c : length t.cells ≡ word ws 2 = unfold take_in in length-cells (word ws 2) (drop (3 + 4 * word ws 1) ws) in
      le-leb (words_used (length (notes_of H (recording_take H.delta R))) (length (recording_take H.delta R).cells)) H.words
      (omega (arith, n, c, cells_few, given.used_ok))

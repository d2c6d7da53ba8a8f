-- A recording's take has the recording's notes: every line inside a note binds, and no line at a note's end does.
-- Assumes nothing.
use Rattle.std.specs.Prelude.{Bool, ◌||◌, cond, ◌≡◌, ltb}
use Rattle.std.proofs.Math.Bool.{false, not, true}
use Rattle.std.proofs.Common.{true≢false, ◌∙◌, subst, sym, div-lt_iff_lt-mul, le-div_iff_mul-le}
use mathlib.Core.List.{List, [], ◌++◌, ◌∷◌}
use Rattle.std.proofs.Math.Path.{ap, refl}
use Prim.Native.Nat.{◌*◌, ◌+◌, ◌-◌, ◌/◌, ◌<◌, ◌≤◌, suc, zero, ℕ}
use Rattle.std.proofs.Math.Decide.{dec_le}
use native.Mathlib.Omega.{arith}
use Rattle.std.proofs.Math.Dec.{leb}
use borrow.Author.Tests.{eq-eqb, le-leb, leb-false, leb-true, lt-leb, ltb-true}
use Rattle.model.specs.Binding.{Piece, bound, bound_next, end_of, fills, first_shown, line_notes, meet, pieces, runs, stands_alone, start_of}
use Rattle.model.specs.Histories.{Recording, recording_take}
use Rattle.model.specs.Lists.{cons_if, count_from, gather, keep}
use Rattle.model.specs.Pieces.{cell_at, cells_in_beat, cells_of_note, inside, inside_at}
use Rattle.model.specs.Soundness.{notes_ok}
use Rattle.model.specs.Takes.{merge, notes_of, shelf_words, words_of}
use Rattle.model.specs.declared.Cell.{Cell}
use Rattle.model.specs.declared.Header.{Header}
use Rattle.model.specs.declared.Note.{Note}
use Rattle.laws.specs.Beats.{high, low, touch_line}
use Rattle.laws.specs.Booleans.{and_left, and_right, and_yes, or_left, or_right}
use Rattle.laws.specs.Merging.{merge-parts}
use Rattle.laws.specs.Notes.{long_notes, note_same, ok_sorted}
use Rattle.laws.specs.Relations.{All}
use Rattle.laws.specs.Rules.{Fresh, close_alone, fresh_free, not_open, open_alone, open_free, same_bound, step_fill, step_single}

-- The first piece is shown, and the notes are m and then ns.
record Healed (ps : List Piece) (m : Note) (ns : List Note) : Type 0 where
  shows : first_shown ps ≡ true
  notes : runs ps ≡ m ∷ ns

-- a piece that is not bound to the next is a note; one that is goes on in the next one's
last_piece : (p : Piece) (ps : List Piece) (m : Note) → p.shown ≡ true → p.joined ≡ false → p.note ≡ m → Healed (p ∷ ps) m (runs ps)
unfolding runs
last_piece p ps m s j e = record { shows = s; notes = rw (s, j, e) }

more_piece : (p : Piece) (ps : List Piece) (m : Note) (ns : List Note) (r : Note) → p.shown ≡ true → p.joined ≡ true → Healed ps m ns
    → record { lane = p.note.lane; start = p.note.start; end = m.end; velocity = p.note.velocity } ≡ r → Healed (p ∷ ps) r ns
unfolding runs
more_piece p ps m ns r s j h e = record { shows = s; notes = rw (s, j, h.shows, h.notes) (ap (λ (x : Note). x ∷ ns) e) }

module _ (H : Header) (z : 0 < H.delta) (n : Note) where
  abbrev open_c : ℕ → Cell
  open_c b = cell_at n b 0 (b * H.delta)

  abbrev close_c : ℕ → Cell
  close_c b = cell_at n b 1 (suc b * H.delta)

  -- what of the note lies from beat b on
  abbrev from : ℕ → Note
  from b = record { lane = n.lane; start = cond (leb n.start (b * H.delta)) (b * H.delta) n.start; end = n.end; velocity = n.velocity }

  -- the note's cells from beat b on, k beats more
  abbrev rest : ℕ → ℕ → List Cell
  rest k b = gather (cells_in_beat H.delta n) (count_from (suc k) b)

  open_held : (b : ℕ) (left : Bool) → n.start ≤ b * H.delta → (n.start < b * H.delta → left ≡ true) → stands_alone H (open_c b) || left ≡ true
  unfolding cell_at
  open_held b left h l = elim (dec_le (suc n.start) (b * H.delta)) [
    | yes a ↦ or_right (stands_alone H (open_c b)) (l a)
    | no a ↦ or_left left (open_alone H (open_c b) refl (omega arith))
  ]

  bound_same : (b : ℕ) → n.start < suc b * H.delta → suc b * H.delta < n.end → bound H (close_c b) (open_c (suc b)) ≡ true
  unfolding cell_at
  bound_same b h l = same_bound H (close_c b) (open_c (suc b)) refl refl (omega arith) (omega arith)

  bound_next_lem : (k b : ℕ) (cs : List Cell) → n.start < suc b * H.delta → suc b * H.delta < n.end
      → bound_next H (close_c b) (rest k (suc b) ++ cs) ≡ true
  unfolding bound_next cells_in_beat meet
  bound_next_lem k b cs h l =
      rw (le-leb n.start (suc b * H.delta) (omega arith), bound_same b h l, eq-eqb n.lane n.lane refl, eq-eqb (suc b) (suc b) refl)

  fills_yes : (b : ℕ) → suc b * H.delta ≤ n.end → fills H.delta (open_c b) ≡ true
  unfolding fills cell_at
  fills_yes b h = le-leb H.delta (n.end - b * H.delta) (omega arith)

  fills_no : (b : ℕ) → n.end < suc b * H.delta → fills H.delta (open_c b) ≡ false
  unfolding fills cell_at
  fills_no b h = lt-leb H.delta (n.end - b * H.delta) (omega arith)

  module _ (cs : List Cell) (f : Fresh cs) where
    heal : (k b : ℕ) (left : Bool) → n.start < suc b * H.delta → (b + k) * H.delta < n.end → n.end ≤ suc (b + k) * H.delta
        → (b * H.delta < n.start → suc b * H.delta ≤ n.end) → (n.start < b * H.delta → left ≡ true)
        → Healed (pieces H left (rest k b ++ cs)) (from b) (runs (pieces H false cs))
    unfolding cells_in_beat start_of end_of
    heal zero b left h l m t q = go (leb n.start (b * H.delta)) (leb (suc b * H.delta) n.end) refl refl
      where
        go : (t u : Bool) → leb n.start (b * H.delta) ≡ t → leb (suc b * H.delta) n.end ≡ u
            → Healed (pieces H left (rest 0 b ++ cs)) (from b) (runs (pieces H false cs))
        go true true e g =
            let gt : suc b * H.delta ≤ n.end = leb-true (suc b * H.delta) n.end g in
            let af : n.end - suc b * H.delta ≡ 0 = omega arith in
            let le : n.start ≤ b * H.delta = leb-true n.start (b * H.delta) e in
            rw (e, g, step_fill H (open_c b) (close_c b) cs left (fills_yes b gt) refl refl, fresh_free H (close_c b) cs refl af f)
            (last_piece _ _ _ (and_yes (open_held b left le q) (or_left false (close_alone H (close_c b) refl af))) refl (note_same refl refl (omega arith) refl))
        go true false e g =
            let gt : n.end < suc b * H.delta = leb-false (suc b * H.delta) n.end g in
            let le : n.start ≤ b * H.delta = leb-true n.start (b * H.delta) e in
            rw (e, g, step_single H (open_c b) cs left (fills_no b gt), open_free H (open_c b) cs refl)
            (last_piece _ _ _ (or_left false (open_held b left le q)) refl (note_same refl refl (omega arith) refl))
        go false true e g =
            let gt : suc b * H.delta ≤ n.end = leb-true (suc b * H.delta) n.end g in
            let af : n.end - suc b * H.delta ≡ 0 = omega arith in
            rw (e, g, step_single H (close_c b) cs left (not_open H.delta (close_c b) refl), fresh_free H (close_c b) cs refl af f)
            (last_piece _ _ _ (or_left false (or_left left (close_alone H (close_c b) refl af))) refl (note_same refl (omega arith) (omega arith) refl))
        go false false e g =
            let gt : n.end < suc b * H.delta = leb-false (suc b * H.delta) n.end g in
            let gs : suc b * H.delta ≤ n.end = t (leb-false n.start (b * H.delta) e) in
            absurd (omega arith)
    heal (suc k) b left h l m t q =
        go (leb n.start (b * H.delta)) refl (heal k (suc b) true (omega arith) (omega arith) (omega arith) (λ a. absurd (omega arith)) (λ a. refl))
      where
        go : (t : Bool) → leb n.start (b * H.delta) ≡ t
            → Healed (pieces H true (rest k (suc b) ++ cs)) (from (suc b)) (runs (pieces H false cs))
            → Healed (pieces H left (rest (suc k) b ++ cs)) (from b) (runs (pieces H false cs))
        go true e ih =
            let le : n.start ≤ b * H.delta = leb-true n.start (b * H.delta) e in
            let gt : suc b * H.delta < n.end = omega arith in
            rw (e, le-leb (suc b * H.delta) n.end (omega arith), step_fill H (open_c b) (close_c b) (rest k (suc b) ++ cs) left (fills_yes b (omega arith)) refl refl, bound_next_lem k b cs h gt)
            (more_piece _ _ _ _ _ (and_yes (open_held b left le q) (or_right (stands_alone H (close_c b)) refl)) refl ih refl)
        go false e ih =
            let gt : suc b * H.delta < n.end = omega arith in
            rw (e, le-leb (suc b * H.delta) n.end (omega arith), step_single H (close_c b) (rest k (suc b) ++ cs) left (not_open H.delta (close_c b) refl), bound_next_lem k b cs h gt)
            (more_piece _ _ _ _ _ (or_right (stands_alone H (close_c b) || left) refl) refl ih (note_same refl (omega arith) refl refl))

-- ---- a whole note, and a recording

-- a note that touches no line has no cell
pub no_cells : (δ : ℕ) → 0 < δ → (n : Note) → n.start < n.end → inside δ n ≡ true → cells_of_note δ n ≡ []
unfolding cells_of_note inside_at
no_cells δ z n v e =
    let s = n.start in
    let a : s / δ * δ < s = ltb-true (s / δ * δ) s (and_left (ltb (s / δ * δ) s) _ e) in
    let b : n.end < suc (s / δ) * δ = ltb-true n.end (suc (s / δ) * δ) (and_right (ltb (s / δ * δ) s) _ e) in
    let p : (n.end - 1) / δ < suc (s / δ) = (div-lt_iff_lt-mul z).1 (omega arith) in
    let q : s / δ ≤ (n.end - 1) / δ = (le-div_iff_mul-le z).1 (omega arith) in
    let c : suc ((n.end - 1) / δ) - s / δ ≡ 1 = omega arith in
    rw (c, lt-leb s (s / δ * δ) a, lt-leb (suc (s / δ) * δ) n.end b)

module _ (H : Header) (z : 0 < H.delta) where
  start_same : (s c : ℕ) → c ≤ s → cond (leb s c) c s ≡ s
  start_same s c h = go (leb s c) refl
    where
      go : (b : Bool) → leb s c ≡ b → cond b c s ≡ s
      go true e = let l : s ≤ c = leb-true s c e in omega arith
      go false e = refl

  -- one that touches a line goes in as a whole
  heal_note : (n : Note) (cs : List Cell) → Fresh cs → n.start < n.end → inside H.delta n ≡ false
      → Healed (pieces H false (cells_of_note H.delta n ++ cs)) n (runs (pieces H false cs))
  unfolding cells_of_note
  heal_note n cs f v e =
      let s = n.start in
      let B = s / H.delta in
      let E = (n.end - 1) / H.delta in
      let ls : B * H.delta ≤ s = low H.delta s in
      let le : E * H.delta ≤ n.end - 1 = low H.delta (n.end - 1) in
      let he : n.end - 1 < suc E * H.delta = high H.delta z (n.end - 1) in
      let q : B ≤ E = (le-div_iff_mul-le z).1 (omega arith) in
      let k : suc E - B ≡ suc (E - B) = omega arith in
      let j : B + (E - B) ≡ E = omega arith in
      let w : from H z n B ≡ n = note_same refl (start_same s (B * H.delta) ls) refl refl in
      rw k (subst (λ (m : Note). Healed (pieces H false (rest H z n (E - B) B ++ cs)) m (runs (pieces H false cs))) w
      (heal H z n cs f (E - B) B false (high H.delta z s) (rw j (omega arith)) (rw j (omega arith)) (touch_line H.delta n e) (λ a. absurd (omega arith))))

  -- its first cell is fresh
  fresh_note : (n : Note) (cs : List Cell) → n.start < n.end → inside H.delta n ≡ false → Fresh (cells_of_note H.delta n ++ cs)
  unfolding cells_of_note cells_in_beat
  fresh_note n cs v e =
      let s = n.start in
      let B = s / H.delta in
      let E = (n.end - 1) / H.delta in
      let ls : B * H.delta ≤ s = low H.delta s in
      let q : B ≤ E = (le-div_iff_mul-le z).1 (omega arith) in
      let k : suc E - B ≡ suc (E - B) = omega arith in
      rw k (go (E - B) (leb s (B * H.delta)) refl)
    where
      go : (k : ℕ) (t : Bool) → leb n.start (n.start / H.delta * H.delta) ≡ t
          → Fresh (gather (cells_in_beat H.delta n) (count_from (suc k) (n.start / H.delta)) ++ cs)
      go k true g = rw g (λ o. let ls : n.start / H.delta * H.delta ≤ n.start = low H.delta n.start in omega arith)
      go k false g = rw (g, le-leb (suc (n.start / H.delta) * H.delta) n.end (touch_line H.delta n e (leb-false n.start (n.start / H.delta * H.delta) g))) (λ o. absurd (true≢false (sym o)))

  -- the cells of a recording start fresh
  fresh : (ns : List Note) → All (λ n. n.start < n.end) ns → Fresh (gather (cells_of_note H.delta) ns)
  fresh [] v = tt
  fresh (n ∷ ns) v = go (inside H.delta n) refl (fresh ns v.1)
    where
      go : (b : Bool) → inside H.delta n ≡ b → Fresh (gather (cells_of_note H.delta) ns)
          → Fresh (cells_of_note H.delta n ++ gather (cells_of_note H.delta) ns)
      go true e f = rw (no_cells H.delta z n v.0 e) f
      go false e f = fresh_note n (gather (cells_of_note H.delta) ns) v.0 e

  -- the notes that the rules give from a recording's cells are its notes that touch a line
  pub lines_again : (ns : List Note) → All (λ n. n.start < n.end) ns
      → line_notes H (gather (cells_of_note H.delta) ns) ≡ keep (λ n. not (inside H.delta n)) ns
  unfolding line_notes
  lines_again [] v = refl
  lines_again (n ∷ ns) v = go (inside H.delta n) refl (lines_again ns v.1)
    where
      go : (b : Bool) → inside H.delta n ≡ b
          → runs (pieces H false (gather (cells_of_note H.delta) ns)) ≡ keep (λ n. not (inside H.delta n)) ns
          → runs (pieces H false (cells_of_note H.delta n ++ gather (cells_of_note H.delta) ns)) ≡ cons_if (not b) n (keep (λ n. not (inside H.delta n)) ns)
      go true e ih = rw (no_cells H.delta z n v.0 e) ih
      go false e ih = (heal_note n (gather (cells_of_note H.delta) ns) (fresh ns v.1) v.0 e).notes ∙ ap (◌∷◌ n) ih

-- a recording's take has its notes
pub notes_again : (H : Header) → 0 < H.delta → (r : Recording) → notes_ok H.delta r.beats r.notes ≡ true
    → notes_of H (recording_take H.delta r) ≡ r.notes
unfolding notes_of recording_take
notes_again H z r e =
    ap (merge (keep (inside H.delta) r.notes)) (lines_again H z r.notes (long_notes H.delta r.beats r.notes e))
    ∙ merge-parts (inside H.delta) r.notes (ok_sorted H.delta r.beats r.notes e)

-- and so its words are its own notes and all its cells
pub laid_words : (H : Header) (r : Recording) → notes_of H (recording_take H.delta r) ≡ r.notes
    → words_of H (recording_take H.delta r) ≡ shelf_words H.words r.beats r.notes (gather (cells_of_note H.delta) r.notes)
unfolding words_of recording_take
laid_words H r e = ap (λ (ns : List Note). shelf_words H.words r.beats ns (gather (cells_of_note H.delta) r.notes)) e

-- What a half has of a note, by the way that the code goes. Assumes nothing.
use mathlib.Core.Path.{◌≡◌, refl, sym, ap, ◌∙◌}
use mathlib.Core.Bool.{Bool, true, false, not}
use mathlib.Core.List.{List, [], ◌∷◌}
use Prim.Native.Nat.{ℕ, ◌+◌, ◌-◌, ◌*◌, ◌≤◌, ◌<◌}
use native.Mathlib.Omega.{arith}
use borrow.Author.Tests.{le-leb, lt-leb, not-true, not-false}
use lib.ListN.{length, drop}
use Rattle.std.specs.Prelude.{Option, None, Some}
use Rattle.std.specs.List.{slice_get}
use Rattle.std.proofs.lemmas.Option.{none-some}
use Rattle.std.proofs.Math.Option.{none, some}
use Rattle.words.specs.Splice.{splice}
use Rattle.model.specs.Lists.{cons_if}
use Rattle.model.specs.Binding.{stands_alone}
use Rattle.model.specs.Takes.{note_words, cell_of}
use Rattle.model.specs.declared.Header.{Header}
use Rattle.model.specs.declared.Note.{Note}
use Rattle.model.specs.declared.Cell.{Cell}
use Rattle.laws.specs.Sweep.{skip}
use Rattle.laws.specs.Cutting.{note_back, first_cell}
use Rattle.std.specs.Simd.{first_chunks}
use Rattle.session.specs.Reading.{cell_at, last_cells}
use Rattle.session.specs.Sliced.{cells_of}
use Rattle.session.proofs.Wholes.{whole_cells}
use Rattle.std.proofs.Math.Bridge.{le_prop}
use Rattle.cuts.specs.declared.halves.Contents.{Contents}
use Rattle.cuts.specs.declared.halves.Half.{Half}
use Rattle.cuts.specs.Halving.{is_right, contents_by, passed, line_cell, crossed_note, crossed_by, across_parts, note_part, Noted}

-- the same notes and cells
pub contents_same : (at N C : ℕ) (p : 4 * N ≤ at + 3 + 4 * N) (q : 6 * C ≤ at + 3 + 4 * N + 6 * C)
    → ◌≡◌ {A = Contents} (record { notes = record { end = at + 3 + 4 * N; left = N; fits = p }; cells = record { end = at + 3 + 4 * N + 6 * C; left = C; fits = q } }) (contents_by at N C)
contents_same at N C p q = λ i. record {
  notes = record { end = at + 3 + 4 * N; left = N; fits = le_prop p (contents_by at N C).notes.fits i };
  cells = record { end = at + 3 + 4 * N + 6 * C; left = C; fits = le_prop q (contents_by at N C).cells.fits i };
}

-- ---- nothing written, and one written

module _ (s : List ℕ) (to : ℕ) where
  pub noted_none : {ns : List Note} → ns ≡ [] → Noted s to ns s to
  unfolding splice
  noted_none e = record { words = rw e; behind = rw e (omega arith) }

  pub noted_one : {ns : List Note} (m : Note) → ns ≡ m ∷ [] → {t : List ℕ} → t ≡ splice s to (note_words m) → Noted s to ns t (to + 4)
  noted_one m e f = record { words = rw e f; behind = rw e (omega arith) }

-- room for one
pub one-note : (to len : ℕ) {ns : List Note} {m : Note} → ns ≡ m ∷ [] → to + 4 * length ns ≤ len → to + 4 ≤ len
one-note to len e h = rw e at h

-- ---- the cells that a note passes

module _ (v : Half) (n : Note) (cs : List Cell) where
  pub none_before : n.end ≤ v.line → cs ≡ passed v n cs
  unfolding passed
  none_before h = rw (le-leb n.end v.line h)

  module _ (h : v.line < n.end) where
    pub none-behind : v.line ≤ n.start → cs ≡ passed v n cs
    unfolding passed
    none-behind i = rw (lt-leb n.end v.line h, le-leb v.line n.start i)

    pub some_across : n.start < v.line → skip n.lane v.edge cs ≡ passed v n cs
    unfolding passed
    some_across i = rw (lt-leb n.end v.line h, lt-leb v.line n.start i)

-- ---- a note that crosses the line

module _ (v : Half) (n : Note) (velocity : ℕ) where
  pub crossed_right : is_right v.side ≡ true → ◌≡◌ {A = Note} (record { lane = n.lane; start = 0; end = n.end - v.line; velocity = velocity }) (crossed_note v n velocity)
  unfolding crossed_note
  crossed_right e = rw e

  pub crossed_left : is_right v.side ≡ false → ◌≡◌ {A = Note} (record { lane = n.lane; start = n.start; end = v.line; velocity = n.velocity }) (crossed_note v n velocity)
  unfolding crossed_note
  crossed_left e = rw e

-- the first of the cells, if it is there
first_none : (ws : List (List ℕ)) → None ≡ slice_get ws 0 → first_cell (cells_of ws) ≡ none
unfolding first_cell
first_none [] e = refl
first_none (w ∷ ws) e = absurd (none-some w e)

first_some : (ws : List (List ℕ)) {w : List ℕ} → Some w ≡ slice_get ws 0 → first_cell (cells_of ws) ≡ some (cell_at w 0)
unfolding first_cell
first_some [] {w} e = absurd (none-some w (sym e))
first_some (v ∷ ws) {w} e = ap (λ (o : Option (List ℕ)). elim o [ None ↦ some (cell_at v 0) | Some x ↦ some (cell_at x 0) ]) (sym e)

-- own are of the cells those from the half's own cell on
module _ (h : Header) (v : Half) (n : Note) (s : List ℕ) (end left : ℕ) {all : List (List ℕ)} (own : List (List ℕ)) (are : all ≡ first_chunks 6 left (drop (end - 6 * left) s)) (line : first_cell (cells_of own) ≡ line_cell v (cells_of all)) where
  abbrev parts : List Note
  parts = across_parts h v n (last_cells s end left)

  found : first_cell (cells_of own) ≡ line_cell v (last_cells s end left)
  unfolding last_cells
  found = line ∙ ap (λ (ws : List (List ℕ)). line_cell v (cells_of ws)) are ∙ ap (line_cell v) (whole_cells left (drop (end - 6 * left) s))

  pub across_none : (to : ℕ) → None ≡ slice_get own 0 → Noted s to parts s to
  unfolding across_parts crossed_by
  across_none to e = noted_none s to (rw (← found, first_none own e))

  module _ {words : List ℕ} (some : Some words ≡ slice_get own 0) {c : Cell} (is : c ≡ cell_of words) {p : Bool} (e : p ≡ stands_alone h c) where
    cell_is : c ≡ cell_at words 0
    unfolding cell_at
    cell_is = is

    by_cell : parts ≡ cons_if p (crossed_note v n c.velocity) []
    unfolding across_parts crossed_by
    by_cell = rw (← found, first_some own some, ← cell_is, e)

    pub across_hidden : (to : ℕ) → not p ≡ true → Noted s to parts s to
    across_hidden to t = noted_none s to (by_cell ∙ rw (not-true p t))

    module _ (t : not p ≡ false) {m : Note} (f : m ≡ crossed_note v n c.velocity) where
      shown : parts ≡ m ∷ []
      shown = by_cell ∙ rw (not-false p t, f)

      pub across_room : (to : ℕ) → to + 4 * length parts ≤ length s → to + 4 ≤ length s
      across_room to r = one-note to (length s) shown r

      pub across_shown : (to : ℕ) → {u : List ℕ} → u ≡ splice s to (note_words m) → Noted s to parts u (to + 4)
      across_shown to g = noted_one s to m shown g

-- ---- any note

module _ (h : Header) (v : Half) (n : Note) (cs : List Cell) where
  abbrev part : List Note
  part = note_part h v n cs

  module _ (i : n.end ≤ v.line) where
    pub part-before-right : is_right v.side ≡ true → part ≡ []
    unfolding note_part
    part-before-right e = rw (le-leb n.end v.line i, e)

    pub part-before-left : is_right v.side ≡ false → part ≡ n ∷ []
    unfolding note_part
    part-before-left e = rw (le-leb n.end v.line i, e)

  module _ (i : v.line < n.end) where
    module _ (j : v.line ≤ n.start) where
      pub part-behind-right : is_right v.side ≡ true → part ≡ note_back v.line n ∷ []
      unfolding note_part
      part-behind-right e = rw (lt-leb n.end v.line i, le-leb v.line n.start j, e)

      pub part-behind-left : is_right v.side ≡ false → part ≡ []
      unfolding note_part
      part-behind-left e = rw (lt-leb n.end v.line i, le-leb v.line n.start j, e)

    pub part_across : n.start < v.line → part ≡ across_parts h v n cs
    unfolding note_part
    part_across j = rw (lt-leb n.end v.line i, lt-leb v.line n.start j)

-- Notes and cells in slices of their words: what the words up to a place give, and a search among them. Assumes nothing.
use mathlib.Core.Path.{◌≡◌, refl, sym, ap, subst, ◌∙◌}
use mathlib.Core.List.{List, [], ◌∷◌, map, cons≢nil}
use Prim.Native.Nat.{ℕ, zero, suc, ◌+◌, ◌*◌, ◌-◌, ◌/◌, ◌≤◌, ◌<◌}
use native.Mathlib.Omega.{arith}
use lib.ListN.{length, take, drop, get_or}
use Rattle.std.proofs.lemmas.List.{length-map, get_or-take, take-take, drop-take, at_drop_more}
use Rattle.std.specs.Simd.{first_chunks}
use Rattle.laws.specs.Sweep.{skip}
use Rattle.model.specs.Takes.{note_of, cell_of, read_notes, read_cells}
use Rattle.model.specs.declared.Note.{Note}
use Rattle.model.specs.declared.Cell.{Cell}
use Rattle.words.specs.Parts.{length_part}
use Rattle.session.proofs.Lasts.{no_cells, length_last, last_cells_lem}
use Rattle.session.proofs.Tails.{Tail, Tail.here, Tail.there, tail_shorter, skip_tail}
use Rattle.session.specs.Reading.{note_at, cell_at, last_cells}
use Rattle.session.specs.Sliced.{notes_of, cells_of}

-- ---- words as arrays

-- The first arrays of a list's first words are the first arrays of the list.
chunks_ahead : (n k m : ℕ) (ws : List ℕ) → n * k ≤ m → first_chunks n k (take m ws) ≡ first_chunks n k ws
chunks_ahead n zero m ws h = refl
chunks_ahead n (suc k) m ws h =
    let e : n * suc k ≡ n + n * k = omega arith in
    let rest : m ≡ n + (m - n) = omega arith in
    let first : take n (take m ws) ≡ take n ws = take-take n m ws (omega arith) in
    let behind : drop n (take m ws) ≡ take (m - n) (drop n ws) = ap (λ (i : ℕ). drop n (take i ws)) rest ∙ drop-take n (m - n) ws in
    rw (first, behind, chunks_ahead n k (m - n) (drop n ws) (omega arith))

-- So are those of a part, if the part has the words of so many.
pub part_chunks : (n : ℕ) (ws : List ℕ) (at k m : ℕ) → m / n ≡ k → n * k ≤ m → at + m ≤ length ws
    → first_chunks n (length (take m (drop at ws)) / n) (take m (drop at ws)) ≡ first_chunks n k (drop at ws)
part_chunks n ws at k m q h fits = rw (length_part ws at m fits, q) (chunks_ahead n k m (drop at ws) h)

-- What is read of a list n words at a time, each time from those n words alone, is what its arrays of n words give.
module _ {X : Type 0} (n : ℕ) (one : List ℕ → X) (all : ℕ → List ℕ → List X) (none : (ws : List ℕ) → all 0 ws ≡ [])
    (more : (k : ℕ) (ws : List ℕ) → all (suc k) ws ≡ one (take n ws) ∷ all k (drop n ws)) where
  chunks_read : (k : ℕ) (ws : List ℕ) → map one (first_chunks n k ws) ≡ all k ws
  chunks_read zero ws = sym (none ws)
  chunks_read (suc k) ws = ap (◌∷◌ (one (take n ws))) (chunks_read k (drop n ws)) ∙ sym (more k ws)

note_more : (k : ℕ) (ws : List ℕ) → read_notes (suc k) ws ≡ note_at (take 4 ws) 0 ∷ read_notes k (drop 4 ws)
unfolding read_notes note_at
note_more k ws = rw (get_or-take 4 ws 0 0 (omega arith), get_or-take 4 ws 1 0 (omega arith), get_or-take 4 ws 2 0 (omega arith), get_or-take 4 ws 3 0 (omega arith))

cell_more : (k : ℕ) (ws : List ℕ) → read_cells (suc k) ws ≡ cell_at (take 6 ws) 0 ∷ read_cells k (drop 6 ws)
unfolding read_cells cell_at
cell_more k ws =
    rw (
      get_or-take 6 ws 0 0 (omega arith),
      get_or-take 6 ws 1 0 (omega arith),
      get_or-take 6 ws 2 0 (omega arith),
      get_or-take 6 ws 3 0 (omega arith),
      get_or-take 6 ws 4 0 (omega arith),
      get_or-take 6 ws 5 0 (omega arith),
    )

pub whole_notes : (k : ℕ) (ws : List ℕ) → notes_of (first_chunks 4 k ws) ≡ read_notes k ws
unfolding read_notes
whole_notes = chunks_read 4 (λ w. note_at w 0) read_notes (λ ws. refl) note_more

pub whole_cells : (k : ℕ) (ws : List ℕ) → cells_of (first_chunks 6 k ws) ≡ read_cells k ws
unfolding read_cells
whole_cells = chunks_read 6 (λ w. cell_at w 0) read_cells (λ ws. refl) cell_more

module _ (ws : List ℕ) (at k m : ℕ) where
  pub part_notes : m ≡ 4 * k → at + m ≤ length ws → notes_of (first_chunks 4 (length (take m (drop at ws)) / 4) (take m (drop at ws))) ≡ read_notes k (drop at ws)
  part_notes e fits = ap notes_of (part_chunks 4 ws at k m (omega arith) (omega arith) fits) ∙ whole_notes k (drop at ws)

  pub part_cells : m ≡ 6 * k → at + m ≤ length ws → cells_of (first_chunks 6 (length (take m (drop at ws)) / 6) (take m (drop at ws))) ≡ read_cells k (drop at ws)
  part_cells e fits = ap cells_of (part_chunks 6 ws at k m (omega arith) (omega arith) fits) ∙ whole_cells k (drop at ws)

-- ---- what is left from array i on

module _ (ws : List (List ℕ)) (i : ℕ) (more : i < length ws) (d : List ℕ) where
  pub note_behind : {n : Note} → n ≡ note_of (get_or ws i d) → notes_of (drop i ws) ≡ n ∷ notes_of (drop (i + 1) ws)
  unfolding note_at
  note_behind is = at_drop_more notes_of ws i d more ∙ ap (λ (m : Note). m ∷ notes_of (drop (i + 1) ws)) (sym is)

  pub cell_behind : {c : Cell} → c ≡ cell_of (get_or ws i d) → cells_of (drop i ws) ≡ c ∷ cells_of (drop (i + 1) ws)
  unfolding cell_at
  cell_behind is = at_drop_more cells_of ws i d more ∙ ap (λ (c : Cell). c ∷ cells_of (drop (i + 1) ws)) (sym is)

-- ---- a search among the last cells up to a place

abbrev behind : List Cell → List Cell
behind [] = []
behind (c ∷ cs) = cs

module _ (ws : List ℕ) (end : ℕ) where
  last_tail : (k : ℕ) → 6 * k ≤ end → {cs ds : List Cell} → Tail cs ds → cs ≡ last_cells ws end k → last_cells ws end (length ds) ≡ ds
  last_tail k fits here e = ap (λ (xs : List Cell). last_cells ws end (length xs)) e ∙ ap (last_cells ws end) (length_last ws end k) ∙ sym e
  last_tail zero fits (there t) e = absurd (cons≢nil (e ∙ no_cells ws end))
  last_tail (suc k) fits (there t) e = last_tail k (omega arith) t (ap behind (e ∙ last_cells_lem ws end (suc k) (omega arith) fits) ∙ ap (last_cells ws end) one)
    where
      one : suc k - 1 ≡ k
      one = omega arith

  pub found_from : (k : ℕ) → 6 * k ≤ end → end ≤ length ws → (l b : ℕ) {all : List (List ℕ)} (us : List (List ℕ))
      → all ≡ first_chunks 6 (length (take (end - (end - 6 * k)) (drop (end - 6 * k) ws)) / 6) (take (end - (end - 6 * k)) (drop (end - 6 * k) ws))
      → cells_of us ≡ skip l b (cells_of all)
      → (last_cells ws end (length us) ≡ skip l b (last_cells ws end k)) × (length us ≤ k)
  unfolding last_cells
  found_from k fits within l b {all} us cut e =
      let is : cells_of all ≡ last_cells ws end k = ap cells_of cut ∙ part_cells ws (end - 6 * k) k (end - (end - 6 * k)) (omega arith) (omega arith) in
      let long : length (cells_of us) ≡ length us = length-map us (λ w. cell_at w 0) in
      let t : Tail (cells_of all) (cells_of us) = subst (Tail (cells_of all)) (sym e) (skip_tail l b (cells_of all)) in (
        ap (last_cells ws end) (sym long) ∙ last_tail k fits t is ∙ e ∙ ap (skip l b) is,
        omega (arith, tail_shorter t, long, ap length is, length_last ws end k),
      )

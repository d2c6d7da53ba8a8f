-- A shelf's words read back.
-- Assumes nothing.
use Rattle.std.specs.Prelude.{◌&&◌, true, List, [], ◌++◌, ◌∷◌, ◌≡◌, refl, ◌*◌, ◌+◌, ◌-◌, ◌≤◌, suc, zero, ℕ, eqb, drop, length, replicate}
use Rattle.std.proofs.Common.{true≢false, ◌∙◌, ap, ap₂, sym, arith, length-drop, drop-drop, eq-eqb, eqb-true}
use Rattle.model.specs.Lists.{every, gather, keep}
use Rattle.model.specs.Pieces.{inside}
use Rattle.model.specs.Soundness.{same_words}
use Rattle.model.specs.Takes.{Take, cell_words, note_words, notes_of, read_cells, read_notes, shelf_words, take_in, word, words_of}
use Rattle.model.specs.declared.Cell.{Cell}
use Rattle.model.specs.declared.Header.{Header}
use Rattle.model.specs.declared.Note.{Note}
use Rattle.laws.specs.Booleans.{and_left, and_right, and_yes}
use Rattle.laws.specs.Histories.{take_same}
use Rattle.laws.specs.Notes.{note_same}

pub read_notes_lem : (ns : List Note) (rest : List ℕ) → read_notes (length ns) (gather note_words ns ++ rest) ≡ ns
unfolding read_notes
read_notes_lem [] rest = refl
read_notes_lem (n ∷ ns) rest = ap (◌∷◌ n) (read_notes_lem ns rest)

pub read_cells_lem : (cs : List Cell) (rest : List ℕ) → read_cells (length cs) (gather cell_words cs ++ rest) ≡ cs
unfolding read_cells
read_cells_lem [] rest = refl
read_cells_lem (c ∷ cs) rest = ap (◌∷◌ c) (read_cells_lem cs rest)

-- past the notes
pub past-notes : (ns : List Note) (rest : List ℕ) → drop (4 * length ns) (gather note_words ns ++ rest) ≡ rest
past-notes [] rest = refl
past-notes (n ∷ ns) rest =
    let m : 4 * suc (length ns) ≡ suc (suc (suc (suc (4 * length ns)))) = omega arith in
    rw m (past-notes ns rest)

pub past_head : (x y w : ℕ) (ns : List Note) (rest : List ℕ) → drop (3 + 4 * length ns) (x ∷ y ∷ w ∷ (gather note_words ns ++ rest)) ≡ rest
past_head x y w ns rest =
    let m : 3 + 4 * length ns ≡ suc (suc (suc (4 * length ns))) = omega arith in
    rw m (past-notes ns rest)

pub take_in_lem : (δ W beats : ℕ) (ns : List Note) (cs : List Cell)
    → take_in δ (shelf_words W beats ns cs) ≡ record { beats = beats; inner = keep (inside δ) ns; cells = cs }
unfolding take_in shelf_words
take_in_lem δ W beats ns cs =
    let zeros : List ℕ = replicate (W - (3 + 4 * length ns + 6 * length cs)) 0 in
    take_same refl (ap (keep (inside δ)) (read_notes_lem ns (gather cell_words cs ++ zeros)))
    (ap (read_cells (length cs)) (past_head beats (length ns) (length cs) ns (gather cell_words cs ++ zeros)) ∙ read_cells_lem cs zeros)

-- a shelf's words give the take again
pub words_take : (H : Header) (t : Take) → keep (inside H.delta) (notes_of H t) ≡ t.inner → take_in H.delta (words_of H t) ≡ t
unfolding words_of
words_take H t e = take_in_lem H.delta H.words t.beats (notes_of H t) t.cells ∙ take_same refl e refl

pub same_words_lem : (xs : List ℕ) → same_words xs xs ≡ true
same_words_lem [] = refl
same_words_lem (x ∷ xs) = and_yes (eq-eqb x x refl) (same_words_lem xs)

pub zeros : (k : ℕ) → every (eqb 0) (replicate k 0) ≡ true
zeros zero = refl
zeros (suc k) = zeros k

past-cells : (cs : List Cell) (rest : List ℕ) → drop (6 * length cs) (gather cell_words cs ++ rest) ≡ rest
past-cells [] rest = refl
past-cells (c ∷ cs) rest =
    let m : 6 * suc (length cs) ≡ suc (suc (suc (suc (suc (suc (6 * length cs)))))) = omega arith in
    rw m (past-cells cs rest)

past-both : (ns : List Note) (cs : List Cell) (rest : List ℕ)
    → drop (4 * length ns + 6 * length cs) (gather note_words ns ++ (gather cell_words cs ++ rest)) ≡ rest
past-both [] cs rest = let m : 4 * 0 + 6 * length cs ≡ 6 * length cs = omega arith in rw m (past-cells cs rest)
past-both (n ∷ ns) cs rest =
    let m : 4 * suc (length ns) + 6 * length cs ≡ suc (suc (suc (suc (4 * length ns + 6 * length cs)))) = omega arith in
    rw m (past-both ns cs rest)

pub past_all : (x y w : ℕ) (ns : List Note) (cs : List Cell) (rest : List ℕ)
    → drop (3 + 4 * length ns + 6 * length cs) (x ∷ y ∷ w ∷ (gather note_words ns ++ (gather cell_words cs ++ rest))) ≡ rest
past_all x y w ns cs rest =
    let m : 3 + 4 * length ns + 6 * length cs ≡ suc (suc (suc (4 * length ns + 6 * length cs))) = omega arith in
    rw m (past-both ns cs rest)

pub notes_same : (ns ms : List Note) → same_words (gather note_words ns) (gather note_words ms) ≡ true → ns ≡ ms
notes_same [] [] e = refl
notes_same [] (m ∷ ms) e = absurd (true≢false (sym e))
notes_same (n ∷ ns) [] e = absurd (true≢false (sym e))
notes_same (n ∷ ns) (m ∷ ms) e =
    let a = eqb n.lane m.lane in
    let b = eqb n.start m.start in
    let c = eqb n.end m.end in
    let d = eqb n.velocity m.velocity in
    let r = same_words (gather note_words ns) (gather note_words ms) in
    let e1 = and_right a (b && (c && (d && r))) e in
    let e2 = and_right b (c && (d && r)) e1 in
    let e3 = and_right c (d && r) e2 in
    ap₂ ◌∷◌ (note_same (eqb-true n.lane m.lane (and_left a (b && (c && (d && r))) e)) (eqb-true n.start m.start (and_left b (c && (d && r)) e1)) (eqb-true n.end m.end (and_left c (d && r) e2)) (eqb-true n.velocity m.velocity (and_left d r e3)))
    (notes_same ns ms (and_right d r e3))

pub length_read : (N : ℕ) (l : List ℕ) → length (read_notes N l) ≡ N
unfolding read_notes
length_read zero l = refl
length_read (suc N) l = ap suc (length_read N (drop 4 l))

pub length-cells : (C : ℕ) (l : List ℕ) → length (read_cells C l) ≡ C
unfolding read_cells
length-cells zero l = refl
length-cells (suc C) l = ap suc (length-cells C (drop 6 l))

notes-back : (N : ℕ) (l : List ℕ) → 4 * N ≤ length l → gather note_words (read_notes N l) ++ drop (4 * N) l ≡ l
unfolding read_notes
notes-back zero l h = refl
notes-back (suc N) [] h = absurd (omega arith)
notes-back (suc N) (a ∷ []) h = absurd (omega arith)
notes-back (suc N) (a ∷ b ∷ []) h = absurd (omega arith)
notes-back (suc N) (a ∷ b ∷ c ∷ []) h = absurd (omega arith)
notes-back (suc N) (a ∷ b ∷ c ∷ d ∷ l) h =
    let m : 4 * suc N ≡ suc (suc (suc (suc (4 * N)))) = omega arith in
    rw m (ap (λ (x : List ℕ). a ∷ b ∷ c ∷ d ∷ x) (notes-back N l (omega arith)))

cells-back : (C : ℕ) (l : List ℕ) → 6 * C ≤ length l → gather cell_words (read_cells C l) ++ drop (6 * C) l ≡ l
unfolding read_cells
cells-back zero l h = refl
cells-back (suc C) [] h = absurd (omega arith)
cells-back (suc C) (a ∷ []) h = absurd (omega arith)
cells-back (suc C) (a ∷ b ∷ []) h = absurd (omega arith)
cells-back (suc C) (a ∷ b ∷ c ∷ []) h = absurd (omega arith)
cells-back (suc C) (a ∷ b ∷ c ∷ d ∷ []) h = absurd (omega arith)
cells-back (suc C) (a ∷ b ∷ c ∷ d ∷ e ∷ []) h = absurd (omega arith)
cells-back (suc C) (a ∷ b ∷ c ∷ d ∷ e ∷ f ∷ l) h =
    let m : 6 * suc C ≡ suc (suc (suc (suc (suc (suc (6 * C)))))) = omega arith in
    rw m (ap (λ (x : List ℕ). a ∷ b ∷ c ∷ d ∷ e ∷ f ∷ x) (cells-back C l (omega arith)))

zeros_back : (l : List ℕ) → every (eqb 0) l ≡ true → l ≡ replicate (length l) 0
zeros_back [] e = refl
zeros_back (x ∷ l) e = ap₂ ◌∷◌ (sym (eqb-true 0 x (and_left (eqb 0 x) (every (eqb 0) l) e))) (zeros_back l (and_right (eqb 0 x) (every (eqb 0) l) e))

-- what is behind the three counts
tail_back : (W N C : ℕ) (l : List ℕ) → length l + 3 ≡ W → 3 + 4 * N + 6 * C ≤ W → every (eqb 0) (drop (4 * N + 6 * C) l) ≡ true
    → gather note_words (read_notes N l) ++ (gather cell_words (read_cells C (drop (4 * N) l)) ++ replicate (W - (3 + 4 * N + 6 * C)) 0) ≡ l
tail_back W N C l n u e =
    let k : length (drop (4 * N + 6 * C) l) ≡ length l - (4 * N + 6 * C) = length-drop (4 * N + 6 * C) l in
    let j : length (drop (4 * N + 6 * C) l) ≡ W - (3 + 4 * N + 6 * C) = omega arith in
    let q : replicate (W - (3 + 4 * N + 6 * C)) 0 ≡ drop (6 * C) (drop (4 * N) l) = ap (λ (x : ℕ). replicate x 0) (sym j) ∙ sym (zeros_back (drop (4 * N + 6 * C) l) e) ∙ sym (drop-drop (6 * C) (4 * N) l) in
    let d : length (drop (4 * N) l) ≡ length l - 4 * N = length-drop (4 * N) l in
    ap (λ (x : List ℕ). gather note_words (read_notes N l) ++ (gather cell_words (read_cells C (drop (4 * N) l)) ++ x)) q
    ∙ ap (λ (x : List ℕ). gather note_words (read_notes N l) ++ x) (cells-back C (drop (4 * N) l) (omega arith)) ∙ notes-back N l (omega arith)

pub shelf-back : (W : ℕ) (ws : List ℕ) → length ws ≡ W → 3 + 4 * word ws 1 + 6 * word ws 2 ≤ W
    → every (eqb 0) (drop (3 + 4 * word ws 1 + 6 * word ws 2) ws) ≡ true
    → shelf_words W (word ws 0) (read_notes (word ws 1) (drop 3 ws)) (read_cells (word ws 2) (drop (3 + 4 * word ws 1) ws)) ≡ ws
unfolding shelf_words
shelf-back W [] n u e = absurd (omega arith)
shelf-back W (a ∷ []) n u e = absurd (omega arith)
shelf-back W (a ∷ b ∷ []) n u e = absurd (omega arith)
shelf-back W (a ∷ N ∷ C ∷ l) n u e = shelf-parts W a N C l n u e
  where
    shelf-parts : (W a N C : ℕ) (l : List ℕ) → length (a ∷ N ∷ C ∷ l) ≡ W → 3 + 4 * N + 6 * C ≤ W
        → every (eqb 0) (drop (3 + 4 * N + 6 * C) (a ∷ N ∷ C ∷ l)) ≡ true
        → shelf_words W a (read_notes N l) (read_cells C (drop (3 + 4 * N) (a ∷ N ∷ C ∷ l))) ≡ a ∷ N ∷ C ∷ l
    shelf-parts W a N C l n u e =
        let m : 3 + 4 * N + 6 * C ≡ suc (suc (suc (4 * N + 6 * C))) = omega arith in
        let k : 3 + 4 * N ≡ suc (suc (suc (4 * N))) = omega arith in
        rw (k, length_read N l, length-cells C (drop (4 * N) l)) (ap (λ (x : List ℕ). a ∷ N ∷ C ∷ x) (tail_back W N C l (omega arith) u (rw m at e)))

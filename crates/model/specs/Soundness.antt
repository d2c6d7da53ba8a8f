-- When a shelf is sound: each clause of the paper's sentence as a definition of its own. Assumes nothing.
use Rattle.std.specs.Prelude.{ℕ, ◌+◌, ◌*◌, Bool, true, false, cond, not, ◌&&◌, ◌||◌, List, [], ◌∷◌, ◌++◌, map, leb, ltb, eqb, drop}
use Rattle.model.specs.Lists.{keep, every, some, chain, pairwise, gather}
use Rattle.model.specs.Limits.{max_beats, lane_count, velocity_ok}
use Rattle.model.specs.Pieces.{inside_at, inside}
use Rattle.model.specs.Binding.{Piece, opening, fills, pieces, line_notes}
use Rattle.model.specs.Takes.{word, note_words, words_used, read_notes, read_cells, notes_in, cells_in}
use Rattle.model.specs.declared.Header.{Header}
use Rattle.model.specs.declared.Note.{Note}
use Rattle.model.specs.declared.Cell.{Cell}

-- ---- notes

-- Lane below 2,048; start < end ≤ n × δ; velocity in its range.
unfoldable pub note_ok : ℕ → ℕ → Note → Bool
unfolding velocity_ok
note_ok δ beats n =
    ltb n.lane lane_count && ltb n.start n.end && leb n.end (beats * δ) && velocity_ok n.lane n.velocity

-- Order: lane, then start; in a lane no note starts before the previous one ends, and touching is allowed.
unfoldable pub follows : Note → Note → Bool
follows m n = ltb m.lane n.lane || eqb m.lane n.lane && leb m.end n.start

-- The first of the notes behind a note, if there is one, follows it.
unfoldable pub first_follows : Note → List Note → Bool
unfolding follows
first_follows m [] = true
first_follows m (n ∷ ns) = follows m n

-- Notes in range, in order and without overlap in a lane.
unfoldable pub notes_ok : ℕ → ℕ → List Note → Bool
unfolding note_ok first_follows
notes_ok δ beats [] = true
notes_ok δ beats (n ∷ ns) = note_ok δ beats n && first_follows n ns && notes_ok δ beats ns

-- ---- cells

-- Lane below 2,048; beat below n; side 0 or 1; velocity as in notes.
unfoldable pub cell_in_range : ℕ → Cell → Bool
unfolding velocity_ok
cell_in_range beats c = ltb c.lane lane_count && ltb c.beat beats && leb c.side 1 && velocity_ok c.lane c.velocity

-- Order: lane, beat, side; each such triple occurs at most once.
unfoldable pub cell_before : Cell → Cell → Bool
cell_before c d =
    ltb c.lane d.lane
    || eqb c.lane d.lane && (ltb c.beat d.beat || eqb c.beat d.beat && ltb c.side d.side)

-- before + after ≤ 4,096 × δ.
unfoldable pub memory_within : ℕ → Cell → Bool
memory_within δ c = leb (c.before + c.after) (max_beats * δ)

-- Side 0 has after > 0 and side 1 has before > 0.
unfoldable pub has_ticks : Cell → Bool
has_ticks c = cond (opening c) (ltb 0 c.after) (ltb 0 c.before)

-- ---- pieces

-- Two notes or pieces do not overlap.
unfoldable pub apart : Note → Note → Bool
apart m n = not (eqb m.lane n.lane) || leb m.end n.start || leb n.end m.start

-- The pieces given by cells, hidden ones included, and the notes touching no line do not overlap.
unfoldable pub no_overlap : Header → List Note → List Cell → Bool
unfolding apart pieces inside_at
no_overlap h notes cells = pairwise apart (map (λ (p : Piece). p.note) (pieces h false cells) ++ keep (inside h.delta) notes)

-- The closing cell of a piece that fills its beat: side 1 with before ≥ δ.
unfoldable pub filled : ℕ → Cell → Bool
filled δ d = not (opening d) && leb δ d.before

-- A beat's side 0 cell c and side 1 cell d, whose before is larger by δ, whose after is smaller by δ, of equal velocity.
unfoldable pub partners : ℕ → Cell → Cell → Bool
partners δ c d =
    eqb c.lane d.lane && eqb c.beat d.beat && opening c && not (opening d)
    && eqb d.before (c.before + δ) && eqb (d.after + δ) c.after && eqb c.velocity d.velocity

-- A beat whose side 0 cell has after ≥ δ has such a side 1 cell, and a side 1 cell with before ≥ δ has such a partner.
unfoldable pub filled_whole : ℕ → List Cell → Bool
unfolding fills filled partners
filled_whole δ cells =
    every (λ c. not (fills δ c) || some (λ d. partners δ c d) cells) cells
    && every (λ d. not (filled δ d) || some (λ c. partners δ c d) cells) cells

-- ---- notes against cells

-- The same words.
abbrev pub same_words : List ℕ → List ℕ → Bool
same_words [] [] = true
same_words [] (y ∷ ys) = false
same_words (x ∷ xs) [] = false
same_words (x ∷ xs) (y ∷ ys) = eqb x y && same_words xs ys

-- The notes touching or crossing a line are those that the rules give from the cells.
unfoldable pub notes_given : Header → List Note → List Cell → Bool
unfolding inside_at line_notes
notes_given h notes cells =
    same_words (gather note_words (keep (λ n. not (inside h.delta n)) notes)) (gather note_words (line_notes h cells))

-- ---- the shelf

-- Order, ranges and the other clauses, of the beats, notes and cells of a take.
unfoldable pub sound_take : Header → ℕ → List Note → List Cell → Bool
unfolding notes_ok cell_in_range cell_before memory_within has_ticks no_overlap filled_whole notes_given
sound_take h beats notes cells =
    notes_ok h.delta beats notes && every (cell_in_range beats) cells && chain cell_before cells
    && every (memory_within h.delta) cells && every has_ticks cells
    && no_overlap h notes cells && filled_whole h.delta cells && notes_given h notes cells

-- Layout: at most 4,096 beats; n, N, C, the notes and the cells within W words; zeros behind them.
unfoldable pub layout_ok : ℕ → List ℕ → Bool
layout_ok W ws =
    let used = words_used (word ws 1) (word ws 2) in
    leb (word ws 0) max_beats && leb used W && every (eqb 0) (drop used ws)

-- A shelf's words are sound.
unfoldable pub sound_shelf : Header → List ℕ → Bool
unfolding layout_ok sound_take read_notes read_cells
sound_shelf h ws = layout_ok h.words ws && sound_take h (word ws 0) (notes_in ws) (cells_in ws)

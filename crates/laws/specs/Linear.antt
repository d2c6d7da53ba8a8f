-- Question 4 as a program asks it, in time linear in the shelf: the notes, each cell and the next one, one sweep of the inner notes
-- over the cells, and one walk over the cells for the notes that they give. Assumes nothing.
use Rattle.std.specs.Prelude.{Bool, ◌&&◌, false, not, true, List, ◌≡◌, refl, ◌<◌, ◌≤◌, ℕ}
use Rattle.std.proofs.Math.Option.{none}
use Rattle.std.proofs.Common.{◌∙◌, ap, ap₂, sym}
use Rattle.model.specs.Binding.{line_notes}
use Rattle.model.specs.Lists.{every, gather, keep}
use Rattle.model.specs.Pieces.{inside, inside_at}
use Rattle.model.specs.Soundness.{layout_ok, notes_given, notes_ok, same_words, sound_shelf}
use Rattle.model.specs.Takes.{cells_in, note_words, notes_in, read_cells, read_notes, word}
use Rattle.model.specs.declared.Cell.{Cell}
use Rattle.model.specs.declared.Header.{Header}
use Rattle.model.specs.declared.Note.{Note}
use Rattle.laws.specs.Chain.{cell_ok, cells_sound, chain_shelf, chain_take, clear}
use Rattle.laws.specs.ChainSolid.{fine_of, sound-apart, sound_pieced}
use Rattle.laws.specs.Clauses.{sound-chain}
use Rattle.laws.specs.Notes.{Follow, Long, long_notes, ok_pairs}
use Rattle.laws.specs.Relations.{Pairs, all_imp, all_keep, every-all, pairs-keep}
use Rattle.laws.specs.Solid.{Apart, Fine}
use Rattle.laws.specs.Sweep.{sweep, sweep-all}
use Rattle.laws.specs.Walk.{line-from, walk_from}

-- The notes touching or crossing a line are those of the walk.
unfoldable pub notes_walked : Header → List Note → List Cell → Bool
unfolding inside_at walk_from
notes_walked H notes cells = same_words (gather note_words (keep (λ n. not (inside H.delta n)) notes)) (gather note_words (walk_from H none cells))

-- The beats, notes and cells are a sound take.
unfoldable pub linear_take : Header → ℕ → List Note → List Cell → Bool
unfolding inside_at notes_ok cell_ok cells_sound sweep notes_walked
linear_take H beats notes cells =
    notes_ok H.delta beats notes && every (cell_ok H.delta beats) cells && cells_sound H.delta cells
    && sweep H.delta (keep (inside H.delta) notes) cells && notes_walked H notes cells

-- The words are a sound shelf.
unfoldable pub linear_shelf : Header → List ℕ → Bool
unfolding layout_ok linear_take read_notes read_cells
linear_shelf H ws = layout_ok H.words ws && linear_take H (word ws 0) (notes_in ws) (cells_in ws)

-- ---- what the tests before them say

-- the notes that the rules give from cells that passed, from left to right
line-sound : (H : Header) (beats : ℕ) → H.epsilon ≤ H.delta → (cells : List Cell) → every (cell_ok H.delta beats) cells ≡ true
    → cells_sound H.delta cells ≡ true → line_notes H cells ≡ walk_from H none cells
line-sound H beats le cells e f =
    line-from H le (sound_pieced H.delta beats cells (all_imp (λ c. cell_ok H.delta beats c ≡ true) (Fine H.delta beats) cells (λ c. fine_of H.delta beats c) (every-all (cell_ok H.delta beats) cells e)) f)

-- cells that passed lie apart
pub cells-apart_of : (δ beats : ℕ) (cells : List Cell) → every (cell_ok δ beats) cells ≡ true → cells_sound δ cells ≡ true → Pairs (Apart δ) cells
cells-apart_of δ beats cells e f = sound-apart δ beats cells (all_imp (λ c. cell_ok δ beats c ≡ true) (Fine δ beats) cells (λ c. fine_of δ beats c) (every-all (cell_ok δ beats) cells e)) f

-- the last two tests may use that the ones before them passed
late_two : (d e f g h i j : Bool) → (d ≡ true → e ≡ true → f ≡ true → (g ≡ i) × (h ≡ j)) → d && e && f && g && h ≡ d && e && f && i && j
late_two false e f g h i j k = refl
late_two true false f g h i j k = refl
late_two true true false g h i j k = refl
late_two true true true g h i j k = let s = k refl refl refl in ap₂ ◌&&◌ s.0 s.1

pub linear_chain : (H : Header) → 0 < H.delta → H.epsilon ≤ H.delta → (beats : ℕ) (notes : List Note) (cells : List Cell)
    → linear_take H beats notes cells ≡ chain_take H beats notes cells
unfolding linear_take chain_take notes_walked notes_given
linear_chain H z le beats notes cells =
    let δ = H.delta in
    let inners = keep (inside δ) notes in
    let others = gather note_words (keep (λ n. not (inside δ n)) notes) in
    sym (late_two (notes_ok δ beats notes) (every (cell_ok δ beats) cells) (cells_sound δ cells)
    (every (λ n. every (clear δ n) cells) inners) (same_words others (gather note_words (line_notes H cells)))
    (sweep δ inners cells) (same_words others (gather note_words (walk_from H none cells)))
    (λ p q r. (
      sweep-all δ z inners cells (all_keep Long (inside δ) notes (long_notes δ beats notes p)) (pairs-keep Follow (inside δ) notes (ok_pairs δ beats notes p)) (cells-apart_of δ beats cells q r),
      ap (λ (ms : List Note). same_words others (gather note_words ms)) (line-sound H beats le cells q r),
    )))

-- the same test as the paper's
pub linear_sound : (H : Header) → 0 < H.delta → H.epsilon ≤ H.delta → (ws : List ℕ) → linear_shelf H ws ≡ sound_shelf H ws
unfolding linear_shelf chain_shelf
linear_sound H z le ws = ap (λ (b : Bool). layout_ok H.words ws && b) (linear_chain H z le (word ws 0) (notes_in ws) (cells_in ws)) ∙ sym (sound-chain H z ws)

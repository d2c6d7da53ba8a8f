-- Notes read from words. Assumes nothing.
use mathlib.Core.Path.{◌≡◌, refl, ap}
use mathlib.Core.List.{List, [], ◌∷◌, ◌++◌}
use Prim.Native.Nat.{ℕ, zero, suc, ◌+◌, ◌*◌, ◌≤◌}
use native.Mathlib.Nat.{add-zero}
use native.Mathlib.Omega.{arith}
use lib.ListN.{length, take, drop}
use lib.Seq.{get_or-drop, drop-drop, drop_at, length-take-le}
use Rattle.words.specs.Parts.{Same}
use Rattle.words.specs.Splice.{splice, splice-parts}
use Rattle.model.specs.Lists.{gather}
use Rattle.model.specs.Takes.{note_words, read_notes}
use Rattle.laws.specs.Reading.{read_notes_lem, length_read}
use Rattle.session.specs.Reading.{note_at}

-- the first note, and the rest
pub notes_cons : (k : ℕ) (s : List ℕ) (at : ℕ) → read_notes (suc k) (drop at s) ≡ note_at s at ∷ read_notes k (drop (at + 4) s)
unfolding read_notes note_at
notes_cons k s at = rw (get_or-drop at s 0 0, get_or-drop at s 1 0, get_or-drop at s 2 0, get_or-drop at s 3 0, add-zero at, drop-drop 4 at s)

-- lists that agree on a note's words
pub note_same : {l m : List ℕ} {a n : ℕ} → Same l m a n → (at : ℕ) → a ≤ at → at + 4 ≤ a + n → note_at l at ≡ note_at m at
unfolding note_at
note_same {l} {m} same at low high =
    rw (
      same.at at low (omega arith),
      same.at (at + 1) (omega arith) (omega arith),
      same.at (at + 2) (omega arith) (omega arith),
      same.at (at + 3) (omega arith) (omega arith),
    )

-- a list of whole notes is the words of its notes
pub notes_words : (k : ℕ) (ws : List ℕ) → length ws ≡ 4 * k → gather note_words (read_notes k ws) ≡ ws
unfolding read_notes
notes_words zero [] e = refl
notes_words zero (w ∷ ws) e = absurd (omega arith)
notes_words (suc k) (a ∷ b ∷ c ∷ d ∷ ws) e = ap (λ (l : List ℕ). a ∷ b ∷ c ∷ d ∷ l) (notes_words k ws (omega arith))
notes_words (suc k) [] e = absurd (omega arith)
notes_words (suc k) (a ∷ []) e = absurd (omega arith)
notes_words (suc k) (a ∷ b ∷ []) e = absurd (omega arith)
notes_words (suc k) (a ∷ b ∷ c ∷ []) e = absurd (omega arith)

-- notes written into a list are read there
pub notes-written : (k : ℕ) (s : List ℕ) (at : ℕ) (ws : List ℕ) → length ws ≡ 4 * k → at + length ws ≤ length s
    → read_notes k (drop at (splice s at ws)) ≡ read_notes k ws
notes-written k s at ws long fits =
    let rest = drop (at + length ws) s in
    let read = read_notes_lem (read_notes k ws) rest in
    rw (splice-parts s at ws fits, drop_at (take at s) (ws ++ rest) at (length-take-le at s (omega arith)))
    (rw (length_read k ws, notes_words k ws long) at read)

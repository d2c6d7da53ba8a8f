-- Recordings, and the take and the words that a history gives: demand 3's right-hand side. Assumes nothing.
use Rattle.std.specs.Prelude.{ℕ, zero, suc, List, [], ◌∷◌, ◌++◌, map, eqb, length, get_or}
use Rattle.model.specs.Lists.{keep, gather}
use Rattle.model.specs.Pieces.{first_beat, cells_of_note, inside_at, inside}
use Rattle.model.specs.Takes.{Take, cell_to, note_to, by_lane, words_of}
use Rattle.model.specs.declared.Header.{Header}
use Rattle.model.specs.declared.Note.{Note}

-- A recording: its beats and notes.
pub record Recording : Type 0 where
  pub beats : ℕ
  pub notes : List Note

-- The take of a recording, with all its cells.
unfoldable pub recording_take : ℕ → Recording → Take
unfolding cells_of_note inside_at
recording_take δ r = record { beats = r.beats; inner = keep (inside δ) r.notes; cells = gather (cells_of_note δ) r.notes }

-- The take of recording r of a list, numbered from 0.
unfoldable pub take_of : ℕ → List Recording → ℕ → Take
unfolding recording_take
take_of δ recordings r = recording_take δ (get_or recordings r (record { beats = 0; notes = [] }))

-- A history is a list of pairs (recording, beat). The pairs of k beats of recording r, from beat b on:
abbrev pub pairs_of : ℕ → ℕ → ℕ → List (ℕ × ℕ)
pairs_of r zero b = []
pairs_of r (suc k) b = (r, b) ∷ pairs_of r k (suc b)

module _ {A : Type 0} (beat : A → ℕ) (to : ℕ → A → A) where
  -- The pair (r, b) at place i puts what recording r has in beat b into beat i.
  unfoldable pub placed : (ℕ → List A) → ℕ → List (ℕ × ℕ) → List A
  placed of i [] = []
  placed of i (p ∷ ps) = map (to i) (keep (λ x. eqb (beat x) p.1) (of p.0)) ++ placed of (suc i) ps

-- The take that a history gives: as many beats as pairs, each with its recording's own cells and inner notes, in order of lanes.
unfoldable pub history_take : ℕ → List Recording → List (ℕ × ℕ) → Take
unfolding by_lane placed take_of
history_take δ recordings pairs = record {
  beats = length pairs;
  inner = by_lane (λ n. n.lane) (placed (first_beat δ) (note_to δ) (λ r. (take_of δ recordings r).inner) 0 pairs);
  cells = by_lane (λ c. c.lane) (placed (λ c. c.beat) cell_to (λ r. (take_of δ recordings r).cells) 0 pairs);
}

-- The W words that a history gives.
unfoldable pub history_words : Header → List Recording → List (ℕ × ℕ) → List ℕ
unfolding history_take words_of
history_words h recordings pairs = words_of h (history_take h.delta recordings pairs)

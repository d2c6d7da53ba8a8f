-- Shelves and whether they are sound: δ 10, ε 3; for each clause a shelf that breaks it alone, beside one that keeps it.
-- Assumes nothing.
use Rattle.std.specs.Prelude.{◌≡◌, refl, Bool, true, false, List, [], ◌∷◌, map, ℕ}
use Rattle.model.specs.Takes.{shelf_words}
use Rattle.model.specs.Soundness.{sound_shelf}
use Rattle.model.specs.Table.{note, cell}
use Rattle.model.specs.declared.Note.{Note}
use Rattle.model.specs.declared.Cell.{Cell}

-- A shelf's words, their number W, and the verdict.
pub record Verdict : Type 0 where
  pub size : ℕ
  pub words : List ℕ
  pub sound : Bool

-- A shelf of 64 words.
shelf : ℕ → List Note → List Cell → Bool → Verdict
unfolding shelf_words
shelf beats ns cs b = record { size = 64; words = shelf_words 64 beats ns cs; sound = b }

pub verdicts : List Verdict
unfolding shelf note cell
verdicts =
    shelf 0 [] [] true
    -- the notes that the rules give: a hidden piece, and one that is wrongly shown; a note with no cells, cells with no note
    ∷ shelf 1 [] (cell 0 1 2 2 ∷ []) true
    ∷ shelf 1 (note 8 10 ∷ []) (cell 0 1 2 2 ∷ []) false
    ∷ shelf 1 (note 5 10 ∷ []) [] false
    ∷ shelf 1 [] (cell 0 1 5 5 ∷ []) false
    -- overlap: an inner note and a hidden piece, at the closing line and at the opening line
    ∷ shelf 1 (note 7 9 ∷ []) (cell 0 1 2 2 ∷ []) false
    ∷ shelf 1 (note 6 8 ∷ []) (cell 0 1 2 2 ∷ []) true
    ∷ shelf 1 (note 1 3 ∷ []) (cell 0 0 2 2 ∷ []) false
    ∷ shelf 1 (note 2 3 ∷ []) (cell 0 0 2 2 ∷ []) true
    -- the same with two inner notes between both cells of a beat
    ∷ shelf 1 (note 2 3 ∷ note 7 9 ∷ []) (cell 0 0 2 2 ∷ cell 0 1 2 2 ∷ []) false
    ∷ shelf 1 (note 2 3 ∷ note 7 8 ∷ []) (cell 0 0 2 2 ∷ cell 0 1 2 2 ∷ []) true
    -- overlap of two pieces: shown ones, and a shown one with a hidden one
    ∷ shelf 1 (note 0 6 ∷ note 5 10 ∷ []) (cell 0 0 0 6 ∷ cell 0 1 5 0 ∷ []) false
    ∷ shelf 1 (note 0 6 ∷ note 6 10 ∷ []) (cell 0 0 0 6 ∷ cell 0 1 4 0 ∷ []) true
    ∷ shelf 1 (note 0 9 ∷ []) (cell 0 0 0 9 ∷ cell 0 1 2 2 ∷ []) false
    ∷ shelf 1 (note 0 8 ∷ []) (cell 0 0 0 8 ∷ cell 0 1 2 2 ∷ []) true
    -- a piece that fills its beat: whole, with one cell only, with another after, before or velocity
    ∷ shelf 2 (note 10 20 ∷ []) (cell 1 0 5 15 ∷ cell 1 1 15 5 ∷ []) true
    ∷ shelf 2 (note 10 20 ∷ []) (cell 1 0 5 15 ∷ []) false
    ∷ shelf 2 (note 10 20 ∷ []) (cell 1 1 15 5 ∷ []) false
    ∷ shelf 2 (note 10 20 ∷ []) (cell 1 0 5 15 ∷ cell 1 1 15 4 ∷ []) false
    ∷ shelf 2 (note 10 20 ∷ []) (cell 1 0 5 15 ∷ cell 1 1 14 5 ∷ []) false
    ∷ shelf 2 (note 10 20 ∷ []) (cell 1 0 5 15 ∷ record { lane = 60; beat = 1; side = 1; before = 15; after = 5; velocity = 99 } ∷ []) false
    -- order of cells, and a cell twice
    ∷ shelf 2 [] (cell 1 0 2 2 ∷ cell 0 1 1 1 ∷ []) false
    ∷ shelf 1 [] (cell 0 1 2 2 ∷ cell 0 1 2 2 ∷ []) false
    -- order of notes: by start, without overlap, touching allowed
    ∷ shelf 1 (note 5 6 ∷ note 2 3 ∷ []) [] false
    ∷ shelf 1 (note 2 6 ∷ note 5 8 ∷ []) [] false
    ∷ shelf 1 (note 2 6 ∷ note 6 8 ∷ []) [] true
    -- ticks of its own side; before + after at its limit and above
    ∷ shelf 1 [] (cell 0 1 0 2 ∷ []) false
    ∷ shelf 1 [] (cell 0 0 2 0 ∷ []) false
    ∷ shelf 1 (note 5 10 ∷ []) (cell 0 1 5 40955 ∷ []) true
    ∷ shelf 1 (note 5 10 ∷ []) (cell 0 1 5 40956 ∷ []) false
    -- ranges of a cell: side, beat
    ∷ shelf 1 [] (cell 0 2 2 2 ∷ []) false
    ∷ shelf 1 [] (cell 1 1 2 2 ∷ []) false
    -- ranges of a note: lane, velocity, start below end, end within the take
    ∷ shelf 1 (record { lane = 2047; start = 1; end = 2; velocity = 127 } ∷ []) [] true
    ∷ shelf 1 (record { lane = 2048; start = 1; end = 2; velocity = 127 } ∷ []) [] false
    ∷ shelf 1 (record { lane = 0; start = 1; end = 2; velocity = 128 } ∷ []) [] false
    ∷ shelf 1 (record { lane = 0; start = 1; end = 2; velocity = 0 } ∷ []) [] false
    ∷ shelf 1 (note 2 2 ∷ []) [] false
    ∷ shelf 1 (note 11 12 ∷ []) [] false
    -- layout: beats, a word behind the cells, more than W words, exactly W
    ∷ shelf 4096 [] [] true
    ∷ shelf 4097 [] [] false
    ∷ record { size = 4; words = 0 ∷ 0 ∷ 0 ∷ 1 ∷ []; sound = false }
    ∷ record { size = 3; words = 1 ∷ 1 ∷ 0 ∷ []; sound = false }
    ∷ record { size = 7; words = 1 ∷ 1 ∷ 0 ∷ 60 ∷ 1 ∷ 2 ∷ 100 ∷ []; sound = true }
    ∷ []

pub judge : Verdict → Bool
unfolding sound_shelf
judge v = sound_shelf (record { delta = 10; epsilon = 3; shelves = 1; words = v.size }) v.words

-- Every verdict, by computation.
pub judged : map judge verdicts ≡ map (λ v. v.sound) verdicts
unfolding verdicts judge
judged = refl

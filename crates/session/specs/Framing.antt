-- A shelf around notes and cells that stand in their places. Assumes nothing.
use Rattle.std.specs.Prelude.{ℕ, ◌+◌, ◌-◌, List, [], ◌∷◌, replicate}
use Rattle.words.specs.Splice.{splice}
use Rattle.model.specs.Takes.{words_used}

-- n, N and C at the shelf's place, and zeros behind the words that they count, up to W.
unfoldable pub framed : List ℕ → ℕ → ℕ → ℕ → ℕ → ℕ → List ℕ
unfolding splice
framed s at W beats N C =
    splice (splice s at (beats ∷ N ∷ C ∷ [])) (at + words_used N C) (replicate (W - words_used N C) 0)

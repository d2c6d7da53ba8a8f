-- Split: questions 2 to 5 as one number. Assumes nothing.
use Rattle.std.specs.Prelude.{◌≡◌, true, List, [], ◌∷◌, ℕ, length}
use Rattle.model.specs.Machine.{split_call}
use Rattle.model.specs.Questions.{header_ok, shelves_ok, writes_differ, reads_sound, beat_within, first_no}
use Rattle.model.specs.declared.Header.{Header}

-- The first of questions 2 to 5 that is answered no, or 0.
unfoldable pub split_asked : Header → List ℕ → ℕ → ℕ → ℕ → ℕ → ℕ
unfolding first_no shelves_ok writes_differ reads_sound beat_within
split_asked h s take k left right =
    let c = split_call take k left right in
    first_no ((2, shelves_ok h c) ∷ (3, writes_differ c) ∷ (4, reads_sound h s c) ∷ (5, beat_within h s take k) ∷ [])

-- What writing both halves asks: questions 1 to 5 answered yes.
pub record SplitAsks (s : List ℕ) (h : Header) (take k left right : ℕ) : Type 0 where
  pub header : header_ok h (length s) ≡ true
  pub asked : split_asked h s take k left right ≡ 0

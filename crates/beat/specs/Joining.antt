-- Join: questions 2, 3, 4, 6 and 8 as one number. Assumes nothing.
use Rattle.std.specs.Prelude.{List, [], ◌∷◌, ℕ}
use Rattle.model.specs.Machine.{join_call}
use Rattle.model.specs.Questions.{shelves_ok, writes_differ, reads_sound, beats_ok, results_fit, first_no}
use Rattle.model.specs.declared.Header.{Header}

-- The first of questions 2, 3, 4, 6 and 8 that is answered no, or 0.
unfoldable pub join_asked : Header → List ℕ → ℕ → ℕ → ℕ → ℕ
unfolding first_no shelves_ok writes_differ reads_sound beats_ok results_fit
join_asked h s first second result =
    let c = join_call first second result in
    first_no ((2, shelves_ok h c) ∷ (3, writes_differ c) ∷ (4, reads_sound h s c) ∷ (6, beats_ok h s c) ∷ (8, results_fit h s c) ∷ [])

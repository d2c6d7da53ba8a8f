-- A whole shelf as one splice. Assumes nothing.
use mathlib.Core.Path.{◌≡◌, refl, sym, ap, ◌∙◌}
use mathlib.Core.List.{List, [], ◌∷◌, ◌++◌}
use Prim.Native.Nat.{ℕ, ◌+◌, ◌*◌, ◌-◌}
use native.Mathlib.Omega.{arith}
use lib.ListN.{length, replicate}
use Rattle.words.specs.Apart.{Apart.ahead}
use Rattle.words.specs.Splice.{splice, splice-append, splice-append-last, splice_comm}
use Rattle.model.specs.Lists.{gather}
use Rattle.model.specs.Takes.{note_words, cell_words, words_used, shelf_words}
use Rattle.model.specs.declared.Note.{Note}
use Rattle.model.specs.declared.Cell.{Cell}
use Rattle.laws.specs.Sessions.{length-note_words, length-cell_words}
use Rattle.session.specs.Framing.{framed}

-- head and zeros, as the code writes them
pub frame_done : (s : List ℕ) (at W beats N C : ℕ) (s₁ : List ℕ) → s₁ ≡ splice s at (beats ∷ N ∷ C ∷ [])
    → (s₂ : List ℕ) → s₂ ≡ splice s₁ (at + words_used N C) (replicate (at + W - (at + words_used N C)) 0)
    → s₂ ≡ framed s at W beats N C
unfolding framed
frame_done s at W beats N C s₁ e₁ s₂ e₂ =
    let z : at + W - (at + words_used N C) ≡ W - words_used N C = omega arith in
    e₂ ∙ rw (z, e₁)

-- ---- four runs behind one another, the first and the last written last

four_runs : (s : List ℕ) (at : ℕ) (us ns cs zs : List ℕ) (b c d : ℕ) → b ≡ at + length us → c ≡ b + length ns → d ≡ c + length cs
    → splice (splice (splice (splice s b ns) c cs) at us) d zs ≡ splice s at (us ++ (ns ++ (cs ++ zs)))
four_runs s at us ns cs zs b c d eb ec ed =
    let s₂ = splice (splice s b ns) c cs in
    let last : splice s₂ d zs ≡ splice (splice s b ns) c (cs ++ zs) = rw ed (sym (splice-append (splice s b ns) c cs zs)) in
    let rest : splice (splice s b ns) c (cs ++ zs) ≡ splice s b (ns ++ (cs ++ zs)) = rw ec (sym (splice-append s b ns (cs ++ zs))) in
    let all : splice (splice s b (ns ++ (cs ++ zs))) at us ≡ splice s at (us ++ (ns ++ (cs ++ zs))) =
    rw eb (sym (splice-append-last s at us (ns ++ (cs ++ zs)))) in
    splice_comm s₂ at us d zs (ahead (omega arith)) ∙ ap (λ (l : List ℕ). splice l at us) (last ∙ rest) ∙ all

-- the frame around a shelf's notes and cells makes the shelf's words
pub shelf-framed : (s : List ℕ) (at W beats : ℕ) (ns : List Note) (cs : List Cell)
    → framed (splice (splice s (at + 3) (gather note_words ns)) (at + 3 + 4 * length ns) (gather cell_words cs)) at W beats (length ns) (length cs)
    ≡ splice s at (shelf_words W beats ns cs)
unfolding framed shelf_words
shelf-framed s at W beats ns cs =
    four_runs s at (beats ∷ length ns ∷ length cs ∷ []) (gather note_words ns) (gather cell_words cs)
    (replicate (W - words_used (length ns) (length cs)) 0) (at + 3) (at + 3 + 4 * length ns) (at + words_used (length ns) (length cs))
    refl (omega (arith, length-note_words ns)) (omega (arith, length-cell_words cs))

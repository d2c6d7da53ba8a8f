-- `splice`: a list with a run of items written over it from a place on, and its laws.
-- In order: length; runs behind one another; reading one word; writes that are apart; one write over another; the result as parts.
-- Words that would fall behind the list's end are dropped, so most laws ask for no range. Assumes nothing.
use Rattle.std.specs.Prelude.{◌≡◌, refl, List, [], ◌∷◌, ◌++◌, ℕ, zero, suc, ◌+◌, ◌≤◌, ◌<◌, length, get_or, set, take, drop, ◌-◌}
use Rattle.std.proofs.Common.{sym, ap, ◌∙◌, ⊎_elim, append_assoc, append-nil, add-zero, add-suc, suc-add, not-suc-le-zero, eq-or-lt_of_le, arith, length-set, drop_of_length-le, get_or-set_same, get_or-set_other, set-set}
use Rattle.std.proofs.lemmas.List.{set_comm}
use Rattle.std.proofs.lemmas.List.Edits.{sets, sets-eq}
use borrow.Rule.Slice.PartMut.{put_mid, Post-is}
use Rattle.words.specs.Apart.{Apart, Apart.ahead, Apart.behind}

-- l with ws in place of its words from place b on
unfoldable pub splice : {X : Type 0} → List X → ℕ → List X → List X
splice l b [] = l
splice l b (w ∷ ws) = splice (set l b w) (suc b) ws

-- ---- length

pub length-splice : (l : List ℕ) (b : ℕ) (ws : List ℕ) → length (splice l b ws) ≡ length l
unfolding splice
length-splice l b [] = refl
length-splice l b (w ∷ ws) = length-splice (set l b w) (suc b) ws ∙ length-set l b w

-- ---- runs behind one another

pub splice-append : (l : List ℕ) (b : ℕ) (us ws : List ℕ) → splice l b (us ++ ws) ≡ splice (splice l b us) (b + length us) ws
unfolding splice
splice-append l b [] ws = rw add-zero
splice-append l b (u ∷ us) ws = rw (add-suc, ← suc-add) (splice-append (set l b u) (suc b) us ws)

-- one word more at the end
pub splice_snoc : (l : List ℕ) (b : ℕ) (ws : List ℕ) (w : ℕ) → splice l b (ws ++ (w ∷ [])) ≡ set (splice l b ws) (b + length ws) w
unfolding splice
splice_snoc l b ws w = splice-append l b ws (w ∷ [])

-- ---- reading one word

pub get_or-splice-before : (l : List ℕ) (b : ℕ) (ws : List ℕ) (i : ℕ) → i < b → get_or (splice l b ws) i 0 ≡ get_or l i 0
unfolding splice
get_or-splice-before l b [] i h = refl
get_or-splice-before l b (w ∷ ws) i h =
    get_or-splice-before (set l b w) (suc b) ws i (omega arith) ∙ get_or-set_other l b i w 0 (omega arith)

pub get_or-splice-behind : (l : List ℕ) (b : ℕ) (ws : List ℕ) (i : ℕ) → b + length ws ≤ i → get_or (splice l b ws) i 0 ≡ get_or l i 0
unfolding splice
get_or-splice-behind l b [] i h = refl
get_or-splice-behind l b (w ∷ ws) i h =
    get_or-splice-behind (set l b w) (suc b) ws i (omega arith) ∙ get_or-set_other l b i w 0 (omega arith)

pub get_or-splice-inside : (l : List ℕ) (b : ℕ) (ws : List ℕ) (j : ℕ) → j < length ws → b + length ws ≤ length l
    → get_or (splice l b ws) (b + j) 0 ≡ get_or ws j 0
unfolding splice
get_or-splice-inside l b [] j h fits = absurd (not-suc-le-zero h)
get_or-splice-inside l b (w ∷ ws) zero h fits =
    rw add-zero (get_or-splice-before (set l b w) (suc b) ws b (omega arith) ∙ get_or-set_same l b w 0 (omega arith))
get_or-splice-inside l b (w ∷ ws) (suc j) h fits =
    rw (add-suc, ← suc-add) (get_or-splice-inside (set l b w) (suc b) ws j (omega arith) (rw length-set (omega arith)))

-- ---- writes that are apart: either may be done first

pub splice-set-before : (l : List ℕ) (b : ℕ) (ws : List ℕ) (i w : ℕ) → i < b → splice (set l i w) b ws ≡ set (splice l b ws) i w
unfolding splice
splice-set-before l b [] i w h = refl
splice-set-before l b (v ∷ ws) i w h =
    rw (set_comm l i b w v (omega arith)) (splice-set-before (set l b v) (suc b) ws i w (omega arith))

splice_comm_ahead : (l : List ℕ) (b : ℕ) (us : List ℕ) (d : ℕ) (ws : List ℕ) → b + length us ≤ d
    → splice (splice l b us) d ws ≡ splice (splice l d ws) b us
unfolding splice
splice_comm_ahead l b [] d ws h = refl
splice_comm_ahead l b (u ∷ us) d ws h =
    splice_comm_ahead (set l b u) (suc b) us d ws (omega arith)
    ∙ ap (λ (x : List ℕ). splice x (suc b) us) (splice-set-before l d ws b u (omega arith))

pub splice_comm : (l : List ℕ) (b : ℕ) (us : List ℕ) (d : ℕ) (ws : List ℕ) → Apart b (length us) d (length ws)
    → splice (splice l b us) d ws ≡ splice (splice l d ws) b us
splice_comm l b us d ws (ahead h) = splice_comm_ahead l b us d ws h
splice_comm l b us d ws (behind h) = sym (splice_comm_ahead l d ws b us h)

-- the run that stands behind is written first
pub splice-append-last : (l : List ℕ) (b : ℕ) (us ws : List ℕ) → splice l b (us ++ ws) ≡ splice (splice l (b + length us) ws) b us
splice-append-last l b us ws = splice-append l b us ws ∙ splice_comm_ahead l b us (b + length us) ws (omega arith)

-- ---- one write over another: what is written over is lost

pub splice-set-inside : (l : List ℕ) (b : ℕ) (ws : List ℕ) (i w : ℕ) → b ≤ i → i < b + length ws → splice (set l i w) b ws ≡ splice l b ws
unfolding splice
splice-set-inside l b [] i w low high = absurd (omega arith)
splice-set-inside l b (v ∷ ws) i w low high =
    ⊎_elim
    (λ (e : b ≡ i). rw (← e, set-set))
    (λ (h : b < i). rw (set_comm l i b w v (omega arith)) (splice-set-inside (set l b v) (suc b) ws i w h (omega arith)))
    (eq-or-lt_of_le low)

pub splice_over : (l : List ℕ) (b : ℕ) (us : List ℕ) (d : ℕ) (ws : List ℕ) → d ≤ b → b + length us ≤ d + length ws
    → splice (splice l b us) d ws ≡ splice l d ws
unfolding splice
splice_over l b [] d ws low high = refl
splice_over l b (u ∷ us) d ws low high =
    splice_over (set l b u) (suc b) us d ws (omega arith) (omega arith) ∙ splice-set-inside l d ws b u low (omega arith)

-- ---- the result as parts

splice_sets : {X : Type 0} (l : List X) (b : ℕ) (ws : List X) → splice l b ws ≡ sets l b ws
unfolding splice
splice_sets l b [] = refl
splice_sets l b (w ∷ ws) = splice_sets (set l b w) (suc b) ws

pub splice-parts : {X : Type 0} (l : List X) (b : ℕ) (ws : List X) → b + length ws ≤ length l
    → splice l b ws ≡ take b l ++ (ws ++ drop (b + length ws) l)
splice-parts l b ws fits = splice_sets l b ws ∙ sets-eq ws l b fits ∙ append_assoc (take b l) ws (drop (b + length ws) l)

-- a run as long as the list
pub splice_whole : (l ws : List ℕ) → length ws ≡ length l → splice l 0 ws ≡ ws
splice_whole l ws e =
    let none : length l ≤ 0 + length ws = omega arith in
    splice-parts l 0 ws (omega arith) ∙ ap (◌++◌ ws) (drop_of_length-le l none) ∙ append-nil ws

-- a part of a list put back as ws: those before place b, ws, and those from e on
pub splice-part : {X : Type 0} (l : List X) (b e : ℕ) (ws : List X) → b ≤ e → e ≤ length l → length ws ≡ e - b
    → put_mid b (e - b) l ws ≡ splice l b ws
splice-part l b e ws low high long =
    let behind : b + length ws ≡ e = omega arith in
    rw (Post-is b e l low) (rw (← behind) (sym (splice-parts l b ws (omega arith))))

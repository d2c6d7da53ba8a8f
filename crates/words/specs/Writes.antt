-- `Writes`: what a loop that writes words one behind the other has done and has left to do. Assumes nothing.
use Rattle.std.specs.Prelude.{◌≡◌, refl, List, [], ◌∷◌, ◌++◌, ℕ, ◌+◌, ◌≤◌, length, get_or, set}
use Rattle.std.proofs.Common.{sym, ap, ◌∙◌, arith, length-append}
use Rattle.words.specs.Apart.{Apart, apart-within}
use Rattle.words.specs.Splice.{splice, length-splice, splice-append}
use Rattle.words.specs.Parts.{Same, splice_same}

-- of all, to be written into s₀ from place b on, what stands ahead of place d is written, which makes s, and rest is left
pub record Writes (s₀ s : List ℕ) (b d : ℕ) (all rest : List ℕ) : Type 0 where
  pub long : length s ≡ length s₀
  pub place : d + length rest ≡ b + length all
  pub low : b ≤ d
  pub same : splice s d rest ≡ splice s₀ b all

-- ---- the loop begins, goes on, ends

pub writes_start : (s : List ℕ) (b : ℕ) (all : List ℕ) → Writes s s b b all all
writes_start s b all = record { long = refl; place = refl; low = omega arith; same = refl }

pub writes-run : {s₀ s : List ℕ} {b d : ℕ} {all : List ℕ} (ws : List ℕ) {rest : List ℕ} (n : ℕ) → length ws ≡ n
    → Writes s₀ s b d all (ws ++ rest) → Writes s₀ (splice s d ws) b (d + n) all rest
writes-run {s = s} {d = d} ws {rest = rest} n e w =
    record {
      long = length-splice s d ws ∙ w.long;
      place = omega (arith, length-append ws rest);
      low = omega arith;
      same = rw (← e) (sym (splice-append s d ws rest)) ∙ w.same;
    }

pub writes-word : {s₀ s : List ℕ} {b d : ℕ} {all : List ℕ} {x : ℕ} {rest : List ℕ}
    → Writes s₀ s b d all (x ∷ rest) → Writes s₀ (set s d x) b (d + 1) all rest
unfolding splice
writes-word {x = x} w = writes-run (x ∷ []) 1 refl w

pub writes-done : {s₀ s : List ℕ} {b d : ℕ} {all : List ℕ} → Writes s₀ s b d all [] → s ≡ splice s₀ b all
unfolding splice
writes-done w = w.same

-- ---- what is read meanwhile, apart from what is written, is as it was

module _ {s₀ s : List ℕ} {b d : ℕ} {all rest : List ℕ} {a n : ℕ} (w : Writes s₀ s b d all rest) (h : Apart a n b (length all)) where
  pub writes_same : Same s s₀ a n
  writes_same =
      let now = splice_same s d rest (apart-within d (length rest) h w.low (omega arith)) (omega arith) in
      let first = splice_same s₀ b all h (omega arith) in
      record {
        at = λ i low high. sym (now.at i low high) ∙ ap (λ (l : List ℕ). get_or l i 0) w.same ∙ first.at i low high;
      }

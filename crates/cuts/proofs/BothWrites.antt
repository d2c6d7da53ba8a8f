-- Words written one behind the other from two places on, by turns: what is done and what is left. Assumes nothing.
use mathlib.Core.Path.{◌≡◌, refl, sym, ap, ◌∙◌}
use mathlib.Core.List.{List, [], ◌++◌}
use Prim.Native.Nat.{ℕ, ◌+◌, ◌≤◌}
use native.Mathlib.Omega.{arith}
use lib.ListN.{length, get_or, length-append}
use Rattle.words.specs.Apart.{Apart, apart_swap, apart-within}
use Rattle.words.specs.Splice.{splice, length-splice, splice-append, splice_comm}
use Rattle.words.specs.Parts.{Same, splice_same}
use Rattle.cuts.specs.declared.halves.Ends.{Ends}
use Rattle.cuts.specs.BothHalves.{BothPut}

-- of the words us and vs, to be written into s₀ from the two places `to` on, what stands ahead of the places `at` is written, which makes s, and ls and rs are left
pub record BothWrites (s₀ s : List ℕ) (to at : Ends) (us vs ls rs : List ℕ) : Type 0 where
  pub long : length s ≡ length s₀
  pub apart : Apart to.left (length us) to.right (length vs)
  pub left-place : at.left + length ls ≡ to.left + length us
  pub left_low : to.left ≤ at.left
  pub right-place : at.right + length rs ≡ to.right + length vs
  pub right_low : to.right ≤ at.right
  pub same : splice (splice s at.left ls) at.right rs ≡ splice (splice s₀ to.left us) to.right vs

pub both-start : (s : List ℕ) (to : Ends) (us vs : List ℕ) → Apart to.left (length us) to.right (length vs) → BothWrites s s to to us vs us vs
both-start s to us vs h =
    record { long = refl; apart = h; left-place = refl; left_low = omega arith; right-place = refl; right_low = omega arith; same = refl }

-- words behind each place: those from the left place on commute with those that the right still has ahead
turn : (s : List ℕ) (l r : ℕ) (us vs ls rs : List ℕ) → Apart r (length vs) (l + length us) (length ls)
    → splice (splice (splice (splice s l us) r vs) (l + length us) ls) (r + length vs) rs ≡ splice (splice s l (us ++ ls)) r (vs ++ rs)
turn s l r us vs ls rs h =
    let first = splice s l us in
    ap (λ (x : List ℕ). splice x (r + length vs) rs) (splice_comm first r vs (l + length us) ls h)
    ∙ sym (splice-append (splice first (l + length us) ls) r vs rs)
    ∙ ap (λ (x : List ℕ). splice x r (vs ++ rs)) (sym (splice-append s l us ls))

module _ {s₀ s : List ℕ} {to at : Ends} {us vs : List ℕ} where
  pub both_turn : {xs ys ls rs : List ℕ} → BothWrites s₀ s to at us vs (xs ++ ls) (ys ++ rs) → {t : List ℕ} {q : Ends} → BothPut s at xs ys t q
      → BothWrites s₀ t to q us vs ls rs
  both_turn {xs} {ys} {ls} {rs} w p =
      let lefts = length-append xs ls in
      let rights = length-append ys rs in
      let inner : Apart to.left (length us) at.right (length ys) = apart-within at.right (length ys) w.apart w.right_low (omega (arith, w.right-place)) in
      let free : Apart at.right (length ys) (at.left + length xs) (length ls) =
      apart-within (at.left + length xs) (length ls) (apart_swap inner) (omega (arith, w.left_low)) (omega (arith, w.left-place)) in
      record {
        long = ap length p.words ∙ length-splice (splice s at.left xs) at.right ys ∙ length-splice s at.left xs ∙ w.long;
        apart = w.apart;
        left-place = omega (arith, w.left-place, p.left_behind);
        left_low = omega (arith, w.left_low, p.left_behind);
        right-place = omega (arith, w.right-place, p.right-behind);
        right_low = omega (arith, w.right_low, p.right-behind);
        same = rw (p.words, p.left_behind, p.right-behind) (turn s at.left at.right xs ys ls rs free ∙ w.same);
      }

  pub both-done : BothWrites s₀ s to at us vs [] [] → BothPut s₀ to us vs s at
  unfolding splice
  both-done w = record { words = w.same; left_behind = omega (arith, w.left-place); right-behind = omega (arith, w.right-place) }

  -- what is read meanwhile, apart from what is written, is as it was
  pub both_same : {ls rs : List ℕ} → BothWrites s₀ s to at us vs ls rs
      → {a n : ℕ} → Apart a n to.left (length us) → Apart a n to.right (length vs) → Same s s₀ a n
  both_same {ls} {rs} w h k =
      let now-left = splice_same s at.left ls (apart-within at.left (length ls) h w.left_low (omega (arith, w.left-place))) (omega arith) in
      let now-right =
      splice_same (splice s at.left ls) at.right rs (apart-within at.right (length rs) k w.right_low (omega (arith, w.right-place))) (omega arith) in
      let then-left = splice_same s₀ to.left us h (omega arith) in
      let then-right = splice_same (splice s₀ to.left us) to.right vs k (omega arith) in
      record {
        at = λ i low high.
            sym (now-right.at i low high ∙ now-left.at i low high)
            ∙ ap (λ (l : List ℕ). get_or l i 0) w.same ∙ then-right.at i low high ∙ then-left.at i low high;
      }

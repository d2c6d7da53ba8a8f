-- The words of a frame, read one behind the other. Assumes nothing.
use Rattle.std.specs.Prelude.{◌≡◌, refl, Bool, true, false, cond, List, [], ◌∷◌, ◌++◌, ℕ, suc, ◌+◌, ◌-◌, ◌*◌, ◌≤◌, ◌<◌, eqb, length, set, take, Ok, Err}
use Rattle.std.proofs.Common.{sym, ap, ◌∙◌, add-zero, add-one, append-nil, append_assoc, arith, length-set, ne_eqb}
use Rattle.std.proofs.lemmas.Bool.{eq-eqb}
use native.Mathlib.Nat.{sub-zero}
use lib.Seq.{take_all, take-suc-set}
use Rattle.frames.specs.Lines.{Frame, malformed, argument, arguments, with_words}
use Rattle.frames.specs.Calling.{words_in}
use Rattle.frames.specs.declared.calls.Refusal.{Refusal}
use Rattle.frames.specs.declared.calls.Refusal.TheVariants.{Malformed}

-- of n words from place first on, i are read
pub record Reads (bytes words : List ℕ) (first n i : ℕ) : Type 0 where
  pub long : length words ≡ n
  pub whole : take i words ++ arguments (n - i) bytes (first + i) ≡ arguments n bytes first

pub reads_start : (bytes words : List ℕ) (first : ℕ) → Reads bytes words first (length words) 0
reads_start bytes words first = record { long = refl; whole = rw (add-zero first, sub-zero (length words)) }

module _ {bytes words : List ℕ} {first n i : ℕ} (h : Reads bytes words first n i) where
  pub reads_word : i < n → {w : ℕ} → w ≡ argument bytes (first + i) → Reads bytes (set words i w) first n (i + 1)
  unfolding arguments
  reads_word more {w} is =
      let left : n - i ≡ suc (n - (i + 1)) = omega arith in
      let next : suc (first + i) ≡ first + (i + 1) = omega arith in
      let one : arguments (n - i) bytes (first + i) ≡ w ∷ arguments (n - (i + 1)) bytes (first + (i + 1)) = rw (left, ← is, next) in
      record {
        long = length-set words i w ∙ h.long;
        whole =
            rw (add-one i, take-suc-set words i w (omega (arith, h.long)), ← add-one i)
            (append_assoc (take i words) (w ∷ []) (arguments (n - (i + 1)) bytes (first + (i + 1))) ∙ ap (λ (x : List ℕ). take i words ++ x) (sym one) ∙ h.whole);
      }

  pub reads_done : n ≤ i → words ≡ arguments n bytes first
  unfolding arguments
  reads_done end =
      let none : n - i ≡ 0 = omega arith in
      let whole : take i words ++ [] ≡ arguments n bytes first = rw none at h.whole in
      sym (take_all i words (omega (arith, h.long))) ∙ sym (append-nil (take i words)) ∙ whole

-- ---- a count of words that is asked for

module _ (n : ℕ) (bytes : List ℕ) where
  pub words_wrong : (length bytes ≡ 4 * n → ⊥) → Err Malformed ≡ words_in n bytes
  unfolding words_in
  words_wrong e = rw (ne_eqb (length bytes) (4 * n) e)

  pub words_right : length bytes ≡ 4 * n → {ws : List ℕ} → ws ≡ arguments n bytes 0 → Ok ws ≡ words_in n bytes
  unfolding words_in
  words_right e is = rw (eq-eqb (length bytes) (4 * n) e, ← is)

  -- another count is malformed
  pub words_err : {r : Refusal} (f : Frame) → Err r ≡ words_in n bytes → (r ≡ Malformed) × (with_words n bytes f ≡ malformed)
  unfolding words_in with_words
  words_err {r} f e = go (eqb (length bytes) (4 * n)) e where
    go : (b : Bool) → Err r ≡ cond b (Ok (arguments n bytes 0)) (Err Malformed) → (r ≡ Malformed) × (cond b f malformed ≡ malformed)
    go true e = absurd (cc)
    go false e = (cc, refl)

  pub words_ok : {ws : List ℕ} (f : Frame) → Ok ws ≡ words_in n bytes → (ws ≡ arguments n bytes 0) × (with_words n bytes f ≡ f)
  unfolding words_in with_words
  words_ok {ws} f e = go (eqb (length bytes) (4 * n)) e where
    go : (b : Bool) → Ok ws ≡ cond b (Ok (arguments n bytes 0)) (Err Malformed) → (ws ≡ arguments n bytes 0) × (cond b f malformed ≡ f)
    go true e = (cc, refl)
    go false e = absurd (cc)

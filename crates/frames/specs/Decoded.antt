-- Which characters have a value, and which lines have bytes: the digits, and the lines of digits. Assumes nothing.
use Rattle.std.specs.Prelude.{◌≡◌, refl, Bool, true, false, ◌&&◌, ◌||◌, cond, List, [], ◌∷◌, ℕ, suc, ◌-◌, ◌%◌, leb, eqb, length, Option, Some, None}
use Rattle.std.specs.Option.{is_some}
use Rattle.std.proofs.Common.{sym, ap, ap₂, ◌∙◌, arith}
use Rattle.model.specs.Lists.{every}
use Rattle.laws.specs.Booleans.{and_no}
use Rattle.frames.specs.Digits.{digit_value, is_digit, byte_before, bytes_of}
use Rattle.frames.specs.Lines.{max_digits, digits_ok, decoded}

-- A character has a value just where it is a digit.
pub digit_some : (c : ℕ) → is_some (digit_value c) ≡ is_digit c
digit_some c = go (leb 48 c && leb c 57) (leb 65 c && leb c 70) where
  go : (a b : Bool) → is_some (cond a (Some (c - 48)) (cond b (Some (c - 55)) None)) ≡ (a || b)
  go true b = refl
  go false true = refl
  go false false = refl

byte_some : (high low : Option ℕ) (behind : Option (List ℕ)) → is_some (byte_before high low behind) ≡ (is_some high && (is_some low && is_some behind))
unfolding byte_before
byte_some None low behind = refl
byte_some (Some high) None behind = refl
byte_some (Some high) (Some low) None = refl
byte_some (Some high) (Some low) (Some bytes) = refl

swap : (a b e d : Bool) → (a && (b && (e && d))) ≡ (e && (a && (b && d)))
swap true true e d = refl
swap true false e d = sym (and_no e false refl)
swap false b e d = sym (and_no e false refl)

bytes_some : (l : List ℕ) → is_some (bytes_of l) ≡ (eqb (length l % 2) 0 && every is_digit l)
unfolding bytes_of
bytes_some [] = refl
bytes_some (a ∷ []) = refl
bytes_some (a ∷ b ∷ l) =
    let even : length l % 2 ≡ suc (suc (length l)) % 2 = omega arith in
    byte_some (digit_value a) (digit_value b) (bytes_of l)
    ∙ ap₂ ◌&&◌ (digit_some a) (ap₂ ◌&&◌ (digit_some b) (bytes_some l))
    ∙ swap (is_digit a) (is_digit b) (eqb (length l % 2) 0) (every is_digit l)
    ∙ ap (λ (n : ℕ). eqb n 0 && (is_digit a && (is_digit b && every is_digit l))) even

-- A line has bytes just where it is at most 4,000 characters, none odd and all digits.
pub decoded_some : (line : List ℕ) → is_some (decoded line) ≡ digits_ok line
unfolding decoded digits_ok
decoded_some line = go (leb (length line) max_digits) where
  go : (b : Bool) → is_some (cond b (bytes_of line) None) ≡ (b && eqb (length line % 2) 0 && every is_digit line)
  go true = bytes_some line
  go false = refl

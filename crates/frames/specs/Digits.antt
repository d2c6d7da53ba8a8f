-- Uppercase hexadecimal: what a line of digits says, and the digits of bytes. Assumes nothing.
use Rattle.std.specs.Prelude.{Bool, ◌&&◌, ◌||◌, cond, List, [], ◌∷◌, ℕ, ◌+◌, ◌-◌, ◌*◌, ◌/◌, ◌%◌, leb, ltb, Option, Some, None}
use Rattle.model.specs.Lists.{gather}

-- ---- digits read

-- The value of a digit, 0 to 9 or A to F; none for another character.
abbrev pub digit_value : ℕ → Option ℕ
digit_value c = cond (leb 48 c && leb c 57) (Some (c - 48)) (cond (leb 65 c && leb c 70) (Some (c - 55)) None)

-- Is a character a digit?
abbrev pub is_digit : ℕ → Bool
is_digit c = (leb 48 c && leb c 57) || (leb 65 c && leb c 70)

-- The byte of two digits, and the bytes of the digits behind them; none where either says none.
unfoldable pub byte_before : Option ℕ → Option ℕ → Option (List ℕ) → Option (List ℕ)
byte_before (Some high) (Some low) (Some bytes) = Some ((high * 16 + low) ∷ bytes)
byte_before (Some high) (Some low) None = None
byte_before (Some high) None behind = None
byte_before None low behind = None

-- The bytes of digits: two to a byte, the high one first; none where a digit is odd, or another character stands among them.
unfoldable pub bytes_of : List ℕ → Option (List ℕ)
unfolding byte_before
bytes_of [] = Some []
bytes_of (a ∷ []) = None
bytes_of (a ∷ b ∷ l) = byte_before (digit_value a) (digit_value b) (bytes_of l)

-- ---- digits written

-- The digit of a value below 16.
abbrev pub digit_of : ℕ → ℕ
digit_of v = cond (ltb v 10) (48 + v) (55 + v)

-- The two digits of a byte, and those of all bytes.
abbrev pub byte_digits : ℕ → List ℕ
byte_digits b = digit_of (b / 16) ∷ digit_of (b % 16) ∷ []

abbrev pub digits_of : List ℕ → List ℕ
digits_of = gather byte_digits

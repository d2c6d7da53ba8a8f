-- The numbers in a file: of two and four bytes, and times and lengths in groups of seven bits. s is a list of bytes. Assumes nothing.
use Rattle.std.specs.Prelude.{ℕ, zero, suc, ◌+◌, ◌-◌, ◌*◌, ◌/◌, ◌%◌, true, false, List, [], ◌∷◌, ltb, length, get_or}

-- ---- two and four bytes, high byte first

-- The number of two bytes at a position, and of four.
abbrev pub word16 : List ℕ → ℕ → ℕ
word16 s at = get_or s at 0 * 256 + get_or s (at + 1) 0

abbrev pub word32 : List ℕ → ℕ → ℕ
word32 s at = word16 s at * 65536 + word16 s (at + 2)

-- A number as two bytes, and as four.
abbrev pub word16_bytes : ℕ → List ℕ
word16_bytes n = n / 256 ∷ n % 256 ∷ []

abbrev pub word32_bytes : ℕ → List ℕ
word32_bytes n = n / 16777216 ∷ n / 65536 % 256 ∷ n / 256 % 256 ∷ n % 256 ∷ []

-- ---- groups of seven bits: times, and the lengths of meta, F0 and F7 events

-- What stands at a position: no such number, or a number and the position behind it.
pub data Quantity : Type 0 where
  no_quantity : Quantity
  quantity : ℕ → ℕ → Quantity

-- At most g further groups behind those that have given `sum`: a byte of 80 or more has a group and goes on, one below 80 has the last.
unfoldable pub quantity_from : ℕ → List ℕ → ℕ → ℕ → Quantity
quantity_from zero s at sum = no_quantity
quantity_from (suc g) s at sum = elim (ltb at (length s)) [
  | false ↦ no_quantity
  | true ↦ elim (ltb (get_or s at 0) 128) [
    | true ↦ quantity (sum * 128 + get_or s at 0) (suc at)
    | false ↦ quantity_from g s (suc at) (sum * 128 + (get_or s at 0 - 128))
  ]
]

-- Times are one to four groups of seven bits; longer than needed is allowed.
abbrev pub quantity_at : List ℕ → ℕ → Quantity
quantity_at s at = quantity_from 4 s at 0

-- A written time takes the fewest of one to four groups.
unfoldable pub quantity_bytes : ℕ → List ℕ
quantity_bytes n = elim (ltb n 128) [
  | true ↦ n ∷ []
  | false ↦ elim (ltb n 16384) [
    | true ↦ (128 + n / 128) ∷ n % 128 ∷ []
    | false ↦ elim (ltb n 2097152) [
      | true ↦ (128 + n / 16384) ∷ (128 + n / 128 % 128) ∷ n % 128 ∷ []
      | false ↦ (128 + n / 2097152) ∷ (128 + n / 16384 % 128) ∷ (128 + n / 128 % 128) ∷ n % 128 ∷ []
    ]
  ]
]

-- Digits that are written one behind the other, and what is collected where bytes are written behind others. Assumes nothing.
use Rattle.std.specs.Prelude.{◌≡◌, refl, List, [], ◌∷◌, ◌++◌, ℕ, ◌+◌, ◌*◌, ◌≤◌, ◌<◌, length, get_or, take, drop}
use Rattle.std.proofs.Common.{append_assoc, add-zero, add-one, arith, length-append, drop_of_length-le, length-take-le, take_at}
use lib.Seq.{drop-cons}
use Rattle.words.specs.Splice.{splice, splice-parts}
use Rattle.words.specs.Writes.{Writes, writes_start, writes-run, writes-done}
use Rattle.frames.specs.Digits.{byte_digits, digits_of}

-- two digits to a byte
pub length-digits_of : (bs : List ℕ) → length (digits_of bs) ≡ 2 * length bs
length-digits_of [] = refl
length-digits_of (b ∷ bs) = omega (arith, length-digits_of bs)

-- the digits of i bytes are written, from place at on
pub record Puts (out₀ out bytes : List ℕ) (at i : ℕ) : Type 0 where
  pub writes : Writes out₀ out at (at + 2 * i) (digits_of bytes) (digits_of (drop i bytes))

pub puts_start : (out bytes : List ℕ) (at : ℕ) → Puts out out bytes at 0
puts_start out bytes at = record { writes = rw add-zero (writes_start out at (digits_of bytes)) }

module _ {out₀ out bytes : List ℕ} {at i : ℕ} (h : Puts out₀ out bytes at i) where
  pub puts_byte : i < length bytes → {out' : List ℕ} → out' ≡ splice out (at + 2 * i) (byte_digits (get_or bytes i 0)) → Puts out₀ out' bytes at (i + 1)
  puts_byte more e =
      let next = rw (drop-cons bytes i 0 more) at h.writes in
      let place : at + 2 * i + 2 ≡ at + 2 * (i + 1) = omega arith in
      record { writes = rw (e, ← place, add-one i) (writes-run (byte_digits (get_or bytes i 0)) 2 refl next) }

  pub puts_done : length bytes ≤ i → out ≡ splice out₀ at (digits_of bytes)
  puts_done end = writes-done (rw (drop_of_length-le bytes end) at h.writes)

-- what stands ahead of a place and what is written there
pub take-splice : (l : List ℕ) (b : ℕ) (ws : List ℕ) → b + length ws ≤ length l → take (b + length ws) (splice l b ws) ≡ take b l ++ ws
take-splice l b ws fits =
    let long = length-take-le b l (omega arith) in
    rw (splice-parts l b ws fits, ← append_assoc (take b l) ws (drop (b + length ws) l))
    (take_at (take b l ++ ws) (drop (b + length ws) l) (b + length ws) (omega (arith, length-append (take b l) ws)))

-- Laws of && and ||.
-- Assumes nothing.
use Rattle.std.specs.Prelude.{Bool, ◌&&◌, ◌||◌, false, true, ◌≡◌, refl}
use Rattle.std.proofs.Common.{true≢false, sym}

pub and_left : (a b : Bool) → a && b ≡ true → a ≡ true
and_left true b e = refl
and_left false b e = e

pub and_right : (a b : Bool) → a && b ≡ true → b ≡ true
and_right true b e = e
and_right false b e = absurd (true≢false (sym e))

pub and_yes : {a b : Bool} → a ≡ true → b ≡ true → a && b ≡ true
and_yes p q = cc

pub and_no : (a b : Bool) → b ≡ false → a && b ≡ false
and_no true b e = e
and_no false b e = refl

pub or_left : {a : Bool} (b : Bool) → a ≡ true → a || b ≡ true
or_left b e = rw e

pub or_right : (a : Bool) {b : Bool} → b ≡ true → a || b ≡ true
or_right true e = refl
or_right false e = e

pub mid : (a : Bool) {b : Bool} (c d : Bool) → b ≡ false → a && b && c && d ≡ false
mid true c d e = rw e
mid false c d e = refl

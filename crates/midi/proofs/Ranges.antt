-- Notes in range up to a tick, and what the test of a note list says of them. Assumes nothing.
use mathlib.Core.List.{List}
use mathlib.Core.Path.{◌≡◌}
use mathlib.Core.Bool.{true}
use Prim.Native.Nat.{ℕ, ◌*◌, ◌≤◌, ◌<◌}
use native.Mathlib.Omega.{arith}
use lib.Dec.{leb}
use borrow.Author.Tests.{le-leb, leb-true}
use Rattle.model.specs.Limits.{velocity_ok}
use Rattle.model.specs.Soundness.{notes_ok}
use Rattle.model.specs.declared.Note.{Note}
use Rattle.laws.specs.Booleans.{and_left, and_right, and_yes}
use Rattle.laws.specs.Notes.{Fair, Follow, fair_notes, pairs_ok}
use Rattle.laws.specs.Relations.{All, Pairs, all_imp}

-- A note in range that ends at a tick or before it.
pub record Fits (top : ℕ) (n : Note) : Type 0 where
  pub low : n.lane < 2048
  pub long : n.start < n.end
  pub within : n.end ≤ top
  pub loud : 1 ≤ n.velocity
  pub soft : n.velocity ≤ 127

pub fits_later : (t u : ℕ) → t ≤ u → (n : Note) → Fits t n → Fits u n
fits_later t u h n f = record { low = f.low; long = f.long; within = omega (arith, f.within); loud = f.loud; soft = f.soft }

module _ (δ beats : ℕ) where
  fair_fits : (n : Note) → Fair δ beats n → Fits (beats * δ) n
  unfolding velocity_ok
  fair_fits n f = record {
    low = f.lane_below;
    long = f.order;
    within = f.fits;
    loud = leb-true 1 n.velocity (and_left (leb 1 n.velocity) (leb n.velocity 127) f.loud);
    soft = leb-true n.velocity 127 (and_right (leb 1 n.velocity) (leb n.velocity 127) f.loud);
  }

  fits_fair : (n : Note) → Fits (beats * δ) n → Fair δ beats n
  unfolding velocity_ok
  fits_fair n f = record {
    lane_below = f.low;
    order = f.long;
    fits = f.within;
    loud = and_yes (le-leb 1 n.velocity f.loud) (le-leb n.velocity 127 f.soft);
  }

  pub ok_fits : (ns : List Note) → notes_ok δ beats ns ≡ true → All (Fits (beats * δ)) ns
  ok_fits ns e = all_imp (Fair δ beats) (Fits (beats * δ)) ns fair_fits (fair_notes δ beats ns e)

  pub fits_ok : (ns : List Note) → All (Fits (beats * δ)) ns → Pairs Follow ns → notes_ok δ beats ns ≡ true
  fits_ok ns a p = pairs_ok δ beats ns (all_imp (Fits (beats * δ)) (Fair δ beats) ns fits_fair a) p

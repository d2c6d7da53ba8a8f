-- How reading a file goes, question by question (9, 10 and 11), and where its track lies. Assumes nothing.
use mathlib.Core.Bool.{true, ◌&&◌}
use mathlib.Core.List.{List}
use mathlib.Core.Path.{◌≡◌, ◌∙◌}
use Prim.Native.Nat.{ℕ, zero, suc, ◌+◌, ◌-◌, ◌≤◌}
use native.Mathlib.Omega.{arith}
use lib.Dec.{leb, eqb}
use lib.ListN.{length, take, drop}
use borrow.Author.Tests.{eqb-true, leb-true}
use Rattle.laws.specs.Booleans.{and_left, and_right}
use Rattle.midi.specs.Numbers.{word32}
use Rattle.midi.specs.Reading.{read_track, MThd, MTrk, header_there, header_fits, chunk_there, Chunk, no_track, track, track_from, read_file}
use Rattle.midi.proofs.Branches.{by_test}
use Rattle.midi.proofs.Loops.{track_after, chunks_start}

-- ---- the header

-- What question 9 says of a file.
pub record HeaderThere (s : List ℕ) : Type 0 where
  pub some : 8 ≤ length s
  pub name : word32 s 0 ≡ MThd
  pub long : 6 ≤ word32 s 4
  pub inside : 8 + word32 s 4 ≤ length s

pub header_there_lem : (s : List ℕ) → header_there s ≡ true → HeaderThere s
unfolding header_there
header_there_lem s e =
    let a = leb 8 (length s) in
    let b = eqb (word32 s 0) MThd in
    let c = leb 6 (word32 s 4) in
    let d = leb (8 + word32 s 4) (length s) in
    let abc = and_left (a && b && c) d e in
    let ab = and_left (a && b) c abc in
    record {
      some = leb-true 8 (length s) (and_left a b ab);
      name = eqb-true (word32 s 0) MThd (and_right a b ab);
      long = leb-true 6 (word32 s 4) (and_right (a && b) c abc);
      inside = leb-true (8 + word32 s 4) (length s) (and_right (a && b && c) d e);
    }

-- ---- the chunks

pub chunk_inside : (s : List ℕ) (at : ℕ) → chunk_there s at ≡ true → at + 8 + word32 s (at + 4) ≤ length s
unfolding chunk_there
chunk_inside s at e =
    leb-true (at + 8 + word32 s (at + 4)) (length s)
    (and_right (leb (at + 8) (length s)) (leb (at + 8 + word32 s (at + 4)) (length s)) e)

abbrev Within : List ℕ → ℕ → Chunk → Type 0
Within s at no_track = Unit {0}
Within s at (track a n) = (at + 8 ≤ a) × (a + n ≤ length s)

within-earlier : (s : List ℕ) (at later : ℕ) (c : Chunk) → at ≤ later → Within s later c → Within s at c
within-earlier s at later no_track h w = tt
within-earlier s at later (track a n) h w = (omega (arith, w.0), w.1)

from-within : (fuel : ℕ) (s : List ℕ) (at : ℕ) → Within s at (track_from fuel s at)
unfolding track_from
from-within zero s at = tt
from-within (suc fuel) s at = go (from-within fuel s (at + 8 + word32 s (at + 4)))
  where
    go : Within s (at + 8 + word32 s (at + 4)) (track_from fuel s (at + 8 + word32 s (at + 4))) → Within s at (track_from (suc fuel) s at)
    go ih =
        by_test (Within s at) (chunk_there s at)
        (λ e. by_test (Within s at) (eqb (word32 s at) MTrk) (λ f. (omega arith, chunk_inside s at e))
        (λ f. within-earlier s at (at + 8 + word32 s (at + 4)) (track_from fuel s (at + 8 + word32 s (at + 4))) (omega arith) ih))
        (λ e. tt)

-- A track that is found lies inside the file, behind where the search began.
pub track-inside : (s : List ℕ) (at a n : ℕ) → track_after s at ≡ track a n → (at + 8 ≤ a) × (a + n ≤ length s)
unfolding track_after
track-inside s at a n e = rw e at (from-within (suc (length s - at)) s at)

-- ---- the file

module _ (δ : ℕ) (s : List ℕ) where
  module _ (a : header_there s ≡ true) where
    module _ (b : header_fits δ s ≡ true) where
      pub track_read : (at n : ℕ) → track_after s (8 + word32 s 4) ≡ track at n → read_file δ s ≡ read_track δ (take n (drop at s))
      unfolding read_file
      track_read at n c = rw (a, read_file, b, chunks_start s (8 + word32 s 4) (omega arith) ∙ c)

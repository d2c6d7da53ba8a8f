-- The tests of a file's header and chunks, one after the other, and what a file is read as where its track is. Assumes nothing.
use mathlib.Core.Bool.{Bool, true, false, ◌&&◌}
use mathlib.Core.List.{List}
use mathlib.Core.Path.{◌≡◌, refl, sym, ap, ◌∙◌}
use Prim.Native.Nat.{ℕ, ◌+◌, ◌-◌, ◌≤◌, ◌<◌}
use native.Mathlib.Omega.{arith}
use lib.Dec.{leb, eqb}
use lib.ListN.{length, take, drop}
use borrow.Author.Tests.{eq-eqb, le-leb, leb-true, lt-leb, ne_eqb}
use Rattle.laws.specs.Booleans.{and_left, and_right}
use Rattle.midi.specs.Numbers.{word32}
use Rattle.midi.specs.Reading.{
  FileAnswer,
  refused,
  read_track,
  MThd,
  MTrk,
  header_there,
  header_fits,
  chunk_there,
  Chunk,
  no_track,
  track,
  track_from,
  read_file,
}
use Rattle.midi.proofs.Loops.{track_after, chunk_step, chunks_start}
use Rattle.reader.specs.Chunks.{refusal, chunk_place, track_place, read_place}

-- ---- the header

module _ (s : List ℕ) where
  -- a header that is there: its length is 6 or more, and all is inside the file
  pub there_long : header_there s ≡ true → (6 ≤ word32 s 4) × (8 + word32 s 4 ≤ length s)
  unfolding header_there
  there_long e =
      let name = leb 8 (length s) && eqb (word32 s 0) MThd in
      let six = leb 6 (word32 s 4) in
      let last = leb (8 + word32 s 4) (length s) in
      (leb-true 6 (word32 s 4) (and_right name six (and_left (name && six) last e)), leb-true (8 + word32 s 4) (length s) (and_right (name && six) last e))

-- ---- one chunk

module _ (s : List ℕ) (at : ℕ) (i : at ≤ length s) where
  pub chunk_short : length s - at < 8 → track_after s at ≡ no_track
  unfolding chunk_there
  chunk_short h = chunk_step s at i ∙ rw (lt-leb (at + 8) (length s) (omega arith), chunk_there)

  module _ (h : 8 ≤ length s - at) (size : ℕ) (f : size ≡ word32 s (at + 4)) where
    pub chunk_cut : length s - (at + 8) < size → track_after s at ≡ no_track
    unfolding chunk_there
    chunk_cut k = chunk_step s at i ∙ rw (le-leb (at + 8) (length s) (omega arith), chunk_there, lt-leb (at + 8 + word32 s (at + 4)) (length s) (omega arith))

    module _ (k : size ≤ length s - (at + 8)) (name : ℕ) (e : name ≡ word32 s at) where
      whole : chunk_there s at ≡ true
      unfolding chunk_there
      whole = rw (le-leb (at + 8) (length s) (omega arith), chunk_there) (le-leb (at + 8 + word32 s (at + 4)) (length s) (omega arith))

      pub chunk_track : name ≡ MTrk → track_after s at ≡ track (at + 8) size
      chunk_track g = chunk_step s at i ∙ rw (whole, eq-eqb (word32 s at) MTrk (sym e ∙ g), f)

      pub chunk_other : (name ≡ MTrk → ⊥) → track_after s at ≡ track_after s (at + 8 + size)
      chunk_other d = chunk_step s at i ∙ rw (whole, ne_eqb (word32 s at) MTrk (λ g. d (e ∙ g)), f)

-- ---- the track of a file

module _ (δ : ℕ) (s : List ℕ) where
  pub place_none : header_there s ≡ false → refusal 9 ≡ track_place δ s
  unfolding track_place
  place_none e = rw (e, track_place)

  pub place_misfit : header_there s ≡ true → header_fits δ s ≡ false → refusal 10 ≡ track_place δ s
  unfolding track_place
  place_misfit e f = rw (e, track_place, f)

  pub place_chunks : header_there s ≡ true → header_fits δ s ≡ true → (size : ℕ) → size ≡ word32 s 4 → chunk_place (track_after s (8 + size)) ≡ track_place δ s
  unfolding track_place
  place_chunks e f size g = rw (e, track_place, f, g) (ap chunk_place (sym (chunks_start s (8 + word32 s 4) (omega arith))))

  -- what the file is read as
  pub read_place_lem : read_file δ s ≡ read_place δ s (track_place δ s)
  unfolding read_file track_place
  read_place_lem = by_header (header_there s) (header_fits δ s)
    where
      by_chunk : (c : Chunk) → ◌≡◌ {A = FileAnswer} (elim c [ no_track ↦ refused 11 | track at n ↦ read_track δ (take n (drop at s)) ]) (read_place δ s (chunk_place c))
      by_chunk no_track = refl
      by_chunk (track at n) = let e : at + n - at ≡ n = omega arith in rw e

      by_header : (b d : Bool) → ◌≡◌ {A = FileAnswer} (elim b [
        | false ↦ refused 9
        | true ↦ elim d [
          | false ↦ refused 10
          | true ↦ elim (track_from (length s) s (8 + word32 s 4)) [ no_track ↦ refused 11 | track at n ↦ read_track δ (take n (drop at s)) ]
        ]
      ]) (read_place δ s (elim b [ false ↦ refusal 9 | true ↦ elim d [ false ↦ refusal 10 | true ↦ chunk_place (track_from (length s) s (8 + word32 s 4)) ] ]))
      by_header false d = refl
      by_header true false = refl
      by_header true true = by_chunk (track_from (length s) s (8 + word32 s 4))

-- The file of a shelf's notes: its length, and the output with it. Assumes nothing.
use mathlib.Core.Path.{◌≡◌, refl, sym, ap, ◌∙◌}
use mathlib.Core.Bool.{true, false}
use mathlib.Core.List.{List, ◌++◌}
use Prim.Native.Nat.{ℕ, ◌+◌, ◌-◌, ◌*◌, ◌≤◌}
use native.Mathlib.Omega.{arith}
use Rattle.std.proofs.Common.{None, Some}
use lib.Dec.{leb}
use lib.ListN.{length, length-append}
use borrow.Author.Tests.{le-leb, leb-true}
use Rattle.words.specs.Splice.{splice, length-splice, splice-append, splice-append-last}
use Rattle.radix.specs.Sort.{sort}
use Rattle.order.specs.Events.{events}
use Rattle.model.specs.Takes.{read_notes}
use Rattle.laws.specs.Reading.{length_read}
use Rattle.midi.specs.Numbers.{word16_bytes, word32_bytes}
use Rattle.midi.specs.Reading.{MThd, MTrk}
use Rattle.midi.specs.Writing.{header_bytes, track_bytes, file_bytes}
use Rattle.midi.proofs.Lengths.{track_most_lem, track_near}
use Rattle.events.specs.Tracks.{track_left, track_most}
use Rattle.writer.specs.Files.{FileAsks, file_of, length_in, output_of}
use Rattle.writer.proofs.Shelves.{track_is}

pub header-length : (δ n : ℕ) → length (header_bytes δ n) ≡ 22
unfolding header_bytes
header-length δ n = refl

-- seven numbers one after the other are the header
pub header-put : (δ n : ℕ) (a : List ℕ) {b c d e f g h : List ℕ} → b ≡ splice a 0 (word32_bytes MThd) → c ≡ splice b 4 (word32_bytes 6) → d ≡ splice c 8 (word16_bytes 0)
    → e ≡ splice d 10 (word16_bytes 1) → f ≡ splice e 12 (word16_bytes δ) → g ≡ splice f 14 (word32_bytes MTrk) → h ≡ splice g 18 (word32_bytes n)
    → h ≡ splice a 0 (header_bytes δ n)
unfolding header_bytes
header-put δ n a {b} {c} {d} {e} {f} {g} {h} p q r t u v w =
    let six : List ℕ = word32_bytes MTrk ++ word32_bytes n in
    let five : List ℕ = word16_bytes δ ++ six in
    let four : List ℕ = word16_bytes 1 ++ five in
    let three : List ℕ = word16_bytes 0 ++ four in
    let two : List ℕ = word32_bytes 6 ++ three in
    w ∙ ap (λ (x : List ℕ). splice x 18 (word32_bytes n)) v ∙ sym (splice-append f 14 (word32_bytes MTrk) (word32_bytes n))
    ∙ ap (λ (x : List ℕ). splice x 14 six) u ∙ sym (splice-append e 12 (word16_bytes δ) six)
    ∙ ap (λ (x : List ℕ). splice x 12 five) t ∙ sym (splice-append d 10 (word16_bytes 1) five)
    ∙ ap (λ (x : List ℕ). splice x 10 four) r ∙ sym (splice-append c 8 (word16_bytes 0) four)
    ∙ ap (λ (x : List ℕ). splice x 8 three) q ∙ sym (splice-append b 4 (word32_bytes 6) three)
    ∙ ap (λ (x : List ℕ). splice x 4 two) p ∙ sym (splice-append a 0 (word32_bytes MThd) two)

module _ {s : List ℕ} {count δ beats : ℕ} (a : FileAsks s count δ beats) where
  abbrev track : List ℕ
  track = track_bytes δ beats (read_notes count s)

  abbrev file : List ℕ
  file = file_of s count δ beats

  pub file-length : length file ≡ 22 + length track
  unfolding file_bytes
  file-length = length-append (header_bytes δ (length track)) track ∙ ap (λ (i : ℕ). i + length track) (header-length δ (length track))

  pub track-short : length track ≤ 14 * count + 7
  track-short = omega (arith, track_most_lem δ beats (read_notes count s), length_read count s)

  track-bound : length track ≤ track_most count (beats * δ)
  track-bound = omega (arith, track-short, track_near δ beats (read_notes count s) a.ok, length_read count s)

  module _ {ks : List ℕ} (w : ks ≡ sort (events s 0 count)) where
    pub left_is : track_left (beats * δ) 0 ks ≡ track
    left_is = ap (track_left (beats * δ) 0) w ∙ track_is a

    pub left-short : length (track_left (beats * δ) 0 ks) ≤ 14 * count + 7
    left-short = omega (arith, track-short, ap length left_is)

    pub left-bound : length (track_left (beats * δ) 0 ks) ≤ track_most count (beats * δ)
    left-bound = omega (arith, track-bound, ap length left_is)

    -- the events counted tell whether the file fits
    pub counted_fits : (room : ℕ) {r : ℕ} → r ≡ length (track_left (beats * δ) 0 ks) → leb (22 + r) room ≡ leb (length file) room
    counted_fits room e = ap (λ (i : ℕ). leb i room) (omega (arith, file-length, ap length left_is, e))

    module _ (out : List ℕ) (f : leb (length file) (length out) ≡ true) where
      pub left-room : 22 + length (track_left (beats * δ) 0 ks) ≤ length out
      left-room = omega (arith, leb-true (length file) (length out) f, file-length, ap length left_is)

      pub header-room : {mid : List ℕ} → mid ≡ splice out 22 (track_left (beats * δ) 0 ks) → 22 ≤ length mid
      header-room g = omega (arith, left-room, ap length g, length-splice out 22 (track_left (beats * δ) 0 ks))

      -- the track behind 22 bytes, and then the header, are the file
      pub file-put : {r : ℕ} {mid end : List ℕ} → r ≡ 22 + length (track_left (beats * δ) 0 ks)
          → mid ≡ splice out 22 (track_left (beats * δ) 0 ks) → end ≡ splice mid 0 (header_bytes δ (r - 22))
          → (Some r ≡ length_in file out) × (end ≡ output_of file out)
      unfolding file_bytes
      file-put {r} {mid} {end} e g h =
          let i : r - 22 ≡ length track = omega (arith, e, ap length left_is) in
          let j : r ≡ length file = omega (arith, e, ap length left_is, file-length) in
          let k : end ≡ splice (splice out (0 + length (header_bytes δ (length track))) track) 0 (header_bytes δ (length track)) =
          rw (h, g, left_is, i, header-length δ (length track)) in
          rw f (ap Some j, k ∙ sym (splice-append-last out 0 (header_bytes δ (length track)) track))

  pub bound-fits : (room : ℕ) → 22 + track_most count (beats * δ) ≤ room → true ≡ leb (length file) room
  bound-fits room h = sym (le-leb (length file) room (omega (arith, file-length, track-bound)))

  pub file-none : (out : List ℕ) → leb (length file) (length out) ≡ false → (None ≡ length_in file out) × (out ≡ output_of file out)
  file-none out f = rw f (refl, refl)

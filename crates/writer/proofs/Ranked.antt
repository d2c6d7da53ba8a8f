-- The file of notes within few ticks: what its events' places ask, and its track. Assumes nothing.
use mathlib.Core.Path.{◌≡◌, sym, ap, ◌∙◌}
use mathlib.Core.Bool.{true}
use mathlib.Core.List.{List, [], ◌++◌, append-nil}
use Prim.Native.Nat.{ℕ, ◌+◌, ◌-◌, ◌*◌, ◌≤◌}
use native.Mathlib.Omega.{arith}
use Rattle.std.proofs.Common.{Some}
use lib.Dec.{leb}
use lib.ListN.{length}
use borrow.Author.Tests.{le-leb}
use Rattle.words.specs.Splice.{splice, splice-append, length-splice}
use Rattle.radix.specs.Sort.{sort}
use Rattle.radix.specs.Ranks.{rank}
use Rattle.radix.specs.Digits.{by_rank}
use Rattle.order.specs.Events.{events, length-events}
use Rattle.order.specs.Whole.{events_settled}
use Rattle.midi.specs.Numbers.{quantity_bytes}
use Rattle.midi.specs.Writing.{header_bytes, end_of_track}
use Rattle.events.specs.Tracks.{track_left, Timed}
use Rattle.events.specs.Windows.{window_bytes, last_tick}
use Rattle.events.proofs.EventLoops.{timed_within}
use Rattle.events.proofs.WindowLoops.{track-parts, track-size, timed_behind}
use Rattle.ranks.specs.Times.{Short}
use Rattle.buckets.specs.Places.{Keyed}
use Rattle.ranks.specs.Places.{in_ranks, Planned}
use Rattle.buckets.proofs.Counting.{all_keyed}
use Rattle.ranks.proofs.Times.{short-length}
use Rattle.ranks.proofs.Ranking.{ranks_total}
use Rattle.writer.specs.Files.{FileAsks, Tried, file_of}
use Rattle.writer.proofs.Shelves.{ordered, timed, ticks-within}
use Rattle.writer.proofs.Written.{file-length, left_is, left-short, file-put}

module _ {s : List ℕ} {count δ beats : ℕ} (p : FileAsks s count δ beats) (few : beats * δ ≤ 1023) where
  abbrev keys : List ℕ
  keys = events s 0 count

  abbrev ks : List ℕ
  ks = in_ranks keys

  pub ranks_keyed : Keyed rank (events s 0 count)
  ranks_keyed = record { few = omega (arith, length-events s 0 count, p.few); below = λ e h. omega (arith, ticks-within p e (omega (arith, length-events s 0 count))) }

  -- by their ranks they are in order
  pub in_order_lem : in_ranks (events s 0 count) ≡ sort (events s 0 count)
  in_order_lem = by_rank 2048 keys (all_keyed s count ranks_keyed) (events_settled (ordered p))

  last_within : last_tick 0 ks ≤ beats * δ
  last_within = let t : Timed (beats * δ) 0 (ks ++ []) = rw (append-nil, in_order_lem) (timed p) in timed_within (timed_behind ks [] t)

  module _ {places : List ℕ} {longest last : ℕ} (w : Planned (events s 0 count) places longest last) where
    pub planned_last : last ≤ beats * δ
    planned_last = omega (arith, w.ended, last_within)

    module _ (h : longest ≤ 127) where
      pub planned_short : Short 0 (in_ranks (events s 0 count))
      planned_short = record { each = λ i l. omega (arith, w.times i l) }

      -- as the code has it: the groups of the last time
      pub dense_length : {g : ℕ} → g ≡ length (quantity_bytes (beats * δ - last)) → 22 + 8 * count + g + 3 ≡ 22 + length (track_left (beats * δ) 0 (in_ranks (events s 0 count)))
      dense_length {g} e =
          let i : g ≡ length (quantity_bytes (beats * δ - last_tick 0 ks)) = e ∙ ap (λ (t : ℕ). length (quantity_bytes (beats * δ - t))) w.ended in
          omega (arith, i, track-size (beats * δ) ks, short-length 0 ks planned_short, ranks_total s count ranks_keyed)

      pub dense_small : {g : ℕ} → g ≡ length (quantity_bytes (beats * δ - last)) → 22 + 8 * count + g + 3 ≤ 4294967295
      dense_small e = omega (arith, dense_length e, left-short p in_order_lem, p.few)

      module _ {g : ℕ} (e : g ≡ length (quantity_bytes (beats * δ - last))) (out : List ℕ) (fits : 22 + 8 * count + g + 3 ≤ length out) where
        pub dense_fits : leb (length (file_of s count δ beats)) (length out) ≡ true
        dense_fits = le-leb (length (file_of s count δ beats)) (length out) (omega (arith, file-length p, ap length (left_is p in_order_lem), dense_length e))

        track-put : {mid end : List ℕ} → mid ≡ splice out 22 (window_bytes 0 ks) → end ≡ splice mid (22 + 8 * count) (quantity_bytes (beats * δ - last) ++ end_of_track) → end ≡ splice out 22 (track_left (beats * δ) 0 ks)
        track-put {mid} {end} x y =
            let l : 22 + 8 * count ≡ 22 + length (window_bytes 0 ks) = omega (arith, short-length 0 ks planned_short, ranks_total s count ranks_keyed) in
            rw (y, x, l, w.ended, track-parts (beats * δ) ks) (sym (splice-append out 22 (window_bytes 0 ks) (quantity_bytes (beats * δ - last_tick 0 ks) ++ end_of_track)))

        pub end_room : {mid : List ℕ} → mid ≡ splice out 22 (window_bytes 0 (in_ranks (events s 0 count))) → 22 + 8 * count + length (quantity_bytes (beats * δ - last)) + 3 ≤ length mid
        end_room x = omega (arith, e, ap length x, length-splice out 22 (window_bytes 0 ks))

        -- the events, the end of track and the header are the file
        pub dense_put : {r : ℕ} {mid end after : List ℕ} → r ≡ 22 + 8 * count + g + 3 → mid ≡ splice out 22 (window_bytes 0 (in_ranks (events s 0 count)))
            → end ≡ splice mid (22 + 8 * count) (quantity_bytes (beats * δ - last) ++ end_of_track) → after ≡ splice end 0 (header_bytes δ (r - 22)) → Tried (Some r) (file_of s count δ beats) out after
        dense_put {r} i x y z = file-put p in_order_lem out dense_fits (i ∙ dense_length e) (track-put x y) z

-- The loop over the first buckets of an output, whose bytes are written over their events; and what is left for the buckets behind them. Assumes
-- nothing.
use mathlib.Core.Path.{◌≡◌, refl, sym, ap, ap₂, ◌∙◌}
use mathlib.Core.Logic.{⊎_elim}
use mathlib.Core.List.{List, [], ◌∷◌, ◌++◌, append-nil}
use Prim.Native.Nat.{ℕ, suc, ◌+◌, ◌-◌, ◌*◌, ◌≤◌, ◌<◌}
use native.Mathlib.Omega.{arith}
use lib.ListN.{length, get_or, length-append}
use lib.Seq.{ext_get_or}
use Rattle.std.proofs.Common.{Option, None, Some}
use Rattle.words.specs.Splice.{splice, splice-append, length-splice, get_or-splice-before, get_or-splice-behind, get_or-splice-inside}
use Rattle.radix.specs.Sort.{sort, inserts, length-sort, lt_or_ge}
use Rattle.radix.specs.Ranks.{All}
use Rattle.order.specs.Windows.{all-sort}
use Rattle.midi.specs.Numbers.{quantity_bytes}
use Rattle.midi.specs.Writing.{message_bytes}
use Rattle.midi.proofs.Lengths.{message_length, groups_near}
use Rattle.track.specs.Keys.{tick_of, event_of}
use Rattle.buckets.specs.Buckets.{bucket, base, Beside}
use Rattle.events.specs.Tracks.{Timed}
use Rattle.events.specs.Windows.{window_bytes, last_tick, longest}
use Rattle.events.specs.Emitting.{events_from, start_of, events_of, events_to, Noted, Ahead}
use Rattle.events.specs.Bucketing.{events_in, BucketAsks, sorted_to, BucketsAsk, BucketsSorted}
use Rattle.events.specs.Tight.{OneBucket, bytes_in, TightBucket, TightPut}
use Rattle.events.proofs.EventLoops.{timed_within}
use Rattle.events.proofs.Spans.{span_none, span_next, span-parts, span_same, span_empty}
use Rattle.events.proofs.BucketLoops.{window_append, window_long, events_length_lem, events_same, start_next}
use Rattle.events.proofs.Sorting.{tick_low, tick_high, last-append, start-before, left-short, left_timed, sorting_start, bucket_asks}

-- ---- times of one group

-- one event more, behind a short time
short_more : (t k : ℕ) (ks : List ℕ) → tick_of k - t < 128 → length (window_bytes (tick_of k) ks) ≤ 4 * length ks → length (window_bytes t (k ∷ ks)) ≤ 4 * length (k ∷ ks)
unfolding window_bytes
short_more t k ks h l =
    let q : List ℕ = quantity_bytes (tick_of k - t) in
    omega (
      arith,
      groups_near (tick_of k - t),
      message_length (event_of k),
      length-append q (message_bytes (event_of k)),
      length-append (q ++ message_bytes (event_of k)) (window_bytes (tick_of k) ks),
    )

-- behind an event of a bucket of at most 128 ticks, the times of the bucket's events
bucket_times : {width : ℕ} → 0 < width → width ≤ 128 → (v t : ℕ) (ks : List ℕ) → v * width ≤ t → All (λ k. bucket width k ≡ v) ks → length (window_bytes t ks) ≤ 4 * length ks
unfolding window_bytes
bucket_times z w v t [] h o = omega arith
bucket_times {width} z w v t (k ∷ ks) h o = short_more t k ks (omega (arith, tick_high width v k z o.0)) (bucket_times z w v (tick_of k) ks (tick_low width v k o.0) o.1)

first_time : {width : ℕ} (t : ℕ) (ks : List ℕ) → OneBucket width ks → width ≤ 128 → tick_of (get_or ks 0 0) - t < 128 → length (window_bytes t ks) ≤ 4 * length ks
unfolding window_bytes
first_time t [] b w h = omega arith
first_time {width} t (k ∷ ks) b w h = short_more t k ks h (bucket_times b.some w b.v (tick_of k) ks (tick_low width b.v k b.own.0) b.own.1)

timed_first : {end t : ℕ} (ks : List ℕ) → Timed end t ks → 0 < length ks → (t ≤ tick_of (get_or ks 0 0)) × (tick_of (get_or ks 0 0) ≤ end)
timed_first [] s h = absurd (omega arith)
timed_first (k ∷ ks) (Timed.next h s) l = (h, timed_within s)

module _ {ks : List ℕ} {tick : ℕ} (t : Timed longest tick ks) (s : 0 < length ks) where
  pub first-tick : (tick ≤ tick_of (get_or ks 0 0)) × (tick_of (get_or ks 0 0) ≤ longest)
  first-tick = timed_first ks t s

  pub times_short_lem : {width : ℕ} → OneBucket width ks → width ≤ 128 → tick_of (get_or ks 0 0) - tick < 128 → length (window_bytes tick ks) ≤ 4 * length ks
  times_short_lem b l h = first_time tick ks b l h

-- ---- one bucket

module _ {width v from upto tick : ℕ} {out : List ℕ} (s : BucketAsks width v from upto (22 + 4 * from) tick out) where
  -- no events
  pub tight_empty : upto ≤ from → TightBucket width v from upto tick out out (Some tick)
  unfolding events_from sort inserts window_bytes last_tick splice
  tight_empty h =
      let e : upto - from ≡ 0 = omega arith in
      record { tight = λ t p. rw e (omega (arith, s.holds.order), cc, refl); loose = λ p. absurd (cc) }

  -- a table of them in order
  module _ (ks : List ℕ) (e : ks ≡ sort (events_in width v from upto out)) where
    -- they are of one bucket
    pub tight_one : OneBucket width ks
    tight_one = record { some = s.holds.some; v = v; own = rw e (all-sort (λ k. bucket width k ≡ v) (events_in width v from upto out) s.holds.own) }

    pub tight_room : length (window_bytes tick ks) ≤ 4 * (upto - from) → 22 + 4 * from + length (window_bytes tick ks) ≤ length out
    tight_room h = omega (arith, s.holds.inside, s.holds.order)

    pub tight_not : 22 + 4 * upto < 22 + 4 * from + length (window_bytes tick ks) → TightBucket width v from upto tick out out None
    tight_not h = record { tight = λ t p. absurd (cc); loose = λ p. (rw e at h, refl) }

    pub tight_written : {after : List ℕ} {last : ℕ} → last ≡ last_tick tick ks → length (window_bytes tick ks) ≤ 4 * (upto - from)
        → after ≡ splice out (22 + 4 * from) (window_bytes tick ks) → TightBucket width v from upto tick out after (Some last)
    tight_written {after} {last} q h g =
        record {
          tight = λ t p.
              let n : 22 + 4 * from + length (window_bytes tick ks) ≤ 22 + 4 * upto = omega (arith, s.holds.order) in
              let l : t ≡ last_tick tick ks = cc in
              (rw e at n, rw e at l, rw e at g);
          loose = λ p. absurd (cc);
        }

-- ---- the loop

-- words that stand in a list already
splice-standing : (l : List ℕ) (b : ℕ) (ws : List ℕ) → b + length ws ≤ length l → ((j : ℕ) → j < length ws → get_or l (b + j) 0 ≡ get_or ws j 0) → splice l b ws ≡ l
splice-standing l b ws fits h =
    ext_get_or 0 (splice l b ws) l (length-splice l b ws)
    (λ i k. ⊎_elim (λ (q : i < b). get_or-splice-before l b ws i q)
    (λ (q : b ≤ i). ⊎_elim (inside i q) (get_or-splice-behind l b ws i) (lt_or_ge i (b + length ws))) (lt_or_ge i b))
  where
    inside : (i : ℕ) → b ≤ i → i < b + length ws → get_or (splice l b ws) i 0 ≡ get_or l i 0
    inside i q k =
        let e : i ≡ b + (i - b) = omega arith in
        rw e (get_or-splice-inside l b ws (i - b) (omega arith) fits ∙ sym (h (i - b) (omega arith)))

-- behind the last bucket with events
pub last-start : (ends : List ℕ) (v : ℕ) → get_or ends v 0 ≡ get_or ends 2047 0 → start_of ends (v + 1) ≡ get_or ends 2047 0
last-start ends v n = let j : v + 1 ≡ suc v = omega arith in rw j (start_next ends v ∙ n)

pub tight_start : (width : ℕ) (ends out : List ℕ) → TightPut width ends out out 0 22 0
unfolding window_bytes last_tick splice start_of
tight_start width ends out =
    let none = span_none (λ w. sort (events_of width ends out w)) 0 in
    record { early = omega arith; bytes = rw none; reached = rw none (omega arith); tight = omega arith; ended = rw none }

module _ {width : ℕ} {ends out₀ : List ℕ} (s : BucketsAsk width 0 22 0 ends out₀) {out : List ℕ} {v at tick : ℕ} (t : TightPut width ends out₀ out v at tick) where
  abbrev done : List ℕ
  done = sorted_to width ends out₀ 0 v

  abbrev bytes : List ℕ
  bytes = window_bytes 0 done

  pub tight_long : length out ≡ length out₀
  tight_long = ap length t.bytes ∙ length-splice out₀ 22 bytes

  inside : 22 + 4 * start_of ends v ≤ 22 + 4 * get_or ends 2047 0
  inside = omega (arith, start-before s.bounds v 2048 (omega (arith, t.early)) (omega arith), start_next ends 2047)

  pub tight_inside : at ≤ length out₀
  tight_inside = omega (arith, t.tight, s.inside, inside)

  -- the events of the buckets left stand where they stood
  left-events : (w : ℕ) → v ≤ w → w < 2048 → events_of width ends out w ≡ events_of width ends out₀ w
  left-events w q l =
      events_same (base width w) out₀ out (start_of ends w) (get_or ends w 0 - start_of ends w)
      (λ i k m. ap (λ (x : List ℕ). get_or x i 0) t.bytes
      ∙ get_or-splice-behind out₀ 22 bytes i (omega (arith, t.reached, t.tight, start-before s.bounds v w q (omega arith))))

  left_same : sorted_to width ends out v 2048 ≡ sorted_to width ends out₀ v 2048
  left_same = span_same (λ w. sort (events_of width ends out w)) (λ w. sort (events_of width ends out₀ w)) v 2048 (λ w q l. ap sort (left-events w q l))

  -- no events are left
  module _ (n : start_of ends v ≡ get_or ends 2047 0) where
    none_left : (w : ℕ) → v ≤ w → w < 2048 → sort (events_of width ends out₀ w) ≡ []
    unfolding events_from sort inserts
    none_left w q l =
        let e : get_or ends w 0 - start_of ends w ≡ 0 =
        omega (
          arith,
          start-before s.bounds v w q (omega arith),
          start-before s.bounds (suc w) 2048 (omega arith) (omega arith),
          start_next ends w,
          start_next ends 2047,
        )
        in
        rw e

    all_done : sorted_to width ends out₀ 0 2047 ≡ done
    all_done =
        let f : ℕ → List ℕ = λ w. sort (events_of width ends out₀ w) in
        span-parts f 0 v 2047 (omega arith) (omega (arith, t.early)) ∙ ap (◌++◌ done) (span_empty f v 2047 (λ w q l. none_left w q (omega arith))) ∙ append-nil done

    pub tight_rest : TightPut width ends out₀ out 2047 at tick
    tight_rest =
        let l : v ≤ 2047 = omega (arith, t.early) in
        record {
          early = omega arith;
          bytes = rw all_done t.bytes;
          reached = rw all_done t.reached;
          tight = omega (arith, t.tight, start-before s.bounds v 2047 l (omega arith), start-before s.bounds 2047 2048 (omega arith) (omega arith), start_next ends 2047);
          ended = rw all_done t.ended;
        }

  -- what is left to the buckets behind
  pub tight_asks : BucketsAsk width v at tick ends out
  tight_asks =
      let z : 0 ≤ v = omega arith in
      let f : v ≤ 2048 = omega (arith, t.early) in
      record {
        early = t.early;
        some = s.some;
        bounds = s.bounds;
        inside = omega (arith, s.inside, tight_long);
        own = λ w q l. rw (left-events w q l) (s.own w (omega arith) l);
        settled = λ w q l. rw (left-events w q l) (s.settled w (omega arith) l);
        timed = rw (left_same, t.ended) (left_timed s v z f);
        short = rw (left_same, t.ended) (omega (arith, t.reached, left-short s v z f));
      }

  -- the next bucket
  module _ {from : ℕ} (e : at ≡ 22 + 4 * from) where
    -- its events begin there
    p : from ≡ start_of ends v
    p = omega (arith, t.tight)

    pub tight_bucket : BucketAsks width v from (get_or ends v 0) (22 + 4 * from) tick out
    tight_bucket = rw e at (bucket_asks tight_asks (sorting_start tight_asks [] [] p) t.early)

    module _ {out' : List ℕ} {r : Option ℕ} (b : TightBucket width v from (get_or ends v 0) tick out out' r) where
      abbrev own : List ℕ
      own = sort (events_of width ends out₀ v)

      own-bytes : bytes_in width v from (get_or ends v 0) tick out ≡ window_bytes (last_tick 0 done) own
      own-bytes = rw p (ap₂ (λ (n : ℕ) (ks : List ℕ). window_bytes n (sort ks)) t.ended (left-events v (omega arith) t.early))

      next_done : sorted_to width ends out₀ 0 (suc v) ≡ done ++ own
      next_done = span_next (λ w. sort (events_of width ends out₀ w)) 0 v (omega arith)

      next_bytes : window_bytes 0 (sorted_to width ends out₀ 0 (suc v)) ≡ bytes ++ window_bytes (last_tick 0 done) own
      next_bytes = ap (window_bytes 0) next_done ∙ window_append 0 done own

      -- an event has at least four bytes
      next_place : 22 + 4 * from + length (bytes_in width v from (get_or ends v 0) tick out) ≤ 22 + 4 * get_or ends v 0
          → 22 + 4 * get_or ends v 0 ≡ 22 + length (window_bytes 0 (sorted_to width ends out₀ 0 (suc v)))
      next_place h =
          omega (
            arith,
            t.reached,
            ap length own-bytes,
            ap length next_bytes,
            length-append bytes (window_bytes (last_tick 0 done) own),
            window_long (last_tick 0 done) own,
            length-sort (events_of width ends out₀ v),
            events_length_lem (base width v) out₀ (start_of ends v) (get_or ends v 0 - start_of ends v),
            s.bounds.rising v t.early,
          )

      pub tight_more : {last : ℕ} → v < 2047 → r ≡ Some last → TightPut width ends out₀ out' (v + 1) (22 + 4 * get_or ends v 0) last
      tight_more {last} l q =
          let f = b.tight last q in
          let w : List ℕ = window_bytes (last_tick 0 done) own in
          let j : v + 1 ≡ suc v = omega arith in
          let k : 22 + 4 * from ≡ 22 + length bytes = sym e ∙ t.reached in
          rw j
          (record {
            early = omega arith;
            bytes =
                f.2 ∙ ap (splice out (22 + 4 * from)) own-bytes ∙ ap (λ (n : ℕ). splice out n w) k ∙ ap (λ (x : List ℕ). splice x (22 + length bytes) w) t.bytes
                ∙ sym (splice-append out₀ 22 bytes w) ∙ ap (splice out₀ 22) (sym next_bytes);
            reached = next_place f.0;
            tight = ap (λ (n : ℕ). 22 + 4 * n) (sym (start_next ends v));
            ended =
                f.1 ∙ rw p (ap₂ (λ (n : ℕ) (ks : List ℕ). last_tick n (sort ks)) t.ended (left-events v (omega arith) t.early))
                ∙ sym (last-append 0 done own) ∙ ap (last_tick 0) (sym next_done);
          })

      -- the bytes of this bucket are longer than its events
      pub tight_over : r ≡ None → TightPut width ends out₀ out' v (22 + 4 * from) tick
      tight_over q = rw ((b.loose q).1, ← e) t

  -- ---- the buckets left, put in order

  module _ {after starts ticks : List ℕ} {place last : ℕ} (r : BucketsSorted width v at tick ends out after starts ticks place last) where
    abbrev left : List ℕ
    left = sorted_to width ends out₀ v 2048

    left_sorted : events_to width ends after v 2048 ≡ left
    left_sorted = span_same (events_of width ends after) (λ w. sort (events_of width ends out w)) v 2048 (λ w q l. r.sorted w q l) ∙ left_same

    all-parts : sorted_to width ends out₀ 0 2048 ≡ done ++ left
    all-parts = span-parts (λ w. sort (events_of width ends out₀ w)) 0 v 2048 (omega arith) (omega (arith, t.early))

    all-bytes : window_bytes 0 (sorted_to width ends out₀ 0 2048) ≡ bytes ++ window_bytes tick left
    all-bytes = ap (window_bytes 0) all-parts ∙ window_append 0 done left ∙ ap (λ (n : ℕ). bytes ++ window_bytes n left) (sym t.ended)

    pub all-ended : last ≡ last_tick 0 (sorted_to width ends out₀ 0 2048)
    all-ended =
        r.ended ∙ ap₂ last_tick t.ended left_sorted ∙ sym (last-append 0 done left) ∙ ap (last_tick 0) (sym all-parts)

    all-size : at + length (window_bytes tick left) ≡ 22 + length (window_bytes 0 (sorted_to width ends out₀ 0 2048))
    all-size = omega (arith, t.reached, ap length all-bytes, length-append bytes (window_bytes tick left))

    pub all_reached : place ≡ 22 + length (window_bytes 0 (sorted_to width ends out₀ 0 2048))
    all_reached = r.reached ∙ ap (λ (ks : List ℕ). at + length (window_bytes tick ks)) left_sorted ∙ all-size

    pub all_beside : Beside (22 + 4 * get_or ends 2047 0) out₀ after
    all_beside =
        record {
          long = r.long ∙ tight_long;
          front = λ i l. r.front i (omega arith) ∙ ap (λ (x : List ℕ). get_or x i 0) t.bytes ∙ get_or-splice-before out₀ 22 bytes i l;
          behind = λ i l. r.behind i l ∙ ap (λ (x : List ℕ). get_or x i 0) t.bytes ∙ get_or-splice-behind out₀ 22 bytes i (omega (arith, t.reached, t.tight, inside));
        }

    -- as it is noted
    none : events_to width ends after v v ≡ []
    none = span_none (events_of width ends after) v

    noted_at : get_or starts v 0 ≡ at
    unfolding window_bytes
    noted_at = r.noted.place v (omega arith) t.early ∙ rw none (omega arith)

    noted_tick : get_or ticks v 0 ≡ tick
    unfolding last_tick
    noted_tick = r.noted.before v (omega arith) t.early ∙ ap (last_tick tick) none

    pub left_noted : Noted width v (get_or starts v 0) (get_or ticks v 0) ends after starts ticks
    left_noted = rw (noted_at, noted_tick) r.noted

    pub left-ahead : 22 + length (window_bytes 0 (sorted_to width ends out₀ 0 2048)) ≤ length after → Ahead width v (get_or starts v 0) (get_or ticks v 0) 2048 ends after
    left-ahead l =
        rw (noted_at, noted_tick)
        (record { behind = omega (arith, t.tight); timed = rw (left_sorted, t.ended) (left_timed s v (omega arith) (omega (arith, t.early))); room = rw left_sorted (omega (arith, all-size)) })

    -- the bytes that are written already stand in front
    standing : splice after 22 bytes ≡ after
    standing =
        splice-standing after 22 bytes (omega (arith, t.reached, tight_inside, all_beside.long))
        (λ j l. r.front (22 + j) (omega (arith, t.reached, t.tight)) ∙ ap (λ (x : List ℕ). get_or x (22 + j) 0) t.bytes
        ∙ get_or-splice-inside out₀ 22 bytes j l (omega (arith, t.reached, tight_inside)))

    pub all-put : {mid : List ℕ} → mid ≡ splice after (get_or starts v 0) (window_bytes (get_or ticks v 0) (events_to width ends after v 2048))
        → mid ≡ splice after 22 (window_bytes 0 (sorted_to width ends out₀ 0 2048))
    all-put g =
        let w : List ℕ = window_bytes tick left in
        g ∙ rw (noted_at, noted_tick, left_sorted) (ap₂ (λ (x : List ℕ) (n : ℕ). splice x n w) (sym standing) t.reached)
        ∙ sym (splice-append after 22 bytes w) ∙ ap (splice after 22) (sym all-bytes)

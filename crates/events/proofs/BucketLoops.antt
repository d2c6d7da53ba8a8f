-- The loop over the buckets of an output, from the last to the first: what is left of the track ahead of them. Assumes nothing.
use mathlib.Core.Path.{◌≡◌, refl, sym, ap, subst, ◌∙◌}
use mathlib.Core.Bool.{Bool, true, false}
use mathlib.Core.List.{List, [], ◌∷◌, ◌++◌, append_assoc}
use Prim.Native.Nat.{ℕ, zero, suc, ◌+◌, ◌-◌, ◌*◌, ◌/◌, ◌%◌, ◌≤◌, ◌<◌}
use native.Mathlib.Nat.{add-zero, mul-le-mul}
use native.Mathlib.Omega.{arith}
use lib.Dec.{ltb}
use lib.ListN.{length, get_or, length-append}
use lib.Seq.{ext_get_or}
use Rattle.words.specs.Splice.{splice, splice-append-last, length-splice, get_or-splice-before}
use Rattle.midi.specs.Numbers.{quantity_bytes, word32}
use Rattle.midi.specs.Writing.{message_bytes}
use Rattle.track.specs.Keys.{tick_of, event_of}
use Rattle.buckets.specs.Buckets.{base}
use Rattle.events.specs.Tracks.{Timed}
use Rattle.events.specs.Windows.{window_bytes, last_tick, longest}
use Rattle.events.specs.Emitting.{events_from, start_of, events_of, span, events_to, Bounds, Noted, Ahead, BucketAhead}
use Rattle.events.proofs.WindowLoops.{timed_window, timed_behind}
use Rattle.events.proofs.Storing.{word_same}
use Rattle.events.proofs.Spans.{span_none, span_next}

-- ---- the bytes of events behind one another

pub window_append : (t : ℕ) (xs ys : List ℕ) → window_bytes t (xs ++ ys) ≡ window_bytes t xs ++ window_bytes (last_tick t xs) ys
unfolding window_bytes last_tick
window_append t [] ys = refl
window_append t (x ∷ xs) ys =
    let b : List ℕ = quantity_bytes (tick_of x - t) ++ message_bytes (event_of x) in
    ap (◌++◌ b) (window_append (tick_of x) xs ys) ∙ sym (append_assoc b (window_bytes (tick_of x) xs) (window_bytes (last_tick (tick_of x) xs) ys))

quantity_some : (n : ℕ) → 1 ≤ length (quantity_bytes n)
unfolding quantity_bytes
quantity_some n = go (ltb n 128) (ltb n 16384) (ltb n 2097152)
  where
    go : (a b c : Bool) → 1 ≤ length {A = ℕ} (elim a [
      | true ↦ n ∷ []
      | false ↦ elim b [
        | true ↦ (128 + n / 128) ∷ n % 128 ∷ []
        | false ↦ elim c [
          | true ↦ (128 + n / 16384) ∷ (128 + n / 128 % 128) ∷ n % 128 ∷ []
          | false ↦ (128 + n / 2097152) ∷ (128 + n / 16384 % 128) ∷ (128 + n / 128 % 128) ∷ n % 128 ∷ []
        ]
      ]
    ])
    go true b c = omega arith
    go false true c = omega arith
    go false false true = omega arith
    go false false false = omega arith

-- an event has at least four bytes
pub window_long : (t : ℕ) (ks : List ℕ) → 4 * length ks ≤ length (window_bytes t ks)
unfolding window_bytes message_bytes
window_long t [] = omega arith
window_long t (k ∷ ks) =
    let q : List ℕ = quantity_bytes (tick_of k - t) in
    omega (arith, window_long (tick_of k) ks, quantity_some (tick_of k - t), length-append q (message_bytes (event_of k)), length-append (q ++ message_bytes (event_of k)) (window_bytes (tick_of k) ks))

-- ---- the events of an output

pub events_length_lem : (b : ℕ) (out : List ℕ) (from m : ℕ) → length (events_from b out from m) ≡ m
unfolding events_from
events_length_lem b out from zero = refl
events_length_lem b out from (suc m) = ap suc (events_length_lem b out (suc from) m)

pub events-at : (b : ℕ) (out : List ℕ) (from m i : ℕ) → i < m → get_or (events_from b out from m) i 0 ≡ b + word32 out (22 + 4 * (from + i))
unfolding events_from
events-at b out from zero i h = absurd (omega arith)
events-at b out from (suc m) zero h = rw add-zero
events-at b out from (suc m) (suc i) h = let e : from + suc i ≡ suc from + i = omega arith in rw e (events-at b out (suc from) m i (omega arith))

-- a list whose elements are they
pub events_of_each : (b : ℕ) (out : List ℕ) (from m : ℕ) (ks : List ℕ) → length ks ≡ m → ((i : ℕ) → i < m → get_or ks i 0 ≡ b + word32 out (22 + 4 * (from + i))) → ks ≡ events_from b out from m
events_of_each b out from m ks e h =
    ext_get_or 0 ks (events_from b out from m) (e ∙ sym (events_length_lem b out from m)) (λ i l. h i (omega arith) ∙ sym (events-at b out from m i (omega arith)))

-- an output whose bytes there are the same has the same events there
pub events_same : (b : ℕ) (out now : List ℕ) (from m : ℕ) → ((i : ℕ) → 22 + 4 * from ≤ i → i < 22 + 4 * (from + m) → get_or now i 0 ≡ get_or out i 0) → events_from b now from m ≡ events_from b out from m
events_same b out now from m h =
    events_of_each b out from m (events_from b now from m) (events_length_lem b now from m)
    (λ i l. events-at b now from m i l ∙ ap (◌+◌ b) (word_same now out (22 + 4 * (from + i)) (λ j low high. h j (omega arith) (omega arith))))

-- ---- the events of the first buckets

pub start_next : (ends : List ℕ) (v : ℕ) → start_of ends (suc v) ≡ get_or ends v 0
unfolding start_of
start_next ends v = refl

pub start_first : (ends : List ℕ) (v : ℕ) → v ≡ 0 → 0 ≡ start_of ends v
unfolding start_of
start_first ends v e = rw e

pub start_later : (ends : List ℕ) (v : ℕ) → 0 < v → get_or ends (v - 1) 0 ≡ start_of ends v
unfolding start_of
start_later ends zero h = absurd (omega arith)
start_later ends (suc v) h = let e : suc v - 1 ≡ v = omega arith in rw e

module _ {width : ℕ} {ends : List ℕ} (b : Bounds width ends) (out : List ℕ) (first : ℕ) where
  length_on : (m : ℕ) → m + first ≤ 2048 → start_of ends first + length (events_to width ends out first (m + first)) ≡ start_of ends (m + first)
  length_on zero h =
      let e : 0 + first ≡ first = omega arith in
      rw e (omega (arith, ap length (span_none (events_of width ends out) first)))
  length_on (suc m) h =
      let v : ℕ = m + first in
      let e : suc m + first ≡ suc v = omega arith in
      rw e
      (omega (
        arith,
        ap length (span_next (events_of width ends out) first v (omega arith)),
        length-append (events_to width ends out first v) (events_of width ends out v),
        length_on m (omega arith),
        b.rising v (omega arith),
        start_next ends v,
        events_length_lem (base width v) out (start_of ends v) (get_or ends v 0 - start_of ends v),
      ))

  pub to-length : (v : ℕ) → first ≤ v → v ≤ 2048 → start_of ends first + length (events_to width ends out first v) ≡ start_of ends v
  to-length v h l = let e : (v - first) + first ≡ v = omega arith in rw e at (length_on (v - first) (omega arith))

-- ---- one bucket

pub base_small : (width v : ℕ) → width ≤ 8192 → v < 2048 → v * width ≤ 16777216
base_small width v h l = let e : v ≤ 2048 = omega arith in mul-le-mul e h

-- the events of a bucket, read into a table
module _ {width v : ℕ} {ends out starts ticks : List ℕ} (h : BucketAhead width v ends out starts ticks) {from : ℕ} (s : from ≡ start_of ends v) {ks : List ℕ}
    (r : ks ≡ events_from (base width v) out from (get_or ends v 0 - from)) where
  read : ks ≡ events_of width ends out v
  read = rw (← s) r

  pub read_timed : Timed longest (get_or ticks v 0) ks
  read_timed = rw read h.timed

  pub read_room : get_or starts v 0 + length (window_bytes (get_or ticks v 0) ks) ≤ length out
  read_room = rw read h.room

  pub read_bytes : {out' : List ℕ} → out' ≡ splice out (get_or starts v 0) (window_bytes (get_or ticks v 0) ks)
      → out' ≡ splice out (get_or starts v 0) (window_bytes (get_or ticks v 0) (events_of width ends out v))
  read_bytes g = rw read at g

-- ---- the loop

-- The bytes of the buckets from `first` on up to bucket v are left; with them all is written. Ahead of what is written all is as it was.
pub record Emitting (width first at tick : ℕ) (ends out₀ : List ℕ) (v : ℕ) (out : List ℕ) : Type 0 where
  pub low : first ≤ v
  pub few : v ≤ 2048
  pub long : length out ≡ length out₀
  pub ahead : Ahead width first at tick v ends out₀
  pub front : (i : ℕ) → i < 22 + 4 * start_of ends v → get_or out i 0 ≡ get_or out₀ i 0
  pub same : splice out at (window_bytes tick (events_to width ends out₀ first v)) ≡ splice out₀ at (window_bytes tick (events_to width ends out₀ first 2048))

pub emitting_start : {width first at tick : ℕ} {ends out : List ℕ} → first < 2048 → Ahead width first at tick 2048 ends out → Emitting width first at tick ends out 2048 out
emitting_start l h = record { low = omega arith; few = omega arith; long = refl; ahead = h; front = λ i l. refl; same = refl }

pub emitting_at : {width first at tick : ℕ} {ends out₀ : List ℕ} {w : ℕ} {out : List ℕ} (v : ℕ) → w ≡ suc v → Emitting width first at tick ends out₀ w out
    → Emitting width first at tick ends out₀ (suc v) out
emitting_at {width} {first} {at} {tick} {ends} {out₀} {out = out} v p e = subst (λ (n : ℕ). Emitting width first at tick ends out₀ n out) p e

module _ {width first at tick : ℕ} {ends starts ticks out₀ : List ℕ} (b : Bounds width ends) (n : Noted width first at tick ends out₀ starts ticks) {v : ℕ} (h : first ≤ v)
    {out : List ℕ} (e : Emitting width first at tick ends out₀ (suc v) out) where
  abbrev ks : List ℕ
  ks = events_to width ends out₀ first v

  abbrev own : List ℕ
  own = events_of width ends out₀ v

  early : v < 2048
  early = omega (arith, e.few)

  next : events_to width ends out₀ first (suc v) ≡ ks ++ own
  next = span_next (events_of width ends out₀) first v h

  parted : Timed longest tick (ks ++ own)
  parted = rw next at e.ahead.timed

  bytes : window_bytes tick (events_to width ends out₀ first (suc v)) ≡ window_bytes tick ks ++ window_bytes (last_tick tick ks) own
  bytes = ap (window_bytes tick) next ∙ window_append tick ks own

  sizes : at + (length (window_bytes tick ks) + length (window_bytes (last_tick tick ks) own)) ≤ length out₀
  sizes = omega (arith, e.ahead.room, ap length bytes, length-append (window_bytes tick ks) (window_bytes (last_tick tick ks) own))

  own_same : events_of width ends out v ≡ own
  own_same =
      events_same (base width v) out₀ out (start_of ends v) (get_or ends v 0 - start_of ends v)
      (λ i k l. e.front i (omega (arith, start_next ends v, b.rising v early)))

  -- the bytes of the bucket stand behind all events of earlier ones
  behind : 22 + 4 * start_of ends v ≤ get_or starts v 0
  behind = omega (arith, window_long tick ks, e.ahead.behind, to-length b out₀ first v h (omega (arith, early)), n.place v h early)

  pub emitting_bucket : BucketAhead width v ends out starts ticks
  emitting_bucket =
      let t : get_or ticks v 0 ≡ last_tick tick ks = n.before v h early in
      record {
        early = early;
        held = omega (
          arith,
          e.ahead.room,
          e.ahead.behind,
          e.long,
          window_long tick (events_to width ends out₀ first (suc v)),
          to-length b out₀ first (suc v) e.low e.few,
          start_next ends v,
        );
        timed = rw (own_same, t) (timed_behind ks own parted);
        room = rw (own_same, t) (omega (arith, sizes, e.long, n.place v h early));
      }

  pub emitting_next : {out' : List ℕ} → out' ≡ splice out (get_or starts v 0) (window_bytes (get_or ticks v 0) (events_of width ends out v))
      → Emitting width first at tick ends out₀ v out'
  emitting_next {out'} g =
      let w : List ℕ = window_bytes (last_tick tick ks) own in
      let p : ℕ = at + length (window_bytes tick ks) in
      let f : out' ≡ splice out p w = rw (← own_same, ← n.before v h early, ← n.place v h early) g in
      rw f
      (record {
        low = h;
        few = omega (arith, early);
        long = length-splice out p w ∙ e.long;
        ahead = record { behind = e.ahead.behind; timed = timed_window ks own parted (omega arith); room = omega (arith, sizes) };
        front = λ i l. get_or-splice-before out p w i (omega (arith, behind, n.place v h early)) ∙ e.front i (omega (arith, start_next ends v, b.rising v early));
        same = sym (splice-append-last out at (window_bytes tick ks) w) ∙ ap (splice out at) (sym bytes) ∙ e.same;
      })

pub emitting_over : {width first at tick : ℕ} {ends out₀ : List ℕ} {v : ℕ} {out : List ℕ} → v ≤ first → Emitting width first at tick ends out₀ v out
    → out ≡ splice out₀ at (window_bytes tick (events_to width ends out₀ first 2048))
unfolding window_bytes splice
emitting_over {width} {first} {at} {tick} {ends} {out₀} {v} {out} l e =
    let z : v ≡ first = omega (arith, e.low) in
    let none : events_to width ends out₀ first v ≡ [] = ap (span (events_of width ends out₀) first) z ∙ span_none (events_of width ends out₀) first in
    ap (λ (ks : List ℕ). splice out at (window_bytes tick ks)) (sym none) ∙ e.same

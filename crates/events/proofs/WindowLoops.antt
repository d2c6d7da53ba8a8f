-- The loops over the events of a window: what is left of it, and what is left of the track behind it. Assumes nothing.
use mathlib.Core.Path.{◌≡◌, refl, sym, ap, ◌∙◌}
use mathlib.Core.List.{List, [], ◌∷◌, ◌++◌, append_assoc, append-nil}
use Prim.Native.Nat.{ℕ, suc, ◌+◌, ◌-◌, ◌≤◌, ◌<◌}
use native.Mathlib.Omega.{arith}
use lib.ListN.{length, get_or, drop, length-append, drop_of_length-le}
use lib.Seq.{drop-cons}
use Rattle.words.specs.Splice.{splice, splice-append, length-splice}
use Rattle.midi.specs.Numbers.{quantity_bytes}
use Rattle.midi.specs.Writing.{message_bytes, end_of_track}
use Rattle.track.specs.Keys.{tick_of, event_of}
use Rattle.events.specs.Tracks.{track_left, Timed, Timed.over, Timed.next}
use Rattle.events.specs.Windows.{window_bytes, last_tick, longest}
use Rattle.events.proofs.EventLoops.{First, timed_first, timed_within, left-first, left_over}

-- ---- a window of a track

-- the bytes of a window, and of what is left behind it
pub window_left : (end last : ℕ) (ks rest : List ℕ) → track_left end last (ks ++ rest) ≡ window_bytes last ks ++ track_left end (last_tick last ks) rest
unfolding window_bytes last_tick
window_left end last [] rest = refl
window_left end last (k ∷ ks) rest =
    left-first end last k (ks ++ rest)
    ∙ ap (λ (x : List ℕ). (quantity_bytes (tick_of k - last) ++ message_bytes (event_of k)) ++ x) (window_left end (tick_of k) ks rest)
    ∙ sym (append_assoc (quantity_bytes (tick_of k - last) ++ message_bytes (event_of k)) (window_bytes (tick_of k) ks) (track_left end (last_tick (tick_of k) ks) rest))

-- the bytes of all events, and the end of track
pub track-parts : (end : ℕ) (ks : List ℕ) → track_left end 0 ks ≡ window_bytes 0 ks ++ (quantity_bytes (end - last_tick 0 ks) ++ end_of_track)
track-parts end ks =
    ap (track_left end 0) (sym (append-nil ks)) ∙ window_left end 0 ks [] ∙ ap (λ (x : List ℕ). window_bytes 0 ks ++ x) (left_over end (last_tick 0 ks))

pub track-size : (end : ℕ) (ks : List ℕ) → length (track_left end 0 ks) ≡ length (window_bytes 0 ks) + (length (quantity_bytes (end - last_tick 0 ks)) + 3)
track-size end ks =
    ap length (track-parts end ks) ∙ length-append (window_bytes 0 ks) (quantity_bytes (end - last_tick 0 ks) ++ end_of_track)
    ∙ ap (◌+◌ (length (window_bytes 0 ks))) (length-append (quantity_bytes (end - last_tick 0 ks)) end_of_track)

pub timed_window : {end last : ℕ} (ks rest : List ℕ) → Timed end last (ks ++ rest) → end ≤ longest → Timed longest last ks
timed_window {last = last} [] rest t h = over {last = last} (omega (arith, timed_within t))
timed_window {end = end} {last = last} (k ∷ ks) rest t h = let f = timed_first t in next {k = k} f.on (timed_window {last = tick_of k} ks rest f.rest h)

pub timed_behind : {end last : ℕ} (ks rest : List ℕ) → Timed end last (ks ++ rest) → Timed end (last_tick last ks) rest
unfolding last_tick
timed_behind [] rest t = t
timed_behind {end = end} {last = last} (k ∷ ks) rest t = timed_behind {last = tick_of k} ks rest (timed_first t).rest

-- ---- counting

message_length : (k : ℕ) → length (message_bytes (event_of k)) ≡ 3
unfolding message_bytes
message_length k = refl

-- The events from event i on are left; counted and left are all of them.
pub record Counting (ks : List ℕ) (tick₀ at₀ i tick q : ℕ) : Type 0 where
  pub timed : Timed longest tick (drop i ks)
  pub place : q + length (window_bytes tick (drop i ks)) ≡ at₀ + length (window_bytes tick₀ ks)
  pub last : last_tick tick (drop i ks) ≡ last_tick tick₀ ks

pub counting_start : {ks : List ℕ} {tick : ℕ} (at : ℕ) → Timed longest tick ks → Counting ks tick at 0 tick at
counting_start at t = record { timed = t; place = refl; last = refl }

module _ {ks : List ℕ} {tick₀ at₀ i tick q : ℕ} (c : Counting ks tick₀ at₀ i tick q) where
  module _ (h : i < length ks) where
    abbrev k : ℕ
    k = get_or ks i 0

    split : drop i ks ≡ k ∷ drop (suc i) ks
    split = drop-cons ks i 0 h

    first : First longest tick k (drop (suc i) ks)
    first = timed_first (rw split at c.timed)

    pub counting_on : tick ≤ tick_of (get_or ks i 0)
    counting_on = first.on

    pub counting_within : tick_of (get_or ks i 0) ≤ longest
    counting_within = timed_within first.rest

    bytes-length : length (window_bytes tick (drop i ks)) ≡ length (quantity_bytes (tick_of k - tick)) + 3 + length (window_bytes (tick_of k) (drop (suc i) ks))
    unfolding window_bytes
    bytes-length =
        rw split (length-append (quantity_bytes (tick_of k - tick) ++ message_bytes (event_of k)) (window_bytes (tick_of k) (drop (suc i) ks))
        ∙ omega (arith, length-append (quantity_bytes (tick_of k - tick)) (message_bytes (event_of k)), message_length k))

    pub counting_room : (at_tick : ℕ) → at_tick ≡ tick_of (get_or ks i 0) → q + length (quantity_bytes (at_tick - tick)) + 3 ≤ at₀ + length (window_bytes tick₀ ks)
    counting_room at_tick e = omega (arith, c.place, bytes-length, ap (λ (j : ℕ). length (quantity_bytes (j - tick))) e)

    last_tick_lem : last_tick tick (drop i ks) ≡ last_tick (tick_of k) (drop (suc i) ks)
    unfolding last_tick
    last_tick_lem = rw split

    -- as the code has them: the event's tick, and the place behind it
    pub counting_more : (at_tick r : ℕ) → at_tick ≡ tick_of (get_or ks i 0) → r ≡ q + length (quantity_bytes (at_tick - tick)) + 3 → Counting ks tick₀ at₀ (i + 1) at_tick r
    counting_more at_tick r e f =
        let j : i + 1 ≡ suc i = omega arith in
        rw (j, e)
        (record {
          timed = first.rest;
          place = omega (arith, c.place, bytes-length, f, ap (λ (x : ℕ). length (quantity_bytes (x - tick))) e);
          last = sym last_tick_lem ∙ c.last;
        })

  none_left : length ks ≤ i → drop i ks ≡ []
  none_left h = drop_of_length-le ks h

  pub counting_over : length ks ≤ i → (q ≡ at₀ + length (window_bytes tick₀ ks)) × (tick ≡ last_tick tick₀ ks)
  unfolding window_bytes last_tick
  counting_over h =
      let e = none_left h in
      (omega (arith, c.place, ap (λ (xs : List ℕ). length (window_bytes tick xs)) e), ap (last_tick tick) (sym e) ∙ c.last)

-- ---- writing

-- What is written, and what is left, are all of it.
pub record Putting (ks : List ℕ) (tick₀ at₀ : ℕ) (out₀ : List ℕ) (i tick q : ℕ) (out : List ℕ) : Type 0 where
  pub counting : Counting ks tick₀ at₀ i tick q
  pub long : length out ≡ length out₀
  pub same : splice out q (window_bytes tick (drop i ks)) ≡ splice out₀ at₀ (window_bytes tick₀ ks)

module _ {ks : List ℕ} {tick₀ at₀ : ℕ} {out₀ : List ℕ} {i tick q : ℕ} {out : List ℕ} (p : Putting ks tick₀ at₀ out₀ i tick q out) where
  pub putting_more : (h : i < length ks) (at_tick r : ℕ) {out' : List ℕ} → at_tick ≡ tick_of (get_or ks i 0) → r ≡ q + length (quantity_bytes (at_tick - tick)) + 3
      → out' ≡ splice out q (quantity_bytes (at_tick - tick) ++ message_bytes (event_of (get_or ks i 0))) → Putting ks tick₀ at₀ out₀ (i + 1) at_tick r out'
  unfolding window_bytes
  putting_more h at_tick r {out'} e f g =
      let k : ℕ = get_or ks i 0 in
      let bytes : List ℕ = quantity_bytes (at_tick - tick) ++ message_bytes (event_of k) in
      let left : List ℕ = window_bytes at_tick (drop (i + 1) ks) in
      let j : i + 1 ≡ suc i = omega arith in
      let n : q + length bytes ≡ r = omega (arith, length-append (quantity_bytes (at_tick - tick)) (message_bytes (event_of k)), message_length k) in
      let b : splice out' r left ≡ splice out q (bytes ++ left) = rw (g, ← n) (sym (splice-append out q bytes left)) in
      let d : window_bytes tick (drop i ks) ≡ bytes ++ left = rw (split p.counting h, e, j) in
      record {
        counting = counting_more p.counting h at_tick r e f;
        long = rw g (length-splice out q bytes ∙ p.long);
        same = b ∙ ap (splice out q) (sym d) ∙ p.same;
      }

  pub putting_over : length ks ≤ i → out ≡ splice out₀ at₀ (window_bytes tick₀ ks)
  unfolding window_bytes splice
  putting_over h = rw (none_left p.counting h) at p.same

pub putting_start : {ks : List ℕ} {tick : ℕ} (at : ℕ) (out : List ℕ) → Timed longest tick ks → Putting ks tick at out 0 tick at out
putting_start at out t = record { counting = counting_start at t; long = refl; same = refl }

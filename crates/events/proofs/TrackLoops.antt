-- The loops over the windows of a track: what is left of it. Assumes nothing.
use mathlib.Core.Path.{◌≡◌, refl, sym, ap, ◌∙◌}
use mathlib.Core.List.{List, [], ◌∷◌, ◌++◌}
use Prim.Native.Nat.{ℕ, ◌+◌, ◌-◌, ◌*◌, ◌≤◌, ◌<◌}
use native.Mathlib.Omega.{arith}
use lib.ListN.{length, take, length-append}
use lib.Seq.{length-take-le}
use Rattle.words.specs.Splice.{splice, splice-append, length-splice}
use Rattle.order.specs.Queues.{Queues, merged}
use Rattle.order.specs.declared.notes.Notes.{Notes}
use Rattle.order.specs.Notes.{events_of}
use Rattle.order.specs.Windows.{From, from_small}
use Rattle.order.specs.Taking.{Width, TakeAsks, Taken}
use Rattle.midi.specs.Numbers.{quantity_bytes}
use Rattle.midi.specs.Writing.{end_of_track}
use Rattle.events.specs.Tracks.{track_left, events_left, Timed, TrackAsks}
use Rattle.events.specs.Windows.{window_bytes, last_tick, longest}
use Rattle.events.proofs.EventLoops.{timed_within, left_over, over_length}
use Rattle.events.proofs.WindowLoops.{window_left, timed_window, timed_behind}

-- ---- what is left

-- So many events are left, of ranks from `from` on, behind one at `tick`; the next window has so many ranks.
pub record Left (keys ends : List ℕ) (n end : ℕ) (pos : List ℕ) (left from width tick : ℕ) : Type 0 where
  pub queues : Queues keys pos ends n
  pub behind : From keys pos ends n from
  pub count : left ≡ length (merged keys pos ends n)
  pub wide : Width width
  pub timed : Timed end tick (merged keys pos ends n)
  pub late : from ≤ 272629760

module _ {keys ends : List ℕ} {n end : ℕ} {pos : List ℕ} {left from width tick : ℕ} (l : Left keys ends n end pos left from width tick) where
  pub left_early : 0 < left → from < 268435456
  left_early h = from_small l.queues l.behind (omega (arith, l.count))

  pub window_asks : {to a : List ℕ} → 0 < left → n ≤ 2048 → n ≤ length to → 2048 ≤ length a → TakeAsks keys pos ends to a n from width
  window_asks some lanes room here = record { queues = l.queues; lanes = lanes; room = room; here = here; behind = l.behind; early = left_early some; wide = l.wide }

  pub left-within : tick ≤ end
  left-within = timed_within l.timed

  none_left : left ≤ 0 → merged keys pos ends n ≡ []
  none_left h = go (merged keys pos ends n) (omega (arith, l.count))
    where
      go : (ks : List ℕ) → length ks ≡ 0 → ks ≡ []
      go [] e = refl
      go (k ∷ ks) e = absurd (omega arith)

  pub left_over_length : left ≤ 0 → length (track_left end tick (merged keys pos ends n)) ≡ length (quantity_bytes (end - tick)) + 3
  left_over_length h = ap (λ (ks : List ℕ). length (track_left end tick ks)) (none_left h) ∙ over_length end tick

  -- a window taken from it
  module _ {pos' a : List ℕ} {m wide' : ℕ} (w : Taken keys pos ends pos' a n from m wide') (here : 2048 ≤ length a) where
    abbrev ks : List ℕ
    ks = take m a

    parted : Timed end tick (ks ++ merged keys pos' ends n)
    parted = rw w.first at l.timed

    size : length ks ≡ m
    size = length-take-le m a (omega (arith, w.few))

    pub left_window : end ≤ longest → Timed longest tick (take m a)
    left_window h = timed_window ks (merged keys pos' ends n) parted h

    pub left_fewer : left ≡ m + length (merged keys pos' ends n)
    left_fewer = omega (arith, l.count, ap length w.first, length-append ks (merged keys pos' ends n), size)

    bytes : track_left end tick (merged keys pos ends n) ≡ window_bytes tick ks ++ track_left end (last_tick tick ks) (merged keys pos' ends n)
    bytes = ap (track_left end tick) w.first ∙ window_left end tick ks (merged keys pos' ends n)

    pub left-bytes : length (track_left end tick (merged keys pos ends n)) ≡ length (window_bytes tick (take m a)) + length (track_left end (last_tick tick (take m a)) (merged keys pos' ends n))
    left-bytes = ap length bytes ∙ length-append (window_bytes tick ks) (track_left end (last_tick tick ks) (merged keys pos' ends n))

    pub left_more : (tick' width' : ℕ) → 0 < left → tick' ≡ last_tick tick (take m a) → Width width' → Left keys ends n end pos' (left - m) (from + wide') width' tick'
    left_more tick' width' s e v =
        record {
          queues = w.queues;
          behind = w.behind;
          count = omega (arith, left_fewer);
          wide = v;
          timed = rw e (timed_behind ks (merged keys pos' ends n) parted);
          late = omega (arith, left_early s, w.wide.most);
        }

-- ---- counting

-- Counted and left are all of it.
pub record Counting (keys ends : List ℕ) (n end whole : ℕ) (pos : List ℕ) (left from width at tick : ℕ) : Type 0 where
  pub ahead : Left keys ends n end pos left from width tick
  pub all : at + length (track_left end tick (merged keys pos ends n)) ≡ whole

module _ {keys ends : List ℕ} {n end whole : ℕ} {pos : List ℕ} {left from width at tick : ℕ} (c : Counting keys ends n end whole pos left from width at tick) where
  pub counting_over : left ≤ 0 → at + length (quantity_bytes (end - tick)) + 3 ≡ whole
  counting_over h = omega (arith, c.all, left_over_length c.ahead h)

  module _ {pos' a : List ℕ} {m wide' : ℕ} (w : Taken keys pos ends pos' a n from m wide') (here : 2048 ≤ length a) where
    pub counting_room : at + length (window_bytes tick (take m a)) ≤ whole
    counting_room = omega (arith, c.all, left-bytes c.ahead w here)

    pub counting_more : (at' tick' width' : ℕ) → 0 < left → at' ≡ at + length (window_bytes tick (take m a)) → tick' ≡ last_tick tick (take m a) → Width width'
        → Counting keys ends n end whole pos' (left - m) (from + wide') width' at' tick'
    counting_more at' tick' width' s d e v =
        record {
          ahead = left_more c.ahead w here tick' width' s e v;
          all = rw e (omega (arith, c.all, left-bytes c.ahead w here, d));
        }

-- ---- writing

-- What is written, and what is left, are all of it.
pub record Putting (keys ends : List ℕ) (n end : ℕ) (out₀ : List ℕ) (start : ℕ) (whole : List ℕ) (pos : List ℕ) (left from width at tick : ℕ) (out : List ℕ) : Type 0 where
  pub counting : Counting keys ends n end (start + length whole) pos left from width at tick
  pub long : length out ≡ length out₀
  pub same : splice out at (track_left end tick (merged keys pos ends n)) ≡ splice out₀ start whole

module _ {keys ends : List ℕ} {n end : ℕ} {out₀ : List ℕ} {start : ℕ} {whole pos : List ℕ} {left from width at tick : ℕ} {out : List ℕ}
    (p : Putting keys ends n end out₀ start whole pos left from width at tick out) where
  pub putting_more : {pos' a out' : List ℕ} {m wide' : ℕ} → (w : Taken keys pos ends pos' a n from m wide') → 2048 ≤ length a → (at' tick' width' : ℕ) → 0 < left
      → at' ≡ at + length (window_bytes tick (take m a)) → tick' ≡ last_tick tick (take m a) → Width width' → out' ≡ splice out at (window_bytes tick (take m a))
      → Putting keys ends n end out₀ start whole pos' (left - m) (from + wide') width' at' tick' out'
  putting_more {pos'} {a} {out'} {m} w here at' tick' width' s d e v g =
      let rest : List ℕ = track_left end tick' (merged keys pos' ends n) in
      let front : List ℕ = window_bytes tick (take m a) in
      let b : track_left end tick (merged keys pos ends n) ≡ front ++ rest = rw e (bytes p.counting.ahead w here) in
      record {
        counting = counting_more p.counting w here at' tick' width' s d e v;
        long = rw g (length-splice out at front ∙ p.long);
        same = rw (g, d) (sym (splice-append out at front rest) ∙ ap (splice out at) (sym b) ∙ p.same);
      }

  pub putting_over : {out' : List ℕ} → left ≤ 0 → out' ≡ splice out at (quantity_bytes (end - tick) ++ end_of_track) → out' ≡ splice out₀ start whole
  putting_over h f =
      f ∙ ap (splice out at) (sym (left_over end tick)) ∙ ap (λ (ks : List ℕ). splice out at (track_left end tick ks)) (sym (none_left p.counting.ahead h)) ∙ p.same

-- ---- the beginning

module _ {notes : Notes} {pos ends to a b places : List ℕ} {end : ℕ} (w : TrackAsks notes pos ends to a b places end) where
  left-start : (width : ℕ) → Width width → Left (events_of notes) ends (length pos) end pos (2 * notes.count) 0 width 0
  left-start width v =
      record {
        queues = w.queues;
        behind = record { each = λ l h i c d. omega arith };
        count = sym w.all;
        wide = v;
        timed = w.timed;
        late = omega arith;
      }

  pub counting_start : (at width : ℕ) → Width width
      → Counting (events_of notes) ends (length pos) end (at + length (track_left end 0 (events_left notes pos ends))) pos (2 * notes.count) 0 width at 0
  counting_start at width v = record { ahead = left-start width v; all = refl }

  pub putting_start : (out : List ℕ) (at width : ℕ) → Width width
      → Putting (events_of notes) ends (length pos) end out at (track_left end 0 (events_left notes pos ends)) pos (2 * notes.count) 0 width at 0 out
  putting_start out at width v = record { counting = counting_start at width v; long = refl; same = refl }

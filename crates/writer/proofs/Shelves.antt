-- What a shelf's notes give the code that writes them: their order, their ticks, and the bytes of their events. Assumes nothing.
use mathlib.Core.Path.{◌≡◌, refl, ap, ◌∙◌}
use mathlib.Core.List.{List, [], ◌∷◌, map}
use Prim.Native.Nat.{ℕ, suc, ◌*◌, ◌≤◌, ◌<◌}
use native.Mathlib.Nat.{mul-le-mul_right}
use native.Mathlib.Omega.{arith}
use lib.Dec.{leb}
use lib.ListN.{length, get_or, take}
use lib.Seq.{get_or-take, length-take-le}
use borrow.Author.Tests.{leb-true}
use Rattle.radix.specs.Sort as S
use Rattle.order.specs.Queues.{merged, left_same, apart-part}
use Rattle.order.specs.Events.{end_at, events, Follows, Follows.lanes, Follows.ticks, Ordered, length-events}
use Rattle.order.specs.Runs.{Split, split_length}
use Rattle.model.specs.Lists.{gather}
use Rattle.model.specs.Limits.{velocity_ok}
use Rattle.model.specs.Takes.{read_notes}
use Rattle.model.specs.declared.Note.{Note}
use Rattle.laws.specs.Booleans.{and_right}
use Rattle.laws.specs.Notes.{Fair, Follow, above, later, fair_notes, ok_pairs}
use Rattle.laws.specs.Relations.{All, all_imp, all-at}
use Rattle.midi.specs.Writing.{NoteEvent, note_event, events_of, order, in_order, event_bytes, track_bytes}
use Rattle.midi.proofs.Sorting.{all-in_order}
use Rattle.session.specs.Reading.{note_at}
use Rattle.track.specs.Keys.{key_of, tick_of, event_of}
use Rattle.events.specs.Tracks.{track_left, Timed, Timed.over, Timed.next, TrackAsks}
use Rattle.writer.specs.declared.take.Take.{Take}
use Rattle.writer.specs.Files.{FileAsks}
use Rattle.writer.proofs.Keys.{each_note, each_pair, events-keys, all_differ, sort-keys}

-- ---- events from their numbers

event_same : {t u k l m n v w : ℕ} → t ≡ u → k ≡ l → m ≡ n → v ≡ w → note_event t k m v ≡ note_event u l n w
event_same a b c d = rw (a, b, c, d)

record Sized (e : NoteEvent) : Type 0 where
  pub kind_low : e.kind < 2
  pub lane_low : e.lane < 2048
  pub soft : e.velocity < 128

event-key : (e : NoteEvent) → Sized e → event_of (key_of e) ≡ e
unfolding order
event-key e z =
    let a = z.kind_low in
    let b = z.lane_low in
    let c = z.soft in
    event_same (omega arith) (omega arith) (omega arith) (omega arith)

events_again : (es : List NoteEvent) → All Sized es → map event_of (map key_of es) ≡ es
events_again [] a = refl
events_again (e ∷ es) a = rw (event-key e a.0, events_again es a.1)

soft-note : {δ beats : ℕ} (n : Note) → Fair δ beats n → n.velocity ≤ 127
unfolding velocity_ok
soft-note n f = leb-true n.velocity 127 (and_right (leb 1 n.velocity) (leb n.velocity 127) f.loud)

all_sized : (δ beats : ℕ) (ns : List Note) → All (Fair δ beats) ns → All Sized (gather events_of ns)
all_sized δ beats [] a = tt
all_sized δ beats (n ∷ ns) a =
    let v = soft-note n a.0 in
    let l = a.0.lane_below in
    (record { kind_low = omega arith; lane_low = l; soft = omega arith }, (record { kind_low = omega arith; lane_low = l; soft = omega arith }, all_sized δ beats ns a.1))

-- ---- ticks

all-within : (δ beats : ℕ) (ns : List Note) → All (Fair δ beats) ns → All (λ e. tick_of (key_of e) ≤ beats * δ) (gather events_of ns)
unfolding order
all-within δ beats [] a = tt
all-within δ beats (n ∷ ns) a =
    let v = soft-note n a.0 in
    let l = a.0.lane_below in
    let o = a.0.order in
    let f = a.0.fits in
    (omega arith, (omega arith, all-within δ beats ns a.1))

all-keys : (P : ℕ → Type 0) (es : List NoteEvent) → All (λ e. P (key_of e)) es → All P (map key_of es)
all-keys P [] a = tt
all-keys P (e ∷ es) a = (a.0, all-keys P es a.1)

timed_from : (end last : ℕ) (ks : List ℕ) → last ≤ end → S.Ascending ks → S.Least (last * 524288) ks → All (λ k. tick_of k ≤ end) ks → Timed end last ks
timed_from end last [] h s l a = over h
timed_from end last (k ∷ ks) h (S.Ascending.front m s) (S.Least.more g l) a =
    let e : tick_of k * 524288 ≤ k = omega arith in
    next {last = last} {k = k} (omega arith) (timed_from end (tick_of k) ks a.0 s (S.least_under e m) a.1)

least_zero : (ks : List ℕ) → S.Least 0 ks
least_zero [] = S.Least.none
least_zero (k ∷ ks) = S.Least.more {x = k} (omega arith) (least_zero ks)

-- ---- a shelf's notes

module _ {s : List ℕ} {count δ beats : ℕ} (a : FileAsks s count δ beats) where
  abbrev notes : List Note
  notes = read_notes count s

  abbrev keys : List ℕ
  keys = events s 0 count

  fair : All (Fair δ beats) notes
  fair = fair_notes δ beats notes a.ok

  pub end_short : beats * δ ≤ 134213632
  end_short = let h : beats * δ ≤ 4096 * δ = mul-le-mul_right δ a.beats_few in omega (arith, a.delta_low)

  in_range : (n : Note) → Fair δ beats n → n.end < 134217728
  in_range n f = omega (arith, f.fits, end_short)

  pub ordered : Ordered s count
  unfolding note_at
  ordered = record {
    fits = a.inside;
    few = omega (arith, a.few);
    each = λ i h. let f = each_note (Fair δ beats) s count 0 fair i (omega arith) (omega arith) in
        record { lane = f.lane_below; some = f.order; end = in_range _ f; velocity = let v = soft-note _ f in omega arith };
    order = λ i h. follows i (each_pair Follow s count 0 (ok_pairs δ beats notes a.ok) i (omega arith) (omega arith));
  }
    where
      follows : (i : ℕ) → Follow (note_at s (4 * i)) (note_at s (4 * suc i)) → Follows s i (suc i)
      follows i (above h) = lanes h
      follows i (later g h) = ticks g h

  keys_are : keys ≡ map key_of (gather events_of notes)
  keys_are = events-keys s count 0

  sorted_is : S.sort keys ≡ map key_of (in_order (gather events_of notes))
  sorted_is = ap S.sort keys_are ∙ sort-keys (gather events_of notes) (all_imp Sized (λ e. e.velocity < 128) (gather events_of notes) (λ e z. z.soft) (all_sized δ beats notes fair)) (all_differ δ beats notes fair (ok_pairs δ beats notes a.ok))

  pub events_in-order : map event_of (S.sort keys) ≡ in_order (gather events_of notes)
  events_in-order = ap (map event_of) sorted_is ∙ events_again (in_order (gather events_of notes)) (all-in_order Sized (gather events_of notes) (all_sized δ beats notes fair))

  pub track_is : track_left (beats * δ) 0 (S.sort keys) ≡ track_bytes δ beats notes
  unfolding track_bytes
  track_is = ap (event_bytes (beats * δ) 0) events_in-order

  pub ends_within : (i : ℕ) → i < count → end_at s i ≤ beats * δ
  unfolding note_at
  ends_within i h = (each_note (Fair δ beats) s count 0 fair i (omega arith) (omega arith)).fits

  -- no event comes behind the end of track
  pub ticks-within : (i : ℕ) → i < 2 * count → tick_of (get_or (events s 0 count) i 0) ≤ beats * δ
  ticks-within i h =
      all-at (λ k. tick_of k ≤ beats * δ) keys i 0 (rw keys_are (all-keys (λ k. tick_of k ≤ beats * δ) (gather events_of notes) (all-within δ beats notes fair))) (omega (arith, length-events s 0 count))

  pub timed : Timed (beats * δ) 0 (S.sort keys)
  timed = timed_from (beats * δ) 0 (S.sort keys) (omega arith) (S.sort_ascending keys) (least_zero (S.sort keys))
      (rw sorted_is (all-keys (λ k. tick_of k ≤ beats * δ) (in_order (gather events_of notes)) (all-in_order (λ e. tick_of (key_of e) ≤ beats * δ) (gather events_of notes) (all-within δ beats notes fair))))

-- ---- the places of just the lanes that have notes

pub lanes_split : {s : List ℕ} {count : ℕ} {pos ends : List ℕ} {n : ℕ} → Split s count pos ends n → Split s count (take n pos) (take n ends) (length (take n pos))
unfolding merged
lanes_split {s} {count} {pos} {ends} {n} w =
    let q = w.queues in
    let p : length (take n pos) ≡ n = length-take-le n pos q.places in
    rw p
    (record {
      queues = record {
        places = omega (arith, p);
        limits = omega (arith, length-take-le n ends q.limits);
        each = λ l h. rw (get_or-take n pos l 0 h, get_or-take n ends l 0 h) (q.each l h);
        apart = apart-part q.apart (λ l h. omega (arith, get_or-take n pos l 0 h)) (λ l h. omega (arith, get_or-take n ends l 0 h));
      };
      all = ap S.sort
          (left_same (events s 0 count) (take n pos) pos (take n ends) ends 0 n (λ i a b. get_or-take n pos i 0 (omega arith)) (λ i a b. get_or-take n ends i 0 (omega arith)))
          ∙ w.all;
    })

-- a take's
module _ (t : Take) where
  pub track_asks : {pos ends a b places : List ℕ} {n : ℕ} → Split t.notes.words.now t.notes.count pos ends n → n ≤ 2048
      → (to : List ℕ) → 2048 ≤ length to → 2048 ≤ length a → 2048 ≤ length b → 2048 ≤ length places
      → TrackAsks t.notes (take n pos) (take n ends) (take n to) a b places (t.beats * t.delta)
  track_asks {pos} {n = n} w l to room here there table =
      let a = t.sound in
      let v = lanes_split w in
      let p : length (take n pos) ≡ n = length-take-le n pos w.queues.places in
      record {
        few = a.few;
        queues = v.queues;
        all = split_length v;
        timed = rw v.all (timed a);
        short = omega (arith, end_short a);
        lanes = omega (arith, p);
        room = omega (arith, p, length-take-le n to (omega arith));
        here = here;
        there = there;
        table = table;
      }

-- Whatever a file holds, what it is read as is a recording that lay accepts: at most 4,096 beats, its notes in range, in order and
-- without overlap in a lane. Assumes nothing.
use mathlib.Core.Bool.{Bool, true, false, ◌&&◌}
use mathlib.Core.List.{List, [], ◌∷◌, ◌++◌, append-nil}
use mathlib.Core.Logic.{◌≢◌}
use mathlib.Core.Path.{◌≡◌, refl, sym, ap, ◌∙◌}
use Prim.Native.Nat.{ℕ, zero, suc, ◌+◌, ◌-◌, ◌*◌, ◌≤◌, ◌<◌}
use native.Mathlib.Decide.{ℕ_discrete}
use native.Mathlib.Nat.{lt-div-mul-add, div-lt_iff_lt-mul}
use native.Mathlib.Omega.{arith}
use lib.Dec.{leb, ltb, eqb}
use lib.ListN.{length, take, drop}
use borrow.Author.Tests.{eq-eqb, eqb-true, leb-true, ltb-true, ne_eqb}
use Rattle.model.specs.Lists.{cons_if, count_from, gather}
use Rattle.model.specs.Histories.{Recording}
use Rattle.model.specs.Takes.{by_lane, lanes}
use Rattle.model.specs.declared.Note.{Note}
use Rattle.laws.specs.Booleans.{and_left, and_right}
use Rattle.laws.specs.Lanes.{all_both, all-by_lane}
use Rattle.laws.specs.Lists.{gather-one, keep_append, keep-gather}
use Rattle.laws.specs.Notes.{Follow, above, later}
use Rattle.laws.specs.OneNote.{Valid}
use Rattle.laws.specs.Relations.{All, Pairs, all_append, all-cons_if, all-count, all_imp, all_keep, all-kept, pairs-append}
use Rattle.midi.specs.Lanes.{lane_at, put_lane}
use Rattle.midi.specs.Numbers.{word32}
use Rattle.midi.specs.Events.{Place, place, Message, starts, ends, passed, Event, illegal, event, finished, event_at}
use Rattle.midi.specs.Sounding.{Sounding, silence, start_lane, stop_lane, ended, ended_lane, ended_all, Played, clash, played, play}
use Rattle.midi.specs.Reading.{
  FileAnswer,
  refused,
  read,
  beats_of,
  recorded,
  latest,
  after,
  run,
  read_track,
  header_there,
  header_fits,
  Chunk,
  no_track,
  track,
  track_from,
  read_file,
}
use Rattle.midi.proofs.Branches.{by_test}
use Rattle.midi.proofs.Legal.{InRange, Legal, legal}
use Rattle.midi.proofs.Playing.{lane_notes, note_at}
use Rattle.midi.proofs.Ranges.{Fits, fits_later, fits_ok}
use Rattle.midi.proofs.Tables.{Shaped, shaped_new, put_shaped, lane-put, lane_other, lane_new}

-- ---- what holds at each place of a track

-- The notes ended so far in a lane, and what sounds there.
pub record LaneHolds (start velocity : ℕ) (ns : List Note) : Type 0 where
  pub order : Pairs Follow ns
  pub soft : velocity ≤ 127
  pub free : 1 ≤ velocity → All (λ n. n.end ≤ start) ns

pub record Holds (tick : ℕ) (t : Sounding) (notes : List Note) : Type 0 where
  pub starts : Shaped t.start
  pub velocities : Shaped t.velocity
  pub fits : All (Fits tick) notes
  pub early : (l : ℕ) → l < 2048 → lane_at t.start l ≤ tick
  pub lane : (l : ℕ) → l < 2048 → LaneHolds (lane_at t.start l) (lane_at t.velocity l) (lane_notes l notes)

pub holds_start : Holds 0 silence []
holds_start = record {
  starts = shaped_new 0;
  velocities = shaped_new 0;
  fits = tt;
  early = λ l h. omega (arith, lane_new l 0 h);
  lane = λ l h. record { order = tt; soft = omega (arith, lane_new l 0 h); free = λ k. tt };
}

pub holds_later : (u v : ℕ) (t : Sounding) (notes : List Note) → u ≤ v → Holds u t notes → Holds v t notes
holds_later u v t notes h i = record {
  starts = i.starts;
  velocities = i.velocities;
  fits = all_imp (Fits u) (Fits v) notes (fits_later u v h) i.fits;
  early = λ l k. omega (arith, i.early l k);
  lane = i.lane;
}

-- a note starts
start_holds : (tick l v : ℕ) (t : Sounding) (notes : List Note) → l < 2048 → v < 128 → Holds tick t notes → Holds tick (start_lane t l tick v) notes
start_holds tick l v t notes h k i = record {
  starts = put_shaped t.start i.starts l tick h;
  velocities = put_shaped t.velocity i.velocities l v h;
  fits = i.fits;
  early = λ j m. by_lane_lem j m (ℕ_discrete j l);
  lane = λ j m. go j m (ℕ_discrete j l);
}
  where
    by_lane_lem : (j : ℕ) → j < 2048 → Dec (j ≡ l) → lane_at (put_lane t.start l tick) j ≤ tick
    by_lane_lem j m (yes d) = rw (d, lane-put t.start i.starts l tick h) (omega arith)
    by_lane_lem j m (no d) = rw (lane_other t.start i.starts l tick h j d) (i.early j m)

    go : (j : ℕ) → j < 2048 → Dec (j ≡ l) → LaneHolds (lane_at (put_lane t.start l tick) j) (lane_at (put_lane t.velocity l v) j) (lane_notes j notes)
    go j m (yes d) =
        rw (d, lane-put t.start i.starts l tick h, lane-put t.velocity i.velocities l v h)
        (record {
          order = (i.lane l h).order;
          soft = omega arith;
          free = λ z. all_imp (Fits tick) (λ n. n.end ≤ tick) (lane_notes l notes) (λ n f. f.within) (all_keep (Fits tick) (λ n. eqb n.lane l) notes i.fits);
        })
    go j m (no d) = rw (lane_other t.start i.starts l tick h j d, lane_other t.velocity i.velocities l v h j d) (i.lane j m)

-- ---- a note ends

pub lane_of : (l : ℕ) (notes : List Note) → All (λ n. n.lane ≡ l) (lane_notes l notes)
lane_of l notes =
    all_imp (λ n. eqb n.lane l ≡ true) (λ n. n.lane ≡ l) (lane_notes l notes) (λ n e. eqb-true n.lane l e) (all-kept (λ n. eqb n.lane l) notes)

ended-fits : (tick l start velocity : ℕ) → l < 2048 → velocity ≤ 127 → All (Fits tick) (ended l start velocity tick)
unfolding ended
ended-fits tick l start velocity h soft =
    all-cons_if (Fits tick) (ltb 0 velocity && ltb start tick) (note_at l start tick velocity) []
    (λ e. record {
      low = h;
      long = ltb-true start tick (and_right (ltb 0 velocity) (ltb start tick) e);
      within = omega arith;
      loud = ltb-true 0 velocity (and_left (ltb 0 velocity) (ltb start tick) e);
      soft = soft;
    })
    tt

ended-order : (tick l start velocity : ℕ) (ns : List Note) → All (λ n. n.lane ≡ l) ns → LaneHolds start velocity ns
    → Pairs Follow (ns ++ ended l start velocity tick)
unfolding ended
ended-order tick l start velocity ns o i = go (ltb 0 velocity && ltb start tick) refl
  where
    go : (b : Bool) → (ltb 0 velocity && ltb start tick) ≡ b → Pairs Follow (ns ++ cons_if b (note_at l start tick velocity) [])
    go true e =
        let p = ltb-true 0 velocity (and_left (ltb 0 velocity) (ltb start tick) e) in
        let n = note_at l start tick velocity in
        pairs-append Follow ns (n ∷ []) i.order (tt, tt)
        (all_imp (λ m. (m.lane ≡ l) × (m.end ≤ start)) (λ m. All (Follow m) (n ∷ [])) ns (λ m k. (later k.0 k.1, tt))
        (all_both (λ m. m.lane ≡ l) (λ m. m.end ≤ start) ns o (i.free p)))
    go false e = rw append-nil i.order

-- The note that ends stands in its own lane, and in no other.
pub ended-own : (l start velocity tick : ℕ) → lane_notes l (ended l start velocity tick) ≡ ended l start velocity tick
unfolding ended
ended-own l start velocity tick = go (ltb 0 velocity && ltb start tick)
  where
    go : (b : Bool) → lane_notes l (cons_if b (note_at l start tick velocity) []) ≡ cons_if b (note_at l start tick velocity) []
    go true = rw (eq-eqb l l refl)
    go false = refl

pub ended_other : (j l start velocity tick : ℕ) → j ≢ l → lane_notes j (ended l start velocity tick) ≡ []
unfolding ended
ended_other j l start velocity tick d = go (ltb 0 velocity && ltb start tick)
  where
    go : (b : Bool) → lane_notes j (cons_if b (note_at l start tick velocity) []) ≡ []
    go true = rw (ne_eqb l j (λ e. d (sym e)))
    go false = refl

stop_holds : (tick l : ℕ) (t : Sounding) (notes : List Note) → l < 2048 → Holds tick t notes → Holds tick (stop_lane t l) (notes ++ ended_lane t tick l)
stop_holds tick l t notes h i = record {
  starts = i.starts;
  velocities = put_shaped t.velocity i.velocities l 0 h;
  fits = all_append (Fits tick) notes (ended_lane t tick l) i.fits (ended-fits tick l (lane_at t.start l) (lane_at t.velocity l) h (i.lane l h).soft);
  early = i.early;
  lane = λ j m. go j m (ℕ_discrete j l);
}
  where
    go : (j : ℕ) → j < 2048 → Dec (j ≡ l)
        → LaneHolds (lane_at t.start j) (lane_at (put_lane t.velocity l 0) j) (lane_notes j (notes ++ ended_lane t tick l))
    go j m (yes d) =
        rw (
          d,
          lane-put t.velocity i.velocities l 0 h,
          keep_append (λ n. eqb n.lane l) notes (ended_lane t tick l),
          ended-own l (lane_at t.start l) (lane_at t.velocity l) tick,
        )
        (record {
          order = ended-order tick l (lane_at t.start l) (lane_at t.velocity l) (lane_notes l notes) (lane_of l notes) (i.lane l h);
          soft = omega arith;
          free = λ z. absurd (omega arith);
        })
    go j m (no d) =
        rw (
          lane_other t.velocity i.velocities l 0 h j d,
          keep_append (λ n. eqb n.lane j) notes (ended_lane t tick l),
          ended_other j l (lane_at t.start l) (lane_at t.velocity l) tick d,
          append-nil,
        )
        (i.lane j m)

-- ---- a message

abbrev pub PlayHolds : ℕ → Played → Type 0
PlayHolds tick clash = Unit {0}
PlayHolds tick (played t notes) = Holds tick t notes

pub play_holds : (tick : ℕ) (m : Message) (t : Sounding) (notes : List Note) → InRange m → Holds tick t notes → PlayHolds tick (play tick m t notes)
unfolding play
play_holds tick (starts l v) t notes r i =
    by_test (PlayHolds tick) (eqb (lane_at t.velocity l) 0) (λ e. start_holds tick l v t notes r.0 r.2 i) (λ e. tt)
play_holds tick (ends l) t notes r i = stop_holds tick l t notes r i
play_holds tick passed t notes r i = i

-- ---- the end of track

record InLanes (i : ℕ) (ns : List Note) : Type 0 where
  order : Pairs Follow ns
  low : All (λ n. i ≤ n.lane) ns

in_lanes : (f : ℕ → List Note) → ((l : ℕ) → l < 2048 → Pairs Follow (f l)) → ((l : ℕ) → All (λ n. n.lane ≡ l) (f l)) → (n i : ℕ) → i + n ≤ 2048
    → InLanes i (gather f (count_from n i))
in_lanes f g o zero i h = record { order = tt; low = tt }
in_lanes f g o (suc n) i h =
    let u = in_lanes f g o n (suc i) (omega arith) in
    let ys = gather f (count_from n (suc i)) in
    record {
      order = pairs-append Follow (f i) ys (g i (omega arith)) u.order
          (all_imp (λ m. m.lane ≡ i) (λ m. All (Follow m) ys) (f i)
          (λ m e. all_imp (λ k. suc i ≤ k.lane) (Follow m) ys (λ k a. above (omega arith)) u.low) (o i));
      low = all_append (λ m. i ≤ m.lane) (f i) ys (all_imp (λ m. m.lane ≡ i) (λ m. i ≤ m.lane) (f i) (λ m e. omega arith) (o i))
          (all_imp (λ m. suc i ≤ m.lane) (λ m. i ≤ m.lane) ys (λ m e. omega arith) u.low);
    }

-- A lane at the end of track.
pub lane_end : (tick : ℕ) (t : Sounding) (notes : List Note) (l : ℕ) → l < 2048
    → lane_notes l (notes ++ ended_all t tick) ≡ lane_notes l notes ++ ended_lane t tick l
lane_end tick t notes l h =
    keep_append (λ n. eqb n.lane l) notes (ended_all t tick)
    ∙ ap (λ xs. lane_notes l notes ++ xs)
    (keep-gather (λ n. eqb n.lane l) (ended_lane t tick) lanes
    ∙ gather-one (λ j. lane_notes l (ended_lane t tick j)) 2048 0 l (omega arith) h
    (λ j d. ended_other l j (lane_at t.start j) (lane_at t.velocity j) tick (λ e. d (sym e)))
    ∙ ended-own l (lane_at t.start l) (lane_at t.velocity l) tick)

-- All notes of a track are in range.
pub all_fit : (tick : ℕ) (t : Sounding) (notes : List Note) → Holds tick t notes → All (Fits tick) (notes ++ ended_all t tick)
all_fit tick t notes i =
    all_append (Fits tick) notes (ended_all t tick) i.fits
    (all-count (Fits tick) (ended_lane t tick) 2048 0
    (λ l a b. ended-fits tick l (lane_at t.start l) (lane_at t.velocity l) b (i.lane l b).soft))

-- A lane of all of them is in order.
pub lanes_follow : (tick : ℕ) (t : Sounding) (notes : List Note) → Holds tick t notes → (l : ℕ) → l < 2048
    → Pairs Follow (lane_notes l (notes ++ ended_all t tick))
lanes_follow tick t notes i l k =
    rw (lane_end tick t notes l k)
    (ended-order tick l (lane_at t.start l) (lane_at t.velocity l) (lane_notes l notes) (lane_of l notes) (i.lane l k))

module _ (δ : ℕ) (z : 1 ≤ δ) where
  -- Notes in range whose lanes are in order are a valid recording in order of lanes.
  pub lanes_valid : (tick : ℕ) (all : List Note) → tick ≤ latest δ → All (Fits tick) all → ((l : ℕ) → l < 2048 → Pairs Follow (lane_notes l all))
      → Valid δ (record { beats = beats_of δ tick; notes = by_lane (λ n. n.lane) all })
  unfolding by_lane
  lanes_valid tick all h f g = (
    few,
    fits_ok δ (beats_of δ tick) (by_lane (λ n. n.lane) all)
        (all-by_lane (λ n. n.lane) (Fits (beats_of δ tick * δ)) all (all_imp (Fits tick) (Fits (beats_of δ tick * δ)) all (fits_later tick (beats_of δ tick * δ) top) f))
        (in_lanes (λ l. lane_notes l all) g (λ l. lane_of l all) 2048 0 (omega arith)).order,
  )
    where
      few : beats_of δ tick ≤ 4096
      few = let a = (div-lt_iff_lt-mul {k = δ} {x = tick + (δ - 1)} {y = 4097} z).1 (omega arith) in omega arith

      top : tick ≤ beats_of δ tick * δ
      top = omega (arith, lt-div-mul-add {a = tick + (δ - 1)} {b = δ} z)

  pub recorded_valid : (tick : ℕ) (t : Sounding) (notes : List Note) → tick ≤ latest δ → Holds tick t notes → Valid δ (recorded δ tick t notes)
  unfolding recorded
  recorded_valid tick t notes h i = lanes_valid tick (notes ++ ended_all t tick) h (all_fit tick t notes i) (lanes_follow tick t notes i)

  -- ---- tracks and files

  -- A refusal has a number from 9 to 14; what is read is a valid recording.
  abbrev pub Sound : FileAnswer → Type 0
  Sound (refused n) = (9 ≤ n) × (n ≤ 14)
  Sound (read r) = Valid δ r

  by_played : (tick : ℕ) (r : Played) (more : Sounding → List Note → FileAnswer) → PlayHolds tick r
      → ((t : Sounding) (notes : List Note) → Holds tick t notes → Sound (more t notes))
      → Sound (elim r [ clash ↦ refused 14 | played t notes ↦ more t notes ])
  by_played tick clash more h f = (omega arith, omega arith)
  by_played tick (played t notes) more h f = f t notes h

  after-sound : (s : List ℕ) (p : Place) (e : Event) (t : Sounding) (notes : List Note) (more : Place → Sounding → List Note → FileAnswer)
      → ((q : Place) (t : Sounding) (notes : List Note) → Holds q.tick t notes → Sound (more q t notes)) → Legal s p e → Holds p.tick t notes
      → Sound (after δ e t notes more)
  unfolding after
  after-sound s p illegal t notes more f l i = (omega arith, omega arith)
  after-sound s p (event q m) t notes more f l i =
      by_test Sound (leb q.tick (latest δ))
      (λ a. by_played q.tick (play q.tick m t notes) (more q)
      (play_holds q.tick m t notes l.1 (holds_later p.tick q.tick t notes l.0.not_back i)) (f q))
      (λ a. (omega arith, omega arith))
  after-sound s p (finished tick) t notes more f l i =
      by_test Sound (leb tick (latest δ)) (λ a. recorded_valid tick t notes (leb-true tick (latest δ) a) (holds_later p.tick tick t notes l i)) (λ a. (omega arith, omega arith))

  run_sound : (fuel : ℕ) (s : List ℕ) (p : Place) (t : Sounding) (notes : List Note) → Holds p.tick t notes → Sound (run fuel δ s p t notes)
  unfolding run
  run_sound zero s p t notes i = (omega arith, omega arith)
  run_sound (suc fuel) s p t notes i =
      after-sound s p (event_at s p) t notes (λ p t notes. run fuel δ s p t notes) (λ q t notes j. run_sound fuel s q t notes j) (legal s p) i

  pub track-sound : (s : List ℕ) → Sound (read_track δ s)
  unfolding read_track
  track-sound s = run_sound (suc (length s)) s (place 0 0 0) silence [] holds_start

  by_chunk : (c : Chunk) (f : ℕ → ℕ → FileAnswer) → ((at n : ℕ) → Sound (f at n)) → Sound (elim c [ no_track ↦ refused 11 | track at n ↦ f at n ])
  by_chunk no_track f h = (omega arith, omega arith)
  by_chunk (track at n) f h = h at n

  pub file-sound : (s : List ℕ) → Sound (read_file δ s)
  unfolding read_file
  file-sound s =
      by_test Sound (header_there s)
      (λ a. by_test Sound (header_fits δ s)
      (λ b. by_chunk (track_from (length s) s (8 + word32 s 4)) (λ at n. read_track δ (take n (drop at s))) (λ at n. track-sound (take n (drop at s))))
      (λ b. (omega arith, omega arith)))
      (λ a. (omega arith, omega arith))

  pub read_valid : (s : List ℕ) (r : Recording) → read_file δ s ≡ read r → Valid δ r
  read_valid s r e = rw e at (file-sound s)

  pub refused_number : (s : List ℕ) (n : ℕ) → read_file δ s ≡ refused n → (9 ≤ n) × (n ≤ 14)
  refused_number s n e = rw e at (file-sound s)

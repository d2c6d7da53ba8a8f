-- What is left to read at a place, with no fuel: the equations that loops over a track's events and over a file's chunks go by.
-- Assumes nothing.
use mathlib.Core.Bool.{true, false}
use mathlib.Core.List.{List, [], ◌++◌}
use mathlib.Core.Path.{◌≡◌, refl, ap, ◌∙◌}
use Prim.Native.Nat.{ℕ, zero, suc, ◌+◌, ◌-◌, ◌≤◌, ◌<◌}
use native.Mathlib.Omega.{arith}
use lib.Dec.{leb, eqb}
use lib.ListN.{length}
use borrow.Author.Tests.{eq-eqb, le-leb, lt-leb, ne_eqb}
use Rattle.model.specs.declared.Note.{Note}
use Rattle.midi.specs.Lanes.{lane_at}
use Rattle.midi.specs.Numbers.{word32}
use Rattle.midi.specs.Events.{Place, place, Message, starts, ends, passed, Event, illegal, event, finished, event_at}
use Rattle.midi.specs.Sounding.{Sounding, silence, start_lane, stop_lane, ended_lane, Played, clash, played, play}
use Rattle.midi.specs.Reading.{
  FileAnswer,
  refused,
  read,
  recorded,
  latest,
  after,
  run,
  read_track,
  MTrk,
  chunk_there,
  Chunk,
  no_track,
  track,
  track_from,
}
use Rattle.midi.proofs.Branches.{same_test}
use Rattle.midi.proofs.Legal.{Moves, InRange, Legal, legal}

-- ---- the events of a track

-- What is left to do.
unfoldable pub rest : ℕ → List ℕ → Place → Sounding → List Note → FileAnswer
unfolding run
rest δ s p t notes = run (suc (length s - p.at)) δ s p t notes

same_played : (r : Played) (k h : Sounding → List Note → FileAnswer) → ((t : Sounding) (notes : List Note) → k t notes ≡ h t notes)
    → ◌≡◌ {A = FileAnswer} (elim r [ clash ↦ refused 14 | played t notes ↦ k t notes ]) (elim r [ clash ↦ refused 14 | played t notes ↦ h t notes ])
same_played clash k h f = refl
same_played (played t notes) k h f = f t notes

after_same : (δ : ℕ) (s : List ℕ) (p : Place) (e : Event) (t : Sounding) (notes : List Note) (k h : Place → Sounding → List Note → FileAnswer)
    → ((q : Place) (t : Sounding) (notes : List Note) → Moves s p q → k q t notes ≡ h q t notes) → Legal s p e
    → after δ e t notes k ≡ after δ e t notes h
unfolding after
after_same δ s p illegal t notes k h f l = refl
after_same δ s p (event q m) t notes k h f l =
    same_test (leb q.tick (latest δ)) (same_played (play q.tick m t notes) (k q) (h q) (λ t notes. f q t notes l.0)) refl
after_same δ s p (finished tick) t notes k h f l = refl

same_fuel : (f g δ : ℕ) (s : List ℕ) (p : Place) (t : Sounding) (notes : List Note) → p.at ≤ length s → length s < p.at + f → length s < p.at + g
    → run f δ s p t notes ≡ run g δ s p t notes
unfolding run
same_fuel zero g δ s p t notes h a b = absurd (omega arith)
same_fuel (suc f) zero δ s p t notes h a b = absurd (omega arith)
same_fuel (suc f) (suc g) δ s p t notes h a b =
    after_same δ s p (event_at s p) t notes (λ p t notes. run f δ s p t notes) (λ p t notes. run g δ s p t notes)
    (λ q t notes m. same_fuel f g δ s q t notes m.in_track (omega (arith, m.on)) (omega (arith, m.on))) (legal s p)

-- One event, and what is left behind it.
pub rest_step : (δ : ℕ) (s : List ℕ) (p : Place) (t : Sounding) (notes : List Note) → p.at ≤ length s
    → rest δ s p t notes ≡ after δ (event_at s p) t notes (rest δ s)
unfolding rest
rest_step δ s p t notes h =
    after_same δ s p (event_at s p) t notes (λ p t notes. run (length s - _) δ s p t notes) (rest δ s)
    (λ q t notes m. same_fuel (length s - p.at) (suc (length s - q.at)) δ s q t notes m.in_track (omega (arith, m.on)) (omega (arith, m.in_track)))
    (legal s p)

-- All of a track is left at its first byte.
pub track-rest : (δ : ℕ) (s : List ℕ) → read_track δ s ≡ rest δ s (place 0 0 0) silence []
unfolding rest read_track
track-rest δ s = same_fuel (suc (length s)) (suc (length s - 0)) δ s (place 0 0 0) silence [] (omega arith) (omega arith) (omega arith)

-- ---- a loop over them

-- What is left at a place gives what the whole track gives.
pub record Left (δ : ℕ) (s : List ℕ) (p : Place) (t : Sounding) (notes : List Note) : Type 0 where
  pub inside : p.at ≤ length s
  pub early : p.tick ≤ latest δ
  pub same : read_track δ s ≡ rest δ s p t notes

pub at-start : (δ : ℕ) (s : List ℕ) → Left δ s (place 0 0 0) silence []
at-start δ s = record { inside = omega arith; early = omega arith; same = track-rest δ s }

module _ (δ : ℕ) (s : List ℕ) (p : Place) (t : Sounding) (notes : List Note) (w : Left δ s p t notes) where
  one : (e : Event) → event_at s p ≡ e → read_track δ s ≡ after δ e t notes (rest δ s)
  one e f = w.same ∙ rest_step δ s p t notes w.inside ∙ ap (λ x. after δ x t notes (rest δ s)) f

  facts : (e : Event) → event_at s p ≡ e → Legal s p e
  facts e f = rw f at (legal s p)

  -- no legal event
  pub at_illegal : event_at s p ≡ illegal → read_track δ s ≡ refused 12
  unfolding after
  at_illegal f = one illegal f

  -- the end of track, too late and in time
  pub finish_late : (tick : ℕ) → event_at s p ≡ finished tick → latest δ < tick → read_track δ s ≡ refused 13
  unfolding after
  finish_late tick f h = rw (one (finished tick) f, lt-leb tick (latest δ) h, after)

  pub finish_read : (tick : ℕ) → event_at s p ≡ finished tick → tick ≤ latest δ → read_track δ s ≡ read (recorded δ tick t notes)
  unfolding after
  finish_read tick f h = one (finished tick) f ∙ rw (le-leb tick (latest δ) h, after)

  pub finish_on : (tick : ℕ) → event_at s p ≡ finished tick → p.tick ≤ tick
  finish_on tick f = facts (finished tick) f

  module _ (q : Place) (m : Message) (f : event_at s p ≡ event q m) where
    pub event_moves : Moves s p q
    event_moves = (facts (event q m) f).0

    pub event_in_range : InRange m
    event_in_range = (facts (event q m) f).1

    -- for the loop's measure
    pub event_less : length s - q.at < length s - p.at
    event_less = let v = event_moves in omega (arith, v.on, v.in_track)

    -- too late
    pub event_late : latest δ < q.tick → read_track δ s ≡ refused 13
    unfolding after
    event_late h = rw (one (event q m) f, lt-leb q.tick (latest δ) h, after)

    -- a start in a lane that is not silent
    pub event_clash : q.tick ≤ latest δ → play q.tick m t notes ≡ clash → read_track δ s ≡ refused 14
    unfolding after
    event_clash h c = one (event q m) f ∙ rw (le-leb q.tick (latest δ) h, after, c)

    -- the next event
    pub event_next : (u : Sounding) (out : List Note) → q.tick ≤ latest δ → play q.tick m t notes ≡ played u out → Left δ s q u out
    unfolding after
    event_next u out h c = record {
      inside = event_moves.in_track;
      early = h;
      same = one (event q m) f ∙ rw (le-leb q.tick (latest δ) h, after, c);
    }

-- What a message does, by its kind.
pub play_clash : (tick lane velocity : ℕ) (t : Sounding) (notes : List Note) → (lane_at t.velocity lane ≡ 0 → ⊥)
    → play tick (starts lane velocity) t notes ≡ clash
unfolding play
play_clash tick lane velocity t notes d = rw (ne_eqb (lane_at t.velocity lane) 0 d, play)

pub play-start : (tick lane velocity : ℕ) (t : Sounding) (notes : List Note) → lane_at t.velocity lane ≡ 0
    → play tick (starts lane velocity) t notes ≡ played (start_lane t lane tick velocity) notes
unfolding play
play-start tick lane velocity t notes z = rw (eq-eqb (lane_at t.velocity lane) 0 z, play)

pub play_end : (tick lane : ℕ) (t : Sounding) (notes : List Note)
    → play tick (ends lane) t notes ≡ played (stop_lane t lane) (notes ++ ended_lane t tick lane)
unfolding play
play_end tick lane t notes = refl

pub play-passed : (tick : ℕ) (t : Sounding) (notes : List Note) → play tick passed t notes ≡ played t notes
unfolding play
play-passed tick t notes = refl

-- ---- the chunks of a file

-- The first MTrk from a position on.
unfoldable pub track_after : List ℕ → ℕ → Chunk
unfolding track_from
track_after s at = track_from (suc (length s - at)) s at

-- No chunk stands at the end of a file.
none_there : (s : List ℕ) (at : ℕ) → length s < at + 8 → chunk_there s at ≡ false
unfolding chunk_there
none_there s at h = rw (lt-leb (at + 8) (length s) h)

chunk_fuel : (f g : ℕ) (s : List ℕ) (at : ℕ) → length s < at + f → length s < at + g → track_from f s at ≡ track_from g s at
unfolding track_from
chunk_fuel zero zero s at a b = refl
chunk_fuel zero (suc g) s at a b = rw (none_there s at (omega arith), track_from)
chunk_fuel (suc f) zero s at a b = rw (none_there s at (omega arith), track_from)
chunk_fuel (suc f) (suc g) s at a b =
    let ih = chunk_fuel f g s (at + 8 + word32 s (at + 4)) (omega arith) (omega arith) in
    same_test (chunk_there s at) (same_test (eqb (word32 s at) MTrk) refl ih) refl

-- One chunk, and what is left behind it.
pub chunk_step : (s : List ℕ) (at : ℕ) → at ≤ length s → track_after s at ≡ elim (chunk_there s at) [
  | false ↦ no_track
  | true ↦ elim (eqb (word32 s at) MTrk) [ true ↦ track (at + 8) (word32 s (at + 4)) | false ↦ track_after s (at + 8 + word32 s (at + 4)) ]
]
unfolding track_after
chunk_step s at h =
    let next = at + 8 + word32 s (at + 4) in
    same_test (chunk_there s at)
    (same_test (eqb (word32 s at) MTrk) refl (chunk_fuel (length s - at) (suc (length s - next)) s next (omega arith) (omega arith))) refl

-- The chunks of a file start behind its header.
pub chunks_start : (s : List ℕ) (at : ℕ) → 1 ≤ at → track_from (length s) s at ≡ track_after s at
unfolding track_after
chunks_start s at h = chunk_fuel (length s) (suc (length s - at)) s at (omega arith) (omega arith)

-- Events that are in each lane a start and its end by turns play as that lane's notes. Assumes nothing.
use mathlib.Core.Bool.{cond}
use mathlib.Core.List.{List, [], ◌∷◌, ◌++◌, append_assoc, append-nil}
use mathlib.Core.Path.{◌≡◌, refl, sym, ap, ◌∙◌}
use Prim.Native.Nat.{ℕ, ◌≤◌, ◌<◌}
use native.Mathlib.Decide.{ℕ_discrete}
use native.Mathlib.Omega.{arith}
use lib.Dec.{eqb}
use borrow.Author.Tests.{lt-ltb, eq-eqb, ne_eqb}
use Rattle.model.specs.Lists.{cons_if, keep, gather}
use Rattle.model.specs.declared.Note.{Note}
use Rattle.laws.specs.Lists.{keep_append}
use Rattle.laws.specs.Relations.{All}
use Rattle.midi.specs.Lanes.{lane_at, put_lane}
use Rattle.midi.specs.Events.{starts, ends}
use Rattle.midi.specs.Sounding.{Sounding, start_lane, stop_lane, ended, ended_lane, played}
use Rattle.midi.specs.Writing.{NoteEvent, note_event, start_of, end_of, events_of}
use Rattle.midi.proofs.Loops.{play-start, play_end}
use Rattle.midi.proofs.ReadBack.{message_of}
use Rattle.midi.proofs.Replay.{play_all}
use Rattle.midi.proofs.Tables.{Shaped, put_shaped, lane-put, lane_other}

abbrev pub note_at : ℕ → ℕ → ℕ → ℕ → Note
note_at l s e v = record { lane = l; start = s; end = e; velocity = v }

-- The notes of a lane, and the events.
abbrev pub lane_notes : ℕ → List Note → List Note
lane_notes l = keep (λ n. eqb n.lane l)

abbrev pub lane_events : ℕ → List NoteEvent → List NoteEvent
lane_events l = keep (λ e. eqb e.lane l)

-- A lane's state, the events to come in it, and the notes still to end: it is silent, or a note sounds that the next event ends.
pub data Ready (l start velocity : ℕ) (es : List NoteEvent) (todo : List Note) : Type 0 where
  rests : velocity ≡ 0 → es ≡ gather events_of todo → Ready l start velocity es todo
  sounds : (end : ℕ) (ns : List Note) → 1 ≤ velocity → start < end → es ≡ note_event end 0 l 64 ∷ gather events_of ns
      → todo ≡ note_at l start end velocity ∷ ns → Ready l start velocity es todo

-- A note of the lane, of some length and velocity.
pub record Good (l : ℕ) (n : Note) : Type 0 where
  pub own : n.lane ≡ l
  pub long : n.start < n.end
  pub loud : 1 ≤ n.velocity

-- The next event of the lane starts a note, or ends one.
data Next (l start velocity : ℕ) (e : NoteEvent) (es : List NoteEvent) (todo : List Note) : Type 0 where
  opens : (n : Note) (ns : List Note) → velocity ≡ 0 → todo ≡ n ∷ ns → e ≡ start_of n → es ≡ end_of n ∷ gather events_of ns → Good l n
      → Next l start velocity e es todo
  closes : (end : ℕ) (ns : List Note) → 1 ≤ velocity → start < end → e ≡ note_event end 0 l 64 → es ≡ gather events_of ns
      → todo ≡ note_at l start end velocity ∷ ns → Next l start velocity e es todo

next : (l start velocity : ℕ) (e : NoteEvent) (es : List NoteEvent) (todo : List Note) → All (Good l) todo
    → Ready l start velocity (e ∷ es) todo → Next l start velocity e es todo
next l start velocity e es [] g (rests z f) = let c : ◌≡◌ {A = ℕ} 0 1 = cc in absurd (omega arith)
next l start velocity e es (n ∷ ns) g (rests z f) = opens n ns z refl (cc) (cc) g.0
next l start velocity e es todo g (sounds end ns p q f h) = closes end ns p q (cc) (cc) h

-- What the events leave: every lane is silent, and has given its notes.
pub record Done (es : List NoteEvent) (t : Sounding) (out : List Note) (todo : ℕ → List Note) : Type 0 where
  pub table : Sounding
  pub notes : List Note
  pub runs : play_all es t out ≡ played table notes
  pub quiet : (l : ℕ) → l < 2048 → lane_at table.velocity l ≡ 0
  pub lane : (l : ℕ) → l < 2048 → lane_notes l notes ≡ lane_notes l out ++ todo l

-- What is known before the events.
pub record Before (es : List NoteEvent) (t : Sounding) (todo : ℕ → List Note) : Type 0 where
  pub starts : Shaped t.start
  pub velocities : Shaped t.velocity
  pub low : All (λ e. e.lane < 2048) es
  pub ready : (l : ℕ) → l < 2048 → Ready l (lane_at t.start l) (lane_at t.velocity l) (lane_events l es) (todo l)
  pub good : (l : ℕ) → l < 2048 → All (Good l) (todo l)

done_nil : (t : Sounding) (out : List Note) (todo : ℕ → List Note) → Before [] t todo → Done [] t out todo
unfolding play_all
done_nil t out todo s = record {
  table = t;
  notes = out;
  runs = refl;
  quiet = λ l h. quiet l (s.ready l h);
  lane = λ l h. lane l (todo l) refl (s.ready l h);
}
  where
    quiet : (l : ℕ) → Ready l (lane_at t.start l) (lane_at t.velocity l) [] (todo l) → lane_at t.velocity l ≡ 0
    quiet l (rests z e) = z
    quiet l (sounds end ns p q e f) = let c : ◌≡◌ {A = ℕ} 0 1 = cc in absurd (omega arith)

    lane : (l : ℕ) (ns : List Note) → todo l ≡ ns → Ready l (lane_at t.start l) (lane_at t.velocity l) [] (todo l)
        → lane_notes l out ≡ lane_notes l out ++ todo l
    lane l ns k (sounds end ns' p q e f) = let c : ◌≡◌ {A = ℕ} 0 1 = cc in absurd (omega arith)
    lane l [] k (rests z e) = rw (k, append-nil)
    lane l (n ∷ ns) k (rests z e) = let c : ◌≡◌ {A = ℕ} 0 1 = (let e' = rw k at e in cc) in absurd (omega arith)

-- The lane's own events.
own : (e : NoteEvent) (es : List NoteEvent) → lane_events e.lane (e ∷ es) ≡ e ∷ lane_events e.lane es
own e es = rw (eq-eqb e.lane e.lane refl)

module _ (m : NoteEvent) (ms : List NoteEvent) (t : Sounding) (out : List Note) (todo : ℕ → List Note) (s : Before (m ∷ ms) t todo) where
  -- the first event starts a note
  open_before : (n : Note) (ns : List Note) → lane_at t.velocity m.lane ≡ 0 → todo m.lane ≡ n ∷ ns → m ≡ start_of n
      → lane_events m.lane ms ≡ end_of n ∷ gather events_of ns → Good m.lane n → Before ms (start_lane t m.lane m.tick m.velocity) todo
  open_before n ns z e f g k = record {
    starts = put_shaped t.start s.starts m.lane m.tick s.low.0;
    velocities = put_shaped t.velocity s.velocities m.lane m.velocity s.low.0;
    low = s.low.1;
    ready = λ l h. go l h (ℕ_discrete l m.lane);
    good = s.good;
  }
    where
      same : n ≡ note_at m.lane m.tick n.end m.velocity
      same = λ i. note_at (k.own i) (sym (ap (λ (x : NoteEvent). x.tick) f) i) n.end (sym (ap (λ (x : NoteEvent). x.velocity) f) i)

      go : (l : ℕ) → l < 2048 → Dec (l ≡ m.lane)
          → Ready l (lane_at (put_lane t.start m.lane m.tick) l) (lane_at (put_lane t.velocity m.lane m.velocity) l) (lane_events l ms) (todo l)
      go l h (yes d) =
          rw (
            d,
            lane-put t.start s.starts m.lane m.tick s.low.0,
            lane-put t.velocity s.velocities m.lane m.velocity s.low.0,
          )
          (sounds n.end ns (omega (arith, ap (λ (x : NoteEvent). x.velocity) f, k.loud)) (omega (arith, ap (λ (x : NoteEvent). x.tick) f, k.long))
          (g ∙ ap (λ x. note_event n.end 0 x 64 ∷ gather events_of ns) k.own) (e ∙ ap (λ x. x ∷ ns) same))
      go l h (no d) =
          rw (
            lane_other t.start s.starts m.lane m.tick s.low.0 l d,
            lane_other t.velocity s.velocities m.lane m.velocity s.low.0 l d,
          )
          (rw (ne_eqb m.lane l (λ e. d (sym e))) at (s.ready l h))

  -- the first event ends one
  abbrev left : List Note → ℕ → List Note
  left ns l = cond (eqb l m.lane) ns (todo l)

  close_before : (ns : List Note) → lane_events m.lane ms ≡ gather events_of ns → All (Good m.lane) ns → Before ms (stop_lane t m.lane) (left ns)
  close_before ns e g = record {
    starts = s.starts;
    velocities = put_shaped t.velocity s.velocities m.lane 0 s.low.0;
    low = s.low.1;
    ready = λ l h. go l h (ℕ_discrete l m.lane);
    good = λ l h. fine l h (ℕ_discrete l m.lane);
  }
    where
      fine : (l : ℕ) → l < 2048 → Dec (l ≡ m.lane) → All (Good l) (left ns l)
      fine l h (yes d) = rw (d, eq-eqb m.lane m.lane refl) g
      fine l h (no d) = rw (ne_eqb l m.lane d) (s.good l h)

      go : (l : ℕ) → l < 2048 → Dec (l ≡ m.lane)
          → Ready l (lane_at t.start l) (lane_at (put_lane t.velocity m.lane 0) l) (lane_events l ms) (left ns l)
      go l h (yes d) = rw (d, lane-put t.velocity s.velocities m.lane 0 s.low.0, eq-eqb m.lane m.lane refl) (rests refl e)
      go l h (no d) =
          rw (lane_other t.velocity s.velocities m.lane 0 s.low.0 l d, ne_eqb l m.lane d)
          (rw (ne_eqb m.lane l (λ e. d (sym e))) at (s.ready l h))

  -- what the note that ends adds to a lane
  close_lane : (n : Note) (ns : List Note) → n.lane ≡ m.lane → todo m.lane ≡ n ∷ ns → (l : ℕ)
      → lane_notes l (out ++ n ∷ []) ++ left ns l ≡ lane_notes l out ++ todo l
  close_lane n ns e f l = rw (keep_append (λ x. eqb x.lane l) out (n ∷ [])) (go (ℕ_discrete l m.lane))
    where
      go : Dec (l ≡ m.lane) → (lane_notes l out ++ cons_if (eqb n.lane l) n []) ++ left ns l ≡ lane_notes l out ++ todo l
      go (yes d) = rw (d, eq-eqb n.lane m.lane e, eq-eqb m.lane m.lane refl, f, append_assoc)
      go (no d) = rw (ne_eqb n.lane l (λ k. d (sym k ∙ e)), ne_eqb l m.lane d, append-nil)

  open_done : (n : Note) → lane_at t.velocity m.lane ≡ 0 → m ≡ start_of n
      → Done ms (start_lane t m.lane m.tick m.velocity) out todo → Done (m ∷ ms) t out todo
  unfolding play_all message_of
  open_done n z f r = record {
    table = r.table;
    notes = r.notes;
    runs = rw (is_start, play-start m.tick m.lane m.velocity t out z) r.runs;
    quiet = r.quiet;
    lane = r.lane;
  }
    where
      is_start : message_of m ≡ starts m.lane m.velocity
      is_start = rw (ne_eqb m.kind 0 (λ c. let k : m.kind ≡ 1 = ap (λ (x : NoteEvent). x.kind) f in omega arith), message_of)

  close_done : (end : ℕ) (ns : List Note) → 1 ≤ lane_at t.velocity m.lane → lane_at t.start m.lane < end → m ≡ note_event end 0 m.lane 64
      → todo m.lane ≡ note_at m.lane (lane_at t.start m.lane) end (lane_at t.velocity m.lane) ∷ ns
      → Done ms (stop_lane t m.lane) (out ++ ended_lane t m.tick m.lane) (left ns) → Done (m ∷ ms) t out todo
  unfolding play_all message_of ended
  close_done end ns p q e f r = record {
    table = r.table;
    notes = r.notes;
    runs = rw (is_end, play_end m.tick m.lane t out) r.runs;
    quiet = r.quiet;
    lane = λ l h. r.lane l h ∙ rw gives (close_lane _ ns refl f l);
  }
    where
      is_end : message_of m ≡ ends m.lane
      is_end = rw (eq-eqb m.kind 0 (ap (λ (x : NoteEvent). x.kind) e), message_of)

      at : m.tick ≡ end
      at = ap (λ (x : NoteEvent). x.tick) e

      gives : ended_lane t m.tick m.lane ≡ note_at m.lane (lane_at t.start m.lane) end (lane_at t.velocity m.lane) ∷ []
      gives = rw (at, lt-ltb 0 (lane_at t.velocity m.lane) p, ended, lt-ltb (lane_at t.start m.lane) end q)

pub play-lanes : (ms : List NoteEvent) (t : Sounding) (out : List Note) (todo : ℕ → List Note) → Before ms t todo → Done ms t out todo
play-lanes [] t out todo s = done_nil t out todo s
play-lanes (m ∷ ms) t out todo s =
    let l = m.lane in
    let r = rw own at (s.ready l s.low.0) in
    go (next l (lane_at t.start l) (lane_at t.velocity l) m (lane_events l ms) (todo l) (s.good l s.low.0) r)
    (λ t out todo s. play-lanes ms t out todo s)
  where
    go : Next m.lane (lane_at t.start m.lane) (lane_at t.velocity m.lane) m (lane_events m.lane ms) (todo m.lane)
        → ((t : Sounding) (out : List Note) (todo : ℕ → List Note) → Before ms t todo → Done ms t out todo) → Done (m ∷ ms) t out todo
    go (opens n ns z e f g k) ih =
        open_done m ms t out todo s n z f (ih (start_lane t m.lane m.tick m.velocity) out todo (open_before m ms t out todo s n ns z e f g k))
    go (closes end ns p q e f g) ih =
        close_done m ms t out todo s end ns p q e g
        (ih (stop_lane t m.lane) (out ++ ended_lane t m.tick m.lane) (left m ms t out todo s ns)
        (close_before m ms t out todo s ns f (let a = rw g at (s.good m.lane s.low.0) in a.1)))

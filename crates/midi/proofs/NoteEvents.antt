-- The events of notes that pass the test of a note list: in range, in order of ticks, and in each lane a start and its end by turns.
-- Assumes nothing.
use mathlib.Core.Bool.{Bool, true, false}
use mathlib.Core.List.{List, [], ◌∷◌}
use mathlib.Core.Path.{◌≡◌, refl, ap, ◌∙◌}
use Prim.Native.Nat.{ℕ, ◌+◌, ◌*◌, ◌≤◌}
use native.Mathlib.Omega.{arith}
use lib.Dec.{eqb}
use borrow.Author.Tests.{eqb-true}
use Rattle.model.specs.Lists.{cons_if, keep, gather}
use Rattle.model.specs.declared.Note.{Note}
use Rattle.laws.specs.Notes.{Follow, above, later}
use Rattle.laws.specs.Relations.{All, Pairs, all_imp, all_keep, all-kept, pairs-keep}
use Rattle.midi.specs.Writing.{NoteEvent, start_of, end_of, events_of, order, in_order}
use Rattle.midi.proofs.Ranges.{Fits}
use Rattle.midi.proofs.ReadBack.{Writable}
use Rattle.midi.proofs.Replay.{Steps}
use Rattle.midi.proofs.Sorting.{Below, all-in_order, in_order_lem, in_order_same, keep-in_order}

-- ---- in range and in order of ticks

pub record Ranged (end : ℕ) (e : NoteEvent) : Type 0 where
  pub writable : Writable e
  pub within : e.tick ≤ end

pub events_ranged : (top : ℕ) (ns : List Note) → All (Fits top) ns → All (Ranged top) (gather events_of ns)
events_ranged top [] a = tt
events_ranged top (n ∷ ns) a =
    let f = a.0 in (
      record {
        writable = record { lane_low = f.low; kind_low = omega arith; loud = f.loud; soft = omega (arith, f.soft) };
        within = omega (arith, f.long, f.within);
      },
      (
        record { writable = record { lane_low = f.low; kind_low = omega arith; loud = omega arith; soft = omega arith }; within = f.within },
        events_ranged top ns a.1,
      ),
    )

order-tick : (e x : NoteEvent) → Writable e → Writable x → order e ≤ order x → e.tick ≤ x.tick
unfolding order
order-tick e x a b h = omega (arith, a.lane_low, a.kind_low, b.lane_low, b.kind_low)

ordered_steps : (end last : ℕ) (es : List NoteEvent) → Pairs Below es → All (Ranged end) es → All (λ e. last ≤ e.tick) es → last ≤ end
    → Steps end last es
ordered_steps end last [] s a b h = h
ordered_steps end last (e ∷ es) s a b h =
    (a.0.writable, b.0, a.0.within, ordered_steps end e.tick es s.1 a.1 (ticks es s.0 a.1) a.0.within)
  where
    ticks : (xs : List NoteEvent) → All (Below e) xs → All (Ranged end) xs → All (λ x. e.tick ≤ x.tick) xs
    ticks [] p q = tt
    ticks (x ∷ xs) p q = (order-tick e x a.0.writable q.0.writable p.0, ticks xs p.1 q.1)

pub steps : (top : ℕ) (ns : List Note) → All (Fits top) ns → Steps top 0 (in_order (gather events_of ns))
steps top ns a =
    let r = all-in_order (Ranged top) (gather events_of ns) (events_ranged top ns a) in
    let es = in_order (gather events_of ns) in
    ordered_steps top 0 es (in_order_lem (gather events_of ns)) r (all_imp (Ranged top) (λ e. 0 ≤ e.tick) es (λ e f. omega arith) r) (omega arith)

-- ---- one lane

pub lane_of-events : (l : ℕ) (ns : List Note) → keep (λ e. eqb e.lane l) (gather events_of ns) ≡ gather events_of (keep (λ n. eqb n.lane l) ns)
lane_of-events l [] = refl
lane_of-events l (n ∷ ns) = go (eqb n.lane l) (lane_of-events l ns)
  where
    go : (b : Bool) → keep (λ e. eqb e.lane l) (gather events_of ns) ≡ gather events_of (keep (λ n. eqb n.lane l) ns)
        → cons_if b (start_of n) (cons_if b (end_of n) (keep (λ e. eqb e.lane l) (gather events_of ns)))
        ≡ gather events_of (cons_if b n (keep (λ n. eqb n.lane l) ns))
    go true ih = rw ih
    go false ih = ih

module _ (l top : ℕ) where
  -- an event at or before an end at tick t is not behind the events of notes that start at t or later
  behind : (e : NoteEvent) (t : ℕ) → order e ≤ t * 4096 + l → (ns : List Note) → All (λ n. n.lane ≡ l) ns → All (Fits top) ns
      → All (λ n. t ≤ n.start) ns → All (Below e) (gather events_of ns)
  unfolding order
  behind e t h [] a b c = tt
  behind e t h (n ∷ ns) a b c =
      let f = b.0 in
      let i : n.lane ≡ l = a.0 in
      let g : t ≤ n.start = c.0 in
      (omega arith, (omega (arith, f.long), behind e t h ns a.1 b.1 c.1))

  pub starts_later : (m : Note) (ns : List Note) → m.lane ≡ l → All (λ n. n.lane ≡ l) ns → All (Follow m) ns → All (λ n. m.end ≤ n.start) ns
  starts_later m [] e a f = tt
  starts_later m (n ∷ ns) e a f = (go f.0, starts_later m ns e a.1 f.1)
    where
      go : Follow m n → m.end ≤ n.start
      go (above h) = let k : n.lane ≡ l = a.0 in absurd (omega arith)
      go (later h k) = k

  pub lane_ordered : (ns : List Note) → All (λ n. n.lane ≡ l) ns → All (Fits top) ns → Pairs Follow ns → Pairs Below (gather events_of ns)
  unfolding order
  lane_ordered [] a b s = tt
  lane_ordered (n ∷ ns) a b s =
      let f = b.0 in
      let e : n.lane ≡ l = a.0 in
      let st = starts_later n ns a.0 a.1 s.0 in (
        (omega (arith, f.long), behind (start_of n) n.end (omega (arith, f.long)) ns a.1 b.1 st),
        (behind (end_of n) n.end (omega arith) ns a.1 b.1 st, lane_ordered ns a.1 b.1 s.1),
      )

module _ (l top : ℕ) (ns : List Note) (a : All (Fits top) ns) (s : Pairs Follow ns) where
  -- The notes of a lane have their events in order already.
  pub own_ordered : Pairs Below (gather events_of (keep (λ n. eqb n.lane l) ns))
  own_ordered =
      let p : Note → Bool = λ n. eqb n.lane l in
      lane_ordered l top (keep p ns) (all_imp (λ n. p n ≡ true) (λ n. n.lane ≡ l) (keep p ns) (λ n e. eqb-true n.lane l e) (all-kept p ns))
      (all_keep (Fits top) p ns a) (pairs-keep Follow p ns s)

  pub lane-in_order : keep (λ e. eqb e.lane l) (in_order (gather events_of ns)) ≡ gather events_of (keep (λ n. eqb n.lane l) ns)
  lane-in_order =
      keep-in_order (λ e. eqb e.lane l) (gather events_of ns) ∙ ap in_order (lane_of-events l ns)
      ∙ in_order_same (gather events_of (keep (λ n. eqb n.lane l) ns)) own_ordered

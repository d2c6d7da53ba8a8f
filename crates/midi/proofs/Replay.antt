-- The run over a written track is the play of its events, one after the other. Assumes nothing.
use mathlib.Core.List.{List, [], ◌∷◌, ◌++◌}
use mathlib.Core.Path.{◌≡◌, refl, ap, ◌∙◌}
use Prim.Native.Nat.{ℕ, zero, suc, ◌+◌, ◌-◌, ◌≤◌, ◌<◌}
use native.Mathlib.Omega.{arith}
use lib.ListN.{length, drop}
use borrow.Author.Tests.{le-leb}
use Rattle.model.specs.declared.Note.{Note}
use Rattle.midi.specs.Numbers.{quantity_bytes}
use Rattle.midi.specs.Events.{Place, place, event, finished, event_at}
use Rattle.midi.specs.Sounding.{Sounding, Played, clash, played, play}
use Rattle.midi.specs.Reading.{FileAnswer, refused, read, recorded, latest, after, run}
use Rattle.midi.specs.Writing.{NoteEvent, message_bytes, event_bytes}
use Rattle.midi.proofs.ReadBack.{past, Writable, message_of, status_of, event_read, finish_read}

-- A step, and what comes behind it.
unfoldable pub play_then : Played → (Sounding → List Note → Played) → Played
play_then clash more = clash
play_then (played t notes) more = more t notes

-- What a list of events does to the table and the notes ended so far.
unfoldable pub play_all : List NoteEvent → Sounding → List Note → Played
unfolding play_then
play_all [] t notes = played t notes
play_all (e ∷ es) t notes = play_then (play e.tick (message_of e) t notes) (λ t notes. play_all es t notes)

-- What a track gives whose events are played so and whose end is at a tick.
unfoldable pub answer_at : ℕ → ℕ → Played → FileAnswer
unfolding recorded
answer_at δ end clash = refused 14
answer_at δ end (played t notes) = read (recorded δ end t notes)

-- Events in range and in order of ticks, from `last` to `end`.
abbrev pub Steps : ℕ → ℕ → List NoteEvent → Type 0
Steps end last [] = last ≤ end
Steps end last (e ∷ es) = Writable e × (last ≤ e.tick) × (e.tick ≤ end) × Steps end e.tick es

module _ (δ end : ℕ) (low : end ≤ latest δ) (small : end < 268435456) (s : List ℕ) where
  pub run-play : (es : List NoteEvent) (fuel : ℕ) (p : Place) (t : Sounding) (notes : List Note) → Steps end p.tick es → length es < fuel
      → drop p.at s ≡ event_bytes end p.tick es → run fuel δ s p t notes ≡ answer_at δ end (play_all es t notes)
  unfolding event_bytes run after answer_at play_all
  run-play [] zero p t notes h f e = absurd (omega arith)
  run-play [] (suc fuel) p t notes h f e =
      let r : event_at s p ≡ finished end = finish_read (end - p.tick) s p (omega arith) e ∙ ap finished (omega arith) in
      rw (r, run, le-leb end (latest δ) low, after)
  run-play (x ∷ es) zero p t notes h f e = absurd (omega arith)
  run-play (x ∷ es) (suc fuel) p t notes h f e =
      let d = x.tick - p.tick in
      let behind = event_bytes end x.tick es in
      let q = p.at + length (quantity_bytes d) + 3 in
      let g : p.tick + d ≡ x.tick = omega arith in
      let e1 = past s p.at (quantity_bytes d) (message_bytes x ++ behind) e in
      let e2 : drop q s ≡ behind = past s (p.at + length (quantity_bytes d)) (message_bytes x) behind e1 in
      let r : event_at s p ≡ event (place q x.tick (status_of x)) (message_of x) =
      event_read x d s p behind h.0 (omega arith) e ∙ ap (λ n. event (place q n (status_of x)) (message_of x)) g in
      go q r (play x.tick (message_of x) t notes) refl
      (λ t notes. run-play es fuel (place q x.tick (status_of x)) t notes h.3 (omega arith) e2)
    where
      go : (q : ℕ) → event_at s p ≡ event (place q x.tick (status_of x)) (message_of x) → (r : Played) → play x.tick (message_of x) t notes ≡ r
          → ((t : Sounding) (notes : List Note) → run fuel δ s (place q x.tick (status_of x)) t notes ≡ answer_at δ end (play_all es t notes))
          → run (suc fuel) δ s p t notes ≡ answer_at δ end (play_all (x ∷ es) t notes)
      go q r clash c ih = rw (r, run, le-leb x.tick (latest δ) (omega (arith, h.2)), after, c)
      go q r (played u out) c ih = rw (r, run, le-leb x.tick (latest δ) (omega (arith, h.2)), after, c) (ih u out)

-- What a written file takes: each event three bytes behind its time, and the file a sum of these with bounds by its notes and its ticks.
-- Assumes nothing.
use mathlib.Core.Bool.{true}
use mathlib.Core.List.{List, [], ◌∷◌, ◌++◌}
use mathlib.Core.Path.{◌≡◌, refl, ap, ◌∙◌}
use Prim.Native.Nat.{ℕ, suc, ◌+◌, ◌-◌, ◌*◌, ◌/◌, ◌≤◌}
use native.Mathlib.Omega.{arith}
use lib.Dec.{leb, ltb}
use lib.ListN.{length, length-append}
use borrow.Author.Tests.{ltb-false}
use Rattle.model.specs.Lists.{gather}
use Rattle.model.specs.Soundness.{notes_ok}
use Rattle.model.specs.declared.Note.{Note}
use Rattle.midi.specs.Numbers.{quantity_bytes}
use Rattle.midi.specs.Writing.{NoteEvent, order, insert, in_order, events_of, message_bytes, end_of_track, event_bytes, track_bytes, header_bytes, file_bytes}
use Rattle.midi.proofs.Branches.{by_test}
use Rattle.midi.proofs.Groups.{quantity_fewest}
use Rattle.midi.proofs.NoteEvents.{steps}
use Rattle.midi.proofs.Ranges.{ok_fits}
use Rattle.midi.proofs.Replay.{Steps}

-- ---- lengths

-- The bytes of the events to come: each has its time and three more; the end of track has its time and three.
unfoldable pub events_length : ℕ → ℕ → List NoteEvent → ℕ
events_length end last [] = length (quantity_bytes (end - last)) + 3
events_length end last (e ∷ es) = length (quantity_bytes (e.tick - last)) + 3 + events_length end e.tick es

pub message_length : (e : NoteEvent) → length (message_bytes e) ≡ 3
unfolding message_bytes
message_length e = refl

pub events_length_lem : (end last : ℕ) (es : List NoteEvent) → length (event_bytes end last es) ≡ events_length end last es
unfolding event_bytes events_length
events_length_lem end last [] = length-append (quantity_bytes (end - last)) end_of_track
events_length_lem end last (e ∷ es) = go (events_length_lem end e.tick es)
  where
    go : length (event_bytes end e.tick es) ≡ events_length end e.tick es
        → length (quantity_bytes (e.tick - last) ++ (message_bytes e ++ event_bytes end e.tick es))
        ≡ length (quantity_bytes (e.tick - last)) + 3 + events_length end e.tick es
    go ih =
        omega (
          arith,
          length-append (quantity_bytes (e.tick - last)) (message_bytes e ++ event_bytes end e.tick es),
          length-append (message_bytes e) (event_bytes end e.tick es),
          message_length e,
        )

pub track-length : (δ beats : ℕ) (notes : List Note)
    → length (track_bytes δ beats notes) ≡ events_length (beats * δ) 0 (in_order (gather events_of notes))
unfolding track_bytes
track-length δ beats notes = events_length_lem (beats * δ) 0 (in_order (gather events_of notes))

-- The file has 22 bytes in front of its events.
pub file-length : (δ beats : ℕ) (notes : List Note)
    → length (file_bytes δ beats notes) ≡ 22 + events_length (beats * δ) 0 (in_order (gather events_of notes))
unfolding file_bytes header_bytes
file-length δ beats notes = omega (arith, track-length δ beats notes)

-- ---- bounds

events_most : (end last : ℕ) (es : List NoteEvent) → events_length end last es ≤ 7 * length es + 7
unfolding events_length
events_most end last [] = omega (arith, (quantity_fewest (end - last)).four)
events_most end last (e ∷ es) = go (events_most end e.tick es)
  where
    go : events_length end e.tick es ≤ 7 * length es + 7
        → length (quantity_bytes (e.tick - last)) + 3 + events_length end e.tick es ≤ 7 * suc (length es) + 7
    go ih = omega (arith, (quantity_fewest (e.tick - last)).four)

-- A time takes a further group for 128 ticks at least.
pub groups_near : (n : ℕ) → length (quantity_bytes n) ≤ 1 + n / 128
unfolding quantity_bytes
groups_near n =
    by_test near (ltb n 128) (λ a. omega arith)
    (λ a. by_test near (ltb n 16384) (λ c. let d = ltb-false n 128 a in omega arith)
    (λ c. by_test near (ltb n 2097152) (λ e. let d = ltb-false n 16384 c in omega arith)
    (λ e. let d = ltb-false n 2097152 e in omega arith)))
  where
    near : List ℕ → Type 0
    near bs = length bs ≤ 1 + n / 128

events_near : (end last : ℕ) (es : List NoteEvent) → Steps end last es → events_length end last es ≤ 4 * length es + 4 + (end - last) / 128
unfolding events_length
events_near end last [] s = omega (arith, groups_near (end - last))
events_near end last (e ∷ es) s = go (events_near end e.tick es s.3)
  where
    go : events_length end e.tick es ≤ 4 * length es + 4 + (end - e.tick) / 128
        → length (quantity_bytes (e.tick - last)) + 3 + events_length end e.tick es ≤ 4 * suc (length es) + 4 + (end - last) / 128
    go ih = omega (arith, groups_near (e.tick - last), s.1, s.2)

insert-length : (e : NoteEvent) (xs : List NoteEvent) → length (insert e xs) ≡ suc (length xs)
unfolding insert
insert-length e [] = refl
insert-length e (x ∷ xs) =
    let ih = insert-length e xs in
    by_test (λ (l : List NoteEvent). length l ≡ suc (suc (length xs))) (leb (order e) (order x)) (λ h. refl) (λ h. ap suc ih)

in_order-length : (es : List NoteEvent) → length (in_order es) ≡ length es
unfolding in_order
in_order-length [] = refl
in_order-length (e ∷ es) = insert-length e (in_order es) ∙ ap suc (in_order-length es)

gathered_length : (ns : List Note) → length (gather events_of ns) ≡ 2 * length ns
gathered_length [] = refl
gathered_length (n ∷ ns) = omega (arith, gathered_length ns)

-- Two events for each note.
pub events-count : (ns : List Note) → length (in_order (gather events_of ns)) ≡ 2 * length ns
events-count ns = in_order-length (gather events_of ns) ∙ gathered_length ns

pub track_most_lem : (δ beats : ℕ) (notes : List Note) → length (track_bytes δ beats notes) ≤ 14 * length notes + 7
track_most_lem δ beats notes =
    let es = in_order (gather events_of notes) in
    omega (arith, track-length δ beats notes, events_most (beats * δ) 0 es, events-count notes)

-- Four bytes for each event and the end of track, and one more for each 128 ticks at most.
pub track_near : (δ beats : ℕ) (notes : List Note) → notes_ok δ beats notes ≡ true
    → length (track_bytes δ beats notes) ≤ 8 * length notes + 4 + beats * δ / 128
track_near δ beats notes ok =
    let es = in_order (gather events_of notes) in
    omega (arith, track-length δ beats notes, events_near (beats * δ) 0 es (steps (beats * δ) notes (ok_fits δ beats notes ok)), events-count notes)

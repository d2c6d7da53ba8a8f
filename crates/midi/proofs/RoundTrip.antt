-- A written file is read as the beats and notes that it was written from. Assumes nothing.
use mathlib.Core.Bool.{true}
use mathlib.Core.List.{List, [], ◌∷◌, ◌++◌, append-nil}
use mathlib.Core.Path.{◌≡◌, refl, ap, ap₂, ◌∙◌}
use Prim.Native.Nat.{ℕ, suc, ◌+◌, ◌-◌, ◌*◌, ◌/◌, ◌%◌, ◌≤◌, ◌<◌}
use native.Mathlib.Nat.{mul-le-mul_right, mul-add-div_right, div-eq_of_lt, add-zero}
use native.Mathlib.Omega.{arith}
use lib.Dec.{eqb}
use lib.ListN.{length, length-append}
use lib.Seq.{take-length}
use borrow.Author.Tests.{le-leb, eq-eqb, eqb-true}
use Rattle.model.specs.Lists.{gather}
use Rattle.model.specs.Soundness.{notes_ok}
use Rattle.model.specs.Takes.{by_lane}
use Rattle.model.specs.declared.Note.{Note}
use Rattle.laws.specs.Lists.{gather-count, gather_none}
use Rattle.laws.specs.Notes.{Follow, follow_lane, ok_pairs}
use Rattle.laws.specs.Relations.{All, Pairs, all_imp, all_keep, all-kept, buckets, pairs_imp}
use Rattle.midi.specs.Lanes.{lane_at}
use Rattle.midi.specs.Numbers.{word32, quantity_bytes}
use Rattle.midi.specs.Events.{place}
use Rattle.midi.specs.Sounding.{Sounding, silence, ended, ended_lane, ended_all}
use Rattle.midi.specs.Reading.{read, beats_of, recorded, latest, read_track, MTrk, chunk_there, track, header_there, header_fits, read_file}
use Rattle.midi.specs.Writing.{NoteEvent, events_of, in_order, message_bytes, event_bytes, track_bytes, header_bytes, file_bytes}
use Rattle.midi.proofs.Files.{track_read}
use Rattle.midi.proofs.Loops.{track_after, chunk_step}
use Rattle.midi.proofs.NoteEvents.{steps, lane-in_order}
use Rattle.midi.proofs.Playing.{lane_notes, rests, Good, Before, Done, play-lanes}
use Rattle.midi.proofs.Ranges.{Fits, ok_fits}
use Rattle.midi.proofs.Replay.{play_all, answer_at, Steps, run-play}
use Rattle.midi.proofs.Tables.{shaped_new, lane_new}

-- ---- the events of notes play as the notes

module _ (top : ℕ) (ns : List Note) (a : All (Fits top) ns) (s : Pairs Follow ns) where
  low : (es : List NoteEvent) (last : ℕ) → Steps top last es → All (λ e. e.lane < 2048) es
  low [] last h = tt
  low (e ∷ es) last h = (h.0.lane_low, low es e.tick h.3)

  good : (l : ℕ) → (xs : List Note) → All (λ n. eqb n.lane l ≡ true) xs → All (Fits top) xs → All (Good l) xs
  good l [] p q = tt
  good l (n ∷ xs) p q = (record { own = eqb-true n.lane l p.0; long = q.0.long; loud = q.0.loud }, good l xs p.1 q.1)

  begin : Before (in_order (gather events_of ns)) silence (λ l. lane_notes l ns)
  begin = record {
    starts = shaped_new 0;
    velocities = shaped_new 0;
    low = low (in_order (gather events_of ns)) 0 (steps top ns a);
    ready = λ l h. rests (lane_new l 0 h) (lane-in_order l top ns a s);
    good = λ l h. good l (lane_notes l ns) (all-kept (λ n. eqb n.lane l) ns) (all_keep (Fits top) (λ n. eqb n.lane l) ns a);
  }

  all_played : Done (in_order (gather events_of ns)) silence [] (λ l. lane_notes l ns)
  all_played = play-lanes (in_order (gather events_of ns)) silence [] (λ l. lane_notes l ns) begin

  -- Nothing sounds at the end.
  still : (t : Sounding) → ((l : ℕ) → l < 2048 → lane_at t.velocity l ≡ 0) → (tick : ℕ) → ended_all t tick ≡ []
  unfolding ended
  still t q tick =
      gather-count (ended_lane t tick) (λ l. []) 2048 0 (λ l p h. rw (q l h, ended)) ∙ gather_none (λ l. []) 2048 0 (λ l h. refl)

  -- The notes of all lanes.
  back : (out : List Note) → ((l : ℕ) → l < 2048 → lane_notes l out ≡ lane_notes l ns) → by_lane (λ n. n.lane) out ≡ ns
  unfolding by_lane
  back out h =
      gather-count (λ l. lane_notes l out) (λ l. lane_notes l ns) 2048 0 (λ l p q. h l q)
      ∙ buckets (λ n. n.lane) ns 2048 (pairs_imp Follow (λ m n. m.lane ≤ n.lane) ns follow_lane s)
      (all_imp (Fits top) (λ n. n.lane < 2048) ns (λ n f. f.low) a)

  notes-back : by_lane (λ n. n.lane) (all_played.notes ++ ended_all all_played.table top) ≡ ns
  notes-back = rw (still all_played.table all_played.quiet top, append-nil) (back all_played.notes all_played.lane)

-- ---- the track

-- Each event takes a byte or more.
events_length_lem : (end last : ℕ) (es : List NoteEvent) → length es ≤ length (event_bytes end last es)
unfolding event_bytes message_bytes
events_length_lem end last [] = omega arith
events_length_lem end last (e ∷ es) =
    rw (length-append (quantity_bytes (e.tick - last)), length-append (message_bytes e)) (omega (arith, events_length_lem end e.tick es))

module _ (δ beats : ℕ) (notes : List Note) (positive : 1 ≤ δ) (small : δ ≤ 32767) (short : beats ≤ 4096) (ok : notes_ok δ beats notes ≡ true) where
  beats_back : beats_of δ (beats * δ) ≡ beats
  beats_back = mul-add-div_right positive beats (δ - 1) ∙ rw (div-eq_of_lt {n = δ - 1} {m = δ} (omega arith), add-zero)

  answer_back : answer_at δ (beats * δ) (play_all (in_order (gather events_of notes)) silence []) ≡ read (record { beats = beats; notes = notes })
  unfolding answer_at recorded
  answer_back =
      let a = ok_fits δ beats notes ok in
      let s = ok_pairs δ beats notes ok in
      rw (all_played (beats * δ) notes a s).runs
      (ap₂ (λ b ns. read (record { beats = b; notes = ns })) beats_back (notes-back (beats * δ) notes a s))

  pub track-back : read_track δ (track_bytes δ beats notes) ≡ read (record { beats = beats; notes = notes })
  unfolding read_track track_bytes
  track-back =
      let a = ok_fits δ beats notes ok in
      let k : beats * δ ≤ latest δ = mul-le-mul_right δ short in
      let es = in_order (gather events_of notes) in
      let bytes = event_bytes (beats * δ) 0 es in
      run-play δ (beats * δ) k (omega arith) bytes es (suc (length bytes)) (place 0 0 0) silence [] (steps (beats * δ) notes a)
      (omega (arith, events_length_lem (beats * δ) 0 es)) refl
      ∙ answer_back

-- ---- the header and the chunk

track-here : (s : List ℕ) (at n : ℕ) → at + 8 + n ≤ length s → word32 s (at + 4) ≡ n → word32 s at ≡ MTrk → track_after s at ≡ track (at + 8) n
unfolding chunk_there
track-here s at n h e f = chunk_step s at (omega arith) ∙ rw (there, eq-eqb (word32 s at) MTrk f, e)
  where
    there : chunk_there s at ≡ true
    there = rw (le-leb (at + 8) (length s) (omega arith), chunk_there, e, le-leb (at + 8 + n) (length s) h)

module _ (δ : ℕ) (t : List ℕ) where
  abbrev file : List ℕ
  file = header_bytes δ (length t) ++ t

  there : header_there file ≡ true
  unfolding header_there header_bytes
  there = rw (le-leb 8 (length file) (omega arith), header_there, le-leb 14 (length file) (omega arith))

  fits : header_fits δ file ≡ true
  unfolding header_fits header_bytes
  fits = rw (eq-eqb (δ / 256 * 256 + δ % 256) δ (omega arith))

  at-track : track_after file 14 ≡ track 22 (length t)
  unfolding header_bytes
  at-track = track-here file 14 (length t) (omega arith) (omega arith) refl

  file-track : read_file δ file ≡ read_track δ t
  unfolding header_bytes
  file-track = track_read δ file there fits 22 (length t) at-track ∙ ap (read_track δ) (take-length t)

-- ---- the file

pub round_trip : (δ beats : ℕ) (notes : List Note) → 1 ≤ δ → δ ≤ 32767 → beats ≤ 4096 → notes_ok δ beats notes ≡ true
    → read_file δ (file_bytes δ beats notes) ≡ read (record { beats = beats; notes = notes })
unfolding file_bytes
round_trip δ beats notes positive small short ok = file-track δ (track_bytes δ beats notes) ∙ track-back δ beats notes positive small short ok

-- The round trip: a shelf's file, loaded into a shelf that can hold it, in a session of the same δ, gives the same beats and notes.
-- Assumes nothing.
use Rattle.std.specs.Prelude.{true, ◌≡◌, drop}
use mathlib.Core.List.{List, ◌++◌}
use Rattle.std.proofs.Common.{◌∙◌, sym, arith}
use Rattle.std.proofs.Math.Path.{ap}
use Prim.Native.Nat.{◌<◌, ◌-◌, ℕ}
use Rattle.std.proofs.Math.ListN.{length, take, replicate}
use borrow.Author.Tests.{lt-ltb}
use Rattle.words.specs.Parts.{part-splice-written}
use Rattle.words.specs.Splice.{splice}
use Rattle.model.specs.Histories.{Recording, recording_take}
use Rattle.model.specs.Questions.{header_ok, first_no, fits}
use Rattle.model.specs.Session.{header_of, put_shelf, shelf, shelf_at}
use Rattle.model.specs.Soundness.{notes_ok, sound_shelf}
use Rattle.model.specs.Takes.{cell_words, notes_in, shelf_words, word, words_of, words_used}
use Rattle.model.specs.Lists.{gather}
use Rattle.model.specs.Pieces.{cells_of_note}
use Rattle.model.specs.declared.Header.{Header}
use Rattle.model.proofs.Headers.{in_range}
use Rattle.laws.specs.Clauses.{sound-chain}
use Rattle.laws.specs.ChainSolid.{Parts, parts}
use Rattle.laws.specs.Healing.{laid_words, notes_again}
use Rattle.laws.specs.Reading.{read_notes_lem}
use Rattle.laws.specs.Sessions.{length_words}
use Rattle.midi.specs.Reading.{read, read_file}
use Rattle.midi.proofs.RoundTrip.{round_trip}
use Rattle.session.proofs.Sources.{shelf-inside}
use Rattle.file.specs.Calls.{shelf_file, file_questions, load_questions, load_number, loaded, load_after}

-- The beats and notes of a shelf's words as a recording.
abbrev pub recording_in : List ℕ → Recording
recording_in ws = record { beats = word ws 0; notes = notes_in ws }

-- s is the session that is written from, its shelf i; t the one that is loaded into, its shelf j.
module _ (s : List ℕ) (i : ℕ) (a : header_ok (header_of s) (length s) ≡ true) (sound : sound_shelf (header_of s) (shelf (header_of s) s i) ≡ true) where
  abbrev g : Header
  g = header_of s

  abbrev ws : List ℕ
  ws = shelf g s i

  given : Parts g ws
  given = parts g ws (sym (sound-chain g (in_range a).some-ticks ws) ∙ sound)

  -- Reading the written file gives the shelf's beats and notes.
  pub read_back : read_file g.delta (shelf_file s i) ≡ read (recording_in ws)
  unfolding shelf_file
  read_back = let r = in_range a in round_trip g.delta (word ws 0) (notes_in ws) r.some-ticks r.few_ticks given.beats_ok given.notes_ok_lem

  module _ (t : List ℕ) (j : ℕ) (b : header_ok (header_of t) (length t) ≡ true) (below : j < (header_of t).shelves) (same : (header_of t).delta ≡ g.delta)
      (fit : fits (header_of t) (recording_take (header_of t).delta (recording_in ws)) ≡ true) where
    abbrev h : Header
    h = header_of t

    read_there : read_file h.delta (shelf_file s i) ≡ read (recording_in ws)
    read_there = ap (λ (d : ℕ). read_file d (shelf_file s i)) same ∙ read_back

    -- Loading it returns 0.
    pub load_back : load_number t j (shelf_file s i) ≡ 0
    unfolding load_number load_questions first_no file_questions
    load_back = rw (b, lt-ltb j h.shelves below, read_there, fit)

    after_is : load_after t j (shelf_file s i) ≡ put_shelf h t j (words_of h (recording_take h.delta (recording_in ws)))
    unfolding load_after loaded
    after_is = rw (load_back, load_after, read_there, loaded)

    -- All words of the shelf are those of the recording laid.
    pub words_back : shelf h (load_after t j (shelf_file s i)) j ≡ words_of h (recording_take h.delta (recording_in ws))
    unfolding shelf put_shelf
    words_back =
        let w : List ℕ = words_of h (recording_take h.delta (recording_in ws)) in
        let l : length w ≡ h.words = length_words h (recording_take h.delta (recording_in ws)) fit in
        let r = shelf-inside h j (length t) (in_range b) below in
        ap (λ (u : List ℕ). shelf h u j) after_is
        ∙ ap (λ (n : ℕ). take n (drop (shelf_at h j) (splice t (shelf_at h j) w))) (sym l)
        ∙ part-splice-written t (shelf_at h j) w (omega (arith, r, l))

    ok_there : notes_ok h.delta (word ws 0) (notes_in ws) ≡ true
    ok_there = ap (λ (d : ℕ). notes_ok d (word ws 0) (notes_in ws)) same ∙ given.notes_ok_lem

    laid_back : shelf h (load_after t j (shelf_file s i)) j
        ≡ shelf_words h.words (word ws 0) (notes_in ws) (gather (cells_of_note h.delta) (notes_in ws))
    laid_back = words_back ∙ laid_words h (recording_in ws) (notes_again h (in_range b).some-ticks (recording_in ws) ok_there)

    -- The same beats, and the same notes.
    pub beats_back : word (shelf h (load_after t j (shelf_file s i)) j) 0 ≡ word ws 0
    unfolding shelf_words
    beats_back = ap (λ (u : List ℕ). word u 0) laid_back

    pub notes-back : notes_in (shelf h (load_after t j (shelf_file s i)) j) ≡ notes_in ws
    unfolding shelf_words
    notes-back = ap notes_in laid_back ∙ read_notes_lem (notes_in ws) (gather cell_words (gather (cells_of_note h.delta) (notes_in ws)) ++ replicate (h.words - words_used (length (notes_in ws)) (length (gather (cells_of_note h.delta) (notes_in ws)))) 0)

-- Making the cells of notes: of one beat, of one note, of all notes that stand in a shelf. Assumes nothing.
use mathlib.Core.Path.{◌≡◌, refl, sym, ap, ◌∙◌}
use mathlib.Core.Bool.{Bool, true, false, ◌&&◌, and-true, and-false}
use mathlib.Core.List.{List, [], ◌∷◌, ◌++◌, append_assoc, append-nil}
use Prim.Native.Nat.{ℕ, suc, ◌+◌, ◌*◌, ◌-◌, ◌/◌, ◌≤◌, ◌<◌}
use native.Mathlib.Nat.{mul-le-mul_right, le-div_iff_mul-le, div-lt_iff_lt-mul, suc-mul}
use native.Mathlib.Numerals.{add-one}
use native.Mathlib.Omega.{arith}
use borrow.Author.Tests.{le-leb, lt-leb}
use lib.Dec.{leb}
use lib.ListN.{length, drop, length-append}
use Rattle.words.specs.Apart.{Apart, Apart.ahead}
use Rattle.words.specs.Splice.{splice, length-splice, splice-append}
use Rattle.words.specs.Writes.{Writes, writes_start, writes-run, writes-done, writes_same}
use Rattle.model.specs.Lists.{cons_if, gather, count_from}
use Rattle.model.specs.Limits.{max_beats, max_delta}
use Rattle.model.specs.Pieces.{first_beat, last_beat, cell_at, cells_in_beat, cells_of_note}
use Rattle.model.specs.Takes.{cell_words, read_notes}
use Rattle.model.specs.Soundness.{note_ok, first_follows, notes_ok}
use Rattle.model.specs.declared.Note.{Note}
use Rattle.model.specs.declared.Cell.{Cell}
use Rattle.laws.specs.Lists.{gather_append}
use Rattle.laws.specs.Booleans.{and_left, and_right}
use Rattle.session.specs.Reading.{note_at}
use Rattle.session.proofs.Counts.{Beats, note_beats}
use Rattle.session.proofs.Readings.{notes_cons, note_same}
use Rattle.laws.specs.Notes.{fair}
use Rattle.laws.specs.Sessions.{length-cell_words}
use Rattle.session.proofs.Checks.{count_asks}
use Rattle.cuts.specs.Making.{Made, touched_cells, crossed_cells, cells_behind, LinesAsks, NoteAsks, CellsAsks, cells_at}

-- ---- the cell on a line

module _ (n : Note) (beat side line : ℕ) where
  untouched : (leb n.start line && leb line n.end) ≡ false → (s : List ℕ) (at : ℕ) → Made s at (touched_cells n beat side line) s at
  unfolding touched_cells splice
  untouched e s at = record { words = rw e; behind = rw e (omega arith) }

  pub made_early : line < n.start → (s : List ℕ) (at : ℕ) → Made s at (touched_cells n beat side line) s at
  made_early low = untouched (rw (lt-leb n.start line low))

  pub made_late : n.end < line → (s : List ℕ) (at : ℕ) → Made s at (touched_cells n beat side line) s at
  made_late high = untouched (rw (lt-leb line n.end high, and-false))

  pub touched : n.start ≤ line → line ≤ n.end → touched_cells n beat side line ≡ cell_at n beat side line ∷ []
  unfolding touched_cells
  touched low high = rw (le-leb _ _ low, le-leb _ _ high)

  pub made_touched : n.start ≤ line → line ≤ n.end → {s t : List ℕ} {at : ℕ} → t ≡ splice s at (cell_words (cell_at n beat side line))
      → Made s at (touched_cells n beat side line) t (at + 6)
  made_touched low high e = record { words = rw (touched low high) e; behind = rw (touched low high) (omega arith) }

pub crossed : (n : Note) (beat line : ℕ) (s : List ℕ) (at : ℕ) {s₁ s₂ : List ℕ} → s₁ ≡ splice s at (cell_words (cell_at n beat 1 line))
    → s₂ ≡ splice s₁ (at + 6) (cell_words (cell_at n (beat + 1) 0 line)) → s₂ ≡ splice s at (gather cell_words (crossed_cells n beat line))
unfolding crossed_cells
crossed n beat line s at e₁ e₂ =
    e₂ ∙ rw (e₁, add-one beat) (sym (splice-append s at (cell_words (cell_at n beat 1 line)) (cell_words (cell_at n (suc beat) 0 line))))

-- ---- a note's cells, from line to line

both_or_one : {A : Type 0} (t u : Bool) (x y : A) → cons_if t x (cons_if u y []) ≡ cons_if t x [] ++ cons_if u y []
both_or_one true u x y = refl
both_or_one false u x y = refl

module _ {δ : ℕ} {n : Note} (i : Beats δ n) where
  -- a beat's cells are those on its two lines
  beat_lines : (b : ℕ) → first_beat δ n ≤ b → b ≤ last_beat δ n
      → cells_in_beat δ n b ≡ touched_cells n b 0 (b * δ) ++ touched_cells n b 1 (suc b * δ)
  unfolding cells_in_beat touched_cells
  beat_lines b low high =
      let end : b * δ ≤ n.end = omega (arith, i.last_low, mul-le-mul_right δ high) in
      let start : n.start ≤ suc b * δ = omega (arith, i.high, suc-mul b δ, mul-le-mul_right δ low) in
      rw (le-leb _ _ end, le-leb _ _ start, and-true) (both_or_one (leb n.start (b * δ)) (leb (suc b * δ) n.end) (cell_at n b 0 (b * δ)) (cell_at n b 1 (suc b * δ)))

  -- the first line, and those behind it
  note-lines : cells_of_note δ n ≡ touched_cells n (first_beat δ n) 0 (first_beat δ n * δ) ++ cells_behind δ n (first_beat δ n)
  unfolding cells_of_note cells_behind
  note-lines =
      let f = first_beat δ n in
      let many : suc (last_beat δ n) - f ≡ suc (last_beat δ n - f) = omega (arith, i.order) in
      rw (many, beat_lines f (omega arith) i.order)
      (append_assoc (touched_cells n f 0 (f * δ)) (touched_cells n f 1 (suc f * δ)) (gather (cells_in_beat δ n) (count_from (last_beat δ n - f) (suc f))))

  module _ (b : ℕ) (low : first_beat δ n ≤ b) where
    -- a line that the note crosses
    next_line : b < last_beat δ n → cells_behind δ n b ≡ crossed_cells n b (suc b * δ) ++ cells_behind δ n (suc b)
    unfolding cells_behind crossed_cells
    next_line more =
        let many : last_beat δ n - b ≡ suc (last_beat δ n - suc b) = omega arith in
        let end : suc b * δ ≤ n.end = omega (arith, i.last_low, mul-le-mul_right δ more) in
        let start : n.start ≤ suc b * δ = omega (arith, i.high, suc-mul b δ, mul-le-mul_right δ low) in
        rw (touched n b 1 (suc b * δ) start end, many, beat_lines (suc b) (omega arith) more, touched n (suc b) 0 (suc b * δ) start end)

    -- the last line
    last_line : b ≡ last_beat δ n → cells_behind δ n b ≡ touched_cells n b 1 (suc b * δ)
    unfolding cells_behind
    last_line e =
        let none : last_beat δ n - b ≡ 0 = omega arith in
        rw none (append-nil (touched_cells n b 1 (suc b * δ)))

-- ---- the loop over the lines

-- the lines ahead of this one are done
pub record Lining (s₀ s : List ℕ) (at δ : ℕ) (n : Note) (first beat line to : ℕ) : Type 0 where
  pub closes : line ≡ suc beat * δ
  pub low : first_beat δ n ≤ beat
  pub high : beat ≤ last_beat δ n
  pub writes : Writes s₀ s at to (gather cell_words (cells_behind δ n first)) (gather cell_words (cells_behind δ n beat))

module _ {s₀ s : List ℕ} {at δ : ℕ} {n : Note} {first next beat line to : ℕ} (a : LinesAsks s₀ at δ n first next) (l : Lining s₀ s at δ n first beat line to) where
  i : Beats δ n
  i = note_beats δ n a.note

  -- as many words as are left to write
  room-left : to + 6 * length (cells_behind δ n beat) ≤ length s
  room-left =
      omega (arith, l.writes.place, l.writes.long, a.room, length-cell_words (cells_behind δ n first), length-cell_words (cells_behind δ n beat))

  start_low : n.start ≤ line
  start_low = omega (arith, i.high, l.closes, suc-mul beat δ, mul-le-mul_right δ l.low)

  module _ (more : line < n.end) where
    pub inner-line : beat < last_beat δ n
    inner-line =
        let below : suc beat * δ ≤ n.end - 1 = omega (arith, l.closes) in
        (le-div_iff_mul-le a.note.0).1 below

    splits : cells_behind δ n beat ≡ crossed_cells n beat line ++ cells_behind δ n (suc beat)
    splits = rw l.closes (next_line i beat l.low inner-line)

    pub line_asks : (to + 12 ≤ length s) × (n.start ≤ line) × (line ≤ n.end) × (beat < max_beats)
    unfolding crossed_cells
    line_asks = (
      omega (arith, room-left, ap length splits, length-append (crossed_cells n beat line) (cells_behind δ n (suc beat))),
      start_low,
      omega arith,
      omega (arith, inner-line, i.few),
    )

    pub lining_line : {t : List ℕ} → t ≡ splice s to (gather cell_words (crossed_cells n beat line)) → Lining s₀ t at δ n first (beat + 1) (line + δ) (to + 12)
    unfolding crossed_cells
    lining_line {t} e =
        let left = rw (splits, gather_append cell_words (crossed_cells n beat line) (cells_behind δ n (suc beat))) at l.writes in
        let done = writes-run (gather cell_words (crossed_cells n beat line)) 12 refl left in
        record {
          closes = omega (arith, l.closes, suc-mul (beat + 1) δ, suc-mul beat δ, ap (λ (x : ℕ). x * δ) (add-one beat));
          low = omega (arith, l.low);
          high = omega (arith, inner-line);
          writes = rw (add-one beat, e) done;
        }

  module _ (done : n.end ≤ line) where
    outer_line : beat ≡ last_beat δ n
    outer_line =
        let above : n.end - 1 < suc beat * δ = omega (arith, l.closes, a.note.2) in
        let past : last_beat δ n < suc beat = (div-lt_iff_lt-mul a.note.0).1 above in
        omega (arith, l.high)

    last_is : cells_behind δ n beat ≡ touched_cells n beat 1 line
    last_is = rw l.closes (last_line i beat l.low outer_line)

    pub last_asks : (to + 6 * length (touched_cells n beat 1 line) ≤ length s) × (n.start ≤ line)
    last_asks = (omega (arith, room-left, ap length last_is), start_low)

    pub lines-done : {t : List ℕ} {r : ℕ} → Made s to (touched_cells n beat 1 line) t r → Made s₀ at (cells_behind δ n first) t r
    lines-done {t} {r} m =
        let all : t ≡ splice s₀ at (gather cell_words (cells_behind δ n first)) = m.words ∙ ap (λ (cs : List Cell). splice s to (gather cell_words cs)) (sym last_is) ∙ l.writes.same in
        record {
          words = all;
          behind = omega (arith, m.behind, ap length last_is, l.writes.place, length-cell_words (cells_behind δ n first), length-cell_words (cells_behind δ n beat));
        }

-- ---- one note

module _ {s : List ℕ} {at δ : ℕ} {n : Note} (a : NoteAsks s at δ n) where
  j : Beats δ n
  j = note_beats δ n a.note

  abbrev f : ℕ
  f = first_beat δ n

  parts : 6 * length (cells_of_note δ n) ≡ 6 * length (touched_cells n f 0 (f * δ)) + 6 * length (cells_behind δ n f)
  parts = omega (arith, ap length (note-lines j), length-append (touched_cells n f 0 (f * δ)) (cells_behind δ n f))

  pub first_asks : (at + 6 * length (touched_cells n f 0 (f * δ)) ≤ length s) × (f * δ ≤ n.end)
  first_asks = (omega (arith, parts, a.room), omega (arith, j.low, a.note.2))

  module _ {s₁ : List ℕ} {to : ℕ} (m : Made s at (touched_cells n f 0 (f * δ)) s₁ to) where
    pub lines_asks : LinesAsks s₁ to δ n f (f * δ + δ)
    lines_asks =
        record {
          note = a.note;
          closes = sym (suc-mul f δ);
          low = omega arith;
          high = j.order;
          room = omega (arith, parts, a.room, m.behind, ap length m.words ∙ length-splice s at (gather cell_words (touched_cells n f 0 (f * δ))));
        }

    pub note_made : {t : List ℕ} {r : ℕ} → Made s₁ to (cells_behind δ n f) t r → Made s at (cells_of_note δ n) t r
    note_made {t} {r} k =
        let us = gather cell_words (touched_cells n f 0 (f * δ)) in
        let ws = gather cell_words (cells_behind δ n f) in
        let place : to ≡ at + length us = omega (arith, m.behind, length-cell_words (touched_cells n f 0 (f * δ))) in
        let all : gather cell_words (cells_of_note δ n) ≡ us ++ ws = ap (gather cell_words) (note-lines j) ∙ gather_append cell_words (touched_cells n f 0 (f * δ)) (cells_behind δ n f) in
        record {
          words = k.words ∙ rw (place, m.words, all) (sym (splice-append s at us ws));
          behind = omega (arith, k.behind, m.behind, parts);
        }

-- ---- all notes that stand in a shelf

-- the notes from a place on, up to the end
abbrev notes_from : List ℕ → ℕ → ℕ → List Note
notes_from s end from = read_notes ((end - from) / 4) (drop from s)

-- the notes ahead of this place have their cells
pub record Celling (s₀ s : List ℕ) (at count δ end from to : ℕ) : Type 0 where
  pub beats : ℕ
  pub range : (0 < δ) × (δ ≤ max_delta) × (beats ≤ max_beats)
  pub ends : end ≡ at + 4 * count
  pub whole : from + 4 * ((end - from) / 4) ≡ end
  pub low : at ≤ from
  pub ok : notes_ok δ beats (notes_from s₀ end from) ≡ true
  pub writes : Writes s₀ s end to (gather cell_words (cells_at δ s₀ at count)) (gather cell_words (gather (cells_of_note δ) (notes_from s₀ end from)))

pub celling_start : {s : List ℕ} {at count δ : ℕ} → CellsAsks s at count δ → Celling s s at count δ (at + 4 * count) (at + 4 * 0) (at + 4 * count)
unfolding cells_at
celling_start {s} {at} {count} {δ} a =
    let all : (at + 4 * count - at) / 4 ≡ count = omega arith in
    let first : at + 4 * 0 ≡ at = omega arith in
    rw first (record {
      beats = a.beats;
      range = a.range;
      ends = refl;
      whole = omega arith;
      low = omega arith;
      ok = rw all a.ok;
      writes = rw all (writes_start s (at + 4 * count) (gather cell_words (cells_at δ s at count)));
    })

module _ {s₀ s : List ℕ} {at count δ end from to : ℕ} (a : CellsAsks s₀ at count δ) (l : Celling s₀ s at count δ end from to) where
  inside : end ≤ length s
  inside = omega (arith, l.ends, a.room, l.writes.long)

  module _ (more : from < end) where
    module _ {n : Note} (is : n ≡ note_at s from) where
      -- the note is as it was when the call began
      was : n ≡ note_at s₀ from
      was =
          let apart : Apart at (4 * count) end (length (gather cell_words (cells_at δ s₀ at count))) = ahead (omega (arith, l.ends)) in
          is ∙ note_same (writes_same l.writes apart) from l.low (omega (arith, l.whole, l.ends))

      cons : notes_from s₀ end from ≡ n ∷ notes_from s₀ end (from + 4)
      cons =
          let e : (end - from) / 4 ≡ suc ((end - (from + 4)) / 4) = omega (arith, l.whole) in
          rw (e, notes_cons ((end - (from + 4)) / 4) s₀ from, was)

      tests : (note_ok δ l.beats n && first_follows n (notes_from s₀ end (from + 4)) && notes_ok δ l.beats (notes_from s₀ end (from + 4))) ≡ true
      unfolding notes_ok
      tests = rw cons at l.ok

      ahead_of : Writes s₀ s end to (gather cell_words (cells_at δ s₀ at count))
          (gather cell_words (cells_of_note δ n) ++ gather cell_words (gather (cells_of_note δ) (notes_from s₀ end (from + 4))))
      ahead_of = rw (cons, gather_append cell_words (cells_of_note δ n) (gather (cells_of_note δ) (notes_from s₀ end (from + 4)))) at l.writes

      pub note_asks : NoteAsks s to δ n
      note_asks =
          let first = and_left (note_ok δ l.beats n && first_follows n (notes_from s₀ end (from + 4))) (notes_ok δ l.beats (notes_from s₀ end (from + 4))) tests in
          let right = and_left (note_ok δ l.beats n) (first_follows n (notes_from s₀ end (from + 4))) first in
          record {
            note = count_asks δ l.beats n l.range (fair δ l.beats n right);
            room =
                omega (
                  arith,
                  ahead_of.place,
                  ahead_of.long,
                  l.ends,
                  a.room,
                  length-cell_words (cells_at δ s₀ at count),
                  length-cell_words (cells_of_note δ n),
                  length-append (gather cell_words (cells_of_note δ n)) (gather cell_words (gather (cells_of_note δ) (notes_from s₀ end (from + 4)))),
                );
          }

      pub celling_note : {t : List ℕ} {r next : ℕ} → Made s to (cells_of_note δ n) t r → next ≡ from + 4 → Celling s₀ t at count δ end next r
      celling_note m is =
          let written = writes-run (gather cell_words (cells_of_note δ n)) (6 * length (cells_of_note δ n)) (length-cell_words (cells_of_note δ n)) ahead_of in
          rw is (record {
            beats = l.beats;
            range = l.range;
            ends = l.ends;
            whole = omega (arith, l.whole);
            low = omega (arith, l.low);
            ok = and_right (note_ok δ l.beats n && first_follows n (notes_from s₀ end (from + 4))) (notes_ok δ l.beats (notes_from s₀ end (from + 4))) tests;
            writes = rw (← m.words, ← m.behind) at written;
          })

  pub celled : end ≤ from → Made s₀ (at + 4 * count) (cells_at δ s₀ at count) s to
  unfolding read_notes
  celled done =
      let none : (end - from) / 4 ≡ 0 = omega (arith, l.whole) in
      let all = rw (none, l.ends) at l.writes in
      record { words = writes-done all; behind = omega (arith, all.place, length-cell_words (cells_at δ s₀ at count)) }

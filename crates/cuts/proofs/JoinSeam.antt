-- The notes of a lane copied from a take, and what stands in front of a take's notes and cells. Assumes nothing.
use mathlib.Core.Path.{◌≡◌, refl, sym, ap, ◌∙◌}
use mathlib.Core.Bool.{Bool, true, false, cond, true≢false}
use mathlib.Core.List.{List, [], ◌∷◌, ◌++◌, map}
use Prim.Native.Nat.{ℕ, zero, suc, ◌+◌, ◌-◌, ◌*◌, ◌≤◌, ◌<◌, min}
use native.Mathlib.Omega.{arith}
use borrow.Author.Tests.{eq-eqb, eqb-true, ne_eqb, leb-true, leb-false}
use lib.Dec.{leb, eqb}
use lib.ListN.{length, length-append}
use Rattle.words.specs.Splice.{splice}
use Rattle.words.specs.Writes.{Writes, writes-run, writes-done, writes_same}
use Rattle.words.specs.Parts.{Same}
use Rattle.model.specs.Binding.{stands_alone}
use Rattle.model.specs.Lists.{gather}
use Rattle.model.specs.Takes.{note_words}
use Rattle.model.specs.declared.Header.{Header}
use Rattle.model.specs.declared.Note.{Note}
use Rattle.model.specs.declared.Cell.{Cell}
use Rattle.laws.specs.JoinWalk.{run_of, rest_of, least_lane, note_run, note_rest, cell_run}
use Rattle.laws.specs.Relations.{All}
use Rattle.laws.specs.Seam.{ending_at, starting_at0, up_to, from_on, join_over}
use Rattle.laws.specs.SeamWalk.{last_or, note_later}
use Rattle.laws.specs.Sessions.{length-note_words}
use Rattle.session.specs.Reading.{note_at, cell_at, last_notes, last_cells}
use Rattle.session.proofs.Lasts.{no_notes, last_notes_lem, last_cells_lem}
use Rattle.std.specs.Prelude.{Some}
use Rattle.cuts.specs.declared.halves.Contents.{Contents}
use Rattle.cuts.specs.declared.seam.Seam.{Seam}
use Rattle.cuts.specs.Lasts.{lane_of_last, note_lane, cell_lane}
use Rattle.cuts.specs.Seams.{Shiftable, later_run, NoteRunAsks, NoteRunPut, RunRead, OverAsks, lane_by, over_seam, lane_of}
use Rattle.cuts.proofs.Passes.{notes_agree}

-- ---- the lane in front

module _ {A : Type 0} (lane : A → ℕ) (l : ℕ) where
  pub run_none : run_of lane l [] ≡ []
  unfolding run_of
  run_none = refl

  pub rest-none : rest_of lane l [] ≡ []
  unfolding rest_of
  rest-none = refl

  module _ (x : A) (xs : List A) where
    module _ (e : lane x ≡ l) where
      pub run_go : run_of lane l (x ∷ xs) ≡ x ∷ run_of lane l xs
      unfolding run_of
      run_go = rw (eq-eqb (lane x) l e)

      pub rest_go : rest_of lane l (x ∷ xs) ≡ rest_of lane l xs
      unfolding rest_of
      rest_go = rw (eq-eqb (lane x) l e)

    module _ (d : lane x ≡ l → ⊥) where
      pub run_stop : run_of lane l (x ∷ xs) ≡ []
      unfolding run_of
      run_stop = rw (ne_eqb (lane x) l d)

      pub rest_stop : rest_of lane l (x ∷ xs) ≡ x ∷ xs
      unfolding rest_of
      rest_stop = rw (ne_eqb (lane x) l d)

-- ---- the last notes

pub all-last_notes : (P : Note → Type 0) (s : List ℕ) (end k j : ℕ) → j ≤ k → 4 * k ≤ end → All P (last_notes s end k) → All P (last_notes s end j)
all-last_notes P s end zero j h fits a = let z : j ≡ 0 = omega arith in rw z a
all-last_notes P s end (suc k) j h fits a = go (leb j k) refl (λ few. all-last_notes P s end k j few (omega arith) tail)
  where
    tail : All P (last_notes s end k)
    tail = let one : suc k - 1 ≡ k = omega arith in (rw (last_notes_lem s end (suc k) (omega arith) fits, one) at a).1

    go : (b : Bool) → leb j k ≡ b → (j ≤ k → All P (last_notes s end j)) → All P (last_notes s end j)
    go true e more = more (leb-true j k e)
    go false e more = let is : j ≡ suc k = omega (arith, leb-false j k e) in rw is a

-- the notes of a run are as they were
notes_were : {s s₀ : List ℕ} {end left : ℕ} → 4 * left ≤ end → Same s s₀ (end - 4 * left) (4 * left) → (k : ℕ) → k ≤ left
    → last_notes s end k ≡ last_notes s₀ end k
notes_were {s} {s₀} {end} {left} fits same k few =
    notes_agree s s₀ end end k (omega arith) (omega arith) (λ i pos upto. same.at (end - i) (omega arith) (omega arith))

-- ---- the notes of a lane

pub record Running (s₀ s : List ℕ) (to lane ticks end left₀ at left : ℕ) : Type 0 where
  pub few : left ≤ left₀
  pub place : at + 4 * left ≡ to + 4 * left₀
  pub writes : Writes s₀ s to at (gather note_words (later_run lane ticks s₀ end left₀)) (gather note_words (later_run lane ticks s₀ end left))
  pub rest : note_rest lane (last_notes s₀ end left) ≡ note_rest lane (last_notes s₀ end left₀)

module _ {s₀ : List ℕ} {to lane ticks end left₀ : ℕ} (fits : 4 * left₀ ≤ end) (a : NoteRunAsks s₀ to lane ticks end left₀) where
  module _ {s : List ℕ} {at left : ℕ} (l : Running s₀ s to lane ticks end left₀ at left) where
    sized : length (gather note_words (later_run lane ticks s₀ end left₀)) ≡ 4 * length (later_run lane ticks s₀ end left₀)
    sized = length-note_words (later_run lane ticks s₀ end left₀)

    were : (k : ℕ) → k ≤ left₀ → last_notes s end k ≡ last_notes s₀ end k
    were = notes_were fits (writes_same l.writes (rw sized a.apart))

    module _ (more : 0 < left) where
      pub run-place : 4 * left ≤ end
      run-place = omega (arith, fits, l.few)

      module _ {n : Note} (is : n ≡ note_at s (end - 4 * left)) where
        first : last_notes s₀ end left ≡ n ∷ last_notes s₀ end (left - 1)
        first = sym (were left l.few) ∙ last_notes_lem s end left more run-place ∙ rw (← is, were (left - 1) (omega (arith, l.few)))

        pub run_shiftable : Shiftable ticks n
        run_shiftable = (rw first at (all-last_notes (Shiftable ticks) s₀ end left₀ left l.few fits a.shiftable)).0

        -- a note of the lane
        module _ (same : n.lane ≡ lane) where
          later : later_run lane ticks s₀ end left ≡ note_later ticks n ∷ later_run lane ticks s₀ end (left - 1)
          later = ap (λ (ns : List Note). map (note_later ticks) (note_run lane ns)) first ∙ ap (map (note_later ticks)) (run_go (λ n. n.lane) lane n (last_notes s₀ end (left - 1)) same)

          run-ahead : Writes s₀ s to at (gather note_words (later_run lane ticks s₀ end left₀))
              (note_words (note_later ticks n) ++ gather note_words (later_run lane ticks s₀ end (left - 1)))
          run-ahead = rw later at l.writes

          pub run_room : at + 4 ≤ length s
          run_room =
              omega (
                arith,
                run-ahead.place,
                run-ahead.long,
                a.room,
                sized,
                length-append (note_words (note_later ticks n)) (gather note_words (later_run lane ticks s₀ end (left - 1))),
              )

          pub running_note : {t : List ℕ} → t ≡ splice s at (note_words (note_later ticks n)) → Running s₀ t to lane ticks end left₀ (at + 4) (left - 1)
          running_note e =
              record {
                few = omega (arith, l.few);
                place = omega (arith, l.place);
                writes = rw e (writes-run (note_words (note_later ticks n)) 4 refl run-ahead);
                rest = sym (rest_go (λ n. n.lane) lane n (last_notes s₀ end (left - 1)) same) ∙ ap (note_rest lane) (sym first) ∙ l.rest;
              }

        -- a note of another lane
        pub run_over : (n.lane ≡ lane → ⊥) → NoteRunPut s₀ to lane ticks end left₀ s left
        run_over d =
            let none : later_run lane ticks s₀ end left ≡ [] = ap (λ (ns : List Note). map (note_later ticks) (note_run lane ns)) first ∙ ap (map (note_later ticks)) (run_stop (λ n. n.lane) lane n (last_notes s₀ end (left - 1)) d) in
            let all : last_notes s₀ end left ≡ note_rest lane (last_notes s₀ end left) =
            first ∙ sym (rest_stop (λ n. n.lane) lane n (last_notes s₀ end (left - 1)) d) ∙ ap (note_rest lane) (sym first) in
            let w = rw none at l.writes in
            record { words = writes-done w; rest = all ∙ l.rest; count = omega (arith, w.place, sized, l.place) }

    pub run_end : {r : ℕ} → r ≡ 0 → left ≤ 0 → NoteRunPut s₀ to lane ticks end left₀ s r
    run_end {r} none_left over =
        let z : left ≡ 0 = omega arith in
        let is : r ≡ left = omega arith in
        let no : last_notes s₀ end left ≡ [] = ap (last_notes s₀ end) z ∙ no_notes s₀ end in
        let none : later_run lane ticks s₀ end left ≡ [] = ap (λ (ns : List Note). map (note_later ticks) (note_run lane ns)) no ∙ ap (map (note_later ticks)) (run_none (λ n. n.lane) lane) in
        let w = rw none at l.writes in
        rw is (record { words = writes-done w; rest = no ∙ sym (rest-none (λ n. n.lane) lane) ∙ ap (note_rest lane) (sym no) ∙ l.rest; count = omega (arith, w.place, sized, l.place) })

-- ---- the note that goes over the line

pub nothing : {A : Type 0} (xs : List A) → length xs ≡ 0 → xs ≡ []
nothing [] e = refl
nothing (x ∷ xs) e = absurd (omega arith)

either : {A : Type 0} (b : Bool) (x : A) → x ≡ cond b x x
either true x = refl
either false x = refl

-- last k are k elements, the first of which is at k
module _ {A : Type 0} (lane : A → ℕ) (l : ℕ) (last : ℕ → List A) (at : ℕ → A) (top : ℕ) (first : (k : ℕ) → 0 < k → k ≤ top → last k ≡ at k ∷ last (k - 1)) where
  -- the last of the lane in front stands before those that are left
  pub last_of_run : (d : A) (left r : ℕ) → left ≤ top → left ≡ r + length (run_of lane l (last left)) → r < left → last_or d (run_of lane l (last left)) ≡ at (r + 1)
  last_of_run d zero r fits count less = absurd (omega arith)
  last_of_run d (suc k) r fits count less = by (eqb (lane x) l) refl (λ e f. last_of_run x k r (omega arith) e f)
    where
      x : A
      x = at (suc k)

      xs : List A
      xs = last k

      begins : last (suc k) ≡ x ∷ xs
      begins = let one : suc k - 1 ≡ k = omega arith in first (suc k) (omega arith) fits ∙ rw one

      by : (b : Bool) → eqb (lane x) l ≡ b → (k ≡ r + length (run_of lane l xs) → r < k → last_or x (run_of lane l xs) ≡ at (r + 1))
          → last_or d (run_of lane l (last (suc k))) ≡ at (r + 1)
      by true e ih = rw run (here (leb (suc r) k) refl)
        where
          run : run_of lane l (last (suc k)) ≡ x ∷ run_of lane l xs
          run = ap (run_of lane l) begins ∙ run_go lane l x xs (eqb-true (lane x) l e)

          counted : k ≡ r + length (run_of lane l xs)
          counted = omega (arith, count, ap length run)

          here : (b : Bool) → leb (suc r) k ≡ b → last_or x (run_of lane l xs) ≡ at (r + 1)
          here true f = ih counted (leb-true (suc r) k f)
          here false f =
              let is : r + 1 ≡ suc k = omega (arith, leb-false (suc r) k f, less) in
              let none : run_of lane l xs ≡ [] = nothing (run_of lane l xs) (omega (arith, counted)) in
              ap (last_or x) none ∙ ap at (sym is)
      by false e ih =
          let run : run_of lane l (last (suc k)) ≡ [] = ap (run_of lane l) begins ∙ run_stop lane l x xs (λ f. true≢false (sym (eq-eqb (lane x) l f) ∙ e)) in
          absurd (omega (arith, count, ap length run, less))

last-note : (s : List ℕ) (lane end : ℕ) (d : Note) (left r : ℕ) → 4 * left ≤ end → left ≡ r + length (note_run lane (last_notes s end left)) → r < left
    → last_or d (note_run lane (last_notes s end left)) ≡ note_at s (end - 4 * (r + 1))
last-note s lane end d left r fits =
    last_of_run (λ n. n.lane) lane (last_notes s end) (λ k. note_at s (end - 4 * k)) left (λ k more few. last_notes_lem s end k more (omega arith)) d left r (omega arith)

pub last-cell : (s : List ℕ) (lane end : ℕ) (d : Cell) (left r : ℕ) → 6 * left ≤ end → left ≡ r + length (cell_run lane (last_cells s end left)) → r < left
    → last_or d (cell_run lane (last_cells s end left)) ≡ cell_at s (end - 6 * (r + 1))
last-cell s lane end d left r fits =
    last_of_run (λ c. c.lane) lane (last_cells s end) (λ k. cell_at s (end - 6 * k)) left (λ k more few. last_cells_lem s end k more (omega arith)) d left r (omega arith)

module _ {s : List ℕ} {end left r : ℕ} (h : Header) (line : ℕ) (c : Cell) (fits : 4 * left ≤ end) (a : RunRead s c.lane end left r) where
  module _ {b : Bool} (is : b ≡ stands_alone h c) where
    module _ (d : r ≡ left → ⊥) where
      pub up_last : b ≡ true → {n : Note} → n ≡ note_at s (end - 4 * (r + 1)) → n ≡ up_to h line c (note_run c.lane (last_notes s end left))
      up_last e f = rw (sym is ∙ e) (f ∙ sym (last-note s c.lane end (ending_at line c) left r fits a.count (omega (arith, a.count))))

module _ (s : List ℕ) (end left : ℕ) (h : Header) (d : Cell) where
  abbrev ahead : List Note
  ahead = note_run d.lane (last_notes s end left)

  none_on : ahead ≡ [] → starting_at0 d ≡ from_on h d ahead
  none_on e = rw e (either (stands_alone h d) (starting_at0 d))

  pub on_end : left ≡ 0 → starting_at0 d ≡ from_on h d ahead
  on_end z = none_on (ap (note_run d.lane) (ap (last_notes s end) z ∙ no_notes s end) ∙ run_none (λ n. n.lane) d.lane)

  module _ (some : left ≡ 0 → ⊥) (fits : 4 * left ≤ end) {n : Note} (is : n ≡ note_at s (end - 4 * left)) where
    on_first : last_notes s end left ≡ n ∷ last_notes s end (left - 1)
    on_first = last_notes_lem s end left (omega arith) fits ∙ rw (← is)

    pub on_other : (n.lane ≡ d.lane → ⊥) → starting_at0 d ≡ from_on h d ahead
    on_other o = none_on (ap (note_run d.lane) on_first ∙ run_stop (λ n. n.lane) d.lane n (last_notes s end (left - 1)) o)

    module _ {b : Bool} (alone : b ≡ stands_alone h d) where
      pub on_note : b ≡ true → n.lane ≡ d.lane → n ≡ from_on h d ahead
      on_note e o =
          let run : ahead ≡ n ∷ note_run d.lane (last_notes s end (left - 1)) = ap (note_run d.lane) on_first ∙ run_go (λ n. n.lane) d.lane n (last_notes s end (left - 1)) o in
          rw (sym alone ∙ e, run)

-- ---- the seam

module _ {s : List ℕ} {h : Header} {line : ℕ} {c d : Cell} {end left rest other count : ℕ} (a : OverAsks s h line c d end left rest other count) where
  abbrev ms : List Note
  ms = note_run c.lane (last_notes s end left)

  abbrev ns : List Note
  ns = note_run d.lane (last_notes s other count)

  pub over_is : {n m : Note} {b g : Bool} → n ≡ up_to h line c ms → m ≡ from_on h d ns → b ≡ stands_alone h c → g ≡ stands_alone h d
      → ◌≡◌ {A = Seam} (record { held = b; skipped = g; note = record { lane = n.lane; start = n.start; end = m.end + line; velocity = n.velocity } })
      (over_seam h line c d ms ns)
  over_is e f x y = rw (e, f, x, y)

-- the lane's notes where a note goes over the line
pub over_lane : (h : Header) (line : ℕ) (c d : Cell) (xs ys : List Note) → join_over h line c d xs ys ≡ lane_by (Some (over_seam h line c d xs ys)) line xs ys
unfolding join_over lane_by
over_lane h line c d xs ys = refl

-- ---- the lane that is next

pub lane_is : (s : List ℕ) (from : Contents) {a b r : ℕ} → a ≡ lane_of_last 4 s from.notes.end from.notes.left → b ≡ lane_of_last 6 s from.cells.end from.cells.left
    → r ≡ min a b → r ≡ lane_of s from
unfolding lane_of
lane_is s from e f g = g ∙ rw (e ∙ note_lane s from.notes.end from.notes.left, f ∙ cell_lane s from.cells.end from.cells.left)

pub least_is : (s : List ℕ) (first second : Contents) {a b r : ℕ} → a ≡ lane_of s first → b ≡ lane_of s second → r ≡ min a b
    → r ≡ least_lane (last_notes s first.notes.end first.notes.left) (last_cells s first.cells.end first.cells.left) (last_notes s second.notes.end second.notes.left) (last_cells s second.cells.end second.cells.left)
unfolding lane_of least_lane
least_is s first second e f g = g ∙ rw (e, f)

-- The seam of a lane: its decision, the note over the line in its place, and where the second take's notes begin. Assumes nothing.
use mathlib.Core.Path.{◌≡◌, refl, sym, ap, ◌∙◌}
use mathlib.Core.Bool.{Bool, true, false, cond, not}
use mathlib.Core.List.{List, [], ◌∷◌}
use Prim.Native.Nat.{ℕ, ◌+◌, ◌-◌, ◌*◌, ◌≤◌}
use native.Mathlib.Omega.{arith}
use borrow.Author.Tests.{not-true, not-false, eqb-true}
use lib.Dec.{eqb}
use lib.ListN.{length}
use Rattle.words.specs.Splice.{splice}
use Rattle.model.specs.Binding.{stands_alone}
use Rattle.model.specs.Takes.{note_words}
use Rattle.model.specs.declared.Header.{Header}
use Rattle.model.specs.declared.Note.{Note}
use Rattle.model.specs.declared.Cell.{Cell}
use Rattle.laws.specs.JoinWalk.{run_of, note_run, note_rest, cell_run}
use Rattle.laws.specs.Relations.{All}
use Rattle.laws.specs.Seam.{bound_at, but_first, first_or, starting_at0, join_apart, join_over, join_lane}
use Rattle.laws.specs.SeamWalk.{last-all, last_or}
use Rattle.session.specs.Reading.{note_at, cell_at, last_notes, last_cells}
use Rattle.session.proofs.Lasts.{no_notes, no_cells, last_notes_lem, last_cells_lem}
use Rattle.std.specs.Prelude.{Option, Some, None}
use Rattle.cuts.specs.declared.halves.Contents.{Contents}
use Rattle.cuts.specs.declared.seam.Seam.{Seam}
use Rattle.cuts.specs.Seams.{Shiftable, OverAsks, lane_notes, lane_by, over_seam}
use Rattle.cuts.specs.LaneNotes.{Reaching, cells_from, notes_from, lane_joined, SeamAsks, kept_by, seam_end, seam_words, SeamPut, back_by, BackFrom}
use Rattle.cuts.proofs.JoinSeam.{run_none, run_go, run_stop, rest_go, nothing, last-cell, over_lane}

cond_yes : {A : Type 0} {b : Bool} (x y : A) → b ≡ true → cond b x y ≡ x
cond_yes x y e = rw e

cond_no : {A : Type 0} {b : Bool} (x y : A) → b ≡ false → cond b x y ≡ y
cond_no x y e = rw e

-- ---- the notes that stay in front of the note over the line

module _ (r : Seam) (count : ℕ) where
  pub kept-all : r.held ≡ false → count ≡ kept_by r count
  unfolding kept_by
  kept-all e = sym (cond_no (count - 1) count e)

  pub kept_less : r.held ≡ true → count - 1 ≡ kept_by r count
  unfolding kept_by
  kept_less e = sym (cond_yes (count - 1) count e)

  pub kept_few : kept_by r count ≤ count
  unfolding kept_by
  kept_few = go r.held
    where
      go : (b : Bool) → cond b (count - 1) count ≤ count
      go true = omega arith
      go false = omega arith

module _ {seam : Option Seam} (count : ℕ) where
  pub put-apart : {s : List ℕ} {to : ℕ} → seam ≡ None → SeamPut s to count seam s (to + 4 * count)
  unfolding seam_end seam_words
  put-apart e = rw e (record { words = refl; behind = refl })

  module _ {r : Seam} (e : seam ≡ Some r) where
    end_over : seam_end seam count ≡ kept_by r count + 1
    unfolding seam_end
    end_over = rw e

    pub over_room : (to : ℕ) {k n : ℕ} → k ≡ kept_by r count → to + 4 * seam_end seam count ≤ n → to + 4 * k + 4 ≤ n
    over_room to f h = omega (arith, end_over)

    pub put_over : {s t : List ℕ} {to k : ℕ} → k ≡ kept_by r count → t ≡ splice s (to + 4 * k) (note_words r.note) → SeamPut s to count seam t (to + 4 * k + 4)
    unfolding seam_words
    put_over {s} {to = to} f g = record {
      words = g ∙ ap (λ (x : ℕ). splice s (to + 4 * x) (note_words r.note)) f ∙ rw e;
      behind = omega (arith, end_over);
    }

-- ---- where the second take's notes behind the seam begin

module _ (s : List ℕ) (lane end left : ℕ) where
  abbrev run : List Note
  run = note_run lane (last_notes s end left)

  module _ {seam : Option Seam} where
    whole : back_by seam run ≡ run → BackFrom s seam lane end left left
    whole e = record { run = sym e; rest = refl; few = omega arith }

    pub back-apart : seam ≡ None → BackFrom s seam lane end left left
    unfolding back_by
    back-apart e = whole (rw e)

    module _ {r : Seam} (e : seam ≡ Some r) where
      over : back_by seam run ≡ cond r.skipped (but_first run) run
      unfolding back_by
      over = rw e

      pub back_whole : not r.skipped ≡ true → BackFrom s seam lane end left left
      back_whole f = whole (over ∙ cond_no (but_first run) run (not-true r.skipped f))

      module _ (f : not r.skipped ≡ false) where
        skipped : back_by seam run ≡ but_first run
        skipped = over ∙ cond_yes (but_first run) run (not-false r.skipped f)

        no_run : run ≡ [] → BackFrom s seam lane end left left
        no_run e = whole (skipped ∙ ap but_first e ∙ sym e)

        pub back_none : left ≡ 0 → BackFrom s seam lane end left left
        back_none z = no_run (ap (note_run lane) (ap (last_notes s end) z ∙ no_notes s end) ∙ run_none (λ n. n.lane) lane)

        module _ (some : left ≡ 0 → ⊥) (fits : 4 * left ≤ end) {n : Note} (is : n ≡ note_at s (end - 4 * left)) where
          first : last_notes s end left ≡ n ∷ last_notes s end (left - 1)
          first = last_notes_lem s end left (omega arith) fits ∙ ap (λ (m : Note). m ∷ last_notes s end (left - 1)) (sym is)

          pub back_other : (n.lane ≡ lane → ⊥) → BackFrom s seam lane end left left
          back_other d = no_run (ap (note_run lane) first ∙ run_stop (λ n. n.lane) lane n (last_notes s end (left - 1)) d)

          pub back-first : n.lane ≡ lane → BackFrom s seam lane end left (left - 1)
          back-first o = record {
            run = sym (skipped ∙ ap but_first (ap (note_run lane) first ∙ run_go (λ n. n.lane) lane n (last_notes s end (left - 1)) o));
            rest = sym (ap (note_rest lane) first ∙ rest_go (λ n. n.lane) lane n (last_notes s end (left - 1)) o);
            few = omega arith;
          }

-- ---- the elements of a lane in front

module _ {A : Type 0} (lane : A → ℕ) (l : ℕ) where
  run_on : (xs : List A) → All (λ x. lane x ≡ l) (run_of lane l xs)
  unfolding run_of
  run_on [] = tt
  run_on (x ∷ xs) = go (eqb (lane x) l) refl (run_on xs)
    where
      go : (b : Bool) → eqb (lane x) l ≡ b → All (λ x. lane x ≡ l) (run_of lane l xs) → All (λ x. lane x ≡ l) (cond b (x ∷ run_of lane l xs) [])
      go true e ih = (eqb-true (lane x) l e, ih)
      go false e ih = tt

  run-all : (P : A → Type 0) (xs : List A) → All P xs → All P (run_of lane l xs)
  unfolding run_of
  run-all P [] a = tt
  run-all P (x ∷ xs) a = go (eqb (lane x) l) (run-all P xs a.1)
    where
      go : (b : Bool) → All P (run_of lane l xs) → All P (cond b (x ∷ run_of lane l xs) [])
      go true ih = (a.0, ih)
      go false ih = tt

-- ---- the decision

module _ (h : Header) (k : ℕ) (ms ns : List Note) where
  apart-first : (ds : List Cell) → join_lane h k ms [] ns ds ≡ join_apart (k * h.delta) ms ns
  unfolding join_lane
  apart-first ds = refl

  apart_second : (cs : List Cell) → join_lane h k ms cs ns [] ≡ join_apart (k * h.delta) ms ns
  unfolding join_lane
  apart_second [] = refl
  apart_second (c ∷ cs) = refl

  both_there : (c : Cell) (cs : List Cell) (d : Cell) (ds : List Cell) → join_lane h k ms (c ∷ cs) ns (d ∷ ds)
      ≡ cond (bound_at h k (last_or c cs) d) (join_over h (k * h.delta) (last_or c cs) d ms ns) (join_apart (k * h.delta) ms ns)
  unfolding join_lane
  both_there c cs d ds = refl

  apart-lane : {line : ℕ} → line ≡ k * h.delta → join_apart (k * h.delta) ms ns ≡ lane_by None line ms ns
  unfolding lane_by
  apart-lane e = ap (λ (x : ℕ). join_apart x ms ns) (sym e)

module _ {s : List ℕ} {h : Header} {beats line lane : ℕ} {first : Contents} {rest cells : ℕ} {second : Contents}
    (line_is : line ≡ beats * h.delta) (a : SeamAsks s h beats line lane first rest cells second) where
  abbrev ms : List Note
  ms = lane_notes lane s first

  abbrev ns : List Note
  ns = lane_notes lane s second

  abbrev cs : List Cell
  cs = cell_run lane (cells_from s first)

  abbrev ds : List Cell
  ds = cell_run lane (cells_from s second)

  apart_by : lane_joined h beats lane s first second ≡ join_apart (beats * h.delta) ms ns → lane_joined h beats lane s first second ≡ lane_by None line ms ns
  apart_by f = f ∙ apart-lane h beats ms ns line_is

  pub seam_no_first : cells ≡ first.cells.left → lane_joined h beats lane s first second ≡ lane_by None line ms ns
  unfolding lane_joined
  seam_no_first e =
      let none : cs ≡ [] = nothing cs (omega (arith, a.cells_count)) in
      apart_by (ap (λ (xs : List Cell). join_lane h beats ms xs ns ds) none ∙ apart-first h beats ms ns ds)

  no_second : ds ≡ [] → lane_joined h beats lane s first second ≡ lane_by None line ms ns
  unfolding lane_joined
  no_second none = apart_by (ap (λ (xs : List Cell). join_lane h beats ms cs ns xs) none ∙ apart_second h beats ms ns cs)

  pub seam_no_second : second.cells.left ≡ 0 → lane_joined h beats lane s first second ≡ lane_by None line ms ns
  seam_no_second z = no_second (ap (cell_run lane) (ap (last_cells s second.cells.end) z ∙ no_cells s second.cells.end) ∙ run_none (λ c. c.lane) lane)

  module _ (some : second.cells.left ≡ 0 → ⊥) {d : Cell} (d-is : d ≡ cell_at s (second.cells.end - 6 * second.cells.left)) where
    abbrev others : List Cell
    others = last_cells s second.cells.end (second.cells.left - 1)

    second_first : cells_from s second ≡ d ∷ others
    second_first = last_cells_lem s second.cells.end second.cells.left (omega arith) second.cells.fits ∙ ap (λ (x : Cell). x ∷ others) (sym d-is)

    pub seam_other : (d.lane ≡ lane → ⊥) → lane_joined h beats lane s first second ≡ lane_by None line ms ns
    seam_other o = no_second (ap (cell_run lane) second_first ∙ run_stop (λ c. c.lane) lane d others o)

    module _ (there : cells ≡ first.cells.left → ⊥) where
      module _ {c : Cell} (c-is : c ≡ cell_at s (first.cells.end - 6 * (cells + 1))) (on : d.lane ≡ lane) where
        last_is : (x : Cell) → last_or x cs ≡ c
        last_is x = last-cell s lane first.cells.end x first.cells.left cells first.cells.fits a.cells_count (omega (arith, a.cells_count)) ∙ sym c-is

        first_some : (xs : List Cell) → cs ≡ xs → lane_joined h beats lane s first second
            ≡ cond (bound_at h beats c d) (join_over h (beats * h.delta) c d ms ns) (join_apart (beats * h.delta) ms ns)
        unfolding lane_joined
        first_some [] e = absurd (there (omega (arith, a.cells_count, ap length e)))
        first_some (x ∷ xs) e =
            let d-there : ds ≡ d ∷ cell_run lane others = ap (cell_run lane) second_first ∙ run_go (λ c. c.lane) lane d others on in
            let last : last_or x xs ≡ c = sym (ap (last_or x) e) ∙ last_is x in
            (λ i. join_lane h beats ms (e i) ns (d-there i)) ∙ both_there h beats ms ns x xs d (cell_run lane others)
            ∙ ap (λ (y : Cell). cond (bound_at h beats y d) (join_over h (beats * h.delta) y d ms ns) (join_apart (beats * h.delta) ms ns)) last

        c_on : c.lane ≡ lane
        c_on = go cs refl (run_on (λ c. c.lane) lane (cells_from s first))
          where
            go : (xs : List Cell) → cs ≡ xs → All (λ c. c.lane ≡ lane) xs → c.lane ≡ lane
            go [] e o = absurd (there (omega (arith, a.cells_count, ap length e)))
            go (x ∷ xs) e o = let last : last_or x xs ≡ c = sym (ap (last_or x) e) ∙ last_is x in rw last at (last-all (λ c. c.lane ≡ lane) x xs o)

        module _ {b : Bool} (b-is : b ≡ bound_at h beats c d) where
          pub seam_unbound : not b ≡ true → lane_joined h beats lane s first second ≡ lane_by None line ms ns
          seam_unbound t =
              apart_by (first_some cs refl ∙ cond_no (join_over h (beats * h.delta) c d ms ns) (join_apart (beats * h.delta) ms ns) (sym b-is ∙ not-true b t))

          pub seam_bound : not b ≡ false → {r : Seam} → r ≡ over_seam h line c d (lane_notes c.lane s first) (lane_notes d.lane s second)
              → lane_joined h beats lane s first second ≡ lane_by (Some r) line ms ns
          seam_bound t {r} is =
              first_some cs refl
              ∙ cond_yes (join_over h (beats * h.delta) c d ms ns) (join_apart (beats * h.delta) ms ns) (sym b-is ∙ not-false b t)
              ∙ ap (λ (x : ℕ). join_over h x c d ms ns) (sym line_is)
              ∙ over_lane h line c d ms ns
              ∙ ap (λ (q : Seam). lane_by (Some q) line ms ns) (sym (is ∙ (λ i. over_seam h line c d (lane_notes (c_on i) s first) (lane_notes (on i) s second))))

        reach : Reaching line d
        reach = (rw second_first at a.second_reaching).0

        from-word : (ns : List Note) → All (Shiftable line) ns → (b : Bool) → (cond b (first_or (starting_at0 d) ns) (starting_at0 d)).end + line ≤ 4294967295
        from-word ns f false = reach.after-word
        from-word [] f true = reach.after-word
        from-word (n ∷ ns) f true = f.0.end_word

        pub over_asks : OverAsks s h line c d first.notes.end first.notes.left rest second.notes.end second.notes.left
        over_asks =
            record {
              first_read = record {
                inside = a.notes_read.inside;
                count = a.notes_read.count ∙ ap (λ (l : ℕ). rest + length (note_run l (notes_from s first))) (sym c_on);
              };
              second_inside = a.second_in.notes-inside;
              end_word = from-word (lane_notes d.lane s second) (run-all (λ n. n.lane) d.lane (Shiftable line) (notes_from s second) a.second_shiftable) (stands_alone h d);
            }

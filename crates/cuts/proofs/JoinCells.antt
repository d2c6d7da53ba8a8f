-- The joined cells of two takes, written by one walk over both. Assumes nothing.
use mathlib.Core.Path.{◌≡◌, refl, sym, ap, subst, ◌∙◌}
use mathlib.Core.Bool.{Bool, true, false}
use mathlib.Core.List.{List, [], ◌∷◌, ◌++◌, map, append_assoc}
use Prim.Native.Nat.{ℕ, zero, suc, ◌+◌, ◌-◌, ◌*◌, ◌≤◌, ◌<◌}
use native.Mathlib.Omega.{arith}
use borrow.Author.Tests.{le-leb, lt-leb, leb-true, leb-false}
use lib.Dec.{leb}
use lib.ListN.{length, length-append}
use Rattle.words.specs.Apart.{Apart, apart-within, apart_swap}
use Rattle.words.specs.Parts.{Same}
use Rattle.words.specs.Splice.{splice, length-splice, splice-append}
use Rattle.words.specs.Writes.{Writes, writes-run, writes-done, writes_same}
use Rattle.model.specs.Lists.{gather}
use Rattle.model.specs.Takes.{cell_words}
use Rattle.model.specs.declared.Cell.{Cell}
use Rattle.laws.specs.Lists.{gather_append}
use Rattle.laws.specs.Lanes.{insert_lane, merge_lane}
use Rattle.laws.specs.Relations.{All}
use Rattle.laws.specs.SeamWalk.{cell_later}
use Rattle.laws.specs.Sessions.{length-cell_words}
use Rattle.session.specs.Reading.{cell_at, last_cells}
use Rattle.session.proofs.Lasts.{no_cells, last_cells_lem}
use Rattle.cuts.specs.declared.lasts.Last.{Last}
use Rattle.cuts.specs.Making.{Made}
use Rattle.cuts.specs.Joined.{lower_cells, upper_cells, later_cells, Movable, RunAsks, LowerAsks, Lowered, before, BeforeAsks, PutBefore, cells_joined, JoinedAsks}
use Rattle.cuts.proofs.Passes.{cells_agree}

-- ---- lower and upper lanes

module _ (l : ℕ) (c : Cell) (cs : List Cell) where
  module _ (h : l ≤ c.lane) where
    pub lower_stop : lower_cells l (c ∷ cs) ≡ []
    unfolding lower_cells
    lower_stop = rw (le-leb l c.lane h)

    pub upper_stop : upper_cells l (c ∷ cs) ≡ c ∷ cs
    unfolding upper_cells
    upper_stop = rw (le-leb l c.lane h)

  module _ (h : c.lane < l) where
    pub lower_go : lower_cells l (c ∷ cs) ≡ c ∷ lower_cells l cs
    unfolding lower_cells
    lower_go = rw (lt-leb l c.lane h)

    pub upper_go : upper_cells l (c ∷ cs) ≡ upper_cells l cs
    unfolding upper_cells
    upper_go = rw (lt-leb l c.lane h)

lower-none : (l : ℕ) → lower_cells l [] ≡ []
unfolding lower_cells
lower-none l = refl

upper_none : (l : ℕ) → upper_cells l [] ≡ []
unfolding upper_cells
upper_none l = refl

-- a walk over both: the second's of lower lanes, the first's first cell, and the walk over what is left
merge_step : (c : Cell) (cs ds : List Cell)
    → merge_lane (λ c. c.lane) (c ∷ cs) ds ≡ lower_cells c.lane ds ++ c ∷ merge_lane (λ c. c.lane) cs (upper_cells c.lane ds)
unfolding merge_lane insert_lane lower_cells upper_cells
merge_step c cs ds = go ds
  where
    go : (ds : List Cell) → insert_lane (λ c. c.lane) c (λ es. merge_lane (λ c. c.lane) cs es) ds
        ≡ lower_cells c.lane ds ++ c ∷ merge_lane (λ c. c.lane) cs (upper_cells c.lane ds)
    go [] = refl
    go (d ∷ ds) = by (leb c.lane d.lane) refl (go ds)
      where
        by : (b : Bool) → leb c.lane d.lane ≡ b
            → insert_lane (λ c. c.lane) c (λ es. merge_lane (λ c. c.lane) cs es) ds ≡ lower_cells c.lane ds ++ c ∷ merge_lane (λ c. c.lane) cs (upper_cells c.lane ds)
            → insert_lane (λ c. c.lane) c (λ es. merge_lane (λ c. c.lane) cs es) (d ∷ ds)
            ≡ lower_cells c.lane (d ∷ ds) ++ c ∷ merge_lane (λ c. c.lane) cs (upper_cells c.lane (d ∷ ds))
        by true e ih = rw (e, insert_lane)
        by false e ih = rw (e, insert_lane) (ap (◌∷◌ d) ih)

-- ---- the last cells

pub all-last : (P : Cell → Type 0) (s : List ℕ) (end k j : ℕ) → j ≤ k → 6 * k ≤ end → All P (last_cells s end k) → All P (last_cells s end j)
all-last P s end zero j h fits a = let z : j ≡ 0 = omega arith in rw z a
all-last P s end (suc k) j h fits a = go (leb j k) refl (λ few. all-last P s end k j few (omega arith) tail)
  where
    tail : All P (last_cells s end k)
    tail = let one : suc k - 1 ≡ k = omega arith in (rw (last_cells_lem s end (suc k) (omega arith) fits, one) at a).1

    go : (b : Bool) → leb j k ≡ b → (j ≤ k → All P (last_cells s end j)) → All P (last_cells s end j)
    go true e more = more (leb-true j k e)
    go false e more = let is : j ≡ suc k = omega (arith, leb-false j k e) in rw is a

-- the cells of a run are as they were
run_were : {s s₀ : List ℕ} {end left : ℕ} → 6 * left ≤ end → Same s s₀ (end - 6 * left) (6 * left) → (k : ℕ) → k ≤ left
    → last_cells s end k ≡ last_cells s₀ end k
run_were {s} {s₀} {end} {left} fits same k few =
    cells_agree s s₀ end end k (omega arith) (omega arith) (λ i pos upto. same.at (end - i) (omega arith) (omega arith))

-- ---- the second's cells of lower lanes

pub record Lowering (s₀ s : List ℕ) (to lane beats end left₀ at left : ℕ) : Type 0 where
  pub few : left ≤ left₀
  pub place : at + 6 * left ≡ to + 6 * left₀
  pub writes : Writes s₀ s to at (gather cell_words (lower_cells lane (later_cells beats s₀ end left₀))) (gather cell_words (lower_cells lane (later_cells beats s₀ end left)))
  pub rest : upper_cells lane (later_cells beats s₀ end left) ≡ upper_cells lane (later_cells beats s₀ end left₀)

module _ {s₀ : List ℕ} {to lane beats end left₀ : ℕ} (fits : 6 * left₀ ≤ end) (a : LowerAsks s₀ to lane beats end left₀) where
  module _ {s : List ℕ} {at left : ℕ} (l : Lowering s₀ s to lane beats end left₀ at left) where
    sized : length (gather cell_words (lower_cells lane (later_cells beats s₀ end left₀))) ≡ 6 * length (lower_cells lane (later_cells beats s₀ end left₀))
    sized = length-cell_words (lower_cells lane (later_cells beats s₀ end left₀))

    were : (k : ℕ) → k ≤ left₀ → last_cells s end k ≡ last_cells s₀ end k
    were = run_were fits (writes_same l.writes (rw sized a.run.apart))

    module _ (more : 0 < left) where
      pub lower-place : 6 * left ≤ end
      lower-place = omega (arith, fits, l.few)

      module _ {c : Cell} (is : c ≡ cell_at s (end - 6 * left)) where
        first : last_cells s₀ end left ≡ c ∷ last_cells s₀ end (left - 1)
        first = sym (were left l.few) ∙ last_cells_lem s end left more lower-place ∙ rw (← is, were (left - 1) (omega (arith, l.few)))

        later : later_cells beats s₀ end left ≡ cell_later beats c ∷ later_cells beats s₀ end (left - 1)
        unfolding later_cells
        later = rw first

        pub lower_movable : Movable beats c
        lower_movable = (rw first at (all-last (Movable beats) s₀ end left₀ left l.few fits a.run.movable)).0

        -- a cell of a lower lane
        module _ (less : c.lane < lane) where
          lower-ahead : Writes s₀ s to at (gather cell_words (lower_cells lane (later_cells beats s₀ end left₀)))
              (cell_words (cell_later beats c) ++ gather cell_words (lower_cells lane (later_cells beats s₀ end (left - 1))))
          lower-ahead = rw (later, lower_go lane (cell_later beats c) (later_cells beats s₀ end (left - 1)) less) at l.writes

          pub lower-room : at + 6 ≤ length s
          lower-room =
              omega (
                arith,
                lower-ahead.place,
                lower-ahead.long,
                a.run.room,
                sized,
                length-append (cell_words (cell_later beats c)) (gather cell_words (lower_cells lane (later_cells beats s₀ end (left - 1)))),
              )

          pub lowering_cell : {t : List ℕ} → t ≡ splice s at (cell_words (cell_later beats c)) → Lowering s₀ t to lane beats end left₀ (at + 6) (left - 1)
          lowering_cell e =
              record {
                few = omega (arith, l.few);
                place = omega (arith, l.place);
                writes = rw e (writes-run (cell_words (cell_later beats c)) 6 refl lower-ahead);
                rest = sym (upper_go lane (cell_later beats c) (later_cells beats s₀ end (left - 1)) less) ∙ ap (upper_cells lane) (sym later) ∙ l.rest;
              }

        -- a cell of another lane
        pub lowered_stop : lane ≤ c.lane → Lowered s₀ to lane beats end left₀ s left
        lowered_stop h =
            let none : lower_cells lane (later_cells beats s₀ end left) ≡ [] = rw later (lower_stop lane (cell_later beats c) (later_cells beats s₀ end (left - 1)) h) in
            let all : later_cells beats s₀ end left ≡ upper_cells lane (later_cells beats s₀ end left) = rw later (sym (upper_stop lane (cell_later beats c) (later_cells beats s₀ end (left - 1)) h)) in
            let w = rw none at l.writes in
            record { words = writes-done w; rest = all ∙ l.rest; count = omega (arith, w.place, sized, l.place) }

    pub lowered_end : {r : ℕ} → r ≡ 0 → left ≤ 0 → Lowered s₀ to lane beats end left₀ s r
    unfolding later_cells
    lowered_end {r} none_left over =
        let z : left ≡ 0 = omega arith in
        let is : r ≡ left = omega arith in
        let no : later_cells beats s₀ end left ≡ [] = rw (z, no_cells s₀ end) in
        let none : lower_cells lane (later_cells beats s₀ end left) ≡ [] = rw no (lower-none lane) in
        let w = rw none at l.writes in
        rw is (record { words = writes-done w; rest = no ∙ sym (upper_none lane) ∙ ap (upper_cells lane) (sym no) ∙ l.rest; count = omega (arith, w.place, sized, l.place) })

-- ---- and a cell of the first behind them

module _ {s : List ℕ} {to : ℕ} {c : Cell} {beats end left : ℕ} (a : BeforeAsks s to c beats end left) where
  abbrev lower : List Cell
  lower = lower_cells c.lane (later_cells beats s end left)

  one_more : length (before beats s c end left) ≡ length lower + 1
  unfolding before
  one_more = length-append lower (c ∷ [])

  pub lower_asks : LowerAsks s to c.lane beats end left
  lower_asks =
      record {
        run =
            record {
              inside = a.run.inside;
              movable = a.run.movable;
              apart = apart-within to (6 * length lower) a.run.apart (omega arith) (omega (arith, one_more));
              room = omega (arith, a.run.room, one_more);
            };
      }

  module _ {t : List ℕ} {r : ℕ} (l : Lowered s to c.lane beats end left t r) where
    pub fewer : r ≤ left
    fewer = omega (arith, l.count)

    pub behind-lower : to + 6 * (left - r) + 6 ≤ length t
    behind-lower = omega (arith, l.count, a.run.room, one_more, ap length l.words, length-splice s to (gather cell_words lower))

    pub before-put : {u : List ℕ} → u ≡ splice t (to + 6 * (left - r)) (cell_words c) → PutBefore s to c beats end left u r
    unfolding before
    before-put e =
        let place : to + 6 * (left - r) ≡ to + length (gather cell_words lower) = omega (arith, l.count, length-cell_words lower) in
        record {
          words = e ∙ rw (l.words, place) (sym (splice-append s to (gather cell_words lower) (cell_words c))) ∙ ap (splice s to) (sym (gather_append cell_words lower (c ∷ [])));
          rest = l.rest;
          count = omega (arith, l.count, one_more);
        }

-- ---- the walk over both

pub record Joining (s₀ s : List ℕ) (to beats : ℕ) (first second : Last 6) (at left : ℕ) (rest : Last 6) : Type 0 where
  pub few : left ≤ first.left
  pub rest_end : rest.end ≡ second.end
  pub rest_few : rest.left ≤ second.left
  pub writes : Writes s₀ s to at (gather cell_words (cells_joined beats s₀ first second first.left second.left)) (gather cell_words (cells_joined beats s₀ first second left rest.left))

-- cells below lane 2,048 are all lower
lower-all : (beats : ℕ) (cs : List Cell) → All (Movable beats) cs → lower_cells 2048 (map (cell_later beats) cs) ≡ map (cell_later beats) cs
lower-all beats [] a = lower-none 2048
lower-all beats (c ∷ cs) a =
    lower_go 2048 (cell_later beats c) (map (cell_later beats) cs) a.0.lane_below ∙ ap (◌∷◌ (cell_later beats c)) (lower-all beats cs a.1)

module _ {s₀ : List ℕ} {to beats : ℕ} {first second : Last 6} (a : JoinedAsks s₀ to beats first second) where
  abbrev all : List Cell
  all = cells_joined beats s₀ first second first.left second.left

  module _ {s : List ℕ} {at left : ℕ} {rest : Last 6} (l : Joining s₀ s to beats first second at left rest) where
    all_sized : length (gather cell_words all) ≡ 6 * length all
    all_sized = length-cell_words all

    first_were : (k : ℕ) → k ≤ first.left → last_cells s first.end k ≡ last_cells s₀ first.end k
    first_were = run_were first.fits (writes_same l.writes (rw all_sized a.first-apart))

    second_were : (k : ℕ) → k ≤ second.left → last_cells s second.end k ≡ last_cells s₀ second.end k
    second_were = run_were second.fits (writes_same l.writes (rw all_sized a.run.apart))

    later_were : (k : ℕ) → k ≤ second.left → later_cells beats s second.end k ≡ later_cells beats s₀ second.end k
    unfolding later_cells
    later_were k few = rw (second_were k few)

    -- the second's cells that are left can be read while so many words are written
    rest-run : (size : ℕ) → at + size ≤ to + 6 * length all → RunAsks s beats second.end rest.left at size
    rest-run size fits =
        let low = l.writes.low in
        let in-run : Apart (second.end - 6 * second.left) (6 * second.left) at size = apart-within at size a.run.apart low fits in
        record {
          inside = omega (arith, a.run.inside, l.writes.long);
          movable = rw (second_were rest.left l.rest_few) (all-last (Movable beats) s₀ second.end second.left rest.left l.rest_few second.fits a.run.movable);
          apart = apart_swap (apart-within (second.end - 6 * rest.left) (6 * rest.left) (apart_swap in-run) (omega (arith, l.rest_few)) (omega (arith, l.rest_few, second.fits)));
          room = omega (arith, a.run.room, l.writes.long);
        }

    module _ (more : 0 < left) where
      pub first_place : 6 * left ≤ first.end
      first_place = omega (arith, first.fits, l.few)

      module _ {c : Cell} (is : c ≡ cell_at s (first.end - 6 * left)) where
        next_cell : last_cells s₀ first.end left ≡ c ∷ last_cells s₀ first.end (left - 1)
        next_cell = sym (first_were left l.few) ∙ last_cells_lem s first.end left more first_place ∙ rw (← is, first_were (left - 1) (omega (arith, l.few)))

        part : List Cell
        part = before beats s c second.end rest.left

        abbrev behind : List Cell
        behind = merge_lane (λ c. c.lane) (last_cells s₀ first.end (left - 1)) (upper_cells c.lane (later_cells beats s₀ second.end rest.left))

        step : cells_joined beats s₀ first second left rest.left ≡ part ++ behind
        unfolding cells_joined part before
        step =
            let ds = later_cells beats s₀ second.end rest.left in
            rw (next_cell, later_were rest.left l.rest_few)
            (merge_step c (last_cells s₀ first.end (left - 1)) ds ∙ sym (append_assoc (lower_cells c.lane ds) (c ∷ []) behind))

        ahead_of : Writes s₀ s to at (gather cell_words all) (gather cell_words part ++ gather cell_words behind)
        ahead_of = rw (step, gather_append cell_words part behind) at l.writes

        there_asks : BeforeAsks s at c beats second.end rest.left
        unfolding part
        there_asks =
            record {
              run =
                  rest-run (6 * length part)
                  (omega (arith, ahead_of.place, all_sized, length-cell_words part, length-append (gather cell_words part) (gather cell_words behind)));
            }

        pub before_asks : BeforeAsks s at c beats rest.end rest.left
        before_asks = subst (λ (e : ℕ). BeforeAsks s at c beats e rest.left) (sym l.rest_end) there_asks

        module _ {t : List ℕ} {next : ℕ} (put : PutBefore s at c beats rest.end rest.left t next) where
          m : PutBefore s at c beats second.end rest.left t next
          m = subst (λ (e : ℕ). PutBefore s at c beats e rest.left t next) l.rest_end put

          pub some_fewer : next ≤ rest.left
          unfolding before
          some_fewer =
              omega (arith, m.count, length-append (lower_cells c.lane (later_cells beats s second.end rest.left)) (c ∷ []))

          left_over : upper_cells c.lane (later_cells beats s₀ second.end rest.left) ≡ later_cells beats s₀ second.end next
          left_over = rw (← later_were rest.left l.rest_few, ← later_were next (omega (arith, some_fewer, l.rest_few))) (sym m.rest)

          pub at_room : at + 6 * (rest.left - next) + 6 ≤ length s
          unfolding part
          at_room = omega (arith, m.count, some_fewer, there_asks.run.room)

          pub joining_cell : {r : Last 6} → r.left ≡ next → r.end ≡ rest.end → Joining s₀ t to beats first second (at + (6 * (rest.left - next) + 6)) (left - 1) r
          unfolding part cells_joined
          joining_cell {r} is end_is =
              let size : 6 * length part ≡ 6 * (rest.left - next) + 6 = omega (arith, m.count, some_fewer) in
              let written = writes-run (gather cell_words part) (6 * (rest.left - next) + 6) (length-cell_words part ∙ size) ahead_of in
              record {
                few = omega (arith, l.few);
                rest_end = end_is ∙ l.rest_end;
                rest_few = omega (arith, some_fewer, l.rest_few, is);
                writes = rw is (rw (← m.words, left_over) at written);
              }

    -- the first's cells are over
    module _ (over : left ≤ 0) where
      over_is : cells_joined beats s₀ first second left rest.left ≡ lower_cells 2048 (later_cells beats s second.end rest.left)
      unfolding cells_joined merge_lane later_cells
      over_is =
          let z : left ≡ 0 = omega arith in
          let none : last_cells s₀ first.end left ≡ [] = ap (last_cells s₀ first.end) z ∙ no_cells s₀ first.end in
          let fit = all-last (Movable beats) s₀ second.end second.left rest.left l.rest_few second.fits a.run.movable in
          rw (none, second_were rest.left l.rest_few) (sym (lower-all beats (last_cells s₀ second.end rest.left) fit))

      last-ahead : Writes s₀ s to at (gather cell_words all) (gather cell_words (lower_cells 2048 (later_cells beats s second.end rest.left)))
      last-ahead = rw over_is at l.writes

      over_asks : LowerAsks s at 2048 beats second.end rest.left
      over_asks =
          record {
            run =
                rest-run (6 * length (lower_cells 2048 (later_cells beats s second.end rest.left)))
                (omega (arith, last-ahead.place, all_sized, length-cell_words (lower_cells 2048 (later_cells beats s second.end rest.left))));
          }

      pub last_asks : LowerAsks s at 2048 beats rest.end rest.left
      last_asks = subst (λ (e : ℕ). LowerAsks s at 2048 beats e rest.left) (sym l.rest_end) over_asks

      module _ {t : List ℕ} {r : ℕ} (put : Lowered s at 2048 beats rest.end rest.left t r) where
        over_put : Lowered s at 2048 beats second.end rest.left t r
        over_put = subst (λ (e : ℕ). Lowered s at 2048 beats e rest.left t r) l.rest_end put

        pub joined-room : (r ≤ rest.left) × (at + 6 * (rest.left - r) ≤ length s)
        joined-room = (omega (arith, over_put.count), omega (arith, over_put.count, over_asks.run.room))

        pub joined-done : Made s₀ to all t (at + 6 * (rest.left - r))
        joined-done = record {
          words = over_put.words ∙ last-ahead.same;
          behind = omega (arith, over_put.count, last-ahead.place, all_sized, length-cell_words (lower_cells 2048 (later_cells beats s second.end rest.left)));
        }

-- Question 8 of a join: the pairs of cells over the line, counted lane by lane by one walk over both takes' cells. Assumes nothing.
use mathlib.Core.Path.{◌≡◌, refl, sym, ap, ◌∙◌}
use mathlib.Core.Bool.{Bool, true, false, not}
use mathlib.Core.List.{List, [], ◌∷◌, ◌++◌}
use Prim.Native.Nat.{ℕ, zero, suc, ◌+◌, ◌-◌, ◌*◌, ◌≤◌, ◌<◌, min}
use native.Mathlib.Omega.{arith}
use borrow.Author.Tests.{eqb-true, eqb-false, leb-true, leb-false, not-true, not-false}
use lib.Dec.{eqb, leb}
use lib.ListN.{length, length-append, take, drop}
use Rattle.std.specs.Prelude.{Option, Some, None, MatchOption}
use Rattle.std.specs.List.{slice_get, AllWithin, HoldsAt, take-map, drop-map}
use Rattle.std.specs.Option.{unwrap_or}
use Rattle.std.specs.Simd.{first_chunks}
use Rattle.std.proofs.Common.{add-zero, get_or-drop, get_or-take, ne_eqb}
use Rattle.std.proofs.lemmas.Iterator.{index_from_first}
use Rattle.std.proofs.lemmas.List.{length-map}
use Rattle.std.proofs.lemmas.Option.{none-some, slice_get-get_or}
use Rattle.std.proofs.Math.Seq.{take-append_seam, drop-append_seam}
use Rattle.model.specs.Binding.{stands_alone}
use Rattle.model.specs.Limits.{max_words}
use Rattle.model.specs.Takes.{word, cell_of}
use Rattle.model.specs.declared.Cell.{Cell}
use Rattle.model.specs.declared.Header.{Header}
use Rattle.laws.specs.JoinCount.{seams, seams_over, seams_step, lone-append, lone_few}
use Rattle.laws.specs.JoinWalk.{From, cell_rest, cell_run, from-ahead, lane_ahead, rest_from, run-rest}
use Rattle.laws.specs.Seam.{bound_at, lone, one, seam_of}
use Rattle.laws.specs.SeamWalk.{last_or}
use Rattle.session.specs.Reading.{cell_at, last_cells}
use Rattle.session.specs.Sliced.{cells_of}
use Rattle.session.proofs.Lasts.{last_cells_lem, length_last}
use Rattle.session.proofs.Wholes.{whole_cells}
use Rattle.cuts.specs.declared.counting.SeamCount.{SeamCount}
use Rattle.cuts.specs.Counting.{count_of, pair_at}
use Rattle.cuts.specs.Lasts.{lane_of_last}
use Rattle.cuts.proofs.JoinSeam.{nothing, run_go, run_none, run_stop}

abbrev none : SeamCount
none = record { pairs = 0; alone = 0 }

-- none are counted
pub counted_none : {r : SeamCount} → (r.pairs ≡ 0) × (r.alone ≡ 0) → r ≡ none
counted_none e = λ i. record { pairs = e.0 i; alone = e.1 i }

-- ---- a pair

one_few : (b : Bool) → one b ≤ 1
one_few true = omega arith
one_few false = omega arith

module _ (h : Header) (k : ℕ) (c d : Cell) {b : Bool} (is : b ≡ bound_at h k c d) where
  pub not_bound : not b ≡ true → {r : SeamCount} → r ≡ none → r ≡ count_of h (pair_at h k c d)
  unfolding count_of pair_at lone
  not_bound t e = e ∙ rw (sym is ∙ not-true b t)

  pub one_pair : not b ≡ false → {p q : Bool} {x y : ℕ} → p ≡ stands_alone h c → x ≡ one p → q ≡ stands_alone h d → y ≡ one q
      → ◌≡◌ {A = SeamCount} (record { pairs = 1; alone = x + y }) (count_of h (pair_at h k c d))
  unfolding count_of pair_at lone
  one_pair t {x = x} {y = y} e f e' f' =
      let all : x + y ≡ one (stands_alone h c) + one (stands_alone h d) + 0 = omega (arith, f ∙ ap one e, f' ∙ ap one e') in
      rw (sym is ∙ not-false b t, all)

-- ---- the cells of a lane

-- the last cells behind so many of them
cells_dropped : (s : List ℕ) (end k n : ℕ) → 6 * k ≤ end → n ≤ k → drop n (last_cells s end k) ≡ last_cells s end (k - n)
cells_dropped s end k zero fits few = ap (last_cells s end) (omega arith)
cells_dropped s end zero (suc n) fits few = absurd (omega arith)
cells_dropped s end (suc k) (suc n) fits few =
    let one : suc k - 1 ≡ k = omega arith in
    let left : k - n ≡ suc k - suc n = omega arith in
    ap (drop (suc n)) (last_cells_lem s end (suc k) (omega arith) fits) ∙ ap (λ (i : ℕ). drop n (last_cells s end i)) one ∙ cells_dropped s end k n (omega arith) (omega arith)
    ∙ ap (last_cells s end) left

-- the words of a cell of another lane, and of one of the lane
abbrev pub Other : ℕ → List ℕ → Type 0
Other lane w = (cell_at w 0).lane ≡ lane → ⊥

abbrev pub Own : ℕ → List ℕ → Type 0
Own lane w = (cell_at w 0).lane ≡ lane

module _ (lane : ℕ) where
  -- the first cell of another lane stands behind those of the lane
  pub run_ends : (ws : List (List ℕ)) (r : Option ℕ)
      → MatchOption r (AllWithin (Own lane) ws 0 (length ws)) (λ i. (i < length ws) × HoldsAt (Other lane) ws i × AllWithin (Own lane) ws 0 i)
      → unwrap_or r (length ws) ≡ length (cell_run lane (cells_of ws))
  run_ends ws r first =
      sym (
      index_from_first (λ vs. length (cell_run lane (cells_of vs))) (Other lane) (Own lane) (ap length (run_none (λ c. c.lane) lane))
      (λ v vs d. ap length (run_stop (λ c. c.lane) lane (cell_at v 0) (cells_of vs) d))
      (λ v vs e. omega (arith, ap length (run_go (λ c. c.lane) lane (cell_at v 0) (cells_of vs) e)))
      ws r first
      )

  module _ (ws : List (List ℕ)) {n : ℕ} (is : n ≡ length (cell_run lane (cells_of ws))) where
    abbrev run : List Cell
    run = cell_run lane (cells_of ws)

    abbrev rest : List Cell
    rest = cell_rest lane (cells_of ws)

    both : run ++ rest ≡ cells_of ws
    both = run-rest (λ c. c.lane) lane (cells_of ws)

    pub run_inside : n ≤ length ws
    run_inside = omega (arith, is, ap length both, length-append run rest, length-map ws (λ w. cell_at w 0))

    pub run_taken : cells_of (take n ws) ≡ run
    run_taken = sym (take-map (λ w. cell_at w 0) n ws) ∙ ap (take n) (sym both) ∙ ap (λ (i : ℕ). take i (run ++ rest)) is ∙ take-append_seam run rest

    behind : drop n (cells_of ws) ≡ rest
    behind = ap (drop n) (sym both) ∙ ap (λ (i : ℕ). drop i (run ++ rest)) is ∙ drop-append_seam run rest

    pub run_dropped : cells_of (drop n ws) ≡ rest
    run_dropped = sym (drop-map (λ w. cell_at w 0) n ws) ∙ behind

    -- they are cut from the last cells up to a place
    module _ (s : List ℕ) (end left : ℕ) (fits : 6 * left ≤ end) (cut : ws ≡ first_chunks 6 left (drop (end - 6 * left) s)) where
      last : cells_of ws ≡ last_cells s end left
      unfolding last_cells
      last = ap cells_of cut ∙ whole_cells left (drop (end - 6 * left) s)

      pub run_few : n ≤ left
      run_few = omega (arith, run_inside, length-map ws (λ w. cell_at w 0), ap length last, length_last s end left)

      pub run_behind : last_cells s end (left - n) ≡ cell_rest lane (last_cells s end left)
      run_behind = sym (cells_dropped s end left n fits run_few) ∙ ap (drop n) (sym last) ∙ behind ∙ ap (cell_rest lane) last

-- ---- the pair of a lane

some_same : {X : Type 0} {x y : X} → Some x ≡ Some y → x ≡ y
some_same {x = x} e = ap (λ o. unwrap_or o x) e

-- the last of the words is that of the last cell
last-words : (v w : List ℕ) (ws : List (List ℕ)) → Some w ≡ slice_get (v ∷ ws) (length ws) → last_or (cell_at v 0) (cells_of ws) ≡ cell_of w
unfolding cell_at
last-words v w [] e = ap cell_of (sym (some_same e))
last-words v w (x ∷ xs) e = last-words x w xs e

module _ (h : Header) (k : ℕ) where
  none_is : none ≡ count_of h []
  unfolding count_of lone
  none_is = refl

  abbrev Counts : List (List ℕ) → List (List ℕ) → SeamCount → Type 0
  Counts vs ws r = r ≡ count_of h (seam_of h k (cells_of vs) (cells_of ws))

  pub no_first : (vs ws : List (List ℕ)) → None ≡ slice_get vs (length vs - 1) → {r : SeamCount} → r ≡ none → Counts vs ws r
  unfolding seam_of
  no_first [] ws e f = f ∙ none_is
  no_first (v ∷ vs) ws e f = absurd (none-some _ (e ∙ slice_get-get_or (v ∷ vs) (length (v ∷ vs) - 1) v (omega arith)))

  pub no_second : (vs ws : List (List ℕ)) → None ≡ slice_get ws 0 → {r : SeamCount} → r ≡ none → Counts vs ws r
  unfolding seam_of
  no_second [] [] e f = f ∙ none_is
  no_second (v ∷ vs) [] e f = f ∙ none_is
  no_second vs (w ∷ ws) e f = absurd (none-some _ e)

  pub lane_pair : (vs ws : List (List ℕ)) {v w : List ℕ} → Some v ≡ slice_get vs (length vs - 1) → Some w ≡ slice_get ws 0 → {c d : Cell} → c ≡ cell_of v → d ≡ cell_of w
      → {r : SeamCount} → r ≡ count_of h (pair_at h k c d) → Counts vs ws r
  unfolding seam_of pair_at cell_at
  lane_pair [] ws e f is are g = absurd (none-some _ (sym e))
  lane_pair (x ∷ xs) [] e f is are g = absurd (none-some _ (sym f))
  lane_pair (x ∷ xs) (y ∷ ys) {v} {w} e f is are g =
      g ∙ ap (count_of h) (rw (last-words x v xs (e ∙ ap (slice_get (x ∷ xs)) (omega arith)), is, are, some_same f))

-- ---- the lane in front

-- the first word of the first
abbrev ahead : List (List ℕ) → ℕ
ahead = lane_ahead (λ w. word w 0)

pub ahead-none : (ws : List (List ℕ)) → None ≡ slice_get ws 0 → 2048 ≡ ahead ws
unfolding lane_ahead
ahead-none [] e = refl
ahead-none (w ∷ ws) e = absurd (none-some _ e)

pub ahead-is : (ws : List (List ℕ)) {w : List ℕ} → Some w ≡ slice_get ws 0 → word w 0 ≡ ahead ws
unfolding lane_ahead
ahead-is [] e = absurd (none-some _ (sym e))
ahead-is (v ∷ ws) e = ap (λ x. word x 0) (some_same e)

-- the first word of a cell is its lane
pub ahead_of_cells : (ws : List (List ℕ)) → ahead ws ≡ lane_ahead (λ c. c.lane) (cells_of ws)
unfolding lane_ahead cell_at
ahead_of_cells [] = refl
ahead_of_cells (w ∷ ws) = refl

-- of so many words each, cut from those up to a place
pub ahead_of_last : (n : ℕ) → 0 < n → (s : List ℕ) (end k : ℕ) {ws : List (List ℕ)} → ws ≡ first_chunks n k (drop (end - n * k) s) → ahead ws ≡ lane_of_last n s end k
unfolding lane_ahead lane_of_last
ahead_of_last n some s end zero cut = ap ahead cut
ahead_of_last n some s end (suc k) cut =
    ap ahead cut ∙ rw (ne_eqb (suc k) 0 (omega arith), get_or-take n (drop (end - n * suc k) s) 0 0 some, get_or-drop (end - n * suc k) s 0 0, add-zero (end - n * suc k))

-- the lane in front has cells
ahead-some : (l : ℕ) (cs : List Cell) → lane_ahead (λ c. c.lane) cs ≡ l → l < 2048 → 0 < length (cell_run l cs)
unfolding lane_ahead
ahead-some l [] e b = absurd (omega arith)
ahead-some l (c ∷ cs) e b = omega (arith, ap length (run_go (λ c. c.lane) l c cs e))

-- the lane in front of some cells is a lane
ahead-low : (i : ℕ) (cs : List Cell) → From (λ c. c.lane) i cs → 0 < length cs → lane_ahead (λ c. c.lane) cs < 2048
unfolding lane_ahead
ahead-low i [] f b = absurd (omega arith)
ahead-low i (c ∷ cs) f b = f.below.0

-- ---- all lanes

-- are there cells left?
module _ (ws : List (List ℕ)) {b : Bool} (is : b ≡ eqb (length ws) 0) where
  pub some-left : b ≡ false → 0 < length (cells_of ws)
  some-left t = omega (arith, eqb-false (length ws) 0 (sym is ∙ t), length-map ws (λ w. cell_at w 0))

  pub none-left : b ≡ true → length (cells_of ws) ≡ 0
  none-left t = omega (arith, eqb-true (length ws) 0 (sym is ∙ t), length-map ws (λ w. cell_at w 0))

-- these cells are left of each take, and so many pairs are counted of all
pub record Counting (h : Header) (beats : ℕ) (all : List (Cell × Cell)) (cs ds : List Cell) (pairs alone : ℕ) : Type 0 where
  pub lane : ℕ
  pub left-from : From (λ c. c.lane) lane cs
  pub over_from : From (λ c. c.lane) lane ds
  pub pairs_are : pairs + length (seams h beats cs ds) ≡ length all
  pub alone_are : alone + lone h (seams h beats cs ds) ≡ lone h all

module _ {h : Header} {beats : ℕ} {all : List (Cell × Cell)} {cs ds : List Cell} {pairs alone : ℕ} (l : Counting h beats all cs ds pairs alone) where
  pub seams_counted : length cs ≡ 0 → ◌≡◌ {A = SeamCount} (record { pairs = pairs; alone = alone }) (count_of h all)
  unfolding count_of lone
  seams_counted z =
      let over-now : seams h beats cs ds ≡ [] = rw (nothing cs z) (seams_over h beats ds) in
      let p : pairs ≡ length all = omega (arith, l.pairs_are, ap length over-now) in
      let q : alone ≡ lone h all = omega (arith, l.alone_are, ap (lone h) over-now) in
      rw (p, q)

  module _ (more : 0 < length cs) {x y lane : ℕ} (e : x ≡ lane_ahead (λ c. c.lane) cs) (f : y ≡ lane_ahead (λ c. c.lane) ds) (least : lane ≡ min x y) where
    lane_below : lane < 2048
    lane_below = omega (arith, e, least, ahead-low l.lane cs l.left-from more)

    first-here : From (λ c. c.lane) lane cs
    first-here = from-ahead (λ c. c.lane) l.lane lane cs l.left-from (omega (arith, e, least))

    second_here : From (λ c. c.lane) lane ds
    second_here = from-ahead (λ c. c.lane) l.lane lane ds l.over_from (omega (arith, f, least))

    -- a cell of one or the other is passed
    pub fewer_cells : {es gs : List Cell} → es ≡ cell_rest lane cs → gs ≡ cell_rest lane ds → length es + length gs < length cs + length ds
    fewer_cells {es} {gs} a b = go (leb x y) refl
      where
        longer : (zs : List Cell) → length zs ≡ length (cell_run lane zs) + length (cell_rest lane zs)
        longer zs = omega (arith, ap length (run-rest (λ c. c.lane) lane zs), length-append (cell_run lane zs) (cell_rest lane zs))

        go : (t : Bool) → leb x y ≡ t → length es + length gs < length cs + length ds
        go true t = let own : lane_ahead (λ c. c.lane) cs ≡ lane = omega (arith, e, least, leb-true x y t) in
            omega (arith, ahead-some lane cs own lane_below, longer cs, longer ds, ap length a, ap length b)
        go false t = let own : lane_ahead (λ c. c.lane) ds ≡ lane = omega (arith, f, least, leb-false x y t) in
            omega (arith, ahead-some lane ds own lane_below, longer cs, longer ds, ap length a, ap length b)

    module _ {xs ys es gs : List Cell} (p : xs ≡ cell_run lane cs) (q : ys ≡ cell_run lane ds) (a : es ≡ cell_rest lane cs) (b : gs ≡ cell_rest lane ds) where
      step : seams h beats cs ds ≡ seam_of h beats xs ys ++ seams h beats es gs
      step = seams_step h beats lane cs ds lane_below first-here second_here ∙ rw (← p, ← q, ← a, ← b)

      pairs_step : pairs + length (seam_of h beats xs ys) + length (seams h beats es gs) ≡ length all
      pairs_step = omega (arith, l.pairs_are, ap length step, length-append (seam_of h beats xs ys) (seams h beats es gs))

      alone_step : alone + lone h (seam_of h beats xs ys) + lone h (seams h beats es gs) ≡ lone h all
      alone_step = omega (arith, l.alone_are, ap (lone h) step, lone-append h beats (seam_of h beats xs ys) (seams h beats es gs))

      module _ {n : SeamCount} (is : n ≡ count_of h (seam_of h beats xs ys)) where
        pairs_is : n.pairs ≡ length (seam_of h beats xs ys)
        unfolding count_of
        pairs_is = rw is

        alone_is : n.alone ≡ lone h (seam_of h beats xs ys)
        unfolding count_of
        alone_is = rw is

        pub pairs-room : length all ≤ max_words → pairs + n.pairs ≤ max_words
        pairs-room few = omega (arith, pairs_is, pairs_step, few)

        pub alone-room : length all ≤ max_words → alone + n.alone ≤ 2 * max_words
        alone-room few = omega (arith, alone_is, alone_step, lone_few h beats all, few)

        pub counting_lane : Counting h beats all es gs (pairs + n.pairs) (alone + n.alone)
        counting_lane =
            record {
              lane = suc lane;
              left-from = rw a (rest_from (λ c. c.lane) lane cs first-here);
              over_from = rw b (rest_from (λ c. c.lane) lane ds second_here);
              pairs_are = omega (arith, pairs_is, pairs_step);
              alone_are = omega (arith, alone_is, alone_step);
            }

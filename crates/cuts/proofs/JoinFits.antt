-- Question 8 of a join of two sound shelves' takes: at once, or by the pairs that are counted. Assumes nothing.
use mathlib.Core.Path.{◌≡◌, refl, sym, ap, ◌∙◌}
use mathlib.Core.Bool.{Bool, true, false}
use mathlib.Core.List.{List}
use Prim.Native.Nat.{ℕ, ◌+◌, ◌-◌, ◌*◌, ◌≤◌, min}
use native.Mathlib.Omega.{arith}
use borrow.Author.Tests.{le-leb, leb-true, leb-false}
use lib.Dec.{leb}
use lib.ListN.{length, drop}
use Rattle.model.specs.Limits.{lane_count, max_words}
use Rattle.model.specs.Questions.{fits, take_at}
use Rattle.model.specs.Session.{shelf_at}
use Rattle.model.specs.Takes.{Take, join_takes, notes_of}
use Rattle.model.specs.declared.Cell.{Cell}
use Rattle.model.specs.declared.Header.{Header}
use Rattle.laws.specs.JoinCount.{join-length, join-room, lone_few, pairs_few, seams}
use Rattle.laws.specs.Joining.{length-join-cells}
use Rattle.laws.specs.JoinWalk.{join_four}
use Rattle.laws.specs.Reading.{length-cells, length_read}
use Rattle.laws.specs.Seam.{lone}
use Rattle.std.specs.Simd.{first_chunks}
use Rattle.session.specs.Reading.{last_notes, last_cells}
use Rattle.session.specs.Sliced.{cells_of}
use Rattle.session.proofs.Wholes.{whole_cells}
use Rattle.cuts.specs.declared.counting.SeamCount.{SeamCount}
use Rattle.cuts.specs.declared.halves.Contents.{Contents}
use Rattle.cuts.specs.Counting.{count_of, counted_words, CountsAsks, SeamsAsks}
use Rattle.cuts.specs.Joined.{JoinAsks}
use Rattle.cuts.proofs.HalfWords.{Read, placed}
use Rattle.cuts.proofs.JoinWords.{first_read, second_read, range, solid_first, solid_second}

-- a test is as another that holds where it does
same_test : (a b c d : ℕ) → (a ≤ b → c ≤ d) → (c ≤ d → a ≤ b) → leb a b ≡ leb c d
same_test a b c d f g = go (leb a b) (leb c d) refl refl
  where
    go : (x y : Bool) → leb a b ≡ x → leb c d ≡ y → leb a b ≡ leb c d
    go true y e e' = e ∙ sym (le-leb c d (f (leb-true a b e)))
    go false true e e' = let h = g (leb-true c d e') in absurd (omega (arith, leb-false a b e))
    go false false e e' = e ∙ sym e'

module _ {s : List ℕ} {h : Header} {i j k : ℕ} (a : JoinAsks s h i j k) where
  abbrev t : Take
  t = take_at h s i

  abbrev u : Take
  u = take_at h s j

  abbrev both : Take
  both = join_takes h.delta t u

  module _ {first second : Contents} (r : Read (first_read a) first) (q : Read (second_read a) second) where
    -- how many notes and cells they have
    first-notes : length (notes_of h t) ≡ first.notes.left
    unfolding last_notes
    first-notes = ap length (sym r.notes_are) ∙ length_read first.notes.left _

    second_notes : length (notes_of h u) ≡ second.notes.left
    unfolding last_notes
    second_notes = ap length (sym q.notes_are) ∙ length_read second.notes.left _

    first-cells : length t.cells ≡ first.cells.left
    unfolding last_cells
    first-cells = ap length (sym r.cells_are) ∙ length-cells first.cells.left _

    second_cells : length u.cells ≡ second.cells.left
    unfolding last_cells
    second_cells = ap length (sym q.cells_are) ∙ length-cells second.cells.left _

    join_has : length both.cells ≡ first.cells.left + second.cells.left
    join_has = omega (arith, length-join-cells h.delta t u (solid_first a) (solid_second a), first-cells, second_cells)

    counts_asks : (more fewer : ℕ) → more ≤ max_words → fewer ≤ 2 * max_words → CountsAsks h first second more fewer
    counts_asks more fewer x y = record {
      words_few = (range a).small;
      first_few = omega (arith, r.used_is, (range a).small);
      second_few = omega (arith, q.used_is, (range a).small);
      more_few = x;
      fewer_few = y;
    }

    -- with a note more for each pair that there can be
    pub most_asks : {m : ℕ} → m ≡ min lane_count (min first.cells.left second.cells.left) → CountsAsks h first second m 0
    most_asks e = counts_asks _ 0 (omega (arith, e, r.used_is, (range a).small)) (omega arith)

    pub fits-at_once : {m : ℕ} → m ≡ min lane_count (min first.cells.left second.cells.left) → {b : Bool} → b ≡ leb (counted_words first second m) (h.words + 4 * 0) → b ≡ true → true ≡ fits h both
    unfolding fits counted_words
    fits-at_once {m} e f g =
        let yes : counted_words first second m ≤ h.words + 4 * 0 = leb-true _ _ (sym f ∙ g) in
        let room = join-room h (range a).some-ticks (range a).kept-within t u (solid_first a) (solid_second a) in
        sym (le-leb (3 + 4 * length (notes_of h both) + 6 * length both.cells) h.words (omega (arith, yes, e, room, join_has, first-notes, second_notes, first-cells, second_cells)))

    -- the cells of both are read in their places
    pub first-inside : first.cells.end ≤ length s
    first-inside = (placed (first_read a) r s refl (shelf_at h k) 0 (omega arith) (omega arith)).inside

    pub second_inside : second.cells.end ≤ length s
    second_inside = (placed (second_read a) q s refl (shelf_at h k) 0 (omega arith) (omega arith)).inside

    -- by the pairs that are counted
    abbrev pairs : List (Cell × Cell)
    pairs = seams h t.beats t.cells u.cells

    module _ {beats : ℕ} (is : beats ≡ t.beats) {vs ws : List (List ℕ)}
        (v : vs ≡ first_chunks 6 first.cells.left (drop (first.cells.end - 6 * first.cells.left) s)) (w : ws ≡ first_chunks 6 second.cells.left (drop (second.cells.end - 6 * second.cells.left) s)) where
      first-words : cells_of vs ≡ t.cells
      unfolding last_cells
      first-words = ap cells_of v ∙ whole_cells first.cells.left (drop (first.cells.end - 6 * first.cells.left) s) ∙ r.cells_are

      second_words : cells_of ws ≡ u.cells
      unfolding last_cells
      second_words = ap cells_of w ∙ whole_cells second.cells.left (drop (second.cells.end - 6 * second.cells.left) s) ∙ q.cells_are

      few : length pairs ≤ max_words
      few =
          let most = pairs_few h (range a).some-ticks (range a).kept-within t u (solid_first a) (solid_second a) in
          omega (arith, most, first-cells, r.used_is, (range a).small)

      pub seams_asks : SeamsAsks h beats (cells_of vs) (cells_of ws)
      seams_asks =
          let f = join_four h (range a).some-ticks (range a).kept-within t u (solid_first a) (solid_second a) in
          record { first-from = rw first-words f.first-cells; second_from = rw second_words f.second_cells; few = rw (is, first-words, second_words) few }

      module _ {n : SeamCount} (e : n ≡ count_of h (seams h beats (cells_of vs) (cells_of ws))) where
        pairs_is : n.pairs ≡ length pairs
        unfolding count_of
        pairs_is = rw (e, is, first-words, second_words)

        alone_is : n.alone ≡ lone h pairs
        unfolding count_of
        alone_is = rw (e, is, first-words, second_words)

        pub exact_asks : CountsAsks h first second n.pairs n.alone
        exact_asks = counts_asks n.pairs n.alone (omega (arith, pairs_is, few)) (omega (arith, alone_is, few, lone_few h t.beats pairs))

        pub fits_counted : {b : Bool} → b ≡ leb (counted_words first second n.pairs) (h.words + 4 * n.alone) → b ≡ fits h both
        unfolding fits counted_words
        fits_counted f =
            let many = join-length h (range a).some-ticks (range a).kept-within t u (solid_first a) (solid_second a) in
            let exact : counted_words first second n.pairs ≡ 3 + 4 * length (notes_of h both) + 6 * length both.cells + 4 * n.alone =
            omega (arith, many, join_has, first-notes, second_notes, pairs_is, alone_is) in
            f ∙ same_test (counted_words first second n.pairs) (h.words + 4 * n.alone) (3 + 4 * length (notes_of h both) + 6 * length both.cells) h.words (λ x. omega (arith, x, exact)) (λ x. omega (arith, x, exact))

-- The notes of a half of a solid take are the take's notes, cut at the line; and one pass over its notes and cells gives them.
-- Assumes nothing.
use Rattle.std.specs.Prelude.{Bool, ◌||◌, cond, ◌≡◌, ◌*◌, ◌+◌, ◌-◌, ◌<◌, ◌≤◌, suc, ℕ}
use Rattle.std.proofs.Math.Bool.{false, true}
use mathlib.Core.List.{List, [], ◌++◌, ◌∷◌, map}
use Rattle.std.proofs.Math.Option.{Option, none, some}
use Rattle.std.proofs.Common.{◌∙◌, mul-le-mul_right}
use Rattle.std.proofs.Math.Path.{ap, ap₂, refl, sym}
use Rattle.std.proofs.Math.Nat.{add-mul}
use native.Mathlib.Omega.{arith}
use Rattle.std.proofs.Math.Dec.{leb, ltb}
use borrow.Author.Tests.{leb-false, leb-true, ltb-false, ltb-true}
use Rattle.model.specs.Binding.{end_of, line_notes, opening, stands_alone, start_of}
use Rattle.model.specs.Lists.{cons_if, gather, keep}
use Rattle.model.specs.Pieces.{first_beat, inside}
use Rattle.model.specs.Soundness.{sound_shelf}
use Rattle.model.specs.Takes.{Take, cell_to, cells_in, left_of, merge, note_to, notes_in, notes_of, right_of, split_left, split_right, take_in}
use Rattle.model.specs.declared.Cell.{Cell}
use Rattle.model.specs.declared.Header.{Header}
use Rattle.model.specs.declared.Note.{Note}
use Rattle.laws.specs.Beats.{inside_high, inside_low}
use Rattle.laws.specs.Counting.{link_back}
use Rattle.laws.specs.CutLines.{Cells, put, walk-keep}
use Rattle.laws.specs.CutMerge.{Part, gather-merge}
use Rattle.laws.specs.CutSides.{cross_stay, left_cuts, left_in, left_out, right_cuts, stay_by}
use Rattle.laws.specs.Cutting.{Found, by_all, by_before, by_behind, closing_found, closing_cell, cross_left, cross_right, cut_by, cut_left, cut_left_from, cut_right_from, find_found, find_cell, first_cell, from-gather, left_by, note_back, opening_found, right_by}
use Rattle.laws.specs.Joining.{back-note}
use Rattle.laws.specs.Lists.{gather_same, map-gather, map-keep}
use Rattle.laws.specs.Moving.{solid_left, solid_right}
use Rattle.laws.specs.Notes.{Fair, Follow, Long, follow_lane, note_same, ok_pairs}
use Rattle.laws.specs.Order.{aways, line_fair, line-pairs, solid_notes}
use Rattle.laws.specs.Relations.{All, Pairs, all-cons_if, all_imp, all-kept, pairs_imp}
use Rattle.laws.specs.Rules.{moved_alone, own}
use Rattle.laws.specs.Solid.{Solid}
use Rattle.laws.specs.Sound.{sound-notes, sound_solid}
use Rattle.laws.specs.Sweep.{skip}
use Rattle.laws.specs.Walk.{line_walk, linked, walk}

-- ---- the notes of cells k beats earlier are k beats earlier

module _ (H : Header) (k : ℕ) where
  abbrev back : Note → Note
  back n = note_back (k * H.delta) n

  abbrev cell_back : Cell → Cell
  cell_back c = cell_to (c.beat - k) c

  own_back : (c : Cell) → k ≤ c.beat → own H.delta (cell_back c) ≡ back (own H.delta c)
  unfolding own start_of end_of
  own_back c h = go (opening c)
    where
      line : (c.beat - k) * H.delta + k * H.delta ≡ c.beat * H.delta
      line =
          let m : (k + (c.beat - k)) * H.delta ≡ k * H.delta + (c.beat - k) * H.delta = add-mul k (c.beat - k) H.delta in
          let e : (k + (c.beat - k)) * H.delta ≡ c.beat * H.delta = ap (λ (i : ℕ). i * H.delta) (omega arith) in
          omega arith

      go : (o : Bool) → ◌≡◌ {A = Note} (record {
        lane = c.lane;
        start = cond o ((c.beat - k) * H.delta) (suc (c.beat - k) * H.delta - c.before);
        end = cond o ((c.beat - k) * H.delta + c.after) (suc (c.beat - k) * H.delta);
        velocity = c.velocity;
      }) (back (record {
        lane = c.lane;
        start = cond o (c.beat * H.delta) (suc c.beat * H.delta - c.before);
        end = cond o (c.beat * H.delta + c.after) (suc c.beat * H.delta);
        velocity = c.velocity;
      }))
      go true = let l = line in note_same refl (omega arith) (omega arith) refl
      go false = let l = line in note_same refl (omega arith) (omega arith) refl

  put_back : (n : Note) (on shown : Bool) (ns : List Note) → put (back n) on shown (map back ns) ≡ map back (put n on shown ns)
  put_back n true shown [] = refl
  put_back n true shown (m ∷ ms) = refl
  put_back n false true ns = refl
  put_back n false false ns = refl

  walk-earlier : (cs : List Cell) (held : Bool) → All (λ c. k ≤ c.beat) cs → walk H held (map cell_back cs) ≡ map back (walk H held cs)
  unfolding walk
  walk-earlier [] held a = refl
  walk-earlier (c ∷ cs) held a =
      rw (link_back H k c cs a.0 a.1, walk-earlier cs (linked H c cs) a.1, own_back c a.0, moved_alone H (c.beat - k) c)
      (put_back (own H.delta c) (linked H c cs) (stands_alone H c || held) (walk H (linked H c cs) cs))

-- ---- what is left of a note

module _ (H : Header) (k : ℕ) (at : ℕ → Option Cell) where
  left-parts : (n : Note) → Long n → All (Part 0 n) (left_by H k at n)
  unfolding left_by
  left-parts n v =
      by_all (k * H.delta) (λ n. n ∷ []) (λ n. []) (cross_left H k) at n (Part 0 n)
      (λ h. (record { lane_is = refl; start_is = omega arith; end_upto = omega arith; order = v }, tt)) (λ h i. tt) go
    where
      go : k * H.delta < n.end → n.start < k * H.delta → (o : Option Cell) → All (Part 0 n) (cross_left H k n o)
      go h i none = tt
      go h i (some c) = all-cons_if (Part 0 n) (stands_alone H c) _ [] (λ e. record { lane_is = refl; start_is = omega arith; end_upto = omega arith; order = i }) tt

  right-parts : (n : Note) → Long n → All (Part (k * H.delta) n) (right_by H k at n)
  unfolding right_by
  right-parts n v =
      by_all (k * H.delta) (λ n. []) (λ n. back H k n ∷ []) (cross_right H k) at n (Part (k * H.delta) n)
      (λ h. tt) (λ h i. (record { lane_is = refl; start_is = refl; end_upto = omega arith; order = omega arith }, tt)) go
    where
      go : k * H.delta < n.end → n.start < k * H.delta → (o : Option Cell) → All (Part (k * H.delta) n) (cross_right H k n o)
      go h i none = tt
      go h i (some c) =
          all-cons_if (Part (k * H.delta) n) (stands_alone H c) _ []
          (λ e. record { lane_is = refl; start_is = omega arith; end_upto = omega arith; order = omega arith }) tt

  -- the right half's part is moved last
  stay_back : (n : Note) → map (back H k) (stay_by H k at n) ≡ right_by H k at n
  unfolding right_by stay_by cut_by cross_right cross_stay
  stay_back n = go (leb n.end (k * H.delta)) (leb (k * H.delta) n.start) (at n.lane)
    where
      one : (a : Bool) (w : ℕ)
          → map (back H k) (cons_if a (record { lane = n.lane; start = k * H.delta; end = n.end; velocity = w }) [])
          ≡ cons_if a (record { lane = n.lane; start = 0; end = n.end - k * H.delta; velocity = w }) []
      one true w = ap (λ (m : Note). m ∷ []) (note_same refl (omega arith) refl refl)
      one false w = refl

      go : (t u : Bool) (o : Option Cell)
          → map (back H k) (cond t [] (cond u (n ∷ []) (cross_stay H k n o))) ≡ cond t [] (cond u (back H k n ∷ []) (cross_right H k n o))
      go true u o = refl
      go false true o = refl
      go false false none = refl
      go false false (some c) = one (stands_alone H c) c.velocity

-- ---- a take's notes

module _ (H : Header) (z : 0 < H.delta) (le : H.epsilon ≤ H.delta) (t : Take) (s : Solid H.delta t) (k : ℕ) where
  cells_are : (p : ℕ → Bool) (Known : Cell → Type 0) → All Known t.cells → Cells H t.beats z le p Known t.cells
  cells_are p Known a = record { in_pieces = s.cells_pieced; all_fine = s.cells_fine; all_apart = s.cells-apart; all_known = a }

  note-lanes : Pairs (λ n m. n.lane ≤ m.lane) (notes_of H t)
  note-lanes = pairs_imp Follow (λ n m. n.lane ≤ m.lane) (notes_of H t) follow_lane (ok_pairs H.delta t.beats (notes_of H t) (solid_notes H z le t s))

  fair_long : (ns : List Note) → All (Fair H.delta t.beats) ns → All Long ns
  fair_long ns a = all_imp (Fair H.delta t.beats) Long ns (λ n f. f.order) a

  -- whatever leaves parts of notes may be done before the notes are merged
  merged : (m : ℕ) (f : Note → List Note) → ((n : Note) → Long n → All (Part m n) (f n))
      → merge (gather f t.inner) (gather f (line_notes H t.cells)) ≡ gather f (notes_of H t)
  unfolding notes_of
  merged m f p =
      let ns = line_notes H t.cells in
      sym (gather-merge m f p t.inner ns (fair_long t.inner s.notes_fair) (fair_long ns (line_fair H z le t s)) s.notes-apart (line-pairs H z le t s)
      (aways H z le t s t.inner s.notes_fair s.notes-inside s.all-clear))

  -- an inner note lies on one side of the line
  inner-before : (n : Note) → inside H.delta n ≡ true → first_beat H.delta n < k → n.end ≤ k * H.delta
  inner-before n i h =
      let e = inside_high H.delta n i in
      let m : suc (first_beat H.delta n) * H.delta ≤ k * H.delta = mul-le-mul_right H.delta h in
      omega arith

  inner-behind : (n : Note) → inside H.delta n ≡ true → k ≤ first_beat H.delta n → k * H.delta ≤ n.start
  inner-behind n i h =
      let e = inside_low H.delta n i in
      let m : k * H.delta ≤ first_beat H.delta n * H.delta = mul-le-mul_right H.delta h in
      omega arith

  module _ (at : ℕ → Option Cell) where
    left-inner : (ns : List Note) → All (λ n. inside H.delta n ≡ true) ns → All Long ns
        → left_of (first_beat H.delta) k ns ≡ gather (left_by H k at) ns
    unfolding left_of
    left-inner [] i v = refl
    left-inner (n ∷ ns) i v = go (ltb (first_beat H.delta n) k) refl (left-inner ns i.1 v.1)
      where
        go : (b : Bool) → ltb (first_beat H.delta n) k ≡ b → left_of (first_beat H.delta) k ns ≡ gather (left_by H k at) ns
            → cons_if b n (left_of (first_beat H.delta) k ns) ≡ left_by H k at n ++ gather (left_by H k at) ns
        go true e ih = rw (left_in H k at n (inner-before n i.0 (ltb-true (first_beat H.delta n) k e))) (ap (◌∷◌ n) ih)
        go false e ih = rw (left_out H k at n (inner-behind n i.0 (ltb-false (first_beat H.delta n) k e)) v.0) ih

    right-inner : (ns : List Note) → All (λ n. inside H.delta n ≡ true) ns → All Long ns
        → right_of (first_beat H.delta) (note_to H.delta) k ns ≡ gather (right_by H k at) ns
    unfolding right_of right_by
    right-inner [] i v = refl
    right-inner (n ∷ ns) i v = go (leb k (first_beat H.delta n)) refl (right-inner ns i.1 v.1)
      where
        to : Note → Note
        to n = note_to H.delta (first_beat H.delta n - k) n

        go : (b : Bool) → leb k (first_beat H.delta n) ≡ b → right_of (first_beat H.delta) (note_to H.delta) k ns ≡ gather (right_by H k at) ns
            → map to (cons_if b n (keep (λ n. leb k (first_beat H.delta n)) ns)) ≡ right_by H k at n ++ gather (right_by H k at) ns
        go true e ih =
            let l : k ≤ first_beat H.delta n = leb-true k (first_beat H.delta n) e in
            let h = inner-behind n i.0 l in
            let w : n.start < n.end = v.0 in
            rw (by_behind (k * H.delta) (λ n. []) (λ n. back H k n ∷ []) (cross_right H k) at n (omega arith) h)
            (ap₂ ◌∷◌ (back-note H.delta n (omega arith) k l) ih)
        go false e ih =
            let h = inner-before n i.0 (leb-false k (first_beat H.delta n) e) in
            rw (by_before (k * H.delta) (λ n. []) (λ n. back H k n ∷ []) (cross_right H k) at n h) ih

    left-lines : All (Found at (k - 1) 1) t.cells
        → line_notes H (split_left H.delta k t).cells ≡ gather (left_by H k at) (line_notes H t.cells)
    unfolding split_left left_of
    left-lines a =
        line_walk H le (solid_left H.delta z t s k).cells_pieced
        ∙ walk-keep H t.beats z le (λ b. ltb b k) (Found at (k - 1) 1) (left_by H k at) (left_cuts H t.beats z le k at)
        (cells_are (λ b. ltb b k) (Found at (k - 1) 1) a)
        ∙ ap (gather (left_by H k at)) (sym (line_walk H le s.cells_pieced))

    right-lines : All (Found at k 0) t.cells → line_notes H (split_right H.delta k t).cells ≡ gather (right_by H k at) (line_notes H t.cells)
    unfolding split_right right_of
    right-lines a =
        let kept = keep (λ (c : Cell). leb k c.beat) t.cells in
        line_walk H le (solid_right H.delta z t s k).cells_pieced
        ∙ walk-earlier H k kept false (all_imp (λ c. leb k c.beat ≡ true) (λ c. k ≤ c.beat) kept (λ c. leb-true k c.beat) (all-kept (λ c. leb k c.beat) t.cells))
        ∙ ap (map (back H k))
        (walk-keep H t.beats z le (λ b. leb k b) (Found at k 0) (stay_by H k at) (right_cuts H t.beats z le k at) (cells_are (λ b. leb k b) (Found at k 0) a))
        ∙ map-gather (back H k) (stay_by H k at) (walk H false t.cells)
        ∙ gather_same (λ n. map (back H k) (stay_by H k at n)) (right_by H k at) (walk H false t.cells) (stay_back H k at)
        ∙ ap (gather (right_by H k at)) (sym (line_walk H le s.cells_pieced))

    -- the notes of a half, by whatever finds the cells on the line
    pub left_by_lem : All (Found at (k - 1) 1) t.cells → notes_of H (split_left H.delta k t) ≡ gather (left_by H k at) (notes_of H t)
    unfolding notes_of split_left
    left_by_lem a =
        ap₂ merge (left-inner t.inner s.notes-inside (fair_long t.inner s.notes_fair)) (left-lines a)
        ∙ merged 0 (left_by H k at) (left-parts H k at)

    pub right_by_lem : All (Found at k 0) t.cells → notes_of H (split_right H.delta k t) ≡ gather (right_by H k at) (notes_of H t)
    unfolding notes_of split_right
    right_by_lem a =
        ap₂ merge (right-inner t.inner s.notes-inside (fair_long t.inner s.notes_fair)) (right-lines a)
        ∙ merged (k * H.delta) (right_by H k at) (right-parts H k at)

  -- ---- the two halves

  -- the notes of the left half: each note of the take, kept, dropped or cut
  pub left-notes : notes_of H (split_left H.delta k t) ≡ gather (cut_left H k t.cells) (notes_of H t)
  unfolding cut_left
  left-notes = left_by_lem (λ l. find_cell l (k - 1) 1 t.cells) (find_found H.delta (k - 1) 1 t.cells s.cells-apart)

  -- the same by one pass
  pub left_pass : notes_of H (split_left H.delta k t) ≡ cut_left_from H k (notes_of H t) t.cells
  unfolding cut_left_from left_by
  left_pass =
      left_by_lem (λ l. closing_cell (skip l (k - 1) t.cells)) (closing_found H.delta (k - 1) t.cells s.cells-apart)
      ∙ sym (from-gather (k * H.delta) (λ n. n ∷ []) (λ n. []) (cross_left H k) closing_cell (k - 1) (notes_of H t) t.cells note-lanes)

  pub right_pass : notes_of H (split_right H.delta k t) ≡ cut_right_from H k (notes_of H t) t.cells
  unfolding cut_right_from right_by
  right_pass =
      right_by_lem (λ l. first_cell (skip l k t.cells)) (opening_found H.delta k t.cells s.cells-apart)
      ∙ sym (from-gather (k * H.delta) (λ n. []) (λ n. note_back (k * H.delta) n ∷ []) (cross_right H k) first_cell k (notes_of H t) t.cells note-lanes)

-- ---- their cells

module _ (δ k : ℕ) (t : Take) where
  pub left_half-cells : (split_left δ k t).cells ≡ keep (λ c. ltb c.beat k) t.cells
  unfolding split_left left_of
  left_half-cells = refl

  pub right_half-cells : (split_right δ k t).cells ≡ gather (λ c. cons_if (leb k c.beat) (cell_to (c.beat - k) c) []) t.cells
  unfolding split_right right_of
  right_half-cells = map-keep (λ c. leb k c.beat) (λ c. cell_to (c.beat - k) c) t.cells

-- ---- a sound shelf

module _ (H : Header) (z : 0 < H.delta) (le : H.epsilon ≤ H.delta) (ws : List ℕ) (e : sound_shelf H ws ≡ true) (k : ℕ) where
  -- the notes of its halves, from its own notes and cells
  pub shelf-left : notes_of H (split_left H.delta k (take_in H.delta ws)) ≡ cut_left_from H k (notes_in ws) (cells_in ws)
  unfolding take_in
  shelf-left = left_pass H z le (take_in H.delta ws) (sound_solid H z ws e) k ∙ ap (λ (ns : List Note). cut_left_from H k ns (cells_in ws)) (sound-notes H z ws e)

  pub shelf-right : notes_of H (split_right H.delta k (take_in H.delta ws)) ≡ cut_right_from H k (notes_in ws) (cells_in ws)
  unfolding take_in
  shelf-right = right_pass H z le (take_in H.delta ws) (sound_solid H z ws e) k ∙ ap (λ (ns : List Note). cut_right_from H k ns (cells_in ws)) (sound-notes H z ws e)

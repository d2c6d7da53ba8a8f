-- Pieces and notes at the line of a split: they are cut as the beats on either side of it have them.
-- Assumes nothing.
use Rattle.std.specs.Prelude.{Bool, false, true, List, [], ◌∷◌, ◌≡◌, leb}
use Rattle.std.proofs.Math.Bool.{true≢false}
use Rattle.std.proofs.Math.Option.{Option, none, some}
use Rattle.std.proofs.Common.{◌∙◌, mul-le-mul_right, arith}
use Rattle.std.proofs.Math.Path.{ap, refl, sym}
use Prim.Native.Nat.{◌*◌, ◌-◌, ◌<◌, ◌≤◌, suc, ℕ}
use Rattle.std.proofs.Math.Decide.{dec_le}
use Rattle.std.proofs.Math.Dec.{ltb}
use borrow.Author.Tests.{eq-eqb, leb-false, leb-true, ltb-false, ltb-true}
use Rattle.model.specs.Binding.{bound_next, go_on, opening, stands_alone}
use Rattle.model.specs.Lists.{cons_if}
use Rattle.model.specs.declared.Cell.{Cell}
use Rattle.model.specs.declared.Header.{Header}
use Rattle.model.specs.declared.Note.{Note}
use Rattle.laws.specs.Booleans.{or_right}
use Rattle.laws.specs.CutLines.{AtEnd, AtSeam, Cells, Cuts, Front, Seam, by_piece, joined, put, seam}
use Rattle.laws.specs.Cutting.{Found, by_across, by_before, by_behind, cross_left, cut_by, left_by}
use Rattle.laws.specs.Notes.{note_same}
use Rattle.laws.specs.Walk.{walk}

-- ---- left of the line

lines : (δ a b : ℕ) → a ≤ b → a * δ ≤ b * δ
lines δ a b h = mul-le-mul_right δ h

module _ (H : Header) (k : ℕ) (at : ℕ → Option Cell) where
  pub left_in : (n : Note) → n.end ≤ k * H.delta → left_by H k at n ≡ n ∷ []
  unfolding left_by
  left_in n h = by_before (k * H.delta) (λ n. n ∷ []) (λ n. []) (cross_left H k) at n h

  pub left_out : (n : Note) → k * H.delta ≤ n.start → n.start < n.end → left_by H k at n ≡ []
  unfolding left_by
  left_out n h i = by_behind (k * H.delta) (λ n. n ∷ []) (λ n. []) (cross_left H k) at n (omega arith) h

  left_across : (n : Note) (c : Cell) → n.start < k * H.delta → k * H.delta < n.end → at n.lane ≡ some c
      → left_by H k at n ≡ cons_if (stands_alone H c) (record { lane = n.lane; start = n.start; end = k * H.delta; velocity = n.velocity }) []
  unfolding left_by cross_left
  left_across n c h i e = by_across (k * H.delta) (λ n. n ∷ []) (λ n. []) (cross_left H k) at n i h ∙ rw e

module _ (H : Header) (beats : ℕ) (z : 0 < H.delta) (le : H.epsilon ≤ H.delta) (k : ℕ) (at : ℕ → Option Cell) where
  abbrev LeftFront : Cell → Cell → List Cell → List Cell → Note → Type 0
  LeftFront c x cs rest n = Front H beats z le (λ b. ltb b k) (Found at (k - 1) 1) c x cs rest n

  abbrev LeftSeam : Cell → Cell → List Cell → Note → Cell → List Cell → Note → List Note → Type 0
  LeftSeam c x cs n r rs m ms = Seam H beats z le (λ b. ltb b k) (Found at (k - 1) 1) c x cs n r rs m ms

  abbrev LeftCells : List Cell → Type 0
  LeftCells cs = Cells H beats z le (λ b. ltb b k) (Found at (k - 1) 1) cs

  -- the closing cell at a seam on the line
  left_found : {c x : Cell} {cs : List Cell} {n : Note} {r : Cell} {rs : List Cell} {m : Note} {ms : List Note} → LeftSeam c x cs n r rs m ms
      → suc c.beat ≡ k → at n.lane ≡ some x
  left_found {c} {x} {cs} {n} s e =
      let b = s.front.beat_last in
      let l : x.lane ≡ n.lane = s.front.lane-last ∙ sym s.front.spans.is_lane in
      ap at (sym l) ∙ s.front.known_last (omega arith) s.closes

  -- A note that is there whenever its first cell goes on from one before it: it ends at the line or before it, or the cell there stands alone.
  data Ready (m : Note) : Type 0 where
    ends : m.end ≤ k * H.delta → Ready m
    goes : (c : Cell) → at m.lane ≡ some c → stands_alone H c ≡ true → Ready m

  abbrev FirstReady : List Note → Type 0
  FirstReady [] = Unit {0}
  FirstReady (m ∷ ms) = Ready m

  abbrev Readies : List Cell → Type 0
  Readies [] = Unit {0}
  Readies (c ∷ cs) = opening c ≡ true → c.beat < k → FirstReady (walk H true (c ∷ cs))

  ready_on : (c x : Cell) (cs rest : List Cell) (n : Note) → LeftFront c x cs rest n → Readies rest → opening c ≡ true → c.beat < k
      → bound_next H x rest ≡ true → FirstReady (go_on n (walk H true rest))
  ready_on c x cs [] n f ih o b e = absurd (unfold bound_next in true≢false (sym e))
  ready_on c x cs (r ∷ rs) n f ih o b e =
      let w = seam H beats z le (λ b. ltb b k) (Found at (k - 1) 1) c x cs n r rs f e in
      let s = w.2 in
      rw s.behind.held (elim (dec_le (suc r.beat) k) [
        | yes h ↦ longer w.0 s.one_lane (rw s.behind.held at (ih (eq-eqb r.side 0 s.opens) h))
        | no h ↦ goes x (left_found s (omega arith)) (f.steady o e)
      ])
    where
      longer : (m : Note) → m.lane ≡ n.lane → Ready m → Ready (joined n m)
      longer m l (ends h) = ends h
      longer m l (goes c h a) = goes c (ap at (sym l) ∙ h) a

  ready : {cs : List Cell} → LeftCells cs → Readies cs
  ready cs = by_piece H beats z le (λ b. ltb b k) (Found at (k - 1) 1) Readies tt (λ c x cs rest n f k ih. step c x cs rest n f ih) cs
    where
      step : (c x : Cell) (cs rest : List Cell) (n : Note) → LeftFront c x cs rest n → Readies rest → Readies (c ∷ cs)
      step c x cs rest n f ih o b = rw (f.walks true, or_right (stands_alone H x) {b = true} refl) (go (bound_next H x rest) refl)
        where
          go : (t : Bool) → bound_next H x rest ≡ t → FirstReady (put n t true (walk H t rest))
          go true e = ready_on c x cs rest n f ih o b e
          go false e = let m = lines H.delta (suc c.beat) k b in ends (omega arith)

  left_end : {c x : Cell} {cs rest : List Cell} {n : Note} → LeftFront c x cs rest n
      → AtEnd H beats z le (λ b. ltb b k) (Found at (k - 1) 1) (left_by H k at) c n
  left_end {c} {x} {cs} {rest} {n} f = record {
    kept_end = λ e. let h : c.beat < k = ltb-true c.beat k e in let m = lines H.delta (suc c.beat) k h in left_in H k at n (omega arith);
    dropped_end = λ e. let m = lines H.delta k c.beat (ltb-false c.beat k e) in left_out H k at n (omega arith) f.spans.is_fair.order;
  }

  left_both : {c x : Cell} {cs : List Cell} {n : Note} {r : Cell} {rs : List Cell} {m : Note} {ms : List Note} → LeftSeam c x cs n r rs m ms
      → ltb c.beat k ≡ true → ltb r.beat k ≡ true
      → (l : Note) × (left_by H k at m ≡ l ∷ []) × (left_by H k at (joined n m) ≡ joined n l ∷ [])
  left_both {c} {x} {cs} {n} {r} {rs} {m} {ms} s e u = elim (dec_le m.end (k * H.delta)) [
    | yes h ↦ (m, left_in H k at m h, left_in H k at (joined n m) h)
    | no h ↦ cross h (rw s.behind.held at (ready s.front.behind (eq-eqb r.side 0 s.opens) (ltb-true r.beat k u)))
  ]
    where
      cut : Note
      cut = record { lane = m.lane; start = m.start; end = k * H.delta; velocity = m.velocity }

      cross : (m.end ≤ k * H.delta → ⊥) → Ready m → (l : Note) × (left_by H k at m ≡ l ∷ []) × (left_by H k at (joined n m) ≡ joined n l ∷ [])
      cross h (ends i) = absurd (h i)
      cross h (goes y i a) =
          let b : r.beat < k = ltb-true r.beat k u in
          let t = lines H.delta (suc (suc c.beat)) k (omega arith) in
          let j : at n.lane ≡ some y = ap at (sym s.one_lane) ∙ i in
          (cut, left_across H k at m y (omega arith) (omega arith) i ∙ rw a, left_across H k at (joined n m) y (omega arith) (omega arith) j ∙ rw a)

  left_seam : {c x : Cell} {cs : List Cell} {n : Note} {r : Cell} {rs : List Cell} {m : Note} {ms : List Note} → LeftSeam c x cs n r rs m ms
      → AtSeam H beats z le (λ b. ltb b k) (Found at (k - 1) 1) (left_by H k at) c x r n m
  left_seam {c} {x} {cs} {n} {r} {rs} {m} {ms} s =
      record {
        kept-kept = λ e u. left_both s e u;
        kept_dropped = λ e u.
            let h : c.beat < k = ltb-true c.beat k e in
            let i : k ≤ r.beat = ltb-false r.beat k u in
            let j : suc c.beat ≡ k = omega arith in
            let l : suc c.beat * H.delta ≡ k * H.delta = ap (λ (b : ℕ). b * H.delta) j in (
              left_out H k at m (omega arith) s.behind.order,
              left_across H k at (joined n m) x (omega arith) (omega arith) (left_found s j)
                  ∙ ap (λ (v : Note). cons_if (stands_alone H x) v []) (note_same refl refl (omega arith) refl),
            );
        dropped_kept = λ e u. let h : k ≤ c.beat = ltb-false c.beat k e in let i : r.beat < k = ltb-true r.beat k u in absurd (omega arith);
        dropped_dropped = λ e u.
            let h = lines H.delta k (suc c.beat) (let h : k ≤ c.beat = ltb-false c.beat k e in omega arith) in
            let g = lines H.delta k c.beat (ltb-false c.beat k e) in
            left_out H k at (joined n m) (omega arith) (omega arith) ∙ sym (left_out H k at m (omega arith) s.behind.order);
      }

  pub left_cuts : Cuts H beats z le (λ b. ltb b k) (Found at (k - 1) 1) (left_by H k at)
  left_cuts = record { ends = left_end; seams = left_seam }

-- ---- right of the line, at the old place

-- What the right half has of a note, not yet moved.
unfoldable pub cross_stay : Header → ℕ → Note → Option Cell → List Note
cross_stay H k n none = []
cross_stay H k n (some c) = cons_if (stands_alone H c) (record { lane = n.lane; start = k * H.delta; end = n.end; velocity = c.velocity }) []

unfoldable pub stay_by : Header → ℕ → (ℕ → Option Cell) → Note → List Note
unfolding cut_by cross_stay
stay_by H k = cut_by (k * H.delta) (λ n. []) (λ n. n ∷ []) (cross_stay H k)

module _ (H : Header) (k : ℕ) (at : ℕ → Option Cell) where
  right_out : (n : Note) → n.end ≤ k * H.delta → stay_by H k at n ≡ []
  unfolding stay_by
  right_out n h = by_before (k * H.delta) (λ n. []) (λ n. n ∷ []) (cross_stay H k) at n h

  right_in : (n : Note) → k * H.delta ≤ n.start → n.start < n.end → stay_by H k at n ≡ n ∷ []
  unfolding stay_by
  right_in n h i = by_behind (k * H.delta) (λ n. []) (λ n. n ∷ []) (cross_stay H k) at n (omega arith) h

  right_across : (n : Note) → n.start < k * H.delta → k * H.delta < n.end → stay_by H k at n ≡ cross_stay H k n (at n.lane)
  unfolding stay_by
  right_across n h i = by_across (k * H.delta) (λ n. []) (λ n. n ∷ []) (cross_stay H k) at n i h

  -- only the lane and the end count
  cross_same : (m n : Note) → m.lane ≡ n.lane → m.end ≡ n.end → cross_stay H k m (at m.lane) ≡ cross_stay H k n (at n.lane)
  unfolding cross_stay
  cross_same m n l e = ap (λ (i : ℕ). cross_stay H k m (at i)) l ∙ go (at n.lane)
    where
      go : (o : Option Cell) → cross_stay H k m o ≡ cross_stay H k n o
      go none = refl
      go (some c) = ap (λ (v : Note). cons_if (stands_alone H c) v []) (note_same l refl e refl)

module _ (H : Header) (beats : ℕ) (z : 0 < H.delta) (le : H.epsilon ≤ H.delta) (k : ℕ) (at : ℕ → Option Cell) where
  abbrev RightFront : Cell → Cell → List Cell → List Cell → Note → Type 0
  RightFront c x cs rest n = Front H beats z le (λ b. leb k b) (Found at k 0) c x cs rest n

  abbrev RightSeam : Cell → Cell → List Cell → Note → Cell → List Cell → Note → List Note → Type 0
  RightSeam c x cs n r rs m ms = Seam H beats z le (λ b. leb k b) (Found at k 0) c x cs n r rs m ms

  right_end : {c x : Cell} {cs rest : List Cell} {n : Note} → RightFront c x cs rest n
      → AtEnd H beats z le (λ b. leb k b) (Found at k 0) (stay_by H k at) c n
  right_end {c} {x} {cs} {rest} {n} f =
      record {
        kept_end = λ e. let m = lines H.delta k c.beat (leb-true k c.beat e) in right_in H k at n (omega arith) f.spans.is_fair.order;
        dropped_end = λ e. let h : c.beat < k = leb-false k c.beat e in let m = lines H.delta (suc c.beat) k h in right_out H k at n (omega arith);
      }

  right_seam : {c x : Cell} {cs : List Cell} {n : Note} {r : Cell} {rs : List Cell} {m : Note} {ms : List Note} → RightSeam c x cs n r rs m ms
      → AtSeam H beats z le (λ b. leb k b) (Found at k 0) (stay_by H k at) c x r n m
  unfolding cross_stay
  right_seam {c} {x} {cs} {n} {r} {rs} {m} {ms} s =
      record {
        kept-kept = λ e u.
            let g = lines H.delta k c.beat (leb-true k c.beat e) in
            (m, right_in H k at m (omega arith) s.behind.order, right_in H k at (joined n m) (omega arith) (omega arith));
        kept_dropped = λ e u. let h : k ≤ c.beat = leb-true k c.beat e in let i : r.beat < k = leb-false k r.beat u in absurd (omega arith);
        dropped_kept = λ e u.
            let h : c.beat < k = leb-false k c.beat e in
            let i : k ≤ r.beat = leb-true k r.beat u in
            let l : suc c.beat * H.delta ≡ k * H.delta = ap (λ (b : ℕ). b * H.delta) (omega arith) in
            let o : at n.lane ≡ some r = ap at (sym s.one_lane ∙ s.behind.lane_is) ∙ s.front.behind.all_known.0 (omega arith) s.opens in (
              right_in H k at m (omega arith) s.behind.order,
              right_across H k at (joined n m) (omega arith) (omega arith)
                  ∙ rw o (ap (λ (v : Note). cons_if (stands_alone H r) v []) (note_same (sym s.one_lane) (omega arith) refl (sym s.behind.velocity_is))),
            );
        dropped_dropped = λ e u.
            let i : r.beat < k = leb-false k r.beat u in
            let h = lines H.delta (suc (suc c.beat)) k (omega arith) in
            elim (dec_le m.end (k * H.delta)) [
              | yes j ↦ right_out H k at (joined n m) j ∙ sym (right_out H k at m j)
              | no j ↦
                  right_across H k at (joined n m) (omega arith) (omega arith) ∙ cross_same H k at (joined n m) m (sym s.one_lane) refl
                  ∙ sym (right_across H k at m (omega arith) (omega arith))
            ];
      }

  pub right_cuts : Cuts H beats z le (λ b. leb k b) (Found at k 0) (stay_by H k at)
  right_cuts = record { ends = right_end; seams = right_seam }

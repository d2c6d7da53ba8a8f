-- The cells of one note, and of a recording: a valid recording's take is solid.
-- Assumes nothing.
use Rattle.std.specs.Prelude.{Bool, ◌≡◌}
use Rattle.std.proofs.Math.Bool.{false, true}
use Rattle.std.proofs.Common.{true≢false, ◌∙◌, ap, sym, mul-le-mul_right, arith}
use mathlib.Core.List.{List, [], ◌++◌, ◌∷◌}
use Rattle.std.proofs.Math.Path.{refl}
use Prim.Native.Nat.{◌*◌, ◌+◌, ◌-◌, ◌/◌, ◌<◌, ◌≤◌, suc, zero, ℕ}
use Rattle.std.proofs.Math.Decide.{dec_le, ℕ_discrete}
use Rattle.std.proofs.Math.Dec.{leb}
use borrow.Author.Tests.{eq-eqb, le-leb, leb-false, leb-true, lt-leb, ne_eqb}
use Rattle.model.specs.Binding.{fills, opening}
use Rattle.model.specs.Histories.{Recording, recording_take}
use Rattle.model.specs.Limits.{velocity_ok}
use Rattle.model.specs.Lists.{cons_if, count_from, gather, keep}
use Rattle.model.specs.Pieces.{cell_at, cells_in_beat, cells_of_note, first_beat, inside}
use Rattle.model.specs.Soundness.{filled, notes_ok}
use Rattle.model.specs.declared.Cell.{Cell}
use Rattle.model.specs.declared.Note.{Note}
use Rattle.laws.specs.Beats.{div_mono, high, inside_high, inside_low, low}
use Rattle.laws.specs.Healing.{no_cells}
use Rattle.laws.specs.Notes.{Fair, Follow, above, fair_notes, later, ok_pairs}
use Rattle.laws.specs.Relations.{All, Pairs, all-all, all_append, all-cons_if, all-count, all_imp, all_keep, all-kept, pairs-append, pairs-keep}
use Rattle.laws.specs.Rules.{Pair, Pieced, double, single, stop}
use Rattle.laws.specs.Solid.{Apart, Clear, Fine, Solid, beat_up, lane_up, side_up}

-- ---- what keeps cells in pieces

module _ (δ : ℕ) where
  pub pieced_append : {xs ys : List Cell} → Pieced δ xs → Pieced δ ys → Pieced δ (xs ++ ys)
  pieced_append stop q = q
  pieced_append (single f g p) q = single f g (pieced_append p q)
  pieced_append (double h p) q = double h (pieced_append p q)

  -- f keeps the pair, or drops both
  pub pieced_keep : (t : Cell → Bool) → ((c d : Cell) → Pair δ c d → t d ≡ t c) → {xs : List Cell} → Pieced δ xs → Pieced δ (keep t xs)
  pieced_keep t h stop = stop
  pieced_keep t h (single {c = c} {cs = cs} f g p) = go (t c) (pieced_keep t h p)
    where
      go : (b : Bool) → Pieced δ (keep t cs) → Pieced δ (cons_if b c (keep t cs))
      go true r = single f g r
      go false r = r
  pieced_keep t h (double {c = c} {d = d} {cs = cs} q p) = rw (h c d q) (go (t c) (pieced_keep t h p))
    where
      go : (b : Bool) → Pieced δ (keep t cs) → Pieced δ (cons_if b c (cons_if b d (keep t cs)))
      go true r = double q r
      go false r = r

  pub pieced_count : (f : ℕ → List Cell) (n i : ℕ) → ((k : ℕ) → i ≤ k → k < i + n → Pieced δ (f k)) → Pieced δ (gather f (count_from n i))
  pieced_count f zero i h = stop
  pieced_count f (suc n) i h = pieced_append (h i (omega arith) (omega arith)) (pieced_count f n (suc i) (λ k a b. h k (omega arith) (omega arith)))

-- ---- a note's cells in numbers

record OpenOf (δ : ℕ) (n : Note) (c : Cell) : Type 0 where
  lane_is : c.lane ≡ n.lane
  side_is : c.side ≡ 0
  start_is : c.before + n.start ≡ c.beat * δ
  end_is : c.beat * δ + c.after ≡ n.end
  ticks : 0 < c.after
  velocity_is : c.velocity ≡ n.velocity

record CloseOf (δ : ℕ) (n : Note) (c : Cell) : Type 0 where
  lane_is : c.lane ≡ n.lane
  side_is : c.side ≡ 1
  start_is : c.before + n.start ≡ suc c.beat * δ
  end_is : suc c.beat * δ + c.after ≡ n.end
  ticks : 0 < c.before
  velocity_is : c.velocity ≡ n.velocity

data Of (δ : ℕ) (n : Note) (c : Cell) : Type 0 where
  opens : OpenOf δ n c → Of δ n c
  closes : CloseOf δ n c → Of δ n c

-- A cell of the note, in beats from low to high.
record In (n : Note) (low high : ℕ) (c : Cell) : Type 0 where
  lane_is : c.lane ≡ n.lane
  from : low ≤ c.beat
  upto : c.beat ≤ high

-- A recording that lay accepts: its beats within the limit, its notes in range and in order.
abbrev pub Valid : ℕ → Recording → Type 0
Valid δ r = (r.beats ≤ 4096) × (notes_ok δ r.beats r.notes ≡ true)

module _ (δ : ℕ) (z : 0 < δ) where
  -- the ticks of the beats that a note has pieces in
  beat_low : (n : Note) (b : ℕ) → n.start / δ ≤ b → n.start < suc b * δ
  beat_low n b h = let l : n.start < suc (n.start / δ) * δ = high δ z n.start in let m : suc (n.start / δ) * δ ≤ suc b * δ = mul-le-mul_right δ (omega arith) in omega arith

  beat_high : (n : Note) (b : ℕ) → n.start < n.end → b ≤ (n.end - 1) / δ → b * δ < n.end
  beat_high n b v h = let l : (n.end - 1) / δ * δ ≤ n.end - 1 = low δ (n.end - 1) in let m : b * δ ≤ (n.end - 1) / δ * δ = mul-le-mul_right δ h in omega arith

  of_beat : (n : Note) (b : ℕ) → n.start < suc b * δ → b * δ < n.end → All (Of δ n) (cells_in_beat δ n b)
  unfolding cells_in_beat
  of_beat n b l h =
      all-cons_if (Of δ n) (leb n.start (b * δ)) (cell_at n b 0 (b * δ)) _
      (λ e. let a : n.start ≤ b * δ = leb-true n.start (b * δ) e in opens (record { lane_is = refl; side_is = refl; start_is = omega arith; end_is = omega arith; ticks = omega arith; velocity_is = refl }))
      (all-cons_if (Of δ n) (leb (suc b * δ) n.end) (cell_at n b 1 (suc b * δ)) []
      (λ e. let a : suc b * δ ≤ n.end = leb-true (suc b * δ) n.end e in closes (record { lane_is = refl; side_is = refl; start_is = omega arith; end_is = omega arith; ticks = omega arith; velocity_is = refl })) tt)

  last_beat : (n : Note) → n.start < n.end → n.start / δ ≤ (n.end - 1) / δ
  last_beat n v = div_mono δ z n.start (n.end - 1) (omega arith)

  of_note : (n : Note) → n.start < n.end → All (Of δ n) (cells_of_note δ n)
  unfolding cells_of_note
  of_note n v =
      let m = last_beat n v in
      all-count (Of δ n) (cells_in_beat δ n) (suc ((n.end - 1) / δ) - n.start / δ) (n.start / δ) (λ b c d. of_beat n b (beat_low n b c) (beat_high n b v (omega arith)))

  -- what a cell has of its note, whichever line it is on
  record Bounds (n : Note) (c : Cell) : Type 0 where
    lane_is : c.lane ≡ n.lane
    velocity_is : c.velocity ≡ n.velocity
    side_is : c.side ≤ 1
    low_is : c.beat * δ < n.end
    high_is : n.start < suc c.beat * δ
    sum_is : c.before + c.after ≤ n.end
    open_ticks : opening c ≡ true → 0 < c.after
    close_ticks : opening c ≡ false → 0 < c.before

  bounds : (n : Note) (c : Cell) → Of δ n c → Bounds n c
  bounds n c (opens o) =
      let st = o.start_is in let en = o.end_is in let ti = o.ticks in let si = o.side_is in
      record {
        lane_is = o.lane_is;
        velocity_is = o.velocity_is;
        side_is = omega arith;
        low_is = omega arith;
        high_is = omega arith;
        sum_is = omega arith;
        open_ticks = λ x. ti;
        close_ticks = λ x. absurd (true≢false (sym (eq-eqb c.side 0 si) ∙ x));
      }
  bounds n c (closes o) =
      let st = o.start_is in let en = o.end_is in let ti = o.ticks in let si = o.side_is in
      record {
        lane_is = o.lane_is;
        velocity_is = o.velocity_is;
        side_is = omega arith;
        low_is = omega arith;
        high_is = omega arith;
        sum_is = omega arith;
        open_ticks = λ x. absurd (true≢false (sym x ∙ ne_eqb c.side 0 (omega arith)));
        close_ticks = λ x. ti;
      }

  -- range
  of_fine : (beats : ℕ) → beats ≤ 4096 → (n : Note) → Fair δ beats n → (c : Cell) → Of δ n c → Fine δ beats c
  of_fine beats w n f c o =
      let x : Bounds n c = bounds n c o in
      let e : n.end ≤ beats * δ = f.fits in
      let m : beats * δ ≤ 4096 * δ = mul-le-mul_right δ w in
      let l = x.lane_is in let fl = f.lane_below in let lo = x.low_is in let su = x.sum_is in
      let v : velocity_ok n.lane n.velocity ≡ true = f.loud in
      record {
        lane_below = omega arith;
        beat_below = elim (dec_le (suc c.beat) beats) [ yes h ↦ h | no h ↦ let k : beats * δ ≤ c.beat * δ = mul-le-mul_right δ (omega arith) in absurd (omega arith) ];
        side_below = x.side_is;
        loud = rw (l, x.velocity_is) v;
        sum = omega arith;
        open_ticks = x.open_ticks;
        close_ticks = x.close_ticks;
      }

  -- pieces
  pieced_beat : (n : Note) (b : ℕ) → n.start < suc b * δ → b * δ < n.end → Pieced δ (cells_in_beat δ n b)
  unfolding cells_in_beat fills filled
  pieced_beat n b l h = go (leb n.start (b * δ)) (leb (suc b * δ) n.end) refl refl
    where
      go : (t u : Bool) → leb n.start (b * δ) ≡ t → leb (suc b * δ) n.end ≡ u
          → Pieced δ (cons_if t (cell_at n b 0 (b * δ)) (cons_if u (cell_at n b 1 (suc b * δ)) []))
      go true true e g =
          let a : n.start ≤ b * δ = leb-true n.start (b * δ) e in
          let d : suc b * δ ≤ n.end = leb-true (suc b * δ) n.end g in
          double {c = cell_at n b 0 (b * δ)} {d = cell_at n b 1 (suc b * δ)} (record { lane_same = refl; beat_same = refl; opens = refl; closes = refl; long = omega arith; before_is = omega arith; after_is = omega arith; velocity_same = refl }) stop
      go true false e g =
          let d : n.end < suc b * δ = leb-false (suc b * δ) n.end g in
          single {c = cell_at n b 0 (b * δ)} (lt-leb δ (n.end - b * δ) (omega arith)) refl stop
      go false true e g =
          let a : b * δ < n.start = leb-false n.start (b * δ) e in
          single {c = cell_at n b 1 (suc b * δ)} refl (lt-leb δ (suc b * δ - n.start) (omega arith)) stop
      go false false e g = stop

  pieced_note : (n : Note) → n.start < n.end → Pieced δ (cells_of_note δ n)
  unfolding cells_of_note
  pieced_note n v =
      let m = last_beat n v in
      pieced_count δ (cells_in_beat δ n) (suc ((n.end - 1) / δ) - n.start / δ) (n.start / δ) (λ b c d. pieced_beat n b (beat_low n b c) (beat_high n b v (omega arith)))

  pieced_notes : (ns : List Note) → All (λ n. n.start < n.end) ns → Pieced δ (gather (cells_of_note δ) ns)
  pieced_notes [] v = stop
  pieced_notes (n ∷ ns) v = pieced_append δ (pieced_note n v.0) (pieced_notes ns v.1)

  in_beat : (n : Note) (low high b : ℕ) → low ≤ b → b ≤ high → All (In n low high) (cells_in_beat δ n b)
  unfolding cells_in_beat
  in_beat n low high b h k =
      let i : In n low high (cell_at n b 0 (b * δ)) = record { lane_is = refl; from = h; upto = k } in
      let j : In n low high (cell_at n b 1 (suc b * δ)) = record { lane_is = refl; from = h; upto = k } in
      all-cons_if (In n low high) (leb n.start (b * δ)) (cell_at n b 0 (b * δ)) _ (λ e. i)
      (all-cons_if (In n low high) (leb (suc b * δ) n.end) (cell_at n b 1 (suc b * δ)) [] (λ e. j) tt)

  -- order within a note
  apart_beat : (n : Note) (b : ℕ) → Pairs (Apart δ) (cells_in_beat δ n b)
  unfolding cells_in_beat fills
  apart_beat n b = go (leb n.start (b * δ)) (leb (suc b * δ) n.end) refl
    where
      go : (t u : Bool) → leb (suc b * δ) n.end ≡ u → Pairs (Apart δ) (cons_if t (cell_at n b 0 (b * δ)) (cons_if u (cell_at n b 1 (suc b * δ)) []))
      go true true g =
          let d : suc b * δ ≤ n.end = leb-true (suc b * δ) n.end g in
          ((side_up refl refl refl refl (λ f. absurd (true≢false (sym (le-leb δ (n.end - b * δ) (omega arith)) ∙ f))), tt), (tt, tt))
      go true false g = (tt, tt)
      go false true g = (tt, tt)
      go false false g = tt

  apart-count : (n : Note) (k i : ℕ) → Pairs (Apart δ) (gather (cells_in_beat δ n) (count_from k i))
  apart-count n zero i = tt
  apart-count n (suc k) i =
      pairs-append (Apart δ) (cells_in_beat δ n i) (gather (cells_in_beat δ n) (count_from k (suc i))) (apart_beat n i) (apart-count n k (suc i))
      (all-all (In n i i) (In n (suc i) (i + k)) (Apart δ) (cells_in_beat δ n i) (gather (cells_in_beat δ n) (count_from k (suc i)))
      (λ c d p q. let a = p.lane_is in let b = q.lane_is in let e = p.upto in let f = q.from in beat_up (omega arith) (omega arith))
      (in_beat n i i i (omega arith) (omega arith))
      (all-count (In n (suc i) (i + k)) (cells_in_beat δ n) k (suc i) (λ b c d. in_beat n (suc i) (i + k) b (omega arith) (omega arith))))

  apart-note : (n : Note) → Pairs (Apart δ) (cells_of_note δ n)
  unfolding cells_of_note
  apart-note n = apart-count n (suc ((n.end - 1) / δ) - n.start / δ) (n.start / δ)

  -- order of two notes' cells
  same_beat : (n m : Note) (c d : Cell) → n.lane ≡ m.lane → n.end ≤ m.start → c.beat ≡ d.beat → Of δ n c → Of δ m d → Apart δ c d
  same_beat n m c d l h b (opens o) (opens p) =
      let k : c.beat * δ ≡ d.beat * δ = ap (λ (i : ℕ). i * δ) b in
      let oe = o.end_is in let ot = o.ticks in let ps = p.start_is in absurd (omega arith)
  same_beat n m c d l h b (opens o) (closes p) =
      let k : c.beat * δ ≡ d.beat * δ = ap (λ (i : ℕ). i * δ) b in
      let oe = o.end_is in let ol = o.lane_is in let pl = p.lane_is in let ps = p.start_is in
      side_up (omega arith) b o.side_is p.side_is (λ f. omega arith)
  same_beat n m c d l h b (closes o) q =
      let k : c.beat * δ ≡ d.beat * δ = ap (λ (i : ℕ). i * δ) b in
      let oe = o.end_is in let hi : m.start < suc d.beat * δ = (bounds m d q).high_is in absurd (omega arith)

  apart_two : (n m : Note) → Follow n m → (c d : Cell) → Of δ n c → Of δ m d → Apart δ c d
  apart_two n m (above a) c d o p = let x = (bounds n c o).lane_is in let y = (bounds m d p).lane_is in lane_up (omega arith)
  apart_two n m (later a h) c d o p =
      let x : Bounds n c = bounds n c o in
      let y : Bounds m d = bounds m d p in
      let xl = x.lane_is in let yl = y.lane_is in let xo = x.low_is in let yh = y.high_is in
      elim (ℕ_discrete c.beat d.beat) [
        | yes e ↦ same_beat n m c d a h e o p
        | no e ↦ elim (dec_le (suc c.beat) d.beat) [
          | yes l ↦ beat_up (omega arith) l
          | no l ↦ let k : suc d.beat * δ ≤ c.beat * δ = mul-le-mul_right δ (omega arith) in absurd (omega arith)
        ]
      ]

  of_behind : (P : Cell → Type 0) (n : Note) (ms : List Note) → All (λ m. m.start < m.end) ms → All (Follow n) ms
      → ((m : Note) (c : Cell) → Follow n m → Of δ m c → P c) → All P (gather (cells_of_note δ) ms)
  of_behind P n [] v f h = tt
  of_behind P n (m ∷ ms) v f h = all_append P (cells_of_note δ m) (gather (cells_of_note δ) ms) (all_imp (Of δ m) P (cells_of_note δ m) (λ c o. h m c f.0 o) (of_note m v.0)) (of_behind P n ms v.1 f.1 h)

  apart-notes : (ns : List Note) → All (λ n. n.start < n.end) ns → Pairs Follow ns → Pairs (Apart δ) (gather (cells_of_note δ) ns)
  apart-notes [] v s = tt
  apart-notes (n ∷ ns) v s =
      pairs-append (Apart δ) (cells_of_note δ n) (gather (cells_of_note δ) ns) (apart-note n) (apart-notes ns v.1 s.1)
      (all_imp (Of δ n) (λ c. All (Apart δ c) (gather (cells_of_note δ) ns)) (cells_of_note δ n)
      (λ c o. of_behind (Apart δ c) n ns v.1 s.0 (λ m d f p. apart_two n m f c d o p)) (of_note n v.0))

  fine_notes : (beats : ℕ) → beats ≤ 4096 → (ns : List Note) → All (Fair δ beats) ns → All (Fine δ beats) (gather (cells_of_note δ) ns)
  fine_notes beats w [] f = tt
  fine_notes beats w (n ∷ ns) f =
      all_append (Fine δ beats) (cells_of_note δ n) (gather (cells_of_note δ) ns) (all_imp (Of δ n) (Fine δ beats) (cells_of_note δ n) (of_fine beats w n f.0) (of_note n f.0.order)) (fine_notes beats w ns f.1)

  -- an inner note and the cells of the notes behind it, and before it
  clear_behind : (n m : Note) (c : Cell) → inside δ n ≡ true → n.start < n.end → Follow n m → Of δ m c → Clear δ n c
  clear_behind n m c i v (above a) o = let x = (bounds m c o).lane_is in record { behind = λ l b e. absurd (omega arith); before = λ l b e. absurd (omega arith) }
  clear_behind n m c i v (later a h) (opens o) =
      let w : first_beat δ n * δ < n.start = inside_low δ n i in
      let st = o.start_is in
      record {
        behind = λ l b e. let k : first_beat δ n * δ ≡ c.beat * δ = ap (λ (j : ℕ). j * δ) b in absurd (omega arith);
        before = λ l b e. absurd (true≢false (sym (eq-eqb c.side 0 o.side_is) ∙ e));
      }
  clear_behind n m c i v (later a h) (closes o) =
      let st = o.start_is in
      let si = o.side_is in
      record {
        behind = λ l b e. absurd (true≢false (sym e ∙ ne_eqb c.side 0 (omega arith)));
        before = λ l b e. omega arith;
      }

  clear-before : (n m : Note) (c : Cell) → inside δ n ≡ true → n.start < n.end → Follow m n → Of δ m c → Clear δ n c
  clear-before n m c i v (above a) o = let x = (bounds m c o).lane_is in record { behind = λ l b e. absurd (omega arith); before = λ l b e. absurd (omega arith) }
  clear-before n m c i v (later a h) (opens o) =
      let en = o.end_is in
      record {
        behind = λ l b e. omega arith;
        before = λ l b e. absurd (true≢false (sym (eq-eqb c.side 0 o.side_is) ∙ e));
      }
  clear-before n m c i v (later a h) (closes o) =
      let w : n.end < suc (first_beat δ n) * δ = inside_high δ n i in
      let en = o.end_is in
      let si = o.side_is in
      record {
        behind = λ l b e. absurd (true≢false (sym e ∙ ne_eqb c.side 0 (omega arith)));
        before = λ l b e. let k : first_beat δ n * δ ≡ c.beat * δ = ap (λ (j : ℕ). j * δ) b in absurd (omega arith);
      }

  clears : (ns : List Note) → All (λ n. n.start < n.end) ns → Pairs Follow ns
      → All (λ n. All (Clear δ n) (gather (cells_of_note δ) ns)) (keep (inside δ) ns)
  clears [] v s = tt
  clears (n ∷ ns) v s =
      all-cons_if (λ n'. All (Clear δ n') (cells_of_note δ n ++ gather (cells_of_note δ) ns)) (inside δ n) n (keep (inside δ) ns)
      (λ e. all_append (Clear δ n) (cells_of_note δ n) (gather (cells_of_note δ) ns) (rw (no_cells δ z n v.0 e) tt) (of_behind (Clear δ n) n ns v.1 s.0 (λ m c f o. clear_behind n m c e v.0 f o)))
      (old ns v.1 s.0 (clears ns v.1 s.1))
    where
      old : (ms : List Note) → All (λ m. m.start < m.end) ms → All (Follow n) ms
          → All (λ n'. All (Clear δ n') (gather (cells_of_note δ) ns)) (keep (inside δ) ms)
          → All (λ n'. All (Clear δ n') (cells_of_note δ n ++ gather (cells_of_note δ) ns)) (keep (inside δ) ms)
      old [] w f a = tt
      old (m ∷ ms) w f a = go (inside δ m) refl a (old ms w.1 f.1)
        where
          go : (b : Bool) → inside δ m ≡ b → All (λ n'. All (Clear δ n') (gather (cells_of_note δ) ns)) (cons_if b m (keep (inside δ) ms))
              → (All (λ n'. All (Clear δ n') (gather (cells_of_note δ) ns)) (keep (inside δ) ms) → All (λ n'. All (Clear δ n') (cells_of_note δ n ++ gather (cells_of_note δ) ns)) (keep (inside δ) ms))
              → All (λ n'. All (Clear δ n') (cells_of_note δ n ++ gather (cells_of_note δ) ns)) (cons_if b m (keep (inside δ) ms))
          go true e k r =
              (all_append (Clear δ m) (cells_of_note δ n) (gather (cells_of_note δ) ns) (all_imp (Of δ n) (Clear δ m) (cells_of_note δ n) (λ c o. clear-before m n c e w.0 f.0 o) (of_note n v.0)) k.0, r k.1)
          go false e k r = r k

  -- a valid recording's take is solid
  pub solid_recording : (r : Recording) → r.beats ≤ 4096 → notes_ok δ r.beats r.notes ≡ true → Solid δ (recording_take δ r)
  unfolding recording_take
  solid_recording r w e =
      let f : All (Fair δ r.beats) r.notes = fair_notes δ r.beats r.notes e in
      let v : All (λ (n : Note). n.start < n.end) r.notes = all_imp (Fair δ r.beats) (λ n. n.start < n.end) r.notes (λ n k. k.order) f in
      let s : Pairs Follow r.notes = ok_pairs δ r.beats r.notes e in
      record {
        notes_fair = all_keep (Fair δ r.beats) (inside δ) r.notes f;
        notes-inside = all-kept (inside δ) r.notes;
        notes-apart = pairs-keep Follow (inside δ) r.notes s;
        cells_fine = fine_notes r.beats w r.notes f;
        cells_pieced = pieced_notes r.notes v;
        cells-apart = apart-notes r.notes v s;
        all-clear = clears r.notes v s;
      }

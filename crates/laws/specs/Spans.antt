-- The ticks of a cell's piece, and of the two cells of a piece that fills its beat: they lie in their beat, in order, and clear of inner notes.
-- Assumes nothing.
use Rattle.std.specs.Prelude.{Bool, List, ◌∷◌, ◌≡◌}
use Rattle.std.proofs.Math.Bool.{false, true}
use Rattle.std.proofs.Common.{ap, sym, mul-le-mul_right}
use Rattle.std.proofs.Math.Path.{refl}
use Prim.Native.Nat.{◌*◌, ◌+◌, ◌<◌, ◌≤◌, suc, ℕ}
use Rattle.std.proofs.Math.Decide.{dec_le, ℕ_discrete}
use native.Mathlib.Omega.{arith}
use borrow.Author.Tests.{eq-eqb, leb-false, ne_eqb}
use Rattle.model.specs.Binding.{end_of, fills, opening, start_of}
use Rattle.model.specs.Pieces.{first_beat}
use Rattle.model.specs.Soundness.{filled}
use Rattle.model.specs.declared.Cell.{Cell}
use Rattle.model.specs.declared.Note.{Note}
use Rattle.laws.specs.Notes.{Away, Fair, above, later, left, right}
use Rattle.laws.specs.Rules.{Pair, Pieced, double, own, pair_close, pair_open, single, span}
use Rattle.laws.specs.Solid.{Apart, Clear, Fine, beat_up, lane_up, side_up}

module _ (δ beats : ℕ) (z : 0 < δ) where
  -- a piece's ticks
  pub record Spans (c : Cell) (p : Note) : Type 0 where
    pub is_lane : p.lane ≡ c.lane
    pub is_start : p.start ≡ start_of δ c
    pub is_fair : Fair δ beats p
    pub from : c.beat * δ ≤ p.start
    pub upto : p.end ≤ suc c.beat * δ

  beats_mul : (a b : ℕ) → a < b → suc a * δ ≤ b * δ
  beats_mul a b h = mul-le-mul_right δ h

  pub spans_single : (c : Cell) → fills δ c ≡ false → filled δ c ≡ false → Fine δ beats c → Spans c (own δ c)
  unfolding fills filled own start_of end_of
  spans_single c f g k = go (opening c) refl
    where
      lim : suc c.beat * δ ≤ beats * δ
      lim = beats_mul c.beat beats k.beat_below

      go : (o : Bool) → opening c ≡ o → Spans c (own δ c)
      go true e =
          let a : 0 < c.after = k.open_ticks e in
          let m : suc c.beat * δ ≤ beats * δ = lim in
          let b : c.after < δ = leb-false δ c.after (rw e at f) in
          rw e (record {
            is_lane = refl;
            is_start = rw e;
            is_fair = record { lane_below = k.lane_below; order = omega arith; fits = omega arith; loud = k.loud };
            from = omega arith;
            upto = omega arith;
          })
      go false e =
          let a : 0 < c.before = k.close_ticks e in
          let m : suc c.beat * δ ≤ beats * δ = lim in
          let b : c.before < δ = leb-false δ c.before (rw e at g) in
          rw e (record {
            is_lane = refl;
            is_start = rw e;
            is_fair = record { lane_below = k.lane_below; order = omega arith; fits = omega arith; loud = k.loud };
            from = omega arith;
            upto = omega arith;
          })

  pub spans_double : (c d : Cell) → Pair δ c d → Fine δ beats c → Spans c (span δ c d)
  unfolding start_of end_of
  spans_double c d q k =
      let lim : suc c.beat * δ ≤ beats * δ = beats_mul c.beat beats k.beat_below in
      rw (pair_open δ c d q, pair_close δ c d q, q.beat_same) (record {
        is_lane = refl;
        is_start = rw (pair_open δ c d q);
        is_fair = record { lane_below = k.lane_below; order = omega arith; fits = omega arith; loud = k.loud };
        from = omega arith;
        upto = omega arith;
      })

  -- where the first cell behind starts
  pub first-from : {e : Cell} {es : List Cell} → Pieced δ (e ∷ es) → Fine δ beats e → e.beat * δ ≤ start_of δ e
  first-from {e} (single f g p) k = let r = (spans_single e f g k).from in rw (spans_single e f g k).is_start at r
  first-from (double {c = c} {d = d} q p) k = (spans_double c d q k).from

  side_lines : (c e : Cell) → c.beat ≡ e.beat → c.side ≡ 0 → e.side ≡ 1 → c.after + e.before ≤ δ → end_of δ c ≤ start_of δ e
  unfolding start_of end_of
  side_lines c e b o p j = rw (eq-eqb c.side 0 o, ne_eqb e.side 0 (omega arith), b) (omega arith)

  pub single_gap : (c e : Cell) → fills δ c ≡ false → filled δ c ≡ false → Fine δ beats c → e.beat * δ ≤ start_of δ e → Apart δ c e
      → (c.lane ≤ e.lane) × (e.lane ≡ c.lane → end_of δ c ≤ start_of δ e)
  single_gap c e f g k h (lane_up a) = (omega arith, λ q. absurd (omega arith))
  single_gap c e f g k h (beat_up a b) =
      let u : end_of δ c ≤ suc c.beat * δ = let r = (spans_single c f g k).upto in unfold own in r in
      let m : suc c.beat * δ ≤ e.beat * δ = beats_mul c.beat e.beat b in
      (omega arith, λ q. omega arith)
  single_gap c e f g k h (side_up a b o p i) = (omega arith, λ q. side_lines c e b o p (i f))

  pub double_gap : (c d e : Cell) → Pair δ c d → Fine δ beats c → e.beat * δ ≤ start_of δ e → Apart δ d e
      → (c.lane ≤ e.lane) × (e.lane ≡ c.lane → end_of δ d ≤ start_of δ e)
  double_gap c d e q k h (lane_up a) = let l = q.lane_same in (omega arith, λ r. absurd (omega arith))
  double_gap c d e q k h (beat_up a b) =
      let l = q.lane_same in
      let u : end_of δ d ≤ suc c.beat * δ = (spans_double c d q k).upto in
      let m : suc d.beat * δ ≤ e.beat * δ = beats_mul d.beat e.beat b in
      let v : suc d.beat * δ ≡ suc c.beat * δ = ap (λ (b : ℕ). suc b * δ) q.beat_same in
      (omega arith, λ r. omega arith)
  double_gap c d e q k h (side_up a b o p i) = let s = q.closes in absurd (omega arith)

  -- ---- an inner note and a piece

  module _ (n : Note) (v : n.start < n.end) (low : first_beat δ n * δ ≤ n.start) (high : n.end ≤ suc (first_beat δ n) * δ) where
    away_span : (c : Cell) (p : Note) → Spans c p → (n.lane ≡ c.lane → first_beat δ n ≡ c.beat → Away n p) → Away n p
    away_span c p s h = elim (ℕ_discrete n.lane c.lane) [
      | yes e ↦ elim (ℕ_discrete (first_beat δ n) c.beat) [
        | yes g ↦ h e g
        | no g ↦ elim (dec_le (suc (first_beat δ n)) c.beat) [
          | yes l ↦ let m = beats_mul (first_beat δ n) c.beat l in let il = s.is_lane in let fr = s.from in left (later (omega arith) (omega arith))
          | no l ↦ let m = beats_mul c.beat (first_beat δ n) (omega arith) in let il = s.is_lane in let ut = s.upto in right (later (omega arith) (omega arith))
        ]
      ]
      | no d ↦ elim (dec_le (suc n.lane) c.lane) [
        | yes l ↦ let il = s.is_lane in left (above (omega arith))
        | no l ↦ let il = s.is_lane in right (above (omega arith))
      ]
    ]

    pub away_single : (c : Cell) → fills δ c ≡ false → filled δ c ≡ false → Fine δ beats c → Clear δ n c → Away n (own δ c)
    unfolding own start_of end_of
    away_single c f g k w = away_span c (own δ c) (spans_single c f g k) (λ l b. go (opening c) refl l b)
      where
        go : (o : Bool) → opening c ≡ o → n.lane ≡ c.lane → first_beat δ n ≡ c.beat → Away n (own δ c)
        go true e l b = let x = w.behind l b e in rw e (right (later (sym l) x))
        go false e l b = let x = w.before l b e in rw e (left (later l (omega arith)))

    pub away_double : (c d : Cell) → Pair δ c d → Fine δ beats c → Clear δ n c → Away n (span δ c d)
    away_double c d q k w = away_span c (span δ c d) (spans_double c d q k) (λ l b.
        let x = w.behind l b (pair_open δ c d q) in
        let y = q.long in
        let m : suc (first_beat δ n) * δ ≡ suc c.beat * δ = ap (λ (i : ℕ). suc i * δ) b in
        absurd (omega arith))

-- One sweep over the inner notes and the cells tells whether their pieces are clear of each other.
-- Assumes nothing.
use Rattle.std.specs.Prelude.{Bool, ◌||◌, ◌≡◌}
use Rattle.std.proofs.Math.Bool.{◌&&◌, cond, false, true}
use Rattle.std.proofs.Common.{true≢false, ◌∙◌, sym}
use mathlib.Core.List.{List, [], ◌∷◌}
use Rattle.std.proofs.Math.Path.{ap, ap₂, refl}
use Prim.Native.Nat.{◌*◌, ◌+◌, ◌<◌, ◌≤◌, suc, ℕ}
use Rattle.std.proofs.Math.Nat.{mul-le-mul_right}
use native.Mathlib.Omega.{arith}
use Rattle.std.proofs.Math.Dec.{eqb, ltb}
use borrow.Author.Tests.{eq-eqb, eqb-true, ltb-false, ltb-true}
use Rattle.model.specs.Binding.{end_of, opening}
use Rattle.model.specs.Lists.{every}
use Rattle.model.specs.Pieces.{first_beat}
use Rattle.model.specs.declared.Cell.{Cell}
use Rattle.model.specs.declared.Note.{Note}
use Rattle.laws.specs.Beats.{div_mono, high}
use Rattle.laws.specs.Booleans.{and_left, and_right}
use Rattle.laws.specs.Chain.{clear}
use Rattle.laws.specs.ChainSolid.{clear_is}
use Rattle.laws.specs.Notes.{Follow, above, later}
use Rattle.laws.specs.Relations.{All, Pairs, all_imp, every_yes}
use Rattle.laws.specs.Solid.{Apart, beat_up, lane_up, side_up}

-- The cell lies before beat b of lane l.
unfoldable pub earlier : ℕ → ℕ → Cell → Bool
earlier l b c = ltb c.lane l || eqb c.lane l && ltb c.beat b

-- The cells from beat b of lane l on.
unfoldable pub skip : ℕ → ℕ → List Cell → List Cell
unfolding earlier
skip l b [] = []
skip l b (c ∷ cs) = elim (earlier l b c) [ true ↦ skip l b cs | false ↦ c ∷ cs ]

-- The note is clear of the first two cells.
unfoldable pub clear_two : ℕ → Note → List Cell → Bool
unfolding clear
clear_two δ n [] = true
clear_two δ n (c ∷ []) = clear δ n c
clear_two δ n (c ∷ d ∷ ds) = clear δ n c && clear δ n d

-- Each note is clear of the first two cells from its beat on.
unfoldable pub sweep : ℕ → List Note → List Cell → Bool
unfolding skip clear_two
sweep δ [] cs = true
sweep δ (n ∷ ns) cs = let ds = skip n.lane (first_beat δ n) cs in clear_two δ n ds && sweep δ ns ds

module _ (δ : ℕ) (z : 0 < δ) where
  else_clear : (n : Note) (c : Cell) → (n.lane ≡ c.lane → first_beat δ n ≡ c.beat → ⊥) → clear δ n c ≡ true
  else_clear n c h = clear_is δ n c (record { behind = λ l b e. absurd (h l b); before = λ l b e. absurd (h l b) })

  -- not before the note's beat
  record From (l b : ℕ) (c : Cell) : Type 0 where
    lane-from : l ≤ c.lane
    beat_from : l ≡ c.lane → b ≤ c.beat

  data Before (l b : ℕ) (c : Cell) : Type 0 where
    lane_less : c.lane < l → Before l b c
    beat_less : c.lane ≡ l → c.beat < b → Before l b c

  is_before : (l b : ℕ) (c : Cell) → earlier l b c ≡ true → Before l b c
  unfolding earlier
  is_before l b c e = go (ltb c.lane l) refl e
    where
      go : (t : Bool) → ltb c.lane l ≡ t → t || eqb c.lane l && ltb c.beat b ≡ true → Before l b c
      go true p q = lane_less (ltb-true c.lane l p)
      go false p q = beat_less (eqb-true c.lane l (and_left (eqb c.lane l) (ltb c.beat b) q)) (ltb-true c.beat b (and_right (eqb c.lane l) (ltb c.beat b) q))

  is_from : (l b : ℕ) (c : Cell) → earlier l b c ≡ false → From l b c
  unfolding earlier
  is_from l b c e = go (ltb c.lane l) refl e
    where
      go : (t : Bool) → ltb c.lane l ≡ t → t || eqb c.lane l && ltb c.beat b ≡ false → From l b c
      go true p q = absurd (true≢false q)
      go false p q =
          let k : l ≤ c.lane = ltb-false c.lane l p in
          record { lane-from = k; beat_from = λ f. ltb-false c.beat b (rw (eq-eqb c.lane l (sym f)) at q) }

  -- the note's own and later beats
  record NoteFrom (l b : ℕ) (m : Note) : Type 0 where
    lane-from : l ≤ m.lane
    beat_from : l ≡ m.lane → b ≤ first_beat δ m

  before-clear : (l b : ℕ) (m : Note) (c : Cell) → NoteFrom l b m → Before l b c → clear δ m c ≡ true
  before-clear l b m c f (lane_less a) = let x = f.lane-from in else_clear m c (λ p q. omega arith)
  before-clear l b m c f (beat_less a d) = else_clear m c (λ p q. let y : b ≤ first_beat δ m = f.beat_from (omega arith) in omega arith)

  -- nothing of a note's beat lies behind two cells from its beat on
  third_clear : (n : Note) (c d x : Cell) → From n.lane (first_beat δ n) c → Apart δ c d → Apart δ d x → clear δ n x ≡ true
  third_clear n c d x f a b = else_clear n x (λ p q. go p q a b)
    where
      go : n.lane ≡ x.lane → first_beat δ n ≡ x.beat → Apart δ c d → Apart δ d x → ⊥
      go p q (lane_up h) (lane_up i) = let k = f.lane-from in omega arith
      go p q (lane_up h) (beat_up i j) = let k = f.lane-from in omega arith
      go p q (lane_up h) (side_up i j s t u) = let k = f.lane-from in omega arith
      go p q (beat_up g h) (lane_up i) = let k = f.lane-from in omega arith
      go p q (beat_up g h) (beat_up i j) = let k : first_beat δ n ≤ c.beat = f.beat_from (omega arith) in omega arith
      go p q (beat_up g h) (side_up i j s t u) = let k : first_beat δ n ≤ c.beat = f.beat_from (omega arith) in omega arith
      go p q (side_up g h s t u) (lane_up i) = let k = f.lane-from in omega arith
      go p q (side_up g h s t u) (beat_up i j) = let k : first_beat δ n ≤ c.beat = f.beat_from (omega arith) in omega arith
      go p q (side_up g h s t u) (side_up i j v w y) = omega arith

  and-true : (a : Bool) → a && true ≡ a
  and-true true = refl
  and-true false = refl

  two_all : (n : Note) (c : Cell) (cs : List Cell) → From n.lane (first_beat δ n) c → Pairs (Apart δ) (c ∷ cs)
      → every (clear δ n) (c ∷ cs) ≡ clear_two δ n (c ∷ cs)
  unfolding clear_two
  two_all n c [] f s = and-true (clear δ n c)
  two_all n c (d ∷ ds) f s =
      let e : every (clear δ n) ds ≡ true = every_yes (clear δ n) ds (all_imp (Apart δ d) (λ x. clear δ n x ≡ true) ds (λ x a. third_clear n c d x f s.0.0 a) s.1.0) in
      ap (λ (t : Bool). clear δ n c && (clear δ n d && t)) e ∙ ap (◌&&◌ (clear δ n c)) (and-true (clear δ n d))

  own-from : (n : Note) → NoteFrom n.lane (first_beat δ n) n
  own-from n = record { lane-from = omega arith; beat_from = λ e. omega arith }

  -- a note of the beat or a later one sees the same cells
  skip-clear : (l b : ℕ) (m : Note) (cs : List Cell) → NoteFrom l b m → every (clear δ m) cs ≡ every (clear δ m) (skip l b cs)
  unfolding skip
  skip-clear l b m [] f = refl
  skip-clear l b m (c ∷ cs) f = go (earlier l b c) refl (skip-clear l b m cs f)
    where
      go : (t : Bool) → earlier l b c ≡ t → every (clear δ m) cs ≡ every (clear δ m) (skip l b cs)
          → every (clear δ m) (c ∷ cs) ≡ every (clear δ m) (skip l b (c ∷ cs))
      go true e ih = rw (e, skip, before-clear l b m c f (is_before l b c e)) ih
      go false e ih = rw (e, skip)

  skip_two : (n : Note) (cs : List Cell) → Pairs (Apart δ) cs
      → every (clear δ n) (skip n.lane (first_beat δ n) cs) ≡ clear_two δ n (skip n.lane (first_beat δ n) cs)
  unfolding skip clear_two
  skip_two n [] s = refl
  skip_two n (c ∷ cs) s = go (earlier n.lane (first_beat δ n) c) refl (skip_two n cs s.1)
    where
      go : (t : Bool) → earlier n.lane (first_beat δ n) c ≡ t
          → every (clear δ n) (skip n.lane (first_beat δ n) cs) ≡ clear_two δ n (skip n.lane (first_beat δ n) cs)
          → every (clear δ n) (skip n.lane (first_beat δ n) (c ∷ cs)) ≡ clear_two δ n (skip n.lane (first_beat δ n) (c ∷ cs))
      go true e ih = rw (e, skip) ih
      go false e ih = rw (e, skip) (two_all n c cs (is_from n.lane (first_beat δ n) c e) s)

  skip-pairs : (l b : ℕ) (cs : List Cell) → Pairs (Apart δ) cs → Pairs (Apart δ) (skip l b cs)
  unfolding skip
  skip-pairs l b [] s = tt
  skip-pairs l b (c ∷ cs) s = go (earlier l b c) refl (skip-pairs l b cs s.1)
    where
      go : (t : Bool) → earlier l b c ≡ t → Pairs (Apart δ) (skip l b cs) → Pairs (Apart δ) (skip l b (c ∷ cs))
      go true e ih = rw (e, skip) ih
      go false e ih = rw (e, skip) s

  follow_from : (n m : Note) → n.start < n.end → Follow n m → NoteFrom n.lane (first_beat δ n) m
  follow_from n m v (above a) = record { lane-from = omega arith; beat_from = λ e. absurd (omega arith) }
  follow_from n m v (later a b) = record { lane-from = omega arith; beat_from = λ e. div_mono δ z n.start m.start (omega arith) }

  every_same : (p q : Note → Bool) (ns : List Note) → All (λ n. p n ≡ q n) ns → every p ns ≡ every q ns
  every_same p q [] a = refl
  every_same p q (n ∷ ns) a = ap₂ ◌&&◌ a.0 (every_same p q ns a.1)

  -- every note is clear of every cell: one sweep
  pub sweep-all : (ns : List Note) (cs : List Cell) → All (λ n. n.start < n.end) ns → Pairs Follow ns → Pairs (Apart δ) cs
      → every (λ n. every (clear δ n) cs) ns ≡ sweep δ ns cs
  unfolding sweep
  sweep-all [] cs v f s = refl
  sweep-all (n ∷ ns) cs v f s =
      let l = n.lane in
      let b = first_beat δ n in
      let ds = skip l b cs in
      ap₂ ◌&&◌ (skip-clear l b n cs (own-from n) ∙ skip_two n cs s)
      (every_same (λ m. every (clear δ m) cs) (λ m. every (clear δ m) ds) ns (all_imp (Follow n) (λ m. every (clear δ m) cs ≡ every (clear δ m) ds) ns (λ m g. skip-clear l b m cs (follow_from n m v.0 g)) f.0)
      ∙ sweep-all ns ds v.1 f.1 (skip-pairs l b cs s))

  -- a cell that every note is clear of may be left out of the sweep
  pub sweep_without : (c : Cell) (cs : List Cell) (ns : List Note) → All (λ n. n.start < n.end) ns → Pairs Follow ns → Pairs (Apart δ) (c ∷ cs)
      → All (λ n. clear δ n c ≡ true) ns → sweep δ ns (c ∷ cs) ≡ sweep δ ns cs
  sweep_without c cs ns v f s a =
      sym (sweep-all ns (c ∷ cs) v f s)
      ∙ every_same (λ n. every (clear δ n) (c ∷ cs)) (λ n. every (clear δ n) cs) ns (all_imp (λ n. clear δ n c ≡ true) (λ n. every (clear δ n) (c ∷ cs) ≡ every (clear δ n) cs) ns (λ n e. rw e) a)
      ∙ sweep-all ns cs v f s.1

  -- ---- behind a note that ends with the piece of cell d

  module _ (n m : Note) (d : Cell) (l : n.lane ≡ d.lane) (e : n.end ≡ end_of δ d) (f : Follow n m) where
    -- a later note of the lane starts where the piece ends, or later
    from_end : m.lane ≡ d.lane → end_of δ d ≤ m.start
    from_end k = go f
      where
        go : Follow n m → end_of δ d ≤ m.start
        go (above a) = absurd (omega arith)
        go (later a b) = omega arith

    from-line : m.lane ≡ d.lane → d.beat * δ ≤ m.start
    unfolding end_of
    from-line k = go (opening d) (from_end k)
      where
        go : (o : Bool) → cond o (d.beat * δ + d.after) (suc d.beat * δ) ≤ m.start → d.beat * δ ≤ m.start
        go true h = omega arith
        go false h = omega arith

    -- such a note is clear of that piece, and of each before it
    pub clear_of_last : clear δ m d ≡ true
    unfolding end_of
    clear_of_last = clear_is δ m d (record {
      behind = λ p q o. rw o at (from_end p);
      before = λ p q o. let h : suc d.beat * δ ≤ m.start = rw o at (from_end p) in let t : m.start < suc d.beat * δ = rw q at (high δ z m.start) in absurd (omega arith);
    })

    pub clear_of_earlier : (c : Cell) → Apart δ c d → clear δ m c ≡ true
    unfolding end_of
    clear_of_earlier c a = else_clear m c (λ p q. go p (rw q at (high δ z m.start)) a)
      where
        go : m.lane ≡ c.lane → m.start < suc c.beat * δ → Apart δ c d → ⊥
        go p t (lane_up h) = elim f [ above i ↦ omega arith | later i j ↦ omega arith ]
        go p t (beat_up h i) = let u = from-line (p ∙ h) in let v : suc c.beat * δ ≤ d.beat * δ = mul-le-mul_right δ i in omega arith
        go p t (side_up h i s k u) = let v : suc d.beat * δ ≤ m.start = rw k at (from_end (p ∙ h)) in let w : c.beat * δ ≡ d.beat * δ = ap (λ (b : ℕ). b * δ) i in omega arith

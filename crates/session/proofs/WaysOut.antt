-- The rules for cells by what the code tests, one law for each way out. Assumes nothing.
use mathlib.Core.Path.{◌≡◌, refl, sym, ◌∙◌}
use mathlib.Core.Bool.{Bool, true, false, not, ◌&&◌, ◌||◌}
use Prim.Native.Nat.{ℕ, suc, ◌+◌, ◌*◌, ◌/◌, ◌≤◌, ◌<◌}
use native.Mathlib.Nat.{suc-mul}
use native.Mathlib.Omega.{arith}
use lib.Dec.{leb, ltb, eqb}
use borrow.Author.Tests.{eq-eqb, ne_eqb, lt-ltb, le-ltb, lt-leb, le-leb, ltb-true, ltb-false, leb-true, leb-false, eqb-true, eqb-false}
use Rattle.model.specs.Binding.{fills}
use Rattle.model.specs.Pieces.{first_beat, inside_at, inside}
use Rattle.model.specs.Soundness.{cell_before, filled, partners}
use Rattle.model.specs.declared.Note.{Note}
use Rattle.model.specs.declared.Cell.{Cell}
use Rattle.laws.specs.Chain.{same_beat, neighbours, clear}

-- ---- the order of lanes and beats, as one number

module _ (l b m e : ℕ) (b-word : b ≤ 4294967295) (e-word : e ≤ 4294967295) {x y : ℕ} (x-is : x ≡ l * 4294967296 + b) (y-is : y ≡ m * 4294967296 + e) where
  pub one_number : ltb x y ≡ (ltb l m || eqb l m && ltb b e)
  one_number = go (ltb l m) refl (eqb l m) refl (ltb b e) refl
    where
      go : (p : Bool) → ltb l m ≡ p → (q : Bool) → eqb l m ≡ q → (r : Bool) → ltb b e ≡ r → ltb x y ≡ (p || q && r)
      go true f q g r h = let k : l < m = ltb-true l m f in lt-ltb x y (omega arith)
      go false f true g true h = let k : l ≡ m = eqb-true l m g in let j : b < e = ltb-true b e h in lt-ltb x y (omega arith)
      go false f true g false h = let k : l ≡ m = eqb-true l m g in let j : e ≤ b = ltb-false b e h in le-ltb x y (omega arith)
      go false f false g r h = let k : m ≤ l = ltb-false l m f in let j : l ≡ m → ⊥ = eqb-false l m g in le-ltb x y (omega arith)

  pub one-number-within : leb x y ≡ (ltb l m || eqb l m && leb b e)
  one-number-within = go (ltb l m) refl (eqb l m) refl (leb b e) refl
    where
      go : (p : Bool) → ltb l m ≡ p → (q : Bool) → eqb l m ≡ q → (r : Bool) → leb b e ≡ r → leb x y ≡ (p || q && r)
      go true f q g r h = let k : l < m = ltb-true l m f in le-leb x y (omega arith)
      go false f true g true h = let k : l ≡ m = eqb-true l m g in let j : b ≤ e = leb-true b e h in le-leb x y (omega arith)
      go false f true g false h = let k : l ≡ m = eqb-true l m g in let j : e < b = leb-false b e h in lt-leb x y (omega arith)
      go false f false g r h = let k : m ≤ l = ltb-false l m f in let j : l ≡ m → ⊥ = eqb-false l m g in lt-leb x y (omega arith)

-- ---- two cells

module _ (c d : Cell) where
  module _ (δ : ℕ) (c-word : c.beat ≤ 4294967295) (d-word : d.beat ≤ 4294967295)
      {x y : ℕ} (x-is : x ≡ c.lane * 4294967296 + c.beat) (y-is : y ≡ d.lane * 4294967296 + d.beat) where
    in_order : x < y → cell_before c d ≡ true
    unfolding cell_before
    in_order t = go (ltb c.lane d.lane) refl
      where
        go : (p : Bool) → ltb c.lane d.lane ≡ p → cell_before c d ≡ true
        go true f = rw f
        go false f =
            let k : d.lane ≤ c.lane = ltb-false _ _ f in
            rw (f, eq-eqb c.lane d.lane (omega arith), lt-ltb c.beat d.beat (omega arith))

    no_partners : x < y → (same_beat c d ≡ false) × (partners δ c d ≡ false)
    unfolding same_beat partners
    no_partners t = go (eqb c.lane d.lane) refl
      where
        go : (p : Bool) → eqb c.lane d.lane ≡ p → (same_beat c d ≡ false) × (partners δ c d ≡ false)
        go true f =
            let k : c.lane ≡ d.lane = eqb-true _ _ f in
            let o : eqb c.beat d.beat ≡ false = ne_eqb c.beat d.beat (λ z. omega arith) in
            (rw (f, o), rw (f, o))
        go false f = (rw f, rw f)

    pub two_beats : x < y → {s : Bool} → s ≡ not (fills δ c || filled δ d) → s ≡ neighbours δ c d
    unfolding neighbours
    two_beats t k = k ∙ go (fills δ c || filled δ d) refl
      where
        go : (w : Bool) → (fills δ c || filled δ d) ≡ w → not (fills δ c || filled δ d) ≡ neighbours δ c d
        go true f = rw (in_order t, f, (no_partners t).1)
        go false f = rw (in_order t, f, (no_partners t).0)

    pub order_no : y ≤ x → (x ≡ y → ⊥) → false ≡ neighbours δ c d
    unfolding neighbours cell_before
    order_no t u = go (eqb c.lane d.lane) refl
      where
        no : ltb c.lane d.lane ≡ false
        no = le-ltb c.lane d.lane (omega arith)

        go : (p : Bool) → eqb c.lane d.lane ≡ p → false ≡ neighbours δ c d
        go true f =
            let k : c.lane ≡ d.lane = eqb-true _ _ f in
            rw (no, f, le-ltb c.beat d.beat (omega arith), ne_eqb c.beat d.beat (λ z. omega arith))
        go false f = rw (no, f)

-- ---- where a note lies

module _ (δ : ℕ) (n : Note) where
  module _ {b : ℕ} (is : b ≡ first_beat δ n) where
    pub inside_not : n.start ≤ b * δ → ltb (b * δ) n.start ≡ inside δ n
    unfolding inside_at
    inside_not l = le-ltb _ _ l ∙ sym (rw (le-ltb _ _ (rw is at l)))

    pub inside_end : b * δ < n.start → ltb n.end (b * δ + δ) ≡ inside δ n
    unfolding inside_at
    inside_end l =
        let e : n.start / δ * δ + δ ≡ suc (n.start / δ) * δ = omega (arith, suc-mul (n.start / δ) δ) in
        rw (lt-ltb _ _ (rw is at l), is, e)

  -- the note's beat is the cell's, or not
  module _ (c : Cell) {b : ℕ} (is : b ≡ first_beat δ n) where
    pub other_lane : (n.lane ≡ c.lane → ⊥) → true ≡ clear δ n c
    unfolding clear
    other_lane l = rw (ne_eqb n.lane c.lane l)

    pub other_beat : n.lane ≡ c.lane → (b ≡ c.beat → ⊥) → true ≡ clear δ n c
    unfolding clear
    other_beat l o = rw (eq-eqb _ _ l, ne_eqb (first_beat δ n) c.beat (λ e. o (is ∙ e)))

    pub opening-clear : n.lane ≡ c.lane → b ≡ c.beat → c.side ≡ 0 → leb (b * δ + c.after) n.start ≡ clear δ n c
    unfolding clear
    opening-clear l o s = rw (eq-eqb _ _ l, eq-eqb (first_beat δ n) c.beat (sym is ∙ o), eq-eqb _ _ s, o)

    pub closing-clear : n.lane ≡ c.lane → b ≡ c.beat → (c.side ≡ 0 → ⊥) → leb (n.end + c.before) (b * δ + δ) ≡ clear δ n c
    unfolding clear
    closing-clear l o s =
        let e : c.beat * δ + δ ≡ suc c.beat * δ = omega (arith, suc-mul c.beat δ) in
        rw (eq-eqb _ _ l, eq-eqb (first_beat δ n) c.beat (sym is ∙ o), ne_eqb _ _ s, o, e)

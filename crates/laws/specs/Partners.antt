-- Cells in order, with both cells of each piece that fills its beat in the list: those two cells stand one behind the other.
-- Assumes nothing.
use Rattle.std.specs.Prelude.{Bool, ◌&&◌, ◌||◌, false, true, List, [], ◌++◌, ◌∷◌, ◌≡◌, refl, ◌<◌, ◌≤◌, ℕ, eqb, ltb}
use Rattle.std.proofs.Math.Bool.{not}
use Rattle.std.proofs.Common.{true≢false, ◌∙◌, sym, arith, eqb-true, ltb-true}
use Rattle.model.specs.Binding.{fills}
use Rattle.model.specs.Lists.{chain, every, pairwise, some}
use Rattle.model.specs.Soundness.{cell_before, filled, filled_whole, partners}
use Rattle.model.specs.declared.Cell.{Cell}
use Rattle.laws.specs.Booleans.{and_left, and_right, and_yes, or_left, or_right}
use Rattle.laws.specs.ChainSolid.{open_filled, pair_of, pair_partners}
use Rattle.laws.specs.Overlap.{Ahead}
use Rattle.laws.specs.Relations.{All, Pairs, all_imp, every-all, every_yes}
use Rattle.laws.specs.Rules.{Pair, Pieced, double, not_open, pair_close, pair_fills, pair_open, single, stop}
use Rattle.laws.specs.Solid.{Fine}

-- ---- tests

-- a test that has to pass only where another does
if_yes : (a b : Bool) → (a ≡ true → b ≡ true) → not a || b ≡ true
if_yes true b f = f refl
if_yes false b f = refl

if_all : (a b : Bool) → not a || b ≡ true → a ≡ true → b ≡ true
if_all true b e f = e
if_all false b e f = absurd (true≢false (sym f))

-- ---- tests of lists

-- P at some element
data Any {A : Type 0} (P : A → Type 0) : List A → Type 0 where
  here : {x : A} {xs : List A} → P x → Any P (x ∷ xs)
  there : {x : A} {xs : List A} → Any P xs → Any P (x ∷ xs)

module _ {A : Type 0} where
  pub all_both : (P Q R : A → Type 0) (xs : List A) → ((x : A) → P x → Q x → R x) → All P xs → All Q xs → All R xs
  all_both P Q R [] h a b = tt
  all_both P Q R (x ∷ xs) h a b = (h x a.0 b.0, all_both P Q R xs h a.1 b.1)

  pub all-parts : (P : A → Type 0) (xs ys : List A) → All P (xs ++ ys) → All P xs × All P ys
  all-parts P [] ys a = (tt, a)
  all-parts P (x ∷ xs) ys a = let r = all-parts P xs ys a.1 in ((a.0, r.0), r.1)

  -- every two of a list, by its two parts
  pub pairs-parts : (R : A → A → Type 0) (xs ys : List A) → Pairs R (xs ++ ys) → Pairs R xs × Pairs R ys × All (λ x. All (R x) ys) xs
  pairs-parts R [] ys a = (tt, a, tt)
  pairs-parts R (x ∷ xs) ys a =
      let r = pairs-parts R xs ys a.1 in
      let s = all-parts (R x) xs ys a.0 in
      ((s.0, r.0), r.1, (s.1, r.2))

  pub all_swap : (R : A → A → Type 0) (xs ys : List A) → All (λ x. All (R x) ys) xs → All (λ y. All (λ x. R x y) xs) ys
  all_swap R xs [] a = tt
  all_swap R xs (y ∷ ys) a =
      (all_imp (λ x. All (R x) (y ∷ ys)) (λ x. R x y) xs (λ x h. h.0) a, all_swap R xs ys (all_imp (λ x. All (R x) (y ∷ ys)) (λ x. All (R x) ys) xs (λ x h. h.1) a))

  any_imp : (P Q : A → Type 0) → ((x : A) → P x → Q x) → {xs : List A} → Any P xs → Any Q xs
  any_imp P Q h (here {x = x} p) = here (h x p)
  any_imp P Q h (there a) = there (any_imp P Q h a)

  -- an element at which P does not hold is left out
  any-rest : (P : A → Type 0) {x : A} {xs : List A} → (P x → ⊥) → Any P (x ∷ xs) → Any P xs
  any-rest P h (here p) = absurd (h p)
  any-rest P h (there a) = a

  any_none : (P : A → Type 0) (xs : List A) → All (λ x. P x → ⊥) xs → Any P xs → ⊥
  any_none P [] a b = elim b [ ]
  any_none P (x ∷ xs) a (here p) = a.0 p
  any_none P (x ∷ xs) a (there b) = any_none P xs a.1 b

  some_yes : (p : A → Bool) {xs : List A} → Any (λ x. p x ≡ true) xs → some p xs ≡ true
  some_yes p {xs = []} b = elim b [ ]
  some_yes p {xs = x ∷ xs} (here e) = or_left (some p xs) e
  some_yes p {xs = x ∷ xs} (there a) = or_right (p x) (some_yes p a)

  some-any : (p : A → Bool) (P Q : A → Type 0) → ((x : A) → P x → p x ≡ true → Q x) → (xs : List A) → All P xs → some p xs ≡ true → Any Q xs
  some-any p P Q h [] a e = absurd (true≢false (sym e))
  some-any p P Q h (x ∷ xs) a e = go (p x) refl e (some-any p P Q h xs a.1)
    where
      go : (b : Bool) → p x ≡ b → b || some p xs ≡ true → (some p xs ≡ true → Any Q xs) → Any Q (x ∷ xs)
      go true f g ih = here (h x a.0 f)
      go false f g ih = there (ih g)

  -- where one test passes, another passes at some element of the list
  module _ (t : A → Bool) (r : A → A → Bool) where
    if_some-all : (P : A → Type 0) (R : A → A → Type 0) → ((x y : A) → P x → P y → r x y ≡ true → R x y) → (xs : List A) → All P xs
        → every (λ x. not (t x) || some (r x) xs) xs ≡ true → All (λ x. t x ≡ true → Any (R x) xs) xs
    if_some-all P R h xs a e =
        all_both P (λ x. not (t x) || some (r x) xs ≡ true) (λ x. t x ≡ true → Any (R x) xs) xs
        (λ x p i f. some-any (r x) P (R x) (λ y q g. h x y p q g) xs a (if_all (t x) (some (r x) xs) i f)) a (every-all (λ x. not (t x) || some (r x) xs) xs e)

    if_some_yes : (R : A → A → Type 0) → ((x y : A) → R x y → r x y ≡ true) → (xs : List A) → All (λ x. t x ≡ true → Any (R x) xs) xs
        → every (λ x. not (t x) || some (r x) xs) xs ≡ true
    if_some_yes R h xs a =
        every_yes (λ x. not (t x) || some (r x) xs) xs (all_imp (λ x. t x ≡ true → Any (R x) xs) (λ x. not (t x) || some (r x) xs ≡ true) xs
        (λ x i. if_yes (t x) (some (r x) xs) (λ f. some_yes (r x) (any_imp (R x) (λ y. r x y ≡ true) (h x) (i f)))) a)

  module _ (p : A → A → Bool) where
    pub pairwise_yes : (xs : List A) → Pairs (λ x y. p x y ≡ true) xs → pairwise p xs ≡ true
    pairwise_yes [] a = refl
    pairwise_yes (x ∷ xs) a = and_yes (every_yes (p x) xs a.0) (pairwise_yes xs a.1)

    pub pairwise-all : (xs : List A) → pairwise p xs ≡ true → Pairs (λ x y. p x y ≡ true) xs
    pairwise-all [] e = tt
    pairwise-all (x ∷ xs) e = (every-all (p x) xs (and_left (every (p x) xs) (pairwise p xs) e), pairwise-all xs (and_right (every (p x) xs) (pairwise p xs) e))

    pub chain_yes : (xs : List A) → Pairs (λ x y. p x y ≡ true) xs → chain p xs ≡ true
    chain_yes [] a = refl
    chain_yes (x ∷ []) a = refl
    chain_yes (x ∷ y ∷ ys) a = and_yes a.0.0 (chain_yes (y ∷ ys) a.1)

    -- a test that gives an order, passed by neighbours, orders every two
    chain-all : (P : A → Type 0) (R : A → A → Type 0) → ((x y : A) → P x → P y → p x y ≡ true → R x y) → ((x y w : A) → R x y → R y w → R x w)
        → (xs : List A) → All P xs → chain p xs ≡ true → Pairs R xs
    chain-all P R h t [] a e = tt
    chain-all P R h t (x ∷ []) a e = (tt, tt)
    chain-all P R h t (x ∷ y ∷ ys) a e =
        let r : R x y = h x y a.0 a.1.0 (and_left (p x y) (chain p (y ∷ ys)) e) in
        let s : Pairs R (y ∷ ys) = chain-all P R h t (y ∷ ys) a.1 (and_right (p x y) (chain p (y ∷ ys)) e) in
        ((r, all_imp (R y) (R x) ys (λ w. t x y w r) s.0), s)

-- ---- the order of cells

before_of : (c d : Cell) → c.side ≤ 1 → d.side ≤ 1 → cell_before c d ≡ true → Ahead c d
unfolding cell_before
before_of c d s t e = go (ltb c.lane d.lane) refl e
  where
    deep : c.lane ≡ d.lane → (b : Bool) → ltb c.beat d.beat ≡ b → b || eqb c.beat d.beat && ltb c.side d.side ≡ true → Ahead c d
    deep l true p q =
        let x : c.beat < d.beat = ltb-true c.beat d.beat p in
        record { lanes = omega arith; beats = λ k. omega arith; opens = λ k m. absurd (omega arith); closes = λ k m. absurd (omega arith) }
    deep l false p q =
        let b : c.beat ≡ d.beat = eqb-true c.beat d.beat (and_left (eqb c.beat d.beat) _ q) in
        let u : c.side < d.side = ltb-true c.side d.side (and_right (eqb c.beat d.beat) _ q) in
        record { lanes = omega arith; beats = λ k. omega arith; opens = λ k m. omega arith; closes = λ k m. omega arith }

    go : (a : Bool) → ltb c.lane d.lane ≡ a
        → a || eqb c.lane d.lane && (ltb c.beat d.beat || eqb c.beat d.beat && ltb c.side d.side) ≡ true → Ahead c d
    go true p q =
        let x : c.lane < d.lane = ltb-true c.lane d.lane p in
        record { lanes = omega arith; beats = λ k. absurd (omega arith); opens = λ k m. absurd (omega arith); closes = λ k m. absurd (omega arith) }
    go false p q = deep (eqb-true c.lane d.lane (and_left (eqb c.lane d.lane) _ q)) (ltb c.beat d.beat) refl (and_right (eqb c.lane d.lane) _ q)

-- three cells in order: if the outer two are of one lane, so is the middle one; they are not of one beat
module _ (c d e : Cell) (b : Ahead c d) (a : Ahead d e) where
  mid_lane : c.lane ≡ e.lane → (c.lane ≡ d.lane) × (d.lane ≡ e.lane)
  mid_lane l = let x = b.lanes in let y = a.lanes in (omega arith, omega arith)

  between : c.lane ≡ e.lane → c.beat ≡ e.beat → ⊥
  between l m =
      let i = mid_lane l in
      let x = b.beats i.0 in
      let y = a.beats i.1 in
      let u = b.closes i.0 (omega arith) in
      let v = a.opens i.1 (omega arith) in
      omega arith

  before_trans : Ahead c e
  before_trans = record {
    lanes = let x = b.lanes in let y = a.lanes in omega arith;
    beats = λ l. let i = mid_lane l in let x = b.beats i.0 in let y = a.beats i.1 in omega arith;
    opens = λ l m. absurd (between l m);
    closes = λ l m. absurd (between l m);
  }

-- ---- cells of pieces that fill their beat

module _ (δ : ℕ) where
  -- each cell of a piece that fills its beat has its partner in the list
  abbrev Opens : List Cell → List Cell → Type 0
  Opens cells = All (λ c. fills δ c ≡ true → Any (λ d. Pair δ c d) cells)

  abbrev Closes : List Cell → List Cell → Type 0
  Closes cells = All (λ d. filled δ d ≡ true → Any (λ c. Pair δ c d) cells)

  -- a cell's partner does not lie on the wrong side of it, nor behind another cell
  not_ahead : (c d : Cell) → Ahead d c → Pair δ c d → ⊥
  not_ahead c d b q =
      let x = b.opens q.lane_same q.beat_same in
      let y = q.closes in
      omega arith

  not_self : (c : Cell) → Pair δ c c → ⊥
  not_self c q = let x = q.opens in let y = q.closes in omega arith

  not_past : (c d e : Cell) → Ahead c d → Ahead d e → Pair δ c e → ⊥
  not_past c d e b a q = between c d e b a (sym q.lane_same) (sym q.beat_same)

  -- the first cell may be left out: it is no partner of those behind it
  opens-rest : (c : Cell) (cs : List Cell) → All (Ahead c) cs → Opens (c ∷ cs) cs → Opens cs cs
  opens-rest c cs b o = all_both (Ahead c) _ _ cs (λ e x h f. any-rest (λ d. Pair δ e d) (not_ahead e c x) (h f)) b o

  closes_rest : (c : Cell) (cells cs : List Cell) → All (λ e. Pair δ c e → ⊥) cs → Closes (c ∷ cells) cs → Closes cells cs
  closes_rest c cells cs b o = all_both (λ e. Pair δ c e → ⊥) _ _ cs (λ e x h f. any-rest (λ d. Pair δ d e) x (h f)) b o

  first_not_filled : (c : Cell) (cs : List Cell) → All (Ahead c) cs → Closes (c ∷ cs) (c ∷ cs) → filled δ c ≡ false
  first_not_filled c cs b s = go (filled δ c) refl
    where
      go : (t : Bool) → filled δ c ≡ t → t ≡ false
      go true e = absurd (any_none (λ d. Pair δ d c) (c ∷ cs) (not_self c, all_imp (Ahead c) (λ d. Pair δ d c → ⊥) cs (λ d x. not_ahead d c x) b) (s.0 e))
      go false e = refl

  -- the partner of the first cell is the next
  partner_next : (c d : Cell) (ds : List Cell) → Ahead c d → All (Ahead d) ds → Any (λ e. Pair δ c e) (c ∷ d ∷ ds) → Pair δ c d
  partner_next c d ds b a y = go (any-rest (λ e. Pair δ c e) (not_self c) y)
    where
      go : Any (λ e. Pair δ c e) (d ∷ ds) → Pair δ c d
      go (here q) = q
      go (there r) = absurd (any_none (λ e. Pair δ c e) ds (all_imp (Ahead d) (λ e. Pair δ c e → ⊥) ds (λ e x. not_past c d e b x) a) r)

  -- cells in order, partners in the list: partners stand one behind the other
  partners_pieced : (cs : List Cell) → Pairs Ahead cs → Opens cs cs → Closes cs cs → Pieced δ cs
  partners_pieced [] b o s = stop
  partners_pieced (c ∷ []) b o s = go (fills δ c) refl
    where
      go : (t : Bool) → fills δ c ≡ t → Pieced δ (c ∷ [])
      go true e = absurd (any_none (λ d. Pair δ c d) (c ∷ []) (not_self c, tt) (o.0 e))
      go false e = single e (first_not_filled c [] tt s) stop
  partners_pieced (c ∷ d ∷ ds) b o s = go (fills δ c) refl (partners_pieced (d ∷ ds) b.1) (partners_pieced ds b.1.1)
    where
      rest : Opens (d ∷ ds) (d ∷ ds)
      rest = opens-rest c (d ∷ ds) b.0 o.1

      go : (t : Bool) → fills δ c ≡ t → (Opens (d ∷ ds) (d ∷ ds) → Closes (d ∷ ds) (d ∷ ds) → Pieced δ (d ∷ ds))
          → (Opens ds ds → Closes ds ds → Pieced δ ds) → Pieced δ (c ∷ d ∷ ds)
      go true e r q =
          let w : Pair δ c d = partner_next c d ds b.0.0 b.1.0 (o.0 e) in
          let x = closes_rest c (d ∷ ds) ds (all_imp (Ahead d) (λ e. Pair δ c e → ⊥) ds (λ e x. not_past c d e b.0.0 x) b.1.0) s.1.1 in
          double w (q (opens-rest d ds b.1.0 rest.1) (closes_rest d ds ds (all_imp (Ahead d) (λ e. Pair δ d e → ⊥) ds (λ e x y. let i = w.closes in let j = y.opens in omega arith) b.1.0) x))
      go false e r q =
          single e (first_not_filled c (d ∷ ds) b.0 s)
          (r rest (closes_rest c (d ∷ ds) (d ∷ ds) (all_imp (Ahead c) (λ e. Pair δ c e → ⊥) (d ∷ ds) (λ x y w. true≢false (sym (pair_fills δ c x w) ∙ e)) b.0) s.1))

  -- and back
  pieced_opens : {cs : List Cell} → Pieced δ cs → Opens cs cs
  pieced_opens stop = tt
  pieced_opens (single {c = c} {cs = cs} f g p) = ((λ e. absurd (true≢false (sym e ∙ f))), all_imp _ _ cs (λ x h e. there (h e)) (pieced_opens p))
  pieced_opens (double {c = c} {d = d} {cs = cs} q p) =
      ((λ e. there (here q)), ((λ e. absurd (true≢false (sym e ∙ not_open δ d (pair_close δ c d q)))), all_imp _ _ cs (λ x h e. there (there (h e))) (pieced_opens p)))

  pieced_closes : {cs : List Cell} → Pieced δ cs → Closes cs cs
  pieced_closes stop = tt
  pieced_closes (single {c = c} {cs = cs} f g p) = ((λ e. absurd (true≢false (sym e ∙ g))), all_imp _ _ cs (λ x h e. there (h e)) (pieced_closes p))
  pieced_closes (double {c = c} {d = d} {cs = cs} q p) =
      ((λ e. absurd (true≢false (sym e ∙ open_filled δ c (pair_open δ c d q)))), ((λ e. here q), all_imp _ _ cs (λ x h e. there (there (h e))) (pieced_closes p)))

  -- the paper's clauses of order and of filled beats, and cells in pieces
  module _ (beats : ℕ) (cells : List Cell) (k : All (Fine δ beats) cells) where
    pub cells-before : chain cell_before cells ≡ true → Pairs Ahead cells
    cells-before e = chain-all cell_before (Fine δ beats) Ahead (λ c d f g. before_of c d f.side_below g.side_below) before_trans cells k e

    pub whole_pieced : Pairs Ahead cells → filled_whole δ cells ≡ true → Pieced δ cells
    unfolding filled_whole
    whole_pieced b e =
        let x = every (λ c. not (fills δ c) || some (λ d. partners δ c d) cells) cells in
        let y = every (λ d. not (filled δ d) || some (λ c. partners δ c d) cells) cells in
        partners_pieced cells b
        (if_some-all (fills δ) (λ c d. partners δ c d) (Fine δ beats) (λ c d. Pair δ c d) (λ c d f g. pair_of δ c d f.side_below g.side_below) cells k (and_left x y e))
        (if_some-all (filled δ) (λ d c. partners δ c d) (Fine δ beats) (λ d c. Pair δ c d) (λ d c g f. pair_of δ c d f.side_below g.side_below) cells k (and_right x y e))

  pub pieced_whole : (cells : List Cell) → Pieced δ cells → filled_whole δ cells ≡ true
  unfolding filled_whole
  pieced_whole cells p =
      and_yes (if_some_yes (fills δ) (λ c d. partners δ c d) (λ c d. Pair δ c d) (pair_partners δ) cells (pieced_opens p))
      (if_some_yes (filled δ) (λ d c. partners δ c d) (λ d c. Pair δ c d) (λ d c. pair_partners δ c d) cells (pieced_closes p))

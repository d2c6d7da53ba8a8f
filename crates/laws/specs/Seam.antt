-- What a join does with the notes of one lane: it copies them, and only on the line between the takes the binding rules decide. That it is so:
-- Joined for one lane, JoinLanes for all.
-- Assumes nothing.
use Rattle.std.specs.Prelude.{Bool, ◌&&◌, cond, false, true, List, [], ◌++◌, ◌∷◌, map, ◌≡◌}
use Rattle.std.proofs.Math.Path.{ap, refl}
use Prim.Native.Nat.{◌*◌, ◌+◌, ◌-◌, ◌<◌, suc, ℕ}
use Rattle.std.proofs.Math.Decide.{ℕ_discrete}
use Rattle.std.proofs.Common.{arith}
use Rattle.std.proofs.Math.Dec.{eqb}
use borrow.Author.Tests.{eq-eqb, eqb-true, ne_eqb}
use Rattle.model.specs.Binding.{bound, bound_next, end_of, meet, stands_alone, start_of}
use Rattle.model.specs.Lists.{cons_if}
use Rattle.model.specs.declared.Cell.{Cell}
use Rattle.model.specs.declared.Header.{Header}
use Rattle.model.specs.declared.Note.{Note}
use Rattle.laws.specs.Booleans.{and_left, and_right}
use Rattle.laws.specs.CutLines.{joined}
use Rattle.laws.specs.Notes.{note_same}
use Rattle.laws.specs.Rules.{moved_bound, own}
use Rattle.laws.specs.SeamWalk.{cell_later, last_or, note_later}

-- ---- the first and the last of a list

module _ {A : Type 0} where
  -- The first, or d if there is none.
  abbrev pub first_or : A → List A → A
  first_or d [] = d
  first_or d (x ∷ xs) = x

  -- All but the first, and all but the last.
  abbrev pub but_first : List A → List A
  but_first [] = []
  but_first (x ∷ xs) = xs

  abbrev pub but_last : List A → List A
  but_last [] = []
  but_last (x ∷ []) = []
  but_last (x ∷ y ∷ ys) = x ∷ but_last (y ∷ ys)

  pub last-append : (d : A) (xs : List A) (x : A) → last_or d (xs ++ x ∷ []) ≡ x
  last-append d [] x = refl
  last-append d (y ∷ ys) x = last-append y ys x

  pub but_last-append : (xs : List A) (x : A) → but_last (xs ++ x ∷ []) ≡ xs
  but_last-append [] x = refl
  but_last-append (y ∷ []) x = refl
  but_last-append (y ∷ w ∷ ws) x = rw (but_last-append (w ∷ ws) x)

-- ---- one lane

-- c is the last cell of the first take, of k beats, and d the first of the second: they are on the line between them, and bound.
unfoldable pub bound_at : Header → ℕ → Cell → Cell → Bool
unfolding bound
bound_at H k c d = eqb c.side 1 && eqb (suc c.beat) k && eqb d.side 0 && eqb d.beat 0 && bound H c d

-- A closing cell's note up to the line at tick s, and an opening cell's note from a line at tick 0 on.
abbrev pub ending_at : ℕ → Cell → Note
ending_at s c = record { lane = c.lane; start = s - c.before; end = s; velocity = c.velocity }

abbrev pub starting_at0 : Cell → Note
starting_at0 d = record { lane = d.lane; start = 0; end = d.after; velocity = d.velocity }

-- The note that goes over the line, up to it: the last of the first take's notes if its cell stands alone; and from it on, in the second take.
abbrev pub up_to : Header → ℕ → Cell → List Note → Note
up_to H s c ns = cond (stands_alone H c) (last_or (ending_at s c) ns) (ending_at s c)

abbrev pub from_on : Header → Cell → List Note → Note
from_on H d ns = cond (stands_alone H d) (first_or (starting_at0 d) ns) (starting_at0 d)

-- The notes of both with the one that goes over the line at tick s.
unfoldable pub join_over : Header → ℕ → Cell → Cell → List Note → List Note → List Note
join_over H s c d ms ns =
    cond (stands_alone H c) (but_last ms) ms
    ++ joined (up_to H s c ms) (note_later s (from_on H d ns)) ∷ map (note_later s) (cond (stands_alone H d) (but_first ns) ns)

-- The notes of both, the second's s ticks later.
abbrev pub join_apart : ℕ → List Note → List Note → List Note
join_apart s ms ns = ms ++ map (note_later s) ns

-- One lane: the first take's notes and cells and the second's; k is the first's beats.
unfoldable pub join_lane : Header → ℕ → List Note → List Cell → List Note → List Cell → List Note
unfolding bound_at join_over
join_lane H k ms [] ns ds = join_apart (k * H.delta) ms ns
join_lane H k ms (c ∷ cs) ns [] = join_apart (k * H.delta) ms ns
join_lane H k ms (c ∷ cs) ns (d ∷ ds) =
    cond (bound_at H k (last_or c cs) d) (join_over H (k * H.delta) (last_or c cs) d ms ns) (join_apart (k * H.delta) ms ns)

-- The lane's two cells that are bound over the line, if it has them.
unfoldable pub seam_of : Header → ℕ → List Cell → List Cell → List (Cell × Cell)
unfolding bound_at
seam_of H k [] ds = []
seam_of H k (c ∷ cs) [] = []
seam_of H k (c ∷ cs) (d ∷ ds) = cons_if (bound_at H k (last_or c cs) d) (last_or c cs, d) []

-- 1 if the test passed.
abbrev pub one : Bool → ℕ
one true = 1
one false = 0

-- How many of such cells stand alone.
unfoldable pub lone : Header → List (Cell × Cell) → ℕ
unfolding stands_alone
lone H [] = 0
lone H (p ∷ ps) = one (stands_alone H p.0) + one (stands_alone H p.1) + lone H ps

-- The last of the notes ends at tick s, and the first starts at tick 0.
pub record EndsAt (s : ℕ) (ns : List Note) : Type 0 where
  pub front : List Note
  pub note : Note
  pub notes_are : ns ≡ front ++ note ∷ []
  pub end_is : note.end ≡ s

pub record StartsAt0 (ns : List Note) : Type 0 where
  pub note : Note
  pub rest : List Note
  pub notes_are : ns ≡ note ∷ rest
  pub start_is : note.start ≡ 0

-- ---- the cells on the line

module _ (H : Header) (k : ℕ) (c d : Cell) where
  -- c is bound to the next cell, k beats later, where they are on the line between the takes and bound
  pub bound_at_lem : (ds : List Cell) → c.lane ≡ d.lane → c.beat < k → bound_next H c (map (cell_later k) (d ∷ ds)) ≡ bound_at H k c d
  unfolding bound_next meet bound_at
  bound_at_lem ds l b =
      rw (eq-eqb c.lane d.lane l, moved_bound H c.beat (k + d.beat) c d, line)
      (go (eqb c.side 1) (eqb d.side 0) (eqb (suc c.beat) k) (eqb d.beat 0) (bound H c d))
    where
      line : eqb (k + d.beat) (suc c.beat) ≡ eqb (suc c.beat) k && eqb d.beat 0
      line = elim (ℕ_discrete (suc c.beat) k) [
        | yes e ↦ elim (ℕ_discrete d.beat 0) [
          | yes f ↦ rw (eq-eqb (suc c.beat) k e, eq-eqb d.beat 0 f) (eq-eqb (k + d.beat) (suc c.beat) (omega arith))
          | no f ↦ rw (eq-eqb (suc c.beat) k e, ne_eqb d.beat 0 f) (ne_eqb (k + d.beat) (suc c.beat) (omega arith))
        ]
        | no e ↦ rw (ne_eqb (suc c.beat) k e) (ne_eqb (k + d.beat) (suc c.beat) (omega arith))
      ]

      go : (x y p q g : Bool) → x && y && (p && q) && g ≡ x && p && y && q && g
      go true true true q g = refl
      go true true false q g = refl
      go true false true q g = refl
      go true false false q g = refl
      go false y p q g = refl

  -- What it says of two cells that they are bound there.
  pub record AtLine : Type 0 where
    pub closes : c.side ≡ 1
    pub last_beat : suc c.beat ≡ k
    pub opens : d.side ≡ 0
    pub first_beat : d.beat ≡ 0

  pub at-line : bound_at H k c d ≡ true → AtLine
  unfolding bound_at
  at-line e =
      let x = eqb c.side 1 in
      let p = eqb (suc c.beat) k in
      let y = eqb d.side 0 in
      let q = eqb d.beat 0 in
      let e4 = and_left (x && p && y && q) (bound H c d) e in
      let e3 = and_left (x && p && y) q e4 in
      let e2 = and_left (x && p) y e3 in
      record {
        closes = eqb-true c.side 1 (and_left x p e2);
        last_beat = eqb-true (suc c.beat) k (and_right x p e2);
        opens = eqb-true d.side 0 (and_right (x && p) y e3);
        first_beat = eqb-true d.beat 0 (and_right (x && p && y) q e4);
      }

  -- c's piece ends at the line between the takes, and d's starts at the second's opening line
  pub line_end : AtLine → end_of H.delta c ≡ k * H.delta
  unfolding end_of
  line_end a = let s = a.closes in rw (ne_eqb c.side 0 (omega arith)) (ap (λ (b : ℕ). b * H.delta) a.last_beat)

  pub line-start : AtLine → start_of H.delta d ≡ 0
  unfolding start_of
  line-start a =
      let m : d.beat * H.delta ≡ 0 * H.delta = ap (λ (b : ℕ). b * H.delta) a.first_beat in
      rw (eq-eqb d.side 0 a.opens) (omega arith)

  -- the cells' own pieces are the notes up to the line, and from it on
  pub own_ending : AtLine → own H.delta c ≡ ending_at (k * H.delta) c
  unfolding own start_of end_of
  own_ending a =
      let s = a.closes in
      let m : suc c.beat * H.delta ≡ k * H.delta = ap (λ (b : ℕ). b * H.delta) a.last_beat in
      rw (ne_eqb c.side 0 (omega arith)) (note_same refl (omega arith) (omega arith) refl)

  pub own_starting : AtLine → own H.delta d ≡ starting_at0 d
  unfolding own start_of end_of
  own_starting a =
      let m : d.beat * H.delta ≡ 0 * H.delta = ap (λ (b : ℕ). b * H.delta) a.first_beat in
      rw (eq-eqb d.side 0 a.opens) (note_same refl (omega arith) (omega arith) refl)

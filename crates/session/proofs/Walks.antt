-- The notes that cells give, run by run, and the notes of a shelf beside the cells. Assumes nothing.
use mathlib.Core.Path.{◌≡◌, refl, sym, ap, ◌∙◌}
use mathlib.Core.Bool.{Bool, true, false, not, ◌&&◌, ◌||◌, and-false, and_assoc, true≢false}
use mathlib.Core.List.{List, [], ◌∷◌, head-eq_of_cons-eq}
use mathlib.Core.Option.{none, some}
use Prim.Native.Nat.{ℕ}
use borrow.Author.Tests.{eqb-true, not-true}
use lib.Dec.{eqb}
use Rattle.model.specs.Binding.{stands_alone, meet, bound, bound_next, fills, end_of}
use Rattle.model.specs.Lists.{keep, gather}
use Rattle.model.specs.Pieces.{first_beat, inside}
use Rattle.model.specs.Soundness.{cell_before, partners, same_words}
use Rattle.model.specs.Takes.{note_words}
use Rattle.model.specs.declared.Header.{Header}
use Rattle.model.specs.declared.Note.{Note}
use Rattle.model.specs.declared.Cell.{Cell}
use Rattle.laws.specs.Booleans.{and_left, and_right, or_right}
use Rattle.laws.specs.Chain.{neighbours, cells_chain}
use Rattle.laws.specs.Rules.{own}
use Rattle.laws.specs.Sweep.{skip, clear_two, sweep}
use Rattle.laws.specs.Walk.{linked, grown, walk_from}
use Rattle.session.specs.Checking.{given_by, standing}
use Rattle.session.specs.Running.{from_shown, from_last, note_of_run, same_note}
use Rattle.session.proofs.Tails.{link_yes, link_no}

-- ---- one run

module _ (h : Header) where
  -- the note in hand with the run that goes on in the cells
  abbrev run : Note → List Cell → List Note
  run n [] = []
  run n (d ∷ ds) = record { lane = n.lane; start = n.start; end = end_of h.delta d; velocity = n.velocity } ∷ walk_from h none ds

  run-grown : (n : Note) (c : Cell) (cs : List Cell) → run (grown h.delta (some n) c) cs ≡ run n cs
  unfolding grown
  run-grown n c [] = refl
  run-grown n c (d ∷ ds) = refl

  run_held : (cs : List Cell) (n : Note) → walk_from h (some n) cs ≡ run n (from_last h cs)
  unfolding walk_from from_last grown
  run_held [] n = refl
  run_held (c ∷ cs) n = go (linked h c cs) refl (run_held cs (grown h.delta (some n) c) ∙ run-grown n c (from_last h cs))
    where
      go : (t : Bool) → linked h c cs ≡ t → walk_from h (some (grown h.delta (some n) c)) cs ≡ run n (from_last h cs)
          → walk_from h (some n) (c ∷ cs) ≡ run n (from_last h (c ∷ cs))
      go true e ih = rw (e, walk_from, from_last) ih
      go false e ih = rw (e, or_right (stands_alone h c) {b = true} refl, walk_from, from_last)

  -- a shown cell starts a run
  run_shown : (c : Cell) (cs : List Cell) → stands_alone h c || linked h c cs ≡ true → walk_from h none (c ∷ cs) ≡ run (own h.delta c) (from_last h (c ∷ cs))
  unfolding walk_from from_last grown own
  run_shown c cs s = go (linked h c cs) refl
    where
      go : (t : Bool) → linked h c cs ≡ t → walk_from h none (c ∷ cs) ≡ run (own h.delta c) (from_last h (c ∷ cs))
      go true e = rw (e, walk_from, from_last) (run_held cs (own h.delta c))
      go false e = rw (e, rw e at s, walk_from, from_last)

  -- a hidden one gives nothing
  run_hidden : (c : Cell) (cs : List Cell) → stands_alone h c || linked h c cs ≡ false → walk_from h none (c ∷ cs) ≡ walk_from h none cs
  unfolding walk_from
  run_hidden c cs s = go (linked h c cs) refl
    where
      go : (t : Bool) → linked h c cs ≡ t → walk_from h none (c ∷ cs) ≡ walk_from h none cs
      go true e = absurd (true≢false (sym (or_right (stands_alone h c) e) ∙ s))
      go false e = rw (e, rw e at s, walk_from)

  -- the first note: from the first shown cell to the last of its run
  abbrev first_run : List Cell → List Cell → List Note
  first_run [] ds = []
  first_run (c ∷ cs) ds = run (own h.delta c) ds

  runs : (cs : List Cell) → walk_from h none cs ≡ first_run (from_shown h cs) (from_last h (from_shown h cs))
  unfolding walk_from from_shown
  runs [] = refl
  runs (c ∷ cs) = go (stands_alone h c || linked h c cs) refl (runs cs)
    where
      go : (t : Bool) → stands_alone h c || linked h c cs ≡ t → walk_from h none cs ≡ first_run (from_shown h cs) (from_last h (from_shown h cs)) → walk_from h none (c ∷ cs) ≡ first_run (from_shown h (c ∷ cs)) (from_last h (from_shown h (c ∷ cs)))
      go true e ih = rw (e, from_shown) (run_shown c cs e)
      go false e ih = rw (e, from_shown) (run_hidden c cs e ∙ ih)

  no_run : (cs : List Cell) → first_run cs [] ≡ []
  no_run [] = refl
  no_run (c ∷ cs) = refl

  module _ (cs first last : List Cell) (f : first ≡ from_shown h cs) (l : last ≡ from_last h first) where
    by_places : walk_from h none cs ≡ first_run first last
    by_places = rw (l, f) (runs cs)

    pub gives_nothing : last ≡ [] → walk_from h none cs ≡ []
    gives_nothing e = by_places ∙ rw e (no_run first)

    pub gives_note : (c d : Cell) (more rest : List Cell) → first ≡ c ∷ more → last ≡ d ∷ rest → walk_from h none cs ≡ note_of_run h.delta c d ∷ walk_from h none rest
    unfolding note_of_run own
    gives_note c d more rest p q = by_places ∙ rw (p, q)

-- ---- a run stays in its lane

module _ (h : Header) where
  -- two cells that are linked are of one lane
  linked-lane : (c d : Cell) (ds : List Cell) → neighbours h.delta c d ≡ true → linked h c (d ∷ ds) ≡ true → d.lane ≡ c.lane
  unfolding neighbours partners linked bound_next meet
  linked-lane c d ds e l = go (fills h.delta c) refl l
    where
      go : (t : Bool) → fills h.delta c ≡ t → t || (meet c d && bound h c d) ≡ true → d.lane ≡ c.lane
      go true f k = sym (eqb-true _ _ (and_left _ _ (and_left _ _ (and_left _ _ (and_left _ _ (and_left _ _ (and_left _ _ (rw f at (and_right (cell_before c d) _ e)))))))))
      go false f k = sym (eqb-true _ _ (and_left _ _ (and_left _ _ (and_left _ _ (and_left _ _ k)))))

  pub run_lane : (c : Cell) (cs : List Cell) → cells_chain h.delta c cs ≡ true → (d : Cell) (ds : List Cell) → from_last h (c ∷ cs) ≡ d ∷ ds → d.lane ≡ c.lane
  unfolding cells_chain linked bound_next
  run_lane c [] s d ds e = let l : linked h c [] ≡ false = rw (not-true (fills h.delta c) s) in ap (λ (x : Cell). x.lane) (head-eq_of_cons-eq (sym e ∙ link_no h c [] l))
  run_lane c (x ∷ xs) s d ds e = go (linked h c (x ∷ xs)) refl (run_lane x xs (and_right (neighbours h.delta c x) (cells_chain h.delta x xs) s) d ds)
    where
      go : (t : Bool) → linked h c (x ∷ xs) ≡ t → (from_last h (x ∷ xs) ≡ d ∷ ds → d.lane ≡ x.lane) → d.lane ≡ c.lane
      go true l ih = ih (sym (link_yes h c (x ∷ xs) l) ∙ e) ∙ linked-lane c x xs (and_left (neighbours h.delta c x) (cells_chain h.delta x xs) s) l
      go false l ih = ap (λ (y : Cell). y.lane) (head-eq_of_cons-eq (sym e ∙ link_no h c (x ∷ xs) l))

-- ---- a note beside the cells

same_words_cons : (m n : Note) (xs ys : List ℕ) → same_words (m.lane ∷ m.start ∷ m.end ∷ m.velocity ∷ xs) (n.lane ∷ n.start ∷ n.end ∷ n.velocity ∷ ys) ≡ same_note m n && same_words xs ys
unfolding same_note
same_words_cons m n xs ys =
    go (eqb m.lane n.lane) (eqb m.start n.start) (eqb m.end n.end) (eqb m.velocity n.velocity) (same_words xs ys)
  where
    go : (a b c d e : Bool) → a && (b && (c && (d && e))) ≡ (a && b && c && d) && e
    go true true true d e = refl
    go true true false d e = refl
    go true false c d e = refl
    go false b c d e = refl

later_first : (s p w : Bool) → s && (p && w) ≡ p && (s && w)
later_first true p w = refl
later_first false true w = refl
later_first false false w = refl

module _ (h : Header) (n : Note) (ns : List Note) (cs ds : List Cell) where
  pub inner_first : inside h.delta n ≡ true → (es : List Cell) → es ≡ skip n.lane (first_beat h.delta n) cs → {p : Bool} → p ≡ clear_two h.delta n es
      → standing h (n ∷ ns) cs ds ≡ p && standing h ns es ds
  unfolding standing given_by sweep
  inner_first i es e q =
      rw (i, q, e) (and_assoc (clear_two h.delta n (skip n.lane (first_beat h.delta n) cs))
      (sweep h.delta (keep (inside h.delta) ns) (skip n.lane (first_beat h.delta n) cs)) (given_by h ns ds))

  pub line_first : inside h.delta n ≡ false → (m : Note) (es : List Cell) → walk_from h none ds ≡ m ∷ walk_from h none es
      → {p : Bool} → p ≡ same_note n m → standing h (n ∷ ns) cs ds ≡ p && standing h ns cs es
  unfolding standing given_by
  line_first i m es e q =
      let first = same_words_cons n m (gather note_words (keep (λ k. not (inside h.delta k)) ns)) (gather note_words (walk_from h none es)) in
      rw (i, e, q, first) (later_first (sweep h.delta (keep (inside h.delta) ns) cs) (same_note n m) (given_by h ns es))

  pub line-none : inside h.delta n ≡ false → walk_from h none ds ≡ [] → standing h (n ∷ ns) cs ds ≡ false
  unfolding standing given_by
  line-none i e = rw (i, e) (and-false (sweep h.delta (keep (inside h.delta) ns) cs))

-- no notes left: the cells give none
pub none_left : (h : Header) (cs : List Cell) → walk_from h none cs ≡ [] → given_by h [] cs ≡ true
unfolding given_by
none_left h cs e = rw e

pub one_left : (h : Header) (cs : List Cell) (m : Note) (ms : List Note) → walk_from h none cs ≡ m ∷ ms → given_by h [] cs ≡ false
unfolding given_by
one_left h cs m ms e = rw e

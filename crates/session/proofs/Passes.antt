-- Runs, and what is left behind one note, by the way that the code goes. Assumes nothing.
use mathlib.Core.Path.{◌≡◌, refl, sym, ap, ◌∙◌}
use mathlib.Core.Bool.{Bool, true, false}
use mathlib.Core.List.{List, [], ◌∷◌, cons≢nil}
use Rattle.std.specs.Prelude.{Option, Some, None}
use Prim.Native.Nat.{ℕ}
use borrow.Author.Tests.{ne_eqb}
use native.Mathlib.Omega.{arith}
use lib.Dec.{eqb}
use lib.ListN.{length}
use Rattle.model.specs.Pieces.{first_beat, inside}
use Rattle.model.specs.declared.Header.{Header}
use Rattle.model.specs.declared.Note.{Note}
use Rattle.model.specs.declared.Cell.{Cell}
use Rattle.laws.specs.Sweep.{skip, clear_two}
use Rattle.session.specs.Checking.{given_by}
use Rattle.session.specs.Passing.{fewer, passed_inner, passed_line, passed}
use Rattle.session.specs.Running.{from_shown, from_last, note_of_run, same_note, behind_ends, behind_run}
use Rattle.session.specs.Sliced.{cells_of}
use Rattle.session.proofs.Tails.{link_none}
use Rattle.session.proofs.Walks.{gives_nothing, gives_note, none_left, one_left}

module _ (h : Header) (n : Note) (cs : List Cell) {first : List Cell} (f : first ≡ from_shown h cs) where
  pub no_first : first ≡ [] → None ≡ behind_run h n cs
  unfolding behind_run behind_ends
  no_first e = rw (behind_run, ← f, e)

  module _ {last more : List Cell} (l : last ≡ from_last h first) {c : Cell} (a : first ≡ c ∷ more) where
    pub no_last : last ≡ [] → None ≡ behind_run h n cs
    unfolding behind_run behind_ends
    no_last e = rw (behind_run, ← f, ← l, a, e)

    module _ {d : Cell} {rest : List Cell} (b : last ≡ d ∷ rest) {p : Bool} (s : p ≡ same_note n (note_of_run h.delta c d)) where
      pub other_note : p ≡ false → None ≡ behind_run h n cs
      unfolding behind_run behind_ends
      other_note t = rw (behind_run, ← f, ← l, a, b, behind_ends, ← s, t)

      pub run_note : p ≡ true → Some rest ≡ behind_run h n cs
      unfolding behind_run behind_ends
      run_note t = rw (behind_run, ← f, ← l, a, b, behind_ends, ← s, t)

-- the cells give no note, if they have no run that ends
given_none : (h : Header) (cs : List Cell) {first last : List Cell} → first ≡ from_shown h cs → last ≡ from_last h first → last ≡ [] → given_by h [] cs ≡ true
given_none h cs f l e = none_left h cs (gives_nothing h _ _ _ f l e)

given_one : (h : Header) (cs : List Cell) {first last : List Cell} → first ≡ from_shown h cs → last ≡ from_last h first → {d : Cell} {rest : List Cell} → last ≡ d ∷ rest
    → given_by h [] cs ≡ false
given_one h cs {first} {last} f l {d} {rest} e = go first f l
  where
    go : (xs : List Cell) → xs ≡ from_shown h cs → last ≡ from_last h xs → given_by h [] cs ≡ false
    go [] f l = absurd (cons≢nil (sym e ∙ l ∙ link_none h))
    go (c ∷ more) f l = one_left h cs _ _ (gives_note h cs (c ∷ more) last f l c d more rest refl e)

pub given_by_last : (h : Header) (cs : List Cell) {first : List Cell} → first ≡ from_shown h cs → (ls : List (List ℕ)) → cells_of ls ≡ from_last h first
    → {q : Bool} → q ≡ eqb (length ls) 0 → q ≡ given_by h [] cs
given_by_last h cs f [] l s = s ∙ sym (given_none h cs f l refl)
given_by_last h cs f (w ∷ ws) l s = s ∙ ne_eqb _ 0 (omega arith) ∙ sym (given_one h cs f l refl)

module _ (h : Header) (n : Note) (cs ds : List Cell) where
  module _ {beat : ℕ} (is : beat ≡ first_beat h.delta n) {es : List Cell} (s : es ≡ skip n.lane beat cs) {p : Bool} (e : p ≡ clear_two h.delta n es) where
    beside : es ≡ skip n.lane (first_beat h.delta n) cs
    beside = s ∙ ap (λ (b : ℕ). skip n.lane b cs) is

    clear_here : p ≡ clear_two h.delta n (skip n.lane (first_beat h.delta n) cs)
    clear_here = e ∙ ap (clear_two h.delta n) beside

    pub inner_not : p ≡ false → None ≡ passed_inner h n cs ds
    unfolding passed_inner
    inner_not t = rw (passed_inner, ← clear_here, t)

    pub inner_yes : p ≡ true → Some (es, ds) ≡ passed_inner h n cs ds
    unfolding passed_inner
    inner_yes t = ap (λ (xs : List Cell). Some (xs, ds)) beside ∙ rw (passed_inner, ← clear_here, t)

  pub line_not : None ≡ behind_run h n ds → None ≡ passed_line h n cs ds
  unfolding passed_line
  line_not e = rw (passed_line, ← e)

  pub line_yes : {es : List Cell} → Some es ≡ behind_run h n ds → {fs : List Cell} → fs ≡ fewer es cs → Some (fs, es) ≡ passed_line h n cs ds
  unfolding passed_line
  line_yes e f = rw (passed_line, ← e, f)

  module _ {p : Bool} (i : p ≡ inside h.delta n) {r : Option (List Cell × List Cell)} where
    pub by_inner : p ≡ true → r ≡ passed_inner h n cs ds → r ≡ passed h n cs ds
    unfolding passed
    by_inner t e = e ∙ rw (passed, ← i, t)

    pub by_line : p ≡ false → r ≡ passed_line h n cs ds → r ≡ passed h n cs ds
    unfolding passed
    by_line t e = e ∙ rw (passed, ← i, t)

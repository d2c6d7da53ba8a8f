-- The first cells of a list: are they linked, clear of a note, and in order? One law for each way out of the code. Assumes nothing.
use mathlib.Core.Path.{◌≡◌, refl, sym, ◌∙◌}
use mathlib.Core.Bool.{Bool, true, false, not, ◌&&◌, and-false, or-false}
use mathlib.Core.List.{List, [], ◌∷◌}
use Prim.Native.Nat.{ℕ}
use borrow.Author.Tests.{eq-eqb, ne_eqb}
use lib.Dec.{leb}
use Rattle.model.specs.Binding.{bound_next, meet, bound, fills}
use Rattle.model.specs.Lists.{every}
use Rattle.model.specs.Soundness.{filled}
use Rattle.model.specs.declared.Header.{Header}
use Rattle.model.specs.declared.Note.{Note}
use Rattle.model.specs.declared.Cell.{Cell}
use Rattle.laws.specs.Chain.{cell_ok, neighbours, cells_chain, cells_sound, clear}
use Rattle.laws.specs.Rules.{open_free}
use Rattle.laws.specs.Sweep.{clear_two}
use Rattle.laws.specs.Walk.{linked}

-- ---- is a cell linked to the next?

module _ (h : Header) (c : Cell) where
  pub linked-opening : c.side ≡ 0 → (cs : List Cell) → leb h.delta c.after ≡ linked h c cs
  unfolding linked fills
  linked-opening e cs = sym (rw (open_free h c cs e, eq-eqb c.side 0 e) (or-false (leb h.delta c.after)))

  closes_linked : (c.side ≡ 0 → ⊥) → (cs : List Cell) → linked h c cs ≡ bound_next h c cs
  unfolding linked fills
  closes_linked o cs = rw (ne_eqb c.side 0 o)

  module _ (o : c.side ≡ 0 → ⊥) {cs : List Cell} where
    pub linked-alone : cs ≡ [] → false ≡ linked h c cs
    unfolding bound_next
    linked-alone e = sym (closes_linked o cs ∙ rw e)

    module _ {d : Cell} {ds : List Cell} (is : cs ≡ d ∷ ds) {p : Bool} (m : p ≡ meet c d) where
      both : linked h c cs ≡ p && bound h c d
      unfolding bound_next
      both = closes_linked o cs ∙ rw (is, m)

      pub linked-apart : p ≡ false → p ≡ linked h c cs
      linked-apart t = t ∙ sym (both ∙ rw t)

      pub linked-bound : p ≡ true → {q : Bool} → q ≡ bound h c d → q ≡ linked h c cs
      linked-bound t e = sym (both ∙ rw (t, e))

-- ---- is a note clear of the first two cells?

module _ (δ : ℕ) (n : Note) {cs : List Cell} where
  pub clear_of_none : cs ≡ [] → true ≡ clear_two δ n cs
  unfolding clear_two
  clear_of_none e = rw e

  module _ {c : Cell} {ds : List Cell} (is : cs ≡ c ∷ ds) {p : Bool} (e : p ≡ clear δ n c) where
    pub clear_of_one : ds ≡ [] → p ≡ clear_two δ n cs
    unfolding clear_two
    clear_of_one o = e ∙ sym (rw (is, o))

    module _ {d : Cell} {es : List Cell} (next : ds ≡ d ∷ es) where
      pub not_clear : p ≡ false → p ≡ clear_two δ n cs
      unfolding clear_two
      not_clear t = t ∙ sym (rw (is, next, ← e, t))

      pub clear_of_both : p ≡ true → {q : Bool} → q ≡ clear δ n d → q ≡ clear_two δ n cs
      unfolding clear_two
      clear_of_both t f = sym (rw (is, next, ← e, t, f))

-- ---- are the cells in order?

regroup : (a b e x : Bool) → (a && e) && (b && x) ≡ (a && b) && (e && x)
regroup true true e x = refl
regroup true false e x = and-false e
regroup false b e x = refl

abbrev checked : ℕ → ℕ → List Cell → Bool
checked δ beats cs = every (cell_ok δ beats) cs

module _ (δ beats : ℕ) {cs : List Cell} where
  pub none_ok : cs ≡ [] → true ≡ checked δ beats cs && cells_sound δ cs
  unfolding cells_sound
  none_ok e = rw e

  pub last_ok : (c : Cell) → cs ≡ [] → {p : Bool} → p ≡ fills δ c → not p ≡ checked δ beats cs && cells_chain δ c cs
  unfolding cells_chain
  last_ok c e f = rw (e, f)

  module _ {c : Cell} {ds : List Cell} (is : cs ≡ c ∷ ds) {p : Bool} where
    module _ (e : p ≡ cell_ok δ beats c && not (filled δ c)) where
      first_all : checked δ beats cs && cells_sound δ cs ≡ p && (checked δ beats ds && cells_chain δ c ds)
      unfolding cells_sound
      first_all = rw (is, e) (regroup (cell_ok δ beats c) (not (filled δ c)) (checked δ beats ds) (cells_chain δ c ds))

      pub first_wrong : p ≡ false → false ≡ checked δ beats cs && cells_sound δ cs
      first_wrong t = sym (first_all ∙ rw t)

      pub first_right : p ≡ true → checked δ beats cs && cells_sound δ cs ≡ checked δ beats ds && cells_chain δ c ds
      first_right t = first_all ∙ rw t

    module _ (b : Cell) (e : p ≡ cell_ok δ beats c && neighbours δ b c) where
      next_all : checked δ beats cs && cells_chain δ b cs ≡ p && (checked δ beats ds && cells_chain δ c ds)
      unfolding cells_chain
      next_all = rw (is, e) (regroup (cell_ok δ beats c) (neighbours δ b c) (checked δ beats ds) (cells_chain δ c ds))

      pub next_wrong : p ≡ false → checked δ beats cs && cells_chain δ b cs ≡ false
      next_wrong t = next_all ∙ rw t

      pub next_right : p ≡ true → checked δ beats cs && cells_chain δ b cs ≡ checked δ beats ds && cells_chain δ c ds
      next_right t = next_all ∙ rw t

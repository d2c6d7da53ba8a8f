-- `session::slices::fewer` meets its contract.
use mathlib.Core.Path.{◌≡◌, refl, sym, ap}
use mathlib.Core.Bool.{Bool, true, false}
use mathlib.Core.List.{List}
use Prim.Native.Nat.{ℕ}
use lib.Dec.{ltb}
use lib.ListN.{length}
use borrow.Author.Tests.{lt-ltb, le-ltb}
use Rattle.std.proofs.lemmas.List.{length-map}
use Rattle.model.specs.declared.Cell.{Cell}
use Rattle.session.specs.Passing.{fewer}
use Rattle.session.specs.Reading.{cell_at}
use Rattle.session.specs.Sliced.{cells_of}
use Rattle.session.proofs.slices.fewer.Goals as goal

by : (xs ys : List (List ℕ)) (t : Bool) → ltb (length xs) (length ys) ≡ t → elim t [ true ↦ cells_of xs | false ↦ cells_of ys ] ≡ fewer (cells_of xs) (cells_of ys)
unfolding fewer
by xs ys t e = rw (sym e, ← length-map xs (λ ws. cell_at ws 0), ← length-map ys (λ ws. cell_at ws 0)) refl

pub returns-then-cells-others : goal.returns-then-cells-others
returns-then-cells-others c = by c.args.cells.now c.args.others.now true (lt-ltb _ _ c.if-cells-others.true)

pub returns : goal.returns
returns c = by c.args.cells.now c.args.others.now false (le-ltb _ _ c.if-cells-others.false)

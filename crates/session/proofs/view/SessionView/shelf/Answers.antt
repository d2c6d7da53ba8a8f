-- `session::view::SessionView::shelf` meets its contract.
use native.Mathlib.Omega.{arith}
use Rattle.model.proofs.Headers.{in_range}
use Rattle.session.proofs.Sources.{place_asks, inside_session, part_is, part_long}
use Rattle.session.proofs.view.SessionView.shelf.Goals as goal

pub shelf_at-at-requires : goal.shelf_at-at-requires
shelf_at-at-requires c = place_asks (in_range c.args.self.ok) c.requires

pub offset_bounds-self-at : goal.offset_bounds-self-at
offset_bounds-self-at c = omega (arith, inside_session (in_range c.args.self.ok) c.requires c.shelf_at-at.ensures)

pub slice_bounds-result-end : goal.slice_bounds-result-end
slice_bounds-result-end c = omega (arith, inside_session (in_range c.args.self.ok) c.requires c.shelf_at-at.ensures)

pub returns : goal.returns
returns c =
    let range = in_range c.args.self.ok in
    record { words = part_is _ _ _ range c.requires c.shelf_at-at.ensures; long = part_long _ _ _ range c.requires c.shelf_at-at.ensures }

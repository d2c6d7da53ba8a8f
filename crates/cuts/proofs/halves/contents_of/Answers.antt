-- `cuts::halves::contents_of` meets its contract.
use Rattle.model.proofs.Headers.{in_range}
use Rattle.session.proofs.Sources.{place_asks}
use Rattle.cuts.proofs.HalfWords.{counts_place}
use Rattle.cuts.proofs.halves.contents_of.Goals as goal

pub shelf_at-requires : goal.shelf_at-requires
shelf_at-requires c = place_asks (in_range c.args.s.ok) c.requires

pub contents_at-requires : goal.contents_at-requires
contents_at-requires c = counts_place (in_range c.args.s.ok) c.requires c.shelf_at.ensures

-- `reader::chunks::track_in` meets its contract.
use mathlib.Core.Path.{sym, ◌∙◌}
use native.Mathlib.Omega.{arith}
use Rattle.reader.proofs.ChunkLoops.{there_long, place_none, place_misfit, place_chunks}
use Rattle.reader.proofs.chunks.track_in.Goals as goal

pub returns-then-not-header_there : goal.returns-then-not-header_there
returns-then-not-header_there c = place_none _ _ (sym c.header_there.ensures ∙ c.if-not-header_there.true)

pub header_fits-requires : goal.header_fits-requires
header_fits-requires c = let h = there_long _ (sym c.header_there.ensures ∙ c.if-not-header_there.false) in omega (arith, h.0, h.1)

pub returns-then-not-header_fits : goal.returns-then-not-header_fits
returns-then-not-header_fits c =
    let there = sym c.header_there.ensures ∙ c.if-not-header_there.false in
    place_misfit _ _ there (sym c.header_fits.ensures ∙ c.if-not-header_fits.true)

pub word32-requires : goal.word32-requires
word32-requires c = let h = there_long _ (sym c.header_there.ensures ∙ c.if-not-header_there.false) in omega (arith, h.0, h.1)

pub track_from-requires : goal.track_from-requires
track_from-requires c = let h = there_long _ (sym c.header_there.ensures ∙ c.if-not-header_there.false) in omega (arith, h.1, c.word32.ensures)

pub returns : goal.returns
returns c =
    let there = sym c.header_there.ensures ∙ c.if-not-header_there.false in
    let fits = sym c.header_fits.ensures ∙ c.if-not-header_fits.false in
    c.track_from.ensures ∙ place_chunks _ _ there fits _ c.word32.ensures

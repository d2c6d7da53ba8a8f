-- `reader::chunks::track_from` meets its contract.
use mathlib.Core.Path.{sym, ap, ◌∙◌}
use native.Mathlib.Omega.{arith}
use Rattle.reader.specs.Chunks.{chunk_place}
use Rattle.reader.proofs.ChunkLoops.{chunk_short, chunk_cut, chunk_track, chunk_other}
use Rattle.reader.proofs.chunks.track_from.Goals as goal

pub returns-then-word32-eq-MTRK : goal.returns-then-word32-eq-MTRK
returns-then-word32-eq-MTRK c =
    let w = c.chunks.invariant in
    let size = c.word32-size.ensures in
    sym (ap chunk_place (w.1 ∙ chunk_track _ _ w.0 c.if-s-at-lt8.false _ size c.if-s-start.false _ c.word32.ensures c.if-word32-eq-MTRK.true))

pub chunks-preserved : goal.chunks-preserved
chunks-preserved c =
    let w = c.chunks.invariant in
    let size = c.word32-size.ensures in (
      omega (arith, c.if-s-at-lt8.false, c.if-s-start.false, w.0),
      w.1 ∙ chunk_other _ _ w.0 c.if-s-at-lt8.false _ size c.if-s-start.false _ c.word32.ensures c.if-word32-eq-MTRK.false,
    )

pub returns-then-s-at-lt8 : goal.returns-then-s-at-lt8
returns-then-s-at-lt8 c = sym (ap chunk_place (c.chunks.invariant.1 ∙ chunk_short _ _ c.chunks.invariant.0 c.if-s-at-lt8.true))

pub returns-then-s-start : goal.returns-then-s-start
returns-then-s-start c =
    let w = c.chunks.invariant in
    sym (ap chunk_place (w.1 ∙ chunk_cut _ _ w.0 c.if-s-at-lt8.false _ c.word32-size.ensures c.if-s-start.true))

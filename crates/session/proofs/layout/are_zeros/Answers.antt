-- `session::layout::are_zeros` meets its contract, in blocks. The measure is how many words are left.
use mathlib.Core.Path.{◌∙◌}
use Rattle.session.proofs.Layouts.{joined_zero, block_not, block_past}
use Rattle.session.proofs.layout.are_zeros.Goals as goal

pub returns-then-joined-ne0 : goal.returns-then-joined-ne0
returns-then-joined-ne0 c = block_not 64 c.loop-block.rest.now c.in-Some.ensures.cases.0 c.joined.ensures c.if-joined-ne0.true ∙ c.loop-block.invariant

pub loop-block-preserved : goal.loop-block-preserved
loop-block-preserved c = block_past 64 c.loop-block.rest.now c.in-Some.ensures.cases.0 c.joined.ensures c.if-joined-ne0.false c.in-Some.ensures.cases.1 ∙ c.loop-block.invariant

pub returns : goal.returns
returns c = joined_zero c.loop-block.rest.now c.joined-2.ensures ∙ c.loop-block.invariant

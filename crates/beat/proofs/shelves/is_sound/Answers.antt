-- `beat::shelves::is_sound` meets its contract.
use Rattle.model.proofs.Headers.{in_range}
use Rattle.beat.proofs.shelves.is_sound.Goals as goal

pub sound-requires : goal.sound-requires
sound-requires c = let range = in_range c.args.s.ok in (range.some-ticks, range.few_ticks, range.kept-within, range.large, c.shelf.ensures.long)

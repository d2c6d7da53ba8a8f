-- `track::putting::put_message` meets its contract.
use Rattle.track.proofs.Messages.{message_is}
use Rattle.midi.specs.Writing.{message_bytes}
use Rattle.words.specs.Splice.{splice}
use mathlib.Core.Path.{ap, ◌∙◌}
use Rattle.track.proofs.putting.put_message.Goals as goal

pub returns : goal.returns
unfolding message_bytes
returns c = c.put.ensures ∙ ap (splice _ _) (message_is _)

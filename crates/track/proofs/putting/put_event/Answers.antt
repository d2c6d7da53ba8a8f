-- `track::putting::put_event` meets its contract: a time, and three bytes behind it.
use Rattle.midi.specs.Writing.{message_bytes}
use Rattle.midi.specs.Numbers.{quantity_bytes}
use Rattle.words.specs.Splice.{splice-append}
use mathlib.Core.Path.{sym, ◌∙◌}
use native.Mathlib.Omega.{arith}
use Rattle.track.proofs.putting.put_event.Goals as goal

pub returns : goal.returns
returns c = let q = c.put_quantity-p.ensures in (omega (arith, q), c.put_message.ensures ∙ rw (q.0, q.1) (sym (splice-append _ _ (quantity_bytes _) (message_bytes _))))

-- `track::putting::put_end` meets its contract: a time, and FF 2F 00 behind it.
use Rattle.midi.specs.Writing.{end_of_track}
use Rattle.midi.specs.Numbers.{quantity_bytes}
use Rattle.words.specs.Splice.{splice-append}
use mathlib.Core.Path.{sym, ◌∙◌}
use native.Mathlib.Omega.{arith}
use Rattle.track.proofs.putting.put_end.Goals as goal

pub returns : goal.returns
returns c = let q = c.put_quantity-p.ensures in (omega (arith, q), c.put.ensures ∙ rw (q.0, q.1) (sym (splice-append _ _ (quantity_bytes _) end_of_track)))

-- `track::cursor::own_status` meets its contract.
use mathlib.Core.Logic.{⊎_elim}
use mathlib.Core.Path.{◌∙◌}
use native.Mathlib.Omega.{arith}
use Rattle.track.proofs.Parts.{own_channel, own_meta, own_f0, own_f7, own-none}
use Rattle.track.proofs.cursor.own_status.Goals as goal

pub returns-in-0-to-239 : goal.returns-in-0-to-239
returns-in-0-to-239 c = c.channel_at.ensures ∙ own_channel _ _ _ _ (omega arith)

pub returns-in-240 : goal.returns-in-240
returns-in-240 c = c.sysex_at.ensures ∙ ⊎_elim (own_f0 _ _ _ _) (own_f7 _ _ _ _) c.in-240.is

pub returns-in-255 : goal.returns-in-255
returns-in-255 c = c.meta_at.ensures ∙ own_meta _ _ _ _ c.in-255.is

pub returns-in_default : goal.returns-in_default
returns-in_default c = own-none _ _ _ _ (omega arith) (λ e. omega arith) (grind arith) (grind arith)

-- `frames::program::Progress::last_line` meets its contract.
use Rattle.std.proofs.Common.{refl, ap, length, length-take-le, arith}
use Rattle.frames.proofs.Inputs.{last_read, last_unread}
use Rattle.frames.proofs.program.Progress.last_line.Goals as goal

pub returns-then-not-is_empty : goal.returns-then-not-is_empty
returns-then-not-is_empty c =
    let few = length-take-le c.self.inside.0.1.0.count c.self.inside.0.1.0.items (omega arith) in
    rw (← c.self.view_is)
    (last_read c.end_line-self-inside.ensures (omega (arith, few, ap (λ x. length x.answers) c.self.view_is)) (λ e. let no = c.if-not-is_empty.ensures.1 e in cc))

pub returns-else-not-is_empty : goal.returns-else-not-is_empty
returns-else-not-is_empty c = rw (← c.self.view_is) (last_unread _ _ (c.if-not-is_empty.ensures.0 refl))

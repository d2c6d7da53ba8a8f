-- `reader::sounding::Sounding::lane_note` meets its contract.
use Rattle.std.proofs.Common.{refl}
use Rattle.reader.proofs.Sounds.{sound-at}
use Rattle.reader.proofs.sounding.Sounding.lane_note.Goals as goal

pub returns : goal.returns
returns c =
    let a = c.args in
    let start = sound-at (λ s. s.start) refl a.self.now a.channel a.key c.requires.1 in
    let velocity = sound-at (λ s. s.velocity) refl a.self.now a.channel a.key c.requires.1 in
    rw (start, velocity) refl

-- `reader::sounding::Sounding::put_lane` meets its contract.
use Rattle.std.proofs.Common.{refl}
use Rattle.reader.proofs.Sounds.{sound-put}
use Rattle.reader.proofs.sounding.Sounding.put_lane.Goals as goal

pub returns : goal.returns
returns c =
    let a = c.args in
    record {
      starts = sound-put (λ s. s.start) refl a.self.now a.channel a.key c.requires.1 (record { start = a.start; velocity = a.velocity });
      velocities = sound-put (λ s. s.velocity) refl a.self.now a.channel a.key c.requires.1 (record { start = a.start; velocity = a.velocity });
    }

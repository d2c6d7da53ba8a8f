-- `reader::sounding::Sounding::silent` meets its contract.
use Rattle.std.proofs.Common.{◌≡◌, [], get_or, rules}
use Rattle.std.specs.Prelude.{bit_or, fold}
use Rattle.reader.proofs.Sounds.{joined_sounds}
use Rattle.reader.proofs.sounding.Sounding.silent.Goals as goal

pub returns : goal.returns
returns c =
    let joined : c.fold.result ≡ fold (λ all s. bit_or all s.velocity) 0 (get_or c.args.self.now.lanes c.args.channel []) = search rules in
    rw joined (joined_sounds _ _ (search rules))

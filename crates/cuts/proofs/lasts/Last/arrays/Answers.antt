-- `cuts::lasts::Last::arrays` meets its contract.
use mathlib.Core.Path.{◌≡◌, ap, ◌∙◌}
use Prim.Native.Nat.{◌-◌, ◌*◌, ◌/◌}
use native.Mathlib.Nat.{mul-div_cancel_left}
use native.Mathlib.Omega.{arith}
use Rattle.session.proofs.Wholes.{part_chunks}
use Rattle.cuts.proofs.lasts.Last.arrays.Goals as goal

pub returns : goal.returns
returns g c =
    let n = g.row.WORDS in
    let k = c.args.self.left in
    let at = c.args.self.end - n * k in
    let size : c.args.self.end - at ≡ n * k = omega (arith, c.args.self.fits) in
    rw c.place.ensures at c.as_chunks.ensures.front
    ∙ part_chunks n c.args.s.now at k (c.args.self.end - at) (ap (λ m. m / n) size ∙ mul-div_cancel_left k c.requires.some) (omega (arith, size)) (omega (arith, c.requires.inside, c.args.self.fits))

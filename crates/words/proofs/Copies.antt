-- Parts of a list that a library's method wrote: put back, they are a `splice`. Assumes nothing.
use Rattle.std.specs.Prelude.{◌≡◌, List, ℕ, ◌+◌, ◌-◌, ◌≤◌, length, take, drop, replicate}
use Rattle.std.proofs.Common.{arith, ◌∙◌}
use Rattle.std.proofs.lemmas.List.{length-replicate}
use borrow.Rule.Slice.PartMut.{put_mid}
use Rattle.words.specs.Splice.{splice, splice-part}
use Rattle.words.specs.Parts.{length_part}

-- n items from place b on
pub part_written : {X : Type 0} (s new items : List X) (b n : ℕ) → b + n ≤ length s
    → length new ≡ length (take (b + n - b) (drop b s)) → new ≡ items → put_mid b (b + n - b) s new ≡ splice s b items
part_written s new items b n fits long is =
    let e : b + n - b ≡ n = omega arith in
    rw (← is) (splice-part s b (b + n) new (omega arith) fits (long ∙ rw e (length_part s b n fits)))

-- one word everywhere
pub part_filled : (s new : List ℕ) (from to w : ℕ) → from ≤ to → to ≤ length s
    → new ≡ replicate (length (take (to - from) (drop from s))) w → put_mid from (to - from) s new ≡ splice s from (replicate (to - from) w)
part_filled s new from to w low high is =
    let fits : from + (to - from) ≤ length s = omega arith in
    rw (is, length_part s from (to - from) fits) (splice-part s from to _ low high (length-replicate (to - from) w))

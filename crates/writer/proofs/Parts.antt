-- The words of a sound shelf: what its notes give the code that writes them. Assumes nothing.
use mathlib.Core.Path.{◌≡◌, sym, ap, ◌∙◌}
use mathlib.Core.List.{List}
use Prim.Native.Nat.{ℕ, ◌-◌, ◌≤◌, ◌<◌}
use native.Mathlib.Omega.{arith}
use lib.ListN.{length, take, drop, length-drop}
use lib.Seq.{take_all}
use Rattle.model.specs.Takes.{word}
use Rattle.model.specs.declared.Header.{Header}
use Rattle.laws.specs.Clauses.{sound-chain}
use Rattle.laws.specs.ChainSolid.{Parts, parts}
use Rattle.writer.specs.Files.{FileAsks, PartAsks, file_of, file_in}
use Rattle.writer.proofs.Written.{file-length}

module _ (h : Header) (ws : List ℕ) (a : PartAsks h ws) where
  given : Parts h ws
  given = parts h ws (sym (sound-chain h a.some-ticks ws) ∙ a.sound)

  -- the part behind the three counts
  pub behind_counts : take (length ws - 3) (drop 3 ws) ≡ drop 3 ws
  behind_counts = take_all (length ws - 3) (drop 3 ws) (omega (arith, length-drop 3 ws))

  pub counts_inside : 3 ≤ length ws
  counts_inside = omega (arith, given.used_ok, a.whole)

  pub notes_few : word ws 1 < 1048576
  notes_few = omega (arith, given.used_ok, a.small)

  pub file_asks : FileAsks (take (length ws - 3) (drop 3 ws)) (word ws 1) h.delta (word ws 0)
  file_asks = rw behind_counts (record {
    inside = omega (arith, given.used_ok, a.whole, length-drop 3 ws);
    few = notes_few;
    delta_low = a.few_ticks;
    beats_few = given.beats_ok;
    ok = given.notes_ok_lem;
  })

  pub file_is : file_of (take (length ws - 3) (drop 3 ws)) (word ws 1) h.delta (word ws 0) ≡ file_in h ws
  file_is = ap (λ (l : List ℕ). file_of l (word ws 1) h.delta (word ws 0)) behind_counts

  -- a file has bytes
  pub file-some : 0 < length (file_in h ws)
  file-some = omega (arith, file-length file_asks, ap length file_is)

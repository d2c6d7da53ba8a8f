-- Solid takes: what soundness says of a take, in numbers.
-- Assumes nothing.
use Rattle.std.specs.Prelude.{Bool, ◌&&◌, ◌≡◌, ◌*◌, ◌+◌, ◌<◌, ◌≤◌, suc, ℕ, leb, ltb}
use Rattle.std.proofs.Math.Bool.{cond, false, true}
use Rattle.std.proofs.Math.Path.{refl}
use borrow.Author.Tests.{le-leb, leb-true, lt-ltb, ltb-true}
use Rattle.model.specs.Binding.{fills, opening}
use Rattle.model.specs.Limits.{velocity_ok}
use Rattle.model.specs.Pieces.{first_beat, inside}
use Rattle.model.specs.Soundness.{cell_in_range, has_ticks, memory_within}
use Rattle.model.specs.Takes.{Take}
use Rattle.model.specs.declared.Cell.{Cell}
use Rattle.model.specs.declared.Note.{Note}
use Rattle.laws.specs.Booleans.{and_left, and_right, and_yes}
use Rattle.laws.specs.Notes.{Fair, Follow}
use Rattle.laws.specs.Relations.{All, Pairs}
use Rattle.laws.specs.Rules.{Pieced}

-- A cell in range.
pub record Fine (δ beats : ℕ) (c : Cell) : Type 0 where
  pub lane_below : c.lane < 2048
  pub beat_below : c.beat < beats
  pub side_below : c.side ≤ 1
  pub loud : velocity_ok c.lane c.velocity ≡ true
  pub sum : c.before + c.after ≤ 4096 * δ
  pub open_ticks : opening c ≡ true → 0 < c.after
  pub close_ticks : opening c ≡ false → 0 < c.before

pub fine : (δ beats : ℕ) (c : Cell) → cell_in_range beats c ≡ true → memory_within δ c ≡ true → has_ticks c ≡ true → Fine δ beats c
unfolding cell_in_range memory_within has_ticks
fine δ beats c e m k =
    let a = ltb c.lane 2048 in
    let b = ltb c.beat beats in
    let s = leb c.side 1 in
    let v = velocity_ok c.lane c.velocity in
    let e3 = and_left (a && b && s) v e in
    let e2 = and_left (a && b) s e3 in
    record {
      lane_below = ltb-true c.lane 2048 (and_left a b e2);
      beat_below = ltb-true c.beat beats (and_right a b e2);
      side_below = leb-true c.side 1 (and_right (a && b) s e3);
      loud = and_right (a && b && s) v e;
      sum = leb-true (c.before + c.after) (4096 * δ) m;
      open_ticks = λ o. ltb-true 0 c.after (rw o at k);
      close_ticks = λ o. ltb-true 0 c.before (rw o at k);
    }

module _ (δ beats : ℕ) (c : Cell) (f : Fine δ beats c) where
  pub fine_range : cell_in_range beats c ≡ true
  unfolding cell_in_range
  fine_range = and_yes (and_yes (and_yes (lt-ltb c.lane 2048 f.lane_below) (lt-ltb c.beat beats f.beat_below)) (le-leb c.side 1 f.side_below)) f.loud

  pub fine_memory : memory_within δ c ≡ true
  unfolding memory_within
  fine_memory = le-leb (c.before + c.after) (4096 * δ) f.sum

  pub fine_ticks : has_ticks c ≡ true
  unfolding has_ticks
  fine_ticks = go (opening c) refl
    where
      go : (o : Bool) → opening c ≡ o → cond o (ltb 0 c.after) (ltb 0 c.before) ≡ true
      go true e = lt-ltb 0 c.after (f.open_ticks e)
      go false e = lt-ltb 0 c.before (f.close_ticks e)

-- c lies before d, and two pieces of one beat do not overlap.
pub data Apart (δ : ℕ) (c d : Cell) : Type 0 where
  lane_up : c.lane < d.lane → Apart δ c d
  beat_up : c.lane ≡ d.lane → c.beat < d.beat → Apart δ c d
  side_up : c.lane ≡ d.lane → c.beat ≡ d.beat → c.side ≡ 0 → d.side ≡ 1 → (fills δ c ≡ false → c.after + d.before ≤ δ) → Apart δ c d

-- A note that touches no line, and a cell's piece, do not overlap.
pub record Clear (δ : ℕ) (n : Note) (c : Cell) : Type 0 where
  pub behind : n.lane ≡ c.lane → first_beat δ n ≡ c.beat → opening c ≡ true → c.beat * δ + c.after ≤ n.start
  pub before : n.lane ≡ c.lane → first_beat δ n ≡ c.beat → opening c ≡ false → n.end + c.before ≤ suc c.beat * δ

-- What soundness says of a take, in numbers.
pub record Solid (δ : ℕ) (t : Take) : Type 0 where
  pub notes_fair : All (Fair δ t.beats) t.inner
  pub notes-inside : All (λ n. inside δ n ≡ true) t.inner
  pub notes-apart : Pairs Follow t.inner
  pub cells_fine : All (Fine δ t.beats) t.cells
  pub cells_pieced : Pieced δ t.cells
  pub cells-apart : Pairs (Apart δ) t.cells
  pub all-clear : All (λ n. All (Clear δ n) t.cells) t.inner

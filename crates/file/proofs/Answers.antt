-- What the first pass's answer says of the track. Assumes nothing.
use mathlib.Core.Path.{◌≡◌, refl}
use Prim.Native.Nat.{ℕ}
use native.Mathlib.Omega.{arith}
use lib.ListN.{length}
use Rattle.model.specs.Lists.{gather}
use Rattle.model.specs.Pieces.{cells_of_note}
use Rattle.model.specs.Histories.{Recording}
use Rattle.midi.specs.Reading.{FileAnswer, refused, read}
use Rattle.reader.specs.Counting.{refusal, recording, summary}

-- A recording with so many beats, notes and cells.
pub record ReadAs (δ : ℕ) (a : FileAnswer) (beats notes cells : ℕ) : Type 0 where
  pub got : Recording
  pub is : a ≡ read got
  pub beats_are : beats ≡ got.beats
  pub notes_are : notes ≡ length got.notes
  pub cells_are : cells ≡ length (gather (cells_of_note δ) got.notes)

pub refused_is : (δ n : ℕ) (a : FileAnswer) → refusal n ≡ summary δ a → a ≡ refused n
refused_is δ n (refused m) e = let k : m ≡ n = cc in rw k
refused_is δ n (read r) e = let z : ◌≡◌ {A = ℕ} 0 1 = cc in absurd (omega arith)

pub recording_is : (δ beats notes cells : ℕ) (a : FileAnswer) → recording beats notes cells ≡ summary δ a → ReadAs δ a beats notes cells
recording_is δ b n c (refused m) e = let z : ◌≡◌ {A = ℕ} 0 1 = cc in absurd (omega arith)
recording_is δ b n c (read r) e = record { got = r; is = refl; beats_are = cc; notes_are = cc; cells_are = cc }

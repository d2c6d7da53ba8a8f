-- The file of a shelf's notes as its code writes it: what each function is asked, and what it leaves. Assumes nothing.
use Rattle.std.specs.Prelude.{◌≡◌, Option, None, Some, MatchOption, true, cond, List, ℕ, ◌*◌, ◌≤◌, ◌<◌, leb, length}
use Rattle.words.specs.Splice.{splice}
use Rattle.model.specs.Limits.{max_beats, max_delta, max_words}
use Rattle.model.specs.Soundness.{notes_ok, sound_shelf}
use Rattle.model.specs.Takes.{word, read_notes, notes_in}
use Rattle.model.specs.declared.Header.{Header}
use Rattle.midi.specs.Writing.{file_bytes}

-- The words of a shelf's notes.
pub record FileAsks (s : List ℕ) (count δ beats : ℕ) : Type 0 where
  pub inside : 4 * count ≤ length s
  pub few : count < 1048576
  pub delta_low : δ ≤ max_delta
  pub beats_few : beats ≤ max_beats
  pub ok : notes_ok δ beats (read_notes count s) ≡ true

-- The words of a sound shelf.
pub record PartAsks (h : Header) (ws : List ℕ) : Type 0 where
  pub some-ticks : 0 < h.delta
  pub few_ticks : h.delta ≤ max_delta
  pub small : h.words ≤ max_words
  pub whole : length ws ≡ h.words
  pub sound : sound_shelf h ws ≡ true

-- Room for the places of the lanes or the buckets, and for the events of a window or a bucket.
pub record Room (pos ends to a b places : List ℕ) : Type 0 where
  pub starts : 2048 ≤ length pos
  pub limits : 2048 ≤ length ends
  pub next : 2048 ≤ length to
  pub here : 2048 ≤ length a
  pub there : 2048 ≤ length b
  pub table : 2048 ≤ length places

-- The file of some notes' words, and of a shelf's words; its length if it fits an output; and the output with it.
abbrev pub file_of : List ℕ → ℕ → ℕ → ℕ → List ℕ
file_of s count δ beats = file_bytes δ beats (read_notes count s)

abbrev pub file_in : Header → List ℕ → List ℕ
file_in h ws = file_bytes h.delta (word ws 0) (notes_in ws)

abbrev pub length_in : List ℕ → List ℕ → Option ℕ
length_in file out = cond (leb (length file) (length out)) (Some (length file)) None

abbrev pub output_of : List ℕ → List ℕ → List ℕ
output_of file out = cond (leb (length file) (length out)) (splice out 0 file) out

-- The file is written, and its length returned; or the output is as it was, and nothing is said of the file.
abbrev pub Tried : Option ℕ → List ℕ → List ℕ → List ℕ → Type 0
Tried r file out after = MatchOption r (after ≡ out) (λ n. (Some n ≡ length_in file out) × (after ≡ output_of file out))

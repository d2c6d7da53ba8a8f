-- The first buckets of events that stand in an output, their bytes written over them where each event takes four bytes. Assumes nothing.
use Rattle.std.specs.Prelude.{◌≡◌, Option, None, Some, List, ℕ, ◌+◌, ◌*◌, ◌≤◌, ◌<◌, length}
use Rattle.words.specs.Splice.{splice}
use Rattle.radix.specs.Sort.{sort}
use Rattle.radix.specs.Ranks.{All}
use Rattle.buckets.specs.Buckets.{bucket}
use Rattle.events.specs.Windows.{window_bytes, last_tick}
use Rattle.events.specs.Emitting.{start_of}
use Rattle.events.specs.Bucketing.{events_in, sorted_to}

-- All events are of one bucket.
pub record OneBucket (width : ℕ) (ks : List ℕ) : Type 0 where
  pub some : 0 < width
  pub v : ℕ
  pub own : All (λ k. bucket width k ≡ v) ks

-- The bytes of the events of bucket v in order.
abbrev pub bytes_in : ℕ → ℕ → ℕ → ℕ → ℕ → List ℕ → List ℕ
bytes_in width v from upto tick out = window_bytes tick (sort (events_in width v from upto out))

-- The bytes of bucket v are written over its events if they are no longer, and the last of these has the tick that is returned; if they are longer,
-- all is as it was.
pub record TightBucket (width v from upto tick : ℕ) (out after : List ℕ) (last : Option ℕ) : Type 0 where
  pub tight : (t : ℕ) → last ≡ Some t → (22 + 4 * from + length (bytes_in width v from upto tick out) ≤ 22 + 4 * upto) × (t ≡ last_tick tick (sort (events_in width v from upto out)))
      × (after ≡ splice out (22 + 4 * from) (bytes_in width v from upto tick out))
  pub loose : last ≡ None → (22 + 4 * upto < 22 + 4 * from + length (bytes_in width v from upto tick out)) × (after ≡ out)

-- The bytes of the buckets before bucket v are written, up to place `at`, where its events stand; the last event before it is at `tick`.
pub record TightPut (width : ℕ) (ends out after : List ℕ) (v at tick : ℕ) : Type 0 where
  pub early : v < 2048
  pub bytes : after ≡ splice out 22 (window_bytes 0 (sorted_to width ends out 0 v))
  pub reached : at ≡ 22 + length (window_bytes 0 (sorted_to width ends out 0 v))
  pub tight : at ≡ 22 + 4 * start_of ends v
  pub ended : tick ≡ last_tick 0 (sorted_to width ends out 0 v)

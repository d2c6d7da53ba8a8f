-- The events that stand in an output, bucket by bucket, and what writing their bytes asks. Assumes nothing.
use Rattle.std.specs.Prelude.{◌≡◌, List, [], ◌∷◌, ℕ, zero, suc, ◌+◌, ◌-◌, ◌*◌, ◌≤◌, ◌<◌, length, get_or}
use Rattle.radix.specs.Parts.{joined}
use Rattle.midi.specs.Numbers.{word32}
use Rattle.buckets.specs.Buckets.{base}
use Rattle.events.specs.Tracks.{Timed}
use Rattle.events.specs.Windows.{window_bytes, last_tick, longest}

-- The m events that stand from number `from` on, each without its bucket's base b.
unfoldable pub events_from : ℕ → List ℕ → ℕ → ℕ → List ℕ
events_from b out from zero = []
events_from b out from (suc m) = (b + word32 out (22 + 4 * from)) ∷ events_from b out (suc from) m

-- Where the events of a bucket begin: where those of the bucket before it end.
unfoldable pub start_of : List ℕ → ℕ → ℕ
start_of ends zero = 0
start_of ends (suc v) = get_or ends v 0

-- The events of bucket v.
abbrev pub events_of : ℕ → List ℕ → List ℕ → ℕ → List ℕ
events_of width ends out v = events_from (base width v) out (start_of ends v) (get_or ends v 0 - start_of ends v)

-- Parts from part `first` on, up to part v, one behind the other.
unfoldable pub span : (ℕ → List ℕ) → ℕ → ℕ → List ℕ
span f first v = joined (λ n. f (first + n)) (v - first)

-- The events of the buckets from `first` on, up to bucket v.
abbrev pub events_to : ℕ → List ℕ → List ℕ → ℕ → ℕ → List ℕ
events_to width ends out first v = span (events_of width ends out) first v

-- Room for what is noted of each bucket, and for the events of one.
pub record Tables (ends a starts ticks : List ℕ) : Type 0 where
  pub limits : 2048 ≤ length ends
  pub here : 2048 ≤ length a
  pub places : 2048 ≤ length starts
  pub times : 2048 ≤ length ticks

-- Buckets of so few ticks that their events are numbers of the code, and of so few events that a table holds them.
pub record Bounds (width : ℕ) (ends : List ℕ) : Type 0 where
  pub narrow : width ≤ 8192
  pub rising : (v : ℕ) → v < 2048 → start_of ends v ≤ get_or ends v 0
  pub few : (v : ℕ) → v < 2048 → get_or ends v 0 ≤ start_of ends v + 2048

-- Where the bytes of each bucket from `first` on start, and the tick of the event before it. Those of the first start at place `at`, behind an
-- event at `tick`.
pub record Noted (width first at tick : ℕ) (ends out starts ticks : List ℕ) : Type 0 where
  pub place : (v : ℕ) → first ≤ v → v < 2048 → get_or starts v 0 ≡ at + length (window_bytes tick (events_to width ends out first v))
  pub before : (v : ℕ) → first ≤ v → v < 2048 → get_or ticks v 0 ≡ last_tick tick (events_to width ends out first v)

-- The bytes of the events of the buckets from `first` on, up to bucket v, are to be written, behind all events of earlier ones.
pub record Ahead (width first at tick v : ℕ) (ends out : List ℕ) : Type 0 where
  pub behind : 22 + 4 * start_of ends first ≤ at
  pub timed : Timed longest tick (events_to width ends out first v)
  pub room : at + length (window_bytes tick (events_to width ends out first v)) ≤ length out

-- The bytes of the events of bucket v are to be written.
pub record BucketAhead (width v : ℕ) (ends out starts ticks : List ℕ) : Type 0 where
  pub early : v < 2048
  pub held : 22 + 4 * get_or ends v 0 ≤ length out
  pub timed : Timed longest (get_or ticks v 0) (events_of width ends out v)
  pub room : get_or starts v 0 + length (window_bytes (get_or ticks v 0) (events_of width ends out v)) ≤ length out

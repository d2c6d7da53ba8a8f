-- The paper's limits and ranges, by name. Assumes nothing.
use Rattle.std.specs.Prelude.{ℕ, Bool, ◌&&◌, leb}

-- Limits: 4,096 beats, 2,048 lanes, 64 shelves.
abbrev pub max_beats : ℕ
max_beats = 4096

abbrev pub lane_count : ℕ
lane_count = 2048

abbrev pub max_shelves : ℕ
max_shelves = 64

-- δ is 1 to 32,767; W is 3 to 1,048,576.
abbrev pub max_delta : ℕ
max_delta = 32767

abbrev pub min_words : ℕ
min_words = 3

abbrev pub max_words : ℕ
max_words = 1048576

-- Velocity 1 to 127, in every lane.
unfoldable pub velocity_ok : ℕ → ℕ → Bool
velocity_ok lane v = leb 1 v && leb v 127

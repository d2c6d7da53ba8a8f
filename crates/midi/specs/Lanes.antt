-- Lane = channel × 128 + key (channel 0 to 15, key 0 to 127), and tables of 16 channels by 128 keys. Assumes nothing.
use Rattle.std.specs.Prelude.{ℕ, ◌+◌, ◌*◌, ◌/◌, ◌%◌, List, [], get_or, set, replicate}

-- The lane of a channel and key.
abbrev pub lane_of : ℕ → ℕ → ℕ
lane_of channel key = channel * 128 + key

-- The channel of a lane, and its key.
abbrev pub channel_of : ℕ → ℕ
channel_of lane = lane / 128

abbrev pub key_of : ℕ → ℕ
key_of lane = lane % 128

-- A table of 16 channels by 128 keys with v everywhere.
abbrev pub table_of : ℕ → List (List ℕ)
table_of v = replicate 16 (replicate 128 v)

-- What a table has for a lane.
abbrev pub lane_at : List (List ℕ) → ℕ → ℕ
lane_at t lane = get_or (get_or t (channel_of lane) []) (key_of lane) 0

-- The table with v for a lane.
abbrev pub put_lane : List (List ℕ) → ℕ → ℕ → List (List ℕ)
put_lane t lane v = set t (channel_of lane) (set (get_or t (channel_of lane) []) (key_of lane) v)

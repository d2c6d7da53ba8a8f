-- The sounding table of 16 channels by 128 keys, and what the messages of a track do to it (question 14). Assumes nothing.
use Rattle.std.specs.Prelude.{ℕ, true, false, ◌&&◌, List, [], ◌++◌, ltb, eqb}
use Rattle.model.specs.Lists.{cons_if, gather}
use Rattle.model.specs.Takes.{lanes}
use Rattle.model.specs.declared.Note.{Note}
use Rattle.midi.specs.Lanes.{table_of, lane_at, put_lane}
use Rattle.midi.specs.Events.{Message, starts, ends, passed}

-- Start tick and velocity per channel and key; velocity 0: the lane is silent.
pub record Sounding : Type 0 where
  pub start : List (List ℕ)
  pub velocity : List (List ℕ)

-- Every lane is silent.
abbrev pub silence : Sounding
silence = record { start = table_of 0; velocity = table_of 0 }

-- A note starts in a lane.
abbrev pub start_lane : Sounding → ℕ → ℕ → ℕ → Sounding
start_lane t lane tick velocity = record { start = put_lane t.start lane tick; velocity = put_lane t.velocity lane velocity }

-- A lane is silent from here on.
abbrev pub stop_lane : Sounding → ℕ → Sounding
stop_lane t lane = record { start = t.start; velocity = put_lane t.velocity lane 0 }

-- The note that ends at a tick: none in a silent lane, and notes of length 0 are dropped.
unfoldable pub ended : ℕ → ℕ → ℕ → ℕ → List Note
ended lane start velocity tick =
    cons_if (ltb 0 velocity && ltb start tick) (record { lane = lane; start = start; end = tick; velocity = velocity }) []

-- The note that ends when a lane is stopped at a tick.
abbrev pub ended_lane : Sounding → ℕ → ℕ → List Note
ended_lane t tick lane = ended lane (lane_at t.start lane) (lane_at t.velocity lane) tick

-- End of track ends sounding notes.
abbrev pub ended_all : Sounding → ℕ → List Note
ended_all t tick = gather (ended_lane t tick) lanes

-- What a message does: a clash, where a note starts in a lane that is not silent; else the table behind it and the notes ended so far.
pub data Played : Type 0 where
  clash : Played
  played : Sounding → List Note → Played

-- A message at a tick, with the table and the notes ended before it.
unfoldable pub play : ℕ → Message → Sounding → List Note → Played
unfolding ended
play tick (starts lane velocity) t notes = elim (eqb (lane_at t.velocity lane) 0) [
  | false ↦ clash
  | true ↦ played (start_lane t lane tick velocity) notes
]
play tick (ends lane) t notes = played (stop_lane t lane) (notes ++ ended_lane t tick lane)
play tick passed t notes = played t notes

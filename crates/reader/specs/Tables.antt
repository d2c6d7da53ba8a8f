-- The sounding table that the code keeps, as the definitions see it. Assumes nothing.
use Rattle.std.specs.Prelude.{ℕ, List, map}
use Rattle.midi.specs.Sounding as M
use Rattle.reader.specs.declared.sounding.Sounded.{Sounded}
use Rattle.reader.specs.declared.sounding.Sounding.{Sounding}

-- One number of each lane.
abbrev pub of_lanes : (Sounded → ℕ) → Sounding → List (List ℕ)
of_lanes f t = map (map f) t.lanes

-- Its start ticks and its velocities.
abbrev pub table_of : Sounding → M.Sounding
table_of t = record { start = of_lanes (λ s. s.start) t; velocity = of_lanes (λ s. s.velocity) t }

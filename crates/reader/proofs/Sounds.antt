-- The sounding table, one number of each lane: what is read and put. Assumes nothing.
use Rattle.std.specs.Prelude.{◌≡◌, ℕ, ◌+◌, ◌*◌, ◌<◌, List, [], get_or, set, map, length, eqb, bit_or, fold}
use Rattle.std.proofs.Common.{sym, ap, ◌∙◌}
use Rattle.std.proofs.Math.ListN.{get_or-map}
use Rattle.std.proofs.lemmas.List.{map-set}
use Rattle.std.proofs.lemmas.List.Folds.{fold-map}
use Rattle.laws.specs.Lists.{length-map}
use Rattle.midi.specs.Lanes.{lane_at, put_lane}
use Rattle.midi.proofs.Tables.{key-at, key-put}
use Rattle.reader.specs.declared.sounding.Sounded.{Sounded}
use Rattle.reader.specs.declared.sounding.Sounding.{Sounding}
use Rattle.reader.specs.Tables.{of_lanes}
use Rattle.reader.specs.CountingSteps.{lanes_silent}
use Rattle.reader.proofs.Silence.{joined_silent}

abbrev pub silent_sound : Sounded
silent_sound = record { start = 0; velocity = 0 }

module _ (f : Sounded → ℕ) (none : f silent_sound ≡ 0) (t : Sounding) (channel key : ℕ) (low : key < 128) where
  pub sound-at : lane_at (of_lanes f t) (128 * channel + key) ≡ f (get_or (get_or t.lanes channel []) key silent_sound)
  sound-at =
      key-at (of_lanes f t) channel key low ∙ ap (λ (row : List ℕ). get_or row key 0) (get_or-map (map f) t.lanes channel [])
      ∙ ap (get_or (map f (get_or t.lanes channel [])) key) (sym none) ∙ get_or-map f (get_or t.lanes channel []) key silent_sound

  pub sound-put : (x : Sounded) → map (map f) (set t.lanes channel (set (get_or t.lanes channel []) key x)) ≡ put_lane (of_lanes f t) (128 * channel + key) (f x)
  sound-put x =
      map-set (map f) t.lanes channel (set (get_or t.lanes channel []) key x)
      ∙ ap (set (of_lanes f t) channel) (map-set f (get_or t.lanes channel []) key x ∙ ap (λ (row : List ℕ). set row key (f x)) (sym (get_or-map (map f) t.lanes channel [])))
      ∙ sym (key-put (of_lanes f t) channel key low (f x))

-- the velocities of a channel, joined by "or"
pub joined_sounds : (t : Sounding) (channel : ℕ) → length (get_or t.lanes channel []) ≡ 128
    → eqb (fold (λ all s. bit_or all s.velocity) 0 (get_or t.lanes channel [])) 0 ≡ lanes_silent (of_lanes (λ s. s.velocity) t) (128 * channel) 128
joined_sounds t channel long =
    let row : List Sounded = get_or t.lanes channel [] in
    let same : get_or (of_lanes (λ s. s.velocity) t) channel [] ≡ map (λ s. s.velocity) row = get_or-map (map (λ s. s.velocity)) t.lanes channel [] in
    rw (← fold-map bit_or (λ s. s.velocity) 0 row, ← same)
    (joined_silent (of_lanes (λ s. s.velocity) t) channel (ap length same ∙ length-map (λ s. s.velocity) row ∙ long))

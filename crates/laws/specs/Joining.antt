-- What the code of lay, split and join follows on solid takes: the notes by one walk, a join by one merge over lanes.
-- Assumes nothing.
use Rattle.std.specs.Prelude.{List, [], ◌∷◌, map, ◌≡◌, refl, ◌%◌, ◌*◌, ◌+◌, ◌-◌, ◌/◌, ◌<◌, ◌≤◌, ℕ, length}
use Rattle.std.proofs.Common.{◌∙◌, ap, add-mul, div-add-mod', arith}
use Rattle.std.proofs.Math.Path.{sym}
use Rattle.model.specs.Pieces.{first_beat}
use Rattle.model.specs.Takes.{Take, cell_to, join_takes, later_by, note_to}
use Rattle.model.specs.declared.Cell.{Cell}
use Rattle.model.specs.declared.Note.{Note}
use Rattle.laws.specs.Lanes.{length-merge_lane, merge_lane_lem, merge_lane}
use Rattle.laws.specs.Lists.{length-map}
use Rattle.laws.specs.Notes.{Fair, Follow, follow_lane, note_same}
use Rattle.laws.specs.Relations.{All, Pairs, all_imp, pairs_imp}
use Rattle.laws.specs.Solid.{Apart, Fine, Solid, beat_up, lane_up, side_up}

module _ {A : Type 0} (lane : A → ℕ) (f : A → A) (same : (x : A) → lane (f x) ≡ lane x) where
  map-all : (P : ℕ → Type 0) (xs : List A) → All (λ x. P (lane x)) xs → All (λ x. P (lane x)) (map f xs)
  map-all P [] a = tt
  map-all P (x ∷ xs) a = (rw (same x) a.0, map-all P xs a.1)

  map-pairs : (xs : List A) → Pairs (λ x y. lane x ≤ lane y) xs → Pairs (λ x y. lane x ≤ lane y) (map f xs)
  map-pairs [] s = tt
  map-pairs (x ∷ xs) s = (rw (same x) (map-all (λ l. lane x ≤ l) xs s.0), map-pairs xs s.1)

module _ (δ : ℕ) (t : Take) (s : Solid δ t) where
  pub cell-lanes : Pairs (λ c d. c.lane ≤ d.lane) t.cells × All (λ c. c.lane < 2048) t.cells
  cell-lanes = (pairs_imp (Apart δ) (λ c d. c.lane ≤ d.lane) t.cells up s.cells-apart, all_imp (Fine δ t.beats) (λ c. c.lane < 2048) t.cells (λ c f. f.lane_below) s.cells_fine)
    where
      up : (c d : Cell) → Apart δ c d → c.lane ≤ d.lane
      up c d (lane_up a) = omega arith
      up c d (beat_up a b) = omega arith
      up c d (side_up a b o p i) = omega arith

  note-lanes : Pairs (λ n m. n.lane ≤ m.lane) t.inner × All (λ n. n.lane < 2048) t.inner
  note-lanes = (pairs_imp Follow (λ n m. n.lane ≤ m.lane) t.inner follow_lane s.notes-apart, all_imp (Fair δ t.beats) (λ n. n.lane < 2048) t.inner (λ n f. f.lane_below) s.notes_fair)

module _ (δ : ℕ) (t u : Take) (s : Solid δ t) (r : Solid δ u) where
  -- a join's cells, and its inner notes, by one walk over both
  pub join_cells : (join_takes δ t u).cells ≡ merge_lane (λ c. c.lane) t.cells (map (λ c. cell_to (t.beats + c.beat) c) u.cells)
  unfolding join_takes later_by
  join_cells =
      let f : Cell → Cell = λ c. cell_to (t.beats + c.beat) c in
      let v = cell-lanes δ u r in
      sym (merge_lane_lem (λ c. c.lane) t.cells (map f u.cells) (cell-lanes δ t s) (map-pairs (λ c. c.lane) f (λ c. refl) u.cells v.0, map-all (λ c. c.lane) f (λ c. refl) (λ l. l < 2048) u.cells v.1))

  pub length-join-cells : length (join_takes δ t u).cells ≡ length t.cells + length u.cells
  length-join-cells =
      let f : Cell → Cell = λ c. cell_to (t.beats + c.beat) c in
      ap length join_cells ∙ length-merge_lane (λ c. c.lane) t.cells (map f u.cells) ∙ ap (◌+◌ (length t.cells)) (length-map f u.cells)

-- ---- an inner note in another beat, with no division

module _ (δ : ℕ) (n : Note) (v : n.start ≤ n.end) where
  pub later_note : (k : ℕ)
      → note_to δ (k + first_beat δ n) n ≡ record { lane = n.lane; start = n.start + k * δ; end = n.end + k * δ; velocity = n.velocity }
  later_note k =
      let d : n.start / δ * δ + n.start % δ ≡ n.start = div-add-mod' n.start δ in
      let m : (k + first_beat δ n) * δ ≡ k * δ + first_beat δ n * δ = add-mul k (first_beat δ n) δ in
      note_same refl (omega arith) (omega arith) refl

  pub back-note : (k : ℕ) → k ≤ first_beat δ n
      → note_to δ (first_beat δ n - k) n ≡ record { lane = n.lane; start = n.start - k * δ; end = n.end - k * δ; velocity = n.velocity }
  back-note k h =
      let d : n.start / δ * δ + n.start % δ ≡ n.start = div-add-mod' n.start δ in
      let m : (k + (first_beat δ n - k)) * δ ≡ k * δ + (first_beat δ n - k) * δ = add-mul k (first_beat δ n - k) δ in
      let e : (k + (first_beat δ n - k)) * δ ≡ first_beat δ n * δ = ap (λ (i : ℕ). i * δ) (omega arith) in
      note_same refl (omega arith) (omega arith) refl

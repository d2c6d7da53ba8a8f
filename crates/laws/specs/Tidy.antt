-- Lists in the order of lane and beat: what the cells and the inner notes of a solid take have in common.
-- Assumes nothing.
use Rattle.std.specs.Prelude.{Bool, false, true, List, [], ◌∷◌, ◌≡◌, refl, ◌%◌, ◌*◌, ◌+◌, ◌/◌, ◌<◌, ◌≤◌, ℕ, eqb}
use Rattle.std.proofs.Common.{◌∙◌, sym, div-add-mod', arith, eqb-true}
use Rattle.model.specs.Lists.{cons_if, gather, keep}
use Rattle.model.specs.Pieces.{first_beat, inside}
use Rattle.model.specs.Takes.{Take, by_lane, cell_to, lanes, note_to}
use Rattle.model.specs.declared.Cell.{Cell}
use Rattle.model.specs.declared.Note.{Note}
use Rattle.laws.specs.Beats.{div_mono}
use Rattle.laws.specs.Lanes.{all_both}
use Rattle.laws.specs.Moving.{inner_beat}
use Rattle.laws.specs.Notes.{Fair, Follow, above, later, note_same}
use Rattle.laws.specs.Relations.{All, Pairs, all_imp, all-kept_imp, buckets, pairs_imp}
use Rattle.laws.specs.Solid.{Apart, Fine, Solid, beat_up, lane_up, side_up}

module _ {A : Type 0} (lane beat : A → ℕ) (to : ℕ → A → A) where
  -- x's lane, and in one lane its beat, is not above y's
  abbrev pub Ordered : A → A → Type 0
  Ordered x y = (lane x ≤ lane y) × (lane x ≡ lane y → beat x ≤ beat y)

  -- x is in range, and its own beat puts it where it is
  abbrev pub Ranged : ℕ → A → Type 0
  Ranged n x = (lane x < 2048) × (beat x < n) × (to (beat x) x ≡ x)

  pub lane-pairs : (l : ℕ) (xs : List A) → Pairs Ordered xs → Pairs (λ x y. beat x ≤ beat y) (keep (λ x. eqb (lane x) l) xs)
  lane-pairs l [] s = tt
  lane-pairs l (x ∷ xs) s = go (eqb (lane x) l) refl (lane-pairs l xs s.1)
    where
      go : (b : Bool) → eqb (lane x) l ≡ b → Pairs (λ x y. beat x ≤ beat y) (keep (λ x. eqb (lane x) l) xs)
          → Pairs (λ x y. beat x ≤ beat y) (cons_if b x (keep (λ x. eqb (lane x) l) xs))
      go true e ih = (all-kept_imp (Ordered x) (λ y. beat x ≤ beat y) (λ x. eqb (lane x) l) xs (λ y f o. o.1 (eqb-true (lane x) l e ∙ sym (eqb-true (lane y) l f))) s.0, ih)
      go false e ih = ih

  -- in order, in range
  abbrev pub Tidy : ℕ → List A → Type 0
  Tidy n xs = Pairs Ordered xs × All (Ranged n) xs

  pub tidy_lanes : (n : ℕ) (xs : List A) → Tidy n xs → gather (λ l. keep (λ x. eqb (lane x) l) xs) lanes ≡ xs
  tidy_lanes n xs t =
      buckets lane xs 2048 (pairs_imp Ordered (λ x y. lane x ≤ lane y) xs (λ x y o. o.0) t.0) (all_imp (Ranged n) (λ x. lane x < 2048) xs (λ x r. r.0) t.1)

  pub tidy_by_lane : (n : ℕ) (xs : List A) → Tidy n xs → by_lane lane xs ≡ xs
  unfolding by_lane
  tidy_by_lane n xs t = tidy_lanes n xs t

-- ---- the cells and the inner notes of a solid take

module _ (δ : ℕ) (z : 0 < δ) where
  abbrev pub CellsTidy : ℕ → List Cell → Type 0
  CellsTidy = Tidy (λ (c : Cell). c.lane) (λ (c : Cell). c.beat) cell_to

  abbrev pub NotesTidy : ℕ → List Note → Type 0
  NotesTidy = Tidy (λ (n : Note). n.lane) (first_beat δ) (note_to δ)

  apart_ordered : (c d : Cell) → Apart δ c d → Ordered (λ (c : Cell). c.lane) (λ (c : Cell). c.beat) cell_to c d
  apart_ordered c d (lane_up a) = (omega arith, λ e. absurd (omega arith))
  apart_ordered c d (beat_up a b) = (omega arith, λ e. omega arith)
  apart_ordered c d (side_up a b o p i) = (omega arith, λ e. omega arith)

  pub cells_tidy : (t : Take) → Solid δ t → CellsTidy t.beats t.cells
  cells_tidy t s = (
    pairs_imp (Apart δ) (Ordered (λ (c : Cell). c.lane) (λ (c : Cell). c.beat) cell_to) t.cells apart_ordered s.cells-apart,
    all_imp (Fine δ t.beats) (Ranged (λ (c : Cell). c.lane) (λ (c : Cell). c.beat) cell_to t.beats) t.cells (λ c f. (f.lane_below, f.beat_below, refl)) s.cells_fine,
  )

  follow_ordered : (n m : Note) → n.start < n.end → Follow n m → Ordered (λ (n : Note). n.lane) (first_beat δ) (note_to δ) n m
  follow_ordered n m v (above a) = (omega arith, λ e. absurd (omega arith))
  follow_ordered n m v (later a b) = (omega arith, λ e. div_mono δ z n.start m.start (omega arith))

  own_beat : (n : Note) → n.start ≤ n.end → note_to δ (first_beat δ n) n ≡ n
  own_beat n v = let d : n.start / δ * δ + n.start % δ ≡ n.start = div-add-mod' n.start δ in note_same refl (omega arith) (omega arith) refl

  notes-order : (beats : ℕ) (ns : List Note) → All (Fair δ beats) ns → Pairs Follow ns
      → Pairs (Ordered (λ (n : Note). n.lane) (first_beat δ) (note_to δ)) ns
  notes-order beats [] f s = tt
  notes-order beats (n ∷ ns) f s =
      (all_imp (Follow n) (Ordered (λ (n : Note). n.lane) (first_beat δ) (note_to δ) n) ns (λ m. follow_ordered n m f.0.order) s.0, notes-order beats ns f.1 s.1)

  pub notes_tidy : (t : Take) → Solid δ t → NotesTidy t.beats t.inner
  notes_tidy t s = (
    notes-order t.beats t.inner s.notes_fair s.notes-apart,
    all_imp (λ n. Fair δ t.beats n × (inside δ n ≡ true)) (Ranged (λ (n : Note). n.lane) (first_beat δ) (note_to δ) t.beats) t.inner
        (λ n p. (p.0.lane_below, inner_beat δ z t.beats n p.0 p.1, own_beat n (let v : n.start < n.end = p.0.order in omega arith)))
        (all_both (Fair δ t.beats) (λ n. inside δ n ≡ true) t.inner s.notes_fair s.notes-inside),
  )

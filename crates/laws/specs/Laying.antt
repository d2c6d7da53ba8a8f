-- A recording's take is what its own pairs give.
-- Assumes nothing.
use Rattle.std.specs.Prelude.{Bool, false, true, List, [], ◌∷◌, map, ◌≡◌, length}
use Rattle.std.proofs.Common.{◌∙◌, ap, ap₂, subst, sym, eqb-true}
use Rattle.std.proofs.Math.Path.{refl}
use Prim.Native.Nat.{◌<◌, ◌≤◌, suc, zero, ℕ}
use Rattle.std.proofs.Math.Dec.{eqb}
use Rattle.model.specs.Histories.{Recording, history_take, pairs_of, placed, recording_take, take_of}
use Rattle.model.specs.Lists.{cons_if, count_from, gather, keep}
use Rattle.model.specs.Pieces.{cells_of_note, first_beat, inside}
use Rattle.model.specs.Soundness.{notes_ok}
use Rattle.model.specs.Takes.{Take, by_lane, cell_to, lanes, note_to}
use Rattle.model.specs.declared.Cell.{Cell}
use Rattle.model.specs.declared.Note.{Note}
use Rattle.laws.specs.Histories.{take_same}
use Rattle.laws.specs.Lists.{gather_same, keep-gather, keep_swap}
use Rattle.laws.specs.OneNote.{solid_recording}
use Rattle.laws.specs.Relations.{All, Pairs, all_imp, all_keep, buckets, pairs_imp}
use Rattle.laws.specs.Solid.{Solid}
use Rattle.laws.specs.Tidy.{CellsTidy, NotesTidy, Ordered, Ranged, cells_tidy, lane-pairs, notes_tidy}

module _ {A : Type 0} (lane beat : A → ℕ) (to : ℕ → A → A) where
  -- in its own beat everything stays as it is
  to-own : (n b : ℕ) (xs : List A) → All (Ranged lane beat to n) xs → map (to b) (keep (λ x. eqb (beat x) b) xs) ≡ keep (λ x. eqb (beat x) b) xs
  to-own n b [] a = refl
  to-own n b (x ∷ xs) a = go (eqb (beat x) b) refl (to-own n b xs a.1)
    where
      go : (t : Bool) → eqb (beat x) b ≡ t → map (to b) (keep (λ x. eqb (beat x) b) xs) ≡ keep (λ x. eqb (beat x) b) xs
          → map (to b) (cons_if t x (keep (λ x. eqb (beat x) b) xs)) ≡ cons_if t x (keep (λ x. eqb (beat x) b) xs)
      go true e ih = ap₂ ◌∷◌ (subst (λ (m : ℕ). to m x ≡ x) (eqb-true (beat x) b e) a.0.2) ih
      go false e ih = ih

module _ {A : Type 0} (lane beat : A → ℕ) (to : ℕ → A → A) (of : ℕ → List A) (r : ℕ) where
  placed-own : (n k i : ℕ) → All (Ranged lane beat to n) (of r)
      → placed beat to of i (pairs_of r k i) ≡ gather (λ b. keep (λ x. eqb (beat x) b) (of r)) (count_from k i)
  unfolding placed
  placed-own n zero i a = refl
  placed-own n (suc k) i a = rw (to-own lane beat to n i (of r) a, placed-own n k (suc i) a)

  -- one lane of what a recording's own pairs give is that lane of the recording
  lane-own : (n l : ℕ) → Pairs (Ordered lane beat to) (of r) → All (Ranged lane beat to n) (of r)
      → keep (λ x. eqb (lane x) l) (placed beat to of 0 (pairs_of r n 0)) ≡ keep (λ x. eqb (lane x) l) (of r)
  lane-own n l s a =
      let xs = of r in
      ap (keep (λ x. eqb (lane x) l)) (placed-own n n 0 a)
      ∙ keep-gather (λ x. eqb (lane x) l) (λ b. keep (λ x. eqb (beat x) b) xs) (count_from n 0)
      ∙ gather_same (λ b. keep (λ x. eqb (lane x) l) (keep (λ x. eqb (beat x) b) xs)) (λ b. keep (λ x. eqb (beat x) b) (keep (λ x. eqb (lane x) l) xs)) (count_from n 0)
      (λ b. keep_swap (λ x. eqb (lane x) l) (λ x. eqb (beat x) b) xs)
      ∙ buckets beat (keep (λ x. eqb (lane x) l) xs) n (lane-pairs lane beat to l xs s)
      (all_keep (λ x. beat x < n) (λ x. eqb (lane x) l) xs (all_imp (Ranged lane beat to n) (λ x. beat x < n) xs (λ x h. h.1) a))

  -- what a recording's own pairs give
  pub lay-all : (n : ℕ) → Pairs (Ordered lane beat to) (of r) → All (Ranged lane beat to n) (of r)
      → by_lane lane (placed beat to of 0 (pairs_of r n 0)) ≡ of r
  unfolding by_lane
  lay-all n s a =
      let xs = of r in
      gather_same (λ l. keep (λ x. eqb (lane x) l) (placed beat to of 0 (pairs_of r n 0))) (λ l. keep (λ x. eqb (lane x) l) xs) lanes (λ l. lane-own n l s a)
      ∙ buckets lane xs 2048 (pairs_imp (Ordered lane beat to) (λ x y. lane x ≤ lane y) xs (λ x y o. o.0) s)
      (all_imp (Ranged lane beat to n) (λ x. lane x < 2048) xs (λ x h. h.0) a)

  pub lay_is : (n : ℕ) (xs : List A) → of r ≡ xs → Pairs (Ordered lane beat to) xs → All (Ranged lane beat to n) xs
      → by_lane lane (placed beat to of 0 (pairs_of r n 0)) ≡ xs
  lay_is n xs e s a = lay-all n (subst (Pairs (Ordered lane beat to)) (sym e) s) (subst (All (Ranged lane beat to n)) (sym e) a) ∙ e

pub length-pairs_of : (r k b : ℕ) → length (pairs_of r k b) ≡ k
length-pairs_of r zero b = refl
length-pairs_of r (suc k) b = ap suc (length-pairs_of r k (suc b))

module _ (δ : ℕ) (z : 0 < δ) where
  -- a recording is what its own pairs give
  pub lay : (recordings : List Recording) (i : ℕ) (r : Recording) → take_of δ recordings i ≡ recording_take δ r → r.beats ≤ 4096
      → notes_ok δ r.beats r.notes ≡ true
      → history_take δ recordings (pairs_of i r.beats 0) ≡ recording_take δ r
  unfolding history_take recording_take
  lay recordings i r g b e =
      let s : Solid δ (recording_take δ r) = solid_recording δ z r b e in
      let n : NotesTidy δ z r.beats (keep (inside δ) r.notes) = notes_tidy δ z (recording_take δ r) s in
      let c : CellsTidy δ z r.beats (gather (cells_of_note δ) r.notes) = cells_tidy δ z (recording_take δ r) s in
      take_same (length-pairs_of i r.beats 0)
      (lay_is (λ (n : Note). n.lane) (first_beat δ) (note_to δ) (λ k. (take_of δ recordings k).inner) i r.beats (keep (inside δ) r.notes) (ap (λ (t : Take). t.inner) g) n.0 n.1)
      (lay_is (λ (c : Cell). c.lane) (λ (c : Cell). c.beat) cell_to (λ k. (take_of δ recordings k).cells) i r.beats (gather (cells_of_note δ) r.notes) (ap (λ (t : Take). t.cells) g) c.0 c.1)

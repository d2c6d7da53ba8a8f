-- Notes in range, one behind the other, and what the test of a note list says of them.
-- Assumes nothing.
use Rattle.std.specs.Prelude.{Bool, ◌&&◌, ◌||◌, false, true, ◌≡◌, refl, ◌*◌, ◌<◌, ◌≤◌, ℕ, eqb, leb, ltb}
use mathlib.Core.List.{List, [], ◌∷◌}
use Rattle.std.proofs.Common.{sym, arith, eq-eqb, eqb-true, le-leb, le-ltb, leb-true, lt-ltb, ltb-true, ne_eqb}
use Rattle.std.proofs.lemmas.Bool.{lt-leb}
use Rattle.model.specs.Limits.{velocity_ok}
use Rattle.model.specs.Soundness.{first_follows, follows, note_ok, notes_ok}
use Rattle.model.specs.Takes.{note_before}
use Rattle.model.specs.declared.Note.{Note}
use Rattle.laws.specs.Booleans.{and_left, and_right, and_yes, or_left, or_right}
use Rattle.laws.specs.Relations.{All, Pairs, all_imp}

pub note_same : {l m s t e f v w : ℕ} → l ≡ m → s ≡ t → e ≡ f → v ≡ w
    → ◌≡◌ {A = Note} (record { lane = l; start = s; end = e; velocity = v }) (record { lane = m; start = t; end = f; velocity = w })
note_same a b c d = λ i. record { lane = a i; start = b i; end = c i; velocity = d i }

-- ---- range

-- A note in range.
pub record Fair (δ beats : ℕ) (n : Note) : Type 0 where
  pub lane_below : n.lane < 2048
  pub order : n.start < n.end
  pub fits : n.end ≤ beats * δ
  pub loud : velocity_ok n.lane n.velocity ≡ true

pub fair : (δ beats : ℕ) (n : Note) → note_ok δ beats n ≡ true → Fair δ beats n
unfolding note_ok
fair δ beats n e =
    let a = ltb n.lane 2048 in
    let b = ltb n.start n.end in
    let c = leb n.end (beats * δ) in
    let v = velocity_ok n.lane n.velocity in
    let e3 = and_left (a && b && c) v e in
    let e2 = and_left (a && b) c e3 in
    record {
      lane_below = ltb-true n.lane 2048 (and_left a b e2);
      order = ltb-true n.start n.end (and_right a b e2);
      fits = leb-true n.end (beats * δ) (and_right (a && b) c e3);
      loud = and_right (a && b && c) v e;
    }

pub fair_ok : (δ beats : ℕ) (n : Note) → Fair δ beats n → note_ok δ beats n ≡ true
unfolding note_ok
fair_ok δ beats n f =
    and_yes (and_yes (and_yes (lt-ltb n.lane 2048 f.lane_below) (lt-ltb n.start n.end f.order)) (le-leb n.end (beats * δ) f.fits)) f.loud

-- ---- order

pub data Follow (m n : Note) : Type 0 where
  above : m.lane < n.lane → Follow m n
  later : m.lane ≡ n.lane → m.end ≤ n.start → Follow m n

-- notes that follow each other rise in lanes
pub follow_lane : (m n : Note) → Follow m n → m.lane ≤ n.lane
follow_lane m n (above a) = omega arith
follow_lane m n (later a b) = omega arith

pub follow : (m n : Note) → follows m n ≡ true → Follow m n
unfolding follows
follow m n e = go (ltb m.lane n.lane) refl e
  where
    go : (b : Bool) → ltb m.lane n.lane ≡ b → b || eqb m.lane n.lane && leb m.end n.start ≡ true → Follow m n
    go true f g = above (ltb-true m.lane n.lane f)
    go false f g = later (eqb-true m.lane n.lane (and_left (eqb m.lane n.lane) _ g)) (leb-true m.end n.start (and_right (eqb m.lane n.lane) _ g))

pub follow_is : (m n : Note) → Follow m n → follows m n ≡ true
unfolding follows
follow_is m n (above a) = or_left (eqb m.lane n.lane && leb m.end n.start) (lt-ltb m.lane n.lane a)
follow_is m n (later a b) = or_right (ltb m.lane n.lane) (and_yes (eq-eqb m.lane n.lane a) (le-leb m.end n.start b))

pub follow_trans : (l m n : Note) → m.start < m.end → Follow l m → Follow m n → Follow l n
follow_trans l m n v (above a) (above b) = above (omega arith)
follow_trans l m n v (above a) (later b c) = above (omega arith)
follow_trans l m n v (later a b) (above c) = above (omega arith)
follow_trans l m n v (later a b) (later c d) = later (omega arith) (omega arith)

-- The order of notes has m before n, and not n before m.
abbrev pub Before : Note → Note → Type 0
Before m n = (note_before m n ≡ true) × (note_before n m ≡ false)

pub before : (m n : Note) → m.start < m.end → Follow m n → Before m n
unfolding note_before
before m n v (above a) =
    (rw (lt-ltb m.lane n.lane a), rw (le-ltb n.lane m.lane (omega arith), ne_eqb n.lane m.lane (λ e. omega arith)))
before m n v (later a b) = (
  rw (le-ltb m.lane n.lane (omega arith), eq-eqb m.lane n.lane a, le-leb m.start n.start (omega arith)),
  rw (le-ltb n.lane m.lane (omega arith), eq-eqb n.lane m.lane (sym a), lt-leb n.start m.start (omega arith)),
)

-- Two notes, one behind the other.
pub data Away (m n : Note) : Type 0 where
  left : Follow m n → Away m n
  right : Follow n m → Away m n

pub follow_end : (p q n : Note) → p.lane ≡ q.lane → p.end ≡ q.end → Follow p n → Follow q n
follow_end p q n l e (above a) = above (omega arith)
follow_end p q n l e (later a b) = later (omega arith) (omega arith)

-- ---- a list of notes

-- A note with ticks.
abbrev pub Long : Note → Type 0
Long n = n.start < n.end

module _ (δ beats : ℕ) where
  head_ok : (n : Note) (ns : List Note) → notes_ok δ beats (n ∷ ns) ≡ true → note_ok δ beats n && first_follows n ns ≡ true
  unfolding notes_ok
  head_ok n ns e = and_left (note_ok δ beats n && first_follows n ns) (notes_ok δ beats ns) e

  rest_ok : (n : Note) (ns : List Note) → notes_ok δ beats (n ∷ ns) ≡ true → notes_ok δ beats ns ≡ true
  unfolding notes_ok
  rest_ok n ns e = and_right (note_ok δ beats n && first_follows n ns) (notes_ok δ beats ns) e

  -- the notes of a list that passes are in range, have ticks, and lie one behind the other
  pub fair_notes : (ns : List Note) → notes_ok δ beats ns ≡ true → All (Fair δ beats) ns
  fair_notes [] e = tt
  fair_notes (n ∷ ns) e = (fair δ beats n (and_left (note_ok δ beats n) (first_follows n ns) (head_ok n ns e)), fair_notes ns (rest_ok n ns e))

  pub long_notes : (ns : List Note) → notes_ok δ beats ns ≡ true → All Long ns
  long_notes ns e = all_imp (Fair δ beats) Long ns (λ n f. f.order) (fair_notes ns e)

  pub ok_pairs : (ns : List Note) → notes_ok δ beats ns ≡ true → Pairs Follow ns
  unfolding first_follows
  ok_pairs [] e = tt
  ok_pairs (n ∷ []) e = (tt, tt)
  ok_pairs (n ∷ m ∷ ns) e =
      let r : Pairs Follow (m ∷ ns) = ok_pairs (m ∷ ns) (rest_ok n (m ∷ ns) e) in
      let f : Follow n m = follow n m (and_right (note_ok δ beats n) (follows n m) (head_ok n (m ∷ ns) e)) in
      let v : Long m = (long_notes (m ∷ ns) (rest_ok n (m ∷ ns) e)).0 in
      ((f, all_imp (Follow m) (Follow n) ns (λ x g. follow_trans n m x v f g) r.0), r)

  pub ok_sorted : (ns : List Note) → notes_ok δ beats ns ≡ true → Pairs Before ns
  ok_sorted ns e = go ns (long_notes ns e) (ok_pairs ns e)
    where
      go : (ns : List Note) → All Long ns → Pairs Follow ns → Pairs Before ns
      go [] v p = tt
      go (n ∷ ns) v p = (all_imp (Follow n) (Before n) ns (λ m f. before n m v.0 f) p.0, go ns v.1 p.1)

first_is : (n : Note) (ns : List Note) → All (Follow n) ns → first_follows n ns ≡ true
unfolding first_follows
first_is n [] a = refl
first_is n (m ∷ ms) a = follow_is n m a.0

pub pairs_ok : (δ beats : ℕ) (ns : List Note) → All (Fair δ beats) ns → Pairs Follow ns → notes_ok δ beats ns ≡ true
unfolding notes_ok
pairs_ok δ beats [] f p = refl
pairs_ok δ beats (n ∷ ns) f p = and_yes (and_yes (fair_ok δ beats n f.0) (first_is n ns p.0)) (pairs_ok δ beats ns f.1 p.1)

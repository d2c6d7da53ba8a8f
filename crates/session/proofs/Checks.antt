-- The check of a note list: what holds before each note. Assumes nothing.
use mathlib.Core.Path.{◌≡◌, refl, sym, ap, ◌∙◌}
use mathlib.Core.Logic.{⊎_elim}
use mathlib.Core.Bool.{Bool, true, false, ◌&&◌, ◌||◌, and-false}
use mathlib.Core.List.{List, [], ◌∷◌}
use Prim.Native.Nat.{ℕ, zero, suc, ◌+◌, ◌*◌, ◌-◌, ◌/◌, ◌%◌, ◌≤◌, ◌<◌}
use native.Mathlib.Nat.{mul-le-mul_left, mul-le-mul_right, add-mul, suc-mul, eq-or-lt_of_le}
use native.Mathlib.Omega.{arith}
use borrow.Author.Tests.{le-leb, lt-ltb}
use lib.Dec.{leb, ltb, eqb}
use lib.ListN.{length, drop, get_or, length-append}
use Rattle.std.proofs.lemmas.List.{at_drop_all}
use Rattle.std.specs.Simd.{first_chunks}
use Rattle.model.specs.Lists.{gather}
use Rattle.model.specs.Limits.{max_beats, max_delta, lane_count}
use Rattle.model.specs.Pieces.{first_beat, last_beat, cells_of_note}
use Rattle.model.specs.Takes.{note_of, read_notes}
use Rattle.model.specs.Soundness.{note_ok, follows, first_follows, notes_ok}
use Rattle.model.specs.Machine.{listed}
use Rattle.model.specs.Questions.{list_ok}
use Rattle.model.specs.declared.Header.{Header}
use Rattle.model.specs.declared.Note.{Note}
use Rattle.laws.specs.Booleans.{and_left, and_right}
use Rattle.laws.specs.Notes.{note_same, Fair, fair, Follow, Follow.above, Follow.later, follow}
use Rattle.session.specs.Checking.{before_all}
use Rattle.session.specs.Sliced.{notes_of}
use Rattle.std.specs.Prelude.{Ok, Err}
use Rattle.model.specs.Numbers.{answer_of}
use Rattle.model.specs.declared.questions.Question.TheVariants.{ListInOrder}
use Rattle.session.specs.Listing.{count_words, list_asked, cells_listed}
use Rattle.session.proofs.Counts.{note_beats, count-note, one_le}
use Rattle.session.proofs.Wholes.{note_behind, whole_notes}

-- ---- one note

-- what counting its cells asks
pub count_asks : (δ beats : ℕ) (n : Note) → (0 < δ) × (δ ≤ max_delta) × (beats ≤ max_beats) → Fair δ beats n
    → (0 < δ) × (δ ≤ max_delta) × (n.start < n.end) × (n.end ≤ max_beats * δ)
count_asks δ beats n h r = (h.0, h.1, r.order, omega (arith, r.fits, mul-le-mul_right δ h.2))

-- a note has at most two cells for each of its ticks
pub few_cells : (δ : ℕ) (n : Note) → (0 < δ) × (δ ≤ max_delta) × (n.start < n.end) × (n.end ≤ max_beats * δ)
    → length (cells_of_note δ n) + 2 * n.start ≤ 2 * n.end
few_cells δ n h =
    let i = note_beats δ n h in
    let f = first_beat δ n in
    let l = last_beat δ n in
    let k = l - (f + 1) in
    let count = count-note δ n h in
    let a = one_le (leb n.start (f * δ)) in
    let b = one_le (leb ((l + 1) * δ) n.end) in
    ⊎_elim
    (λ (e : f ≡ l). omega (arith, count, a, b))
    (λ (e : f < l).
    let whole : l * δ ≡ (f + 1) * δ + k * δ = ap (λ (x : ℕ). x * δ) (omega arith) ∙ add-mul (f + 1) k δ in
    let wide : k * 1 ≤ k * δ = mul-le-mul_left k h.0 in
    omega (arith, count, a, b, i.high, i.last_low, i.first_next))
    (eq-or-lt_of_le i.order)

-- ---- the loop

pub zeros_are : (m : Note) → (m.lane ≡ 0) × ((m.start ≡ 0) × ((m.end ≡ 0) × (m.velocity ≡ 0))) → m ≡ before_all
unfolding before_all
zeros_are m e = note_same e.0 e.1.0 e.1.1.0 e.1.1.1

pub first_follows_lem : (ns : List Note) → first_follows before_all ns ≡ true
unfolding first_follows follows before_all
first_follows_lem [] = refl
first_follows_lem (n ∷ ns) = go n.lane
  where
    go : (l : ℕ) → (ltb 0 l || eqb 0 l && leb 0 n.start) ≡ true
    go zero = le-leb 0 n.start (omega arith)
    go (suc l) = rw (lt-ltb 0 (suc l) (omega arith))

-- where one of two tests fails
one_no : (t u v w : Bool) → t && u ≡ false → u && (t && v && w) ≡ false
one_no true u v w e = rw e refl
one_no false u v w e = and-false u

module _ (δ beats : ℕ) (ws : List (List ℕ)) where
  -- the notes from array i on, all of them, and how many cells some notes have
  abbrev rest : ℕ → List Note
  rest i = notes_of (drop i ws)

  abbrev all : List Note
  all = notes_of ws

  abbrev cells_in : List Note → ℕ
  cells_in ns = length (gather (cells_of_note δ) ns)

  -- the notes ahead of array i are in order, the last of them is m and they have so many cells
  pub record Checked (m : Note) (cells i : ℕ) : Type 0 where
    pub ok : notes_ok δ beats all ≡ (first_follows m (rest i) && notes_ok δ beats (rest i))
    pub count : cells + cells_in (rest i) ≡ cells_in all
    pub lane : m.lane < lane_count
    pub top : m.end ≤ beats * δ
    pub few : cells ≤ 2 * (m.lane * (beats * δ) + m.end)

  start : Checked before_all 0 0
  unfolding before_all
  start = record { ok = rw (first_follows_lem all); count = omega arith; lane = omega arith; top = omega arith; few = omega arith }

  pub checked-start : {m : Note} → m ≡ before_all → Checked m 0 0
  checked-start e = rw e start

  module _ {m : Note} {cells i : ℕ} (c : Checked m cells i) where
    pub checked-done : length ws ≤ i → (notes_ok δ beats all ≡ true) × (cells ≡ cells_in all)
    unfolding notes_ok first_follows
    checked-done done =
        let none : rest i ≡ [] = at_drop_all notes_of ws i done in
        (rw none at c.ok, omega (arith, rw none at c.count))

    module _ (more : i < length ws) (d : List ℕ) {n : Note} (is : n ≡ note_of (get_or ws i d)) where
      cons : rest i ≡ n ∷ rest (i + 1)
      cons = note_behind ws i more d is

      module _ {p : Bool} (o : p ≡ note_ok δ beats n && follows m n) where
        pub not_ordered : p ≡ false → notes_ok δ beats all ≡ false
        unfolding notes_ok first_follows
        not_ordered wrong = c.ok ∙ rw cons (one_no (note_ok δ beats n) (follows m n) (first_follows n (rest (i + 1))) (notes_ok δ beats (rest (i + 1))) (sym o ∙ wrong))

        pub checked-note : (0 < δ) × (δ ≤ max_delta) × (beats ≤ max_beats) → p ≡ true → {k : ℕ} → k ≡ length (cells_of_note δ n) → Checked n (cells + k) (i + 1)
        unfolding notes_ok first_follows
        checked-note h t {k} e =
            let right = and_left (note_ok δ beats n) (follows m n) (sym o ∙ t) in
            let next = and_right (note_ok δ beats n) (follows m n) (sym o ∙ t) in
            let r = fair δ beats n right in
            record {
              ok = c.ok ∙ rw (cons, right, next);
              count = omega (arith, rw cons at c.count, length-append (cells_of_note δ n) (gather (cells_of_note δ) (rest (i + 1))));
              lane = r.lane_below;
              top = r.fits;
              few = further h r (follow m n next) e;
            }
          where
            further : (0 < δ) × (δ ≤ max_delta) × (beats ≤ max_beats) → Fair δ beats n → Follow m n → {k : ℕ} → k ≡ length (cells_of_note δ n)
                → cells + k ≤ 2 * (n.lane * (beats * δ) + n.end)
            further h r (above up) e =
                omega (arith, few_cells δ n (count_asks δ beats n h r), c.few, c.top, suc-mul m.lane (beats * δ), mul-le-mul_right (beats * δ) up)
            further h r (later same behind) e =
                omega (arith, few_cells δ n (count_asks δ beats n h r), c.few, ap (λ (l : ℕ). l * (beats * δ)) same)

-- ---- the answer

-- A list of words, as notes, and what is left of it behind them.
module _ (h : Header) (beats : ℕ) (ws : List ℕ) {us : List (List ℕ)} (rest : List ℕ) (cut : us ≡ first_chunks 4 (length ws / 4) ws) (long : length rest ≡ length ws % 4) where
  are : read_notes (length ws / 4) ws ≡ notes_of us
  are = sym (ap notes_of cut ∙ whole_notes (length ws / 4) ws)

  module _ {p : Bool} (empty : p ≡ eqb (length rest) 0) where
    pub not_whole : p ≡ false → answer_of count_words (Err ListInOrder) ≡ list_asked h beats ws
    unfolding list_asked list_ok
    not_whole wrong = rw (← long, ← empty, wrong)

    pub counted : p ≡ true → notes_ok h.delta beats (notes_of us) ≡ true → (k : ℕ) → k ≡ length (gather (cells_of_note h.delta) (notes_of us))
        → answer_of count_words (Ok k) ≡ list_asked h beats ws
    unfolding list_asked list_ok listed cells_listed
    counted whole right k e = rw (← long, ← empty, whole, are, right, e)

  pub not_ok : notes_ok h.delta beats (notes_of us) ≡ false → answer_of count_words (Err ListInOrder) ≡ list_asked h beats ws
  unfolding list_asked list_ok listed
  not_ok wrong = rw (are, wrong, and-false)

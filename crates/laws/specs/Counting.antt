-- A split of a sound shelf always fits: each half has at most the shelf's notes and cells.
-- Assumes nothing.
use Rattle.std.specs.Prelude.{Bool, ◌||◌, cond, ◌≡◌, leb, ltb, drop}
use Rattle.std.proofs.Math.Bool.{◌&&◌, false, true, true≢false}
use mathlib.Core.List.{List, [], ◌∷◌, map}
use Rattle.std.proofs.Common.{◌∙◌, arith}
use Rattle.std.proofs.Math.Path.{ap, ap₂, refl, sym}
use Prim.Native.Nat.{◌*◌, ◌+◌, ◌-◌, ◌<◌, ◌≤◌, suc, zero, ℕ}
use Rattle.std.proofs.Math.Decide.{ℕ_discrete}
use Rattle.std.proofs.Math.Dec.{eqb}
use Rattle.std.proofs.Math.ListN.{length}
use borrow.Author.Tests.{eq-eqb, eqb-true, le-leb, leb-true, lt-ltb, ltb-true, ne_eqb}
use Rattle.model.specs.Binding.{bound, bound_next, fills, go_on, line_notes, meet, stands_alone}
use Rattle.model.specs.Lists.{cons_if, keep}
use Rattle.model.specs.Pieces.{first_beat}
use Rattle.model.specs.Questions.{fits}
use Rattle.model.specs.Soundness.{sound_shelf}
use Rattle.model.specs.Takes.{Take, cell_to, left_of, note_to, notes_of, right_of, split_left, split_right, take_in, word}
use Rattle.model.specs.declared.Cell.{Cell}
use Rattle.model.specs.declared.Header.{Header}
use Rattle.model.specs.declared.Note.{Note}
use Rattle.laws.specs.Booleans.{and_left, and_right, and_yes, or_right}
use Rattle.laws.specs.Lists.{length-keep, length-map}
use Rattle.laws.specs.Merging.{length-merge}
use Rattle.laws.specs.Moving.{solid_left, solid_right}
use Rattle.laws.specs.Reading.{length-cells, length_read}
use Rattle.laws.specs.Relations.{All, Pairs, all_imp, all_keep, all-kept}
use Rattle.laws.specs.Rules.{Pair, Pieced, double, moved_alone, moved_bound, own, single, span, stop}
use Rattle.laws.specs.Solid.{Apart, Solid, beat_up, lane_up, side_up}
use Rattle.laws.specs.Sound.{sound-notes, sound_solid, sound_used}
use Rattle.laws.specs.Walk.{line_walk, linked, walk, walk_double, walk_single}

-- ---- how many notes a piece adds

unfoldable count : Bool → Bool → ℕ → ℕ
count true shown zero = 1
count true shown (suc n) = suc n
count false true n = suc n
count false false n = n

length_step : (p : Note) (ns : List Note) (on-it shown : Bool)
    → length (cond on-it (go_on p ns) (cond shown (p ∷ ns) ns)) ≡ count on-it shown (length ns)
unfolding count
length_step p [] true shown = refl
length_step p (n ∷ ns) true shown = refl
length_step p ns false true = refl
length_step p ns false false = refl

count_more : (on-it shown : Bool) (h w : ℕ) → h ≤ w → h ≤ count on-it shown w
unfolding count
count_more true shown h zero l = omega arith
count_more true shown h (suc w) l = l
count_more false true h w l = omega arith
count_more false false h w l = l

count_on : (s t : Bool) (h w : ℕ) → h ≤ w → count true s h ≤ count true t w
unfolding count
count_on s t zero zero l = omega arith
count_on s t zero (suc w) l = omega arith
count_on s t (suc h) zero l = absurd (omega arith)
count_on s t (suc h) (suc w) l = l

count_off : (s t : Bool) (h w : ℕ) → (s ≡ true → t ≡ true) → h ≤ w → count false s h ≤ count false t w
unfolding count
count_off true true h w f l = omega arith
count_off true false h w f l = absurd (true≢false (sym (f refl)))
count_off false true h w f l = omega arith
count_off false false h w f l = l

count_lost : (s t : Bool) (h w : ℕ) → h < w → count false s h ≤ count true t w
unfolding count
count_lost s t h zero l = absurd (omega arith)
count_lost true t h (suc w) l = l
count_lost false t h (suc w) l = omega arith

count_strong : (b : Bool) (h w : ℕ) → (b ≡ true → h < w) → (b ≡ false → h ≤ w) → h < count b true w
unfolding count
count_strong true h zero f g = absurd (let k : h < 0 = f refl in omega arith)
count_strong true h (suc w) f g = f refl
count_strong false h w f g = let k : h ≤ w = g refl in omega arith

-- ---- the beats that are kept

-- Up to a beat, or from a beat on.
pub data Edge (p : ℕ → Bool) : Type 0 where
  down : ((b : ℕ) → p (suc b) ≡ true → p b ≡ true) → Edge p
  up : ((b : ℕ) → p b ≡ true → p (suc b) ≡ true) → Edge p

module _ (H : Header) (z : 0 < H.delta) (le : H.epsilon ≤ H.delta) (p : ℕ → Bool) (edge : Edge p) where
  abbrev q : Cell → Bool
  q c = p c.beat

  abbrev First : Bool → List Cell → Type 0
  First b [] = ⊥
  First b (d ∷ ds) = q d ≡ b

  -- nothing lies between two cells that meet
  no_meet : (c d e : Cell) → Apart H.delta c d → Apart H.delta d e → c.side ≡ 1 → c.lane ≡ e.lane → e.side ≡ 0 → e.beat ≡ suc c.beat → ⊥
  no_meet c d e (lane_up a) (lane_up x) s l o b = omega arith
  no_meet c d e (lane_up a) (beat_up x y) s l o b = omega arith
  no_meet c d e (lane_up a) (side_up x y u v w) s l o b = omega arith
  no_meet c d e (beat_up a r) (lane_up x) s l o b = omega arith
  no_meet c d e (beat_up a r) (beat_up x y) s l o b = omega arith
  no_meet c d e (beat_up a r) (side_up x y u v w) s l o b = omega arith
  no_meet c d e (side_up a r t f g) x s l o b = omega arith

  pub record Meets (c e : Cell) : Type 0 where
    pub lanes-meet : c.lane ≡ e.lane
    pub closes_it : c.side ≡ 1
    pub opens_it : e.side ≡ 0
    pub next_beat : e.beat ≡ suc c.beat

  pub meets : (c d : Cell) → meet c d ≡ true → Meets c d
  unfolding meet
  meets c d m =
      let a = eqb c.lane d.lane in
      let b = eqb c.side 1 in
      let e = eqb d.side 0 in
      let f = eqb d.beat (suc c.beat) in
      let m3 = and_left (a && b && e) f m in
      let m2 = and_left (a && b) e m3 in
      record {
        lanes-meet = eqb-true c.lane d.lane (and_left a b m2);
        closes_it = eqb-true c.side 1 (and_right a b m2);
        opens_it = eqb-true d.side 0 (and_right (a && b) e m3);
        next_beat = eqb-true d.beat (suc c.beat) (and_right (a && b && e) f m);
      }

  pub no_skip : (c d : Cell) (es : List Cell) → Apart H.delta c d → All (Apart H.delta d) es → bound_next H c es ≡ true → ⊥
  unfolding bound_next
  no_skip c d [] a b e = true≢false (sym e)
  no_skip c d (x ∷ es) a b e =
      let m : Meets c x = meets c x (and_left (meet c x) (bound H c x) e) in
      no_meet c d x a b.0 m.closes_it m.lanes-meet m.opens_it m.next_beat

  -- bound in the half: bound in the whole, to a kept cell
  half_on : (c : Cell) (cs : List Cell) → All (Apart H.delta c) cs → Pairs (Apart H.delta) cs → bound_next H c (keep q cs) ≡ true
      → (bound_next H c cs ≡ true) × First true cs
  half_on c [] a s e = absurd (unfold bound_next in true≢false (sym e))
  half_on c (d ∷ ds) a s e = go (q d) refl e
    where
      go : (b : Bool) → q d ≡ b → bound_next H c (cons_if b d (keep q ds)) ≡ true → (bound_next H c (d ∷ ds) ≡ true) × (q d ≡ true)
      go true f g = (unfold bound_next in g, f)
      go false f g = absurd (no_skip c d (keep q ds) a.0 (all_keep (Apart H.delta d) q ds s.0) g)

  -- bound in the whole and not in the half: the next cell is dropped, and it is of the next beat
  lost : (c : Cell) (cs : List Cell) → bound_next H c cs ≡ true → bound_next H c (keep q cs) ≡ false → First false cs × (p (suc c.beat) ≡ false)
  lost c [] e f = absurd (unfold bound_next in true≢false (sym e))
  lost c (d ∷ ds) e f = go (q d) refl f
    where
      go : (b : Bool) → q d ≡ b → bound_next H c (cons_if b d (keep q ds)) ≡ false → (q d ≡ false) × (p (suc c.beat) ≡ false)
      go true g h = absurd (true≢false (sym e ∙ (unfold bound_next in h)))
      go false g h =
          let m : Meets c d = meets c d (unfold bound_next in and_left (meet c d) (bound H c d) e) in
          (g, ap p (sym m.next_beat) ∙ g)

  -- the cell behind a dropped one, bound to it, is dropped, up to a beat
  dropped_on : ((b : ℕ) → p (suc b) ≡ true → p b ≡ true) → (c : Cell) (cs : List Cell) → q c ≡ false → bound_next H c cs ≡ true → First false cs
  dropped_on f c [] k e = absurd (unfold bound_next in true≢false (sym e))
  dropped_on f c (d ∷ ds) k e =
      let m : Meets c d = meets c d (unfold bound_next in and_left (meet c d) (bound H c d) e) in
      go (q d) refl m.next_beat
    where
      go : (b : Bool) → q d ≡ b → d.beat ≡ suc c.beat → b ≡ false
      go true g n = absurd (true≢false (sym (f c.beat (sym (ap p n) ∙ g)) ∙ k))
      go false g n = refl

  record Counts (cs : List Cell) : Type 0 where
    weak : (l m : Bool) → (l ≡ true → m ≡ true) → (l ≡ true → First true cs) → length (walk H l (keep q cs)) ≤ length (walk H m cs)
    strong : ((b : ℕ) → p (suc b) ≡ true → p b ≡ true) → First false cs → length (walk H false (keep q cs)) < length (walk H true cs)

  -- a kept piece in front: its last cell c, shown s in the half and t in the whole
  kept_step : (c : Cell) (cs : List Cell) (s t : Bool) → q c ≡ true → All (Apart H.delta c) cs → Pairs (Apart H.delta) cs → Counts cs
      → (s ≡ true → t ≡ true)
      → count (bound_next H c (keep q cs)) s (length (walk H (bound_next H c (keep q cs)) (keep q cs))) ≤ count (bound_next H c cs) t (length (walk H (bound_next H c cs) cs))
  kept_step c cs s t k a r ih f = go (bound_next H c (keep q cs)) (bound_next H c cs) refl refl
    where
      go : (x y : Bool) → bound_next H c (keep q cs) ≡ x → bound_next H c cs ≡ y
          → count x s (length (walk H x (keep q cs))) ≤ count y t (length (walk H y cs))
      go true true e g = count_on s t (length (walk H true (keep q cs))) (length (walk H true cs)) (ih.weak true true (λ h. h) (λ h. (half_on c cs a r e).1))
      go true false e g = absurd (true≢false (sym (half_on c cs a r e).0 ∙ g))
      go false true e g = count_lost s t (length (walk H false (keep q cs))) (length (walk H true cs)) (by edge)
        where
          by : Edge p → length (walk H false (keep q cs)) < length (walk H true cs)
          by (down d) = ih.strong d (lost c cs g e).0
          by (up u) = absurd (true≢false (sym (u c.beat k) ∙ (lost c cs g e).1))
      go false false e g = count_off s t (length (walk H false (keep q cs))) (length (walk H false cs)) f (ih.weak false false (λ h. h) (λ h. absurd (true≢false (sym h))))

  -- a dropped piece in front
  drop_step : (c : Cell) (cs : List Cell) (t : Bool) → Counts cs
      → length (walk H false (keep q cs)) ≤ count (bound_next H c cs) t (length (walk H (bound_next H c cs) cs))
  drop_step c cs t ih =
      count_more (bound_next H c cs) t (length (walk H false (keep q cs))) (length (walk H (bound_next H c cs) cs)) (ih.weak false (bound_next H c cs) (λ h. absurd (true≢false (sym h))) (λ h. absurd (true≢false (sym h))))

  strong_step : (c : Cell) (cs : List Cell) → Counts cs → ((b : ℕ) → p (suc b) ≡ true → p b ≡ true) → q c ≡ false
      → length (walk H false (keep q cs)) < count (bound_next H c cs) true (length (walk H (bound_next H c cs) cs))
  strong_step c cs ih d k =
      count_strong (bound_next H c cs) (length (walk H false (keep q cs))) (length (walk H (bound_next H c cs) cs))
      (λ e. rw e (ih.strong d (dropped_on d c cs k e))) (λ e. ih.weak false (bound_next H c cs) (λ h. absurd (true≢false (sym h))) (λ h. absurd (true≢false (sym h))))

  or_mono : (a l m : Bool) → (l ≡ true → m ≡ true) → a || l ≡ true → a || m ≡ true
  or_mono true l m f e = refl
  or_mono false l m f e = f e

  length_single : (c : Cell) (cs : List Cell) (held : Bool) → fills H.delta c ≡ false
      → length (walk H held (c ∷ cs)) ≡ count (bound_next H c cs) (stands_alone H c || held) (length (walk H (bound_next H c cs) cs))
  length_single c cs held f = ap length (walk_single H c cs held f) ∙ length_step (own H.delta c) (walk H (bound_next H c cs) cs) (bound_next H c cs) (stands_alone H c || held)

  length_double : (c d : Cell) (cs : List Cell) (held : Bool) → Pair H.delta c d
      → length (walk H held (c ∷ d ∷ cs)) ≡ count (bound_next H d cs) true (length (walk H (bound_next H d cs) cs))
  length_double c d cs held w = ap length (walk_double H c d cs held w) ∙ length_step (span H.delta c d) (walk H (bound_next H d cs) cs) (bound_next H d cs) true

  counts_single : (c : Cell) (cs : List Cell) → fills H.delta c ≡ false → Pairs (Apart H.delta) (c ∷ cs) → Counts cs → Counts (c ∷ cs)
  counts_single c cs f s ih = record { weak = weak_one; strong = strong_one }
    where
      weak_one : (l m : Bool) → (l ≡ true → m ≡ true) → (l ≡ true → q c ≡ true) → length (walk H l (keep q (c ∷ cs))) ≤ length (walk H m (c ∷ cs))
      weak_one l m h k = go (q c) refl
        where
          go : (b : Bool) → q c ≡ b → length (walk H l (cons_if b c (keep q cs))) ≤ length (walk H m (c ∷ cs))
          go true e = rw (length_single c (keep q cs) l f, length_single c cs m f) (kept_step c cs (stands_alone H c || l) (stands_alone H c || m) e s.0 s.1 ih (or_mono (stands_alone H c) l m h))
          go false e = rw (length_single c cs m f) (low l k)
            where
              low : (l : Bool) → (l ≡ true → q c ≡ true)
                  → length (walk H l (keep q cs)) ≤ count (bound_next H c cs) (stands_alone H c || m) (length (walk H (bound_next H c cs) cs))
              low true j = absurd (true≢false (sym (j refl) ∙ e))
              low false j = drop_step c cs (stands_alone H c || m) ih

      strong_one : ((b : ℕ) → p (suc b) ≡ true → p b ≡ true) → q c ≡ false → length (walk H false (keep q (c ∷ cs))) < length (walk H true (c ∷ cs))
      strong_one d k = rw (k, length_single c cs true f, or_right (stands_alone H c) {b = true} refl) (strong_step c cs ih d k)

  counts_double : (c d : Cell) (cs : List Cell) → Pair H.delta c d → Pairs (Apart H.delta) (c ∷ d ∷ cs) → Counts cs → Counts (c ∷ d ∷ cs)
  counts_double c d cs w s ih = record { weak = weak_two; strong = strong_two }
    where
      same : q d ≡ q c
      same = ap p w.beat_same

      weak_two : (l m : Bool) → (l ≡ true → m ≡ true) → (l ≡ true → q c ≡ true)
          → length (walk H l (keep q (c ∷ d ∷ cs))) ≤ length (walk H m (c ∷ d ∷ cs))
      weak_two l m h k = rw same (go (q c) refl)
        where
          go : (b : Bool) → q c ≡ b → length (walk H l (cons_if b c (cons_if b d (keep q cs)))) ≤ length (walk H m (c ∷ d ∷ cs))
          go true e = rw (length_double c d (keep q cs) l w, length_double c d cs m w) (kept_step d cs true true (same ∙ e) s.1.0 s.1.1 ih (λ j. j))
          go false e = rw (length_double c d cs m w) (low l k)
            where
              low : (l : Bool) → (l ≡ true → q c ≡ true)
                  → length (walk H l (keep q cs)) ≤ count (bound_next H d cs) true (length (walk H (bound_next H d cs) cs))
              low true j = absurd (true≢false (sym (j refl) ∙ e))
              low false j = drop_step d cs true ih

      strong_two : ((b : ℕ) → p (suc b) ≡ true → p b ≡ true) → q c ≡ false
          → length (walk H false (keep q (c ∷ d ∷ cs))) < length (walk H true (c ∷ d ∷ cs))
      strong_two f k = rw (same, k, length_double c d cs true w) (strong_step d cs ih f (same ∙ k))

  counts : {cs : List Cell} → Pieced H.delta cs → Pairs (Apart H.delta) cs → Counts cs
  counts stop s = record { weak = λ l m f g. unfold walk in omega arith; strong = λ d k. absurd k }
  counts (single {c = c} {cs = cs} f g r) s = counts_single c cs f s (counts r s.1)
  counts (double {c = c} {d = d} {cs = cs} w r) s = counts_double c d cs w s (counts r s.1.1)

  -- the kept cells give at most as many notes
  pub fewer : {cs : List Cell} → Pieced H.delta cs → Pairs (Apart H.delta) cs → length (walk H false (keep q cs)) ≤ length (walk H false cs)
  fewer r s = (counts r s).weak false false (λ h. h) (λ h. absurd (true≢false (sym h)))

-- ---- in other beats there are as many notes

module _ (H : Header) (k : ℕ) where
  abbrev back : Cell → Cell
  back c = cell_to (c.beat - k) c

  meet-back : (c d : Cell) → k ≤ c.beat → k ≤ d.beat → meet (back c) (back d) ≡ meet c d
  unfolding meet
  meet-back c d a b = ap (λ (t : Bool). eqb c.lane d.lane && eqb c.side 1 && eqb d.side 0 && t) go
    where
      go : eqb (d.beat - k) (suc (c.beat - k)) ≡ eqb d.beat (suc c.beat)
      go = elim (ℕ_discrete d.beat (suc c.beat)) [
        | yes e ↦ eq-eqb (d.beat - k) (suc (c.beat - k)) (omega arith) ∙ sym (eq-eqb d.beat (suc c.beat) e)
        | no e ↦ ne_eqb (d.beat - k) (suc (c.beat - k)) (omega arith) ∙ sym (ne_eqb d.beat (suc c.beat) e)
      ]

  bound-back : (c : Cell) (cs : List Cell) → k ≤ c.beat → All (λ d. k ≤ d.beat) cs → bound_next H (back c) (map back cs) ≡ bound_next H c cs
  unfolding bound_next
  bound-back c [] a b = refl
  bound-back c (d ∷ ds) a b = ap₂ ◌&&◌ (meet-back c d a b.0) (moved_bound H (c.beat - k) (d.beat - k) c d)

  pub link_back : (c : Cell) (cs : List Cell) → k ≤ c.beat → All (λ d. k ≤ d.beat) cs → linked H (back c) (map back cs) ≡ linked H c cs
  unfolding linked fills
  link_back c cs a b = ap (λ (t : Bool). fills H.delta c || t) (bound-back c cs a b)

  length-walk : (c : Cell) (cs : List Cell) (held : Bool)
      → length (walk H held (c ∷ cs)) ≡ count (linked H c cs) (stands_alone H c || held) (length (walk H (linked H c cs) cs))
  unfolding walk
  length-walk c cs held = length_step (own H.delta c) (walk H (linked H c cs) cs) (linked H c cs) (stands_alone H c || held)

  pub walk-back : (cs : List Cell) (held : Bool) → All (λ d. k ≤ d.beat) cs → length (walk H held (map back cs)) ≡ length (walk H held cs)
  walk-back [] held a = refl
  walk-back (c ∷ cs) held a =
      length-walk (back c) (map back cs) held
      ∙ ap₂ (λ (t u : Bool). count t (u || held) (length (walk H t (map back cs)))) (link_back c cs a.0 a.1) (moved_alone H (c.beat - k) c)
      ∙ ap (count (linked H c cs) (stands_alone H c || held)) (walk-back cs (linked H c cs) a.1) ∙ sym (length-walk c cs held)

-- ---- takes

length-notes : (H : Header) (t : Take) → length (notes_of H t) ≡ length t.inner + length (line_notes H t.cells)
unfolding notes_of
length-notes H t = length-merge t.inner (line_notes H t.cells)

-- At most the notes and cells of another take.
pub record Less (H : Header) (t u : Take) : Type 0 where
  pub fewer_notes : length (notes_of H t) ≤ length (notes_of H u)
  pub fewer_cells : length t.cells ≤ length u.cells

module _ (H : Header) (z : 0 < H.delta) (le : H.epsilon ≤ H.delta) (t : Take) (s : Solid H.delta t) (k : ℕ) where
  down_edge : Edge (λ b. ltb b k)
  down_edge = down (λ b e. let h : suc b < k = ltb-true (suc b) k e in lt-ltb b k (omega arith))

  up_edge : Edge (λ b. leb k b)
  up_edge = up (λ b e. let h : k ≤ b = leb-true k b e in le-leb k (suc b) (omega arith))

  left_cells_lem : (split_left H.delta k t).cells ≡ keep (λ c. ltb c.beat k) t.cells
  unfolding split_left left_of
  left_cells_lem = refl

  left-inner : (split_left H.delta k t).inner ≡ keep (λ n. ltb (first_beat H.delta n) k) t.inner
  unfolding split_left left_of
  left-inner = refl

  right_cells_lem : (split_right H.delta k t).cells ≡ map (λ c. cell_to (c.beat - k) c) (keep (λ c. leb k c.beat) t.cells)
  unfolding split_right right_of
  right_cells_lem = refl

  right-inner : (split_right H.delta k t).inner ≡ map (λ n. note_to H.delta (first_beat H.delta n - k) n) (keep (λ n. leb k (first_beat H.delta n)) t.inner)
  unfolding split_right right_of
  right-inner = refl

  -- the left half has at most the take's notes and cells
  pub left_less : Less H (split_left H.delta k t) t
  left_less =
      let u = split_left H.delta k t in
      let wu : line_notes H u.cells ≡ walk H false u.cells = line_walk H le (solid_left H.delta z t s k).cells_pieced in
      let wt : line_notes H t.cells ≡ walk H false t.cells = line_walk H le s.cells_pieced in
      let a : length (walk H false u.cells) ≤ length (walk H false t.cells) = rw left_cells_lem (fewer H z le (λ b. ltb b k) down_edge s.cells_pieced s.cells-apart) in
      let b : length u.inner ≤ length t.inner = rw left-inner (length-keep (λ n. ltb (first_beat H.delta n) k) t.inner) in
      record {
        fewer_notes = rw (length-notes H u, length-notes H t, wu, wt) (omega arith);
        fewer_cells = rw left_cells_lem (length-keep (λ c. ltb c.beat k) t.cells);
      }

  -- and so has the right half
  pub right_less : Less H (split_right H.delta k t) t
  right_less =
      let u = split_right H.delta k t in
      let kc = keep (λ (c : Cell). leb k c.beat) t.cells in
      let ki = keep (λ (n : Note). leb k (first_beat H.delta n)) t.inner in
      let wu : line_notes H u.cells ≡ walk H false u.cells = line_walk H le (solid_right H.delta z t s k).cells_pieced in
      let wt : line_notes H t.cells ≡ walk H false t.cells = line_walk H le s.cells_pieced in
      let m : length (walk H false u.cells) ≡ length (walk H false kc) = rw right_cells_lem (walk-back H k kc false (all_imp (λ c. leb k c.beat ≡ true) (λ c. k ≤ c.beat) kc (λ c. leb-true k c.beat) (all-kept (λ c. leb k c.beat) t.cells))) in
      let a : length (walk H false kc) ≤ length (walk H false t.cells) = fewer H z le (λ b. leb k b) up_edge s.cells_pieced s.cells-apart in
      let b : length u.inner ≡ length ki = rw right-inner (length-map (λ n. note_to H.delta (first_beat H.delta n - k) n) ki) in
      let d : length ki ≤ length t.inner = length-keep (λ n. leb k (first_beat H.delta n)) t.inner in
      let e : length u.cells ≡ length kc = rw right_cells_lem (length-map (λ c. cell_to (c.beat - k) c) kc) in
      let f : length kc ≤ length t.cells = length-keep (λ c. leb k c.beat) t.cells in
      record {
        fewer_notes = rw (length-notes H u, length-notes H t, wu, wt) (omega arith);
        fewer_cells = omega arith;
      }

-- ---- question 8 of a split

less_fits : (H : Header) (t u : Take) → Less H t u → fits H u ≡ true → fits H t ≡ true
unfolding fits
less_fits H t u l e =
    let h : 3 + 4 * length (notes_of H u) + 6 * length u.cells ≤ H.words = leb-true (3 + 4 * length (notes_of H u) + 6 * length u.cells) H.words e in
    let a = l.fewer_notes in
    let b = l.fewer_cells in
    le-leb (3 + 4 * length (notes_of H t) + 6 * length t.cells) H.words (omega arith)

module _ (H : Header) (z : 0 < H.delta) (le : H.epsilon ≤ H.delta) (ws : List ℕ) (e : sound_shelf H ws ≡ true) where
  -- a sound shelf's take fits
  pub sound-fits : fits H (take_in H.delta ws) ≡ true
  unfolding fits
  sound-fits =
      let u : 3 + 4 * word ws 1 + 6 * word ws 2 ≤ H.words = sound_used H z ws e in
      let a : length (notes_of H (take_in H.delta ws)) ≡ word ws 1 = ap length (sound-notes H z ws e) ∙ length_read (word ws 1) (drop 3 ws) in
      let b : length (take_in H.delta ws).cells ≡ word ws 2 = unfold take_in in length-cells (word ws 2) (drop (3 + 4 * word ws 1) ws) in
      le-leb (3 + 4 * length (notes_of H (take_in H.delta ws)) + 6 * length (take_in H.delta ws).cells) H.words (omega arith)

  -- question 8 is never answered no for a split of a sound shelf
  pub split_fits : (k : ℕ) → fits H (split_left H.delta k (take_in H.delta ws)) && fits H (split_right H.delta k (take_in H.delta ws)) ≡ true
  split_fits k =
      let t = take_in H.delta ws in
      let s : Solid H.delta t = sound_solid H z ws e in
      and_yes (less_fits H (split_left H.delta k t) t (left_less H z le t s k) sound-fits) (less_fits H (split_right H.delta k t) t (right_less H z le t s k) sound-fits)

-- The notes of two lists of cells, one behind the other, from the notes of each; and the notes of cells some beats later.
-- Assumes nothing.
use Rattle.std.specs.Prelude.{Bool, ◌||◌, ◌*◌, ◌+◌, ◌-◌, ◌<◌, ◌≤◌, suc, ℕ}
use Rattle.std.proofs.Math.Bool.{◌&&◌, cond, false, or-false, true}
use Rattle.std.proofs.Common.{true≢false, ◌∙◌, add-mul, arith}
use mathlib.Core.List.{List, [], ◌++◌, ◌∷◌, map}
use Rattle.std.proofs.Math.Path.{◌≡◌, ap, ap₂, refl, sym}
use Rattle.std.proofs.Math.Decide.{ℕ_discrete}
use Rattle.std.proofs.Math.Dec.{eqb}
use borrow.Author.Tests.{eq-eqb, eqb-true, leb-false, ne_eqb}
use Rattle.model.specs.Binding.{bound_next, end_of, fills, go_on, meet, opening, stands_alone, start_of}
use Rattle.model.specs.Lists.{cons_if}
use Rattle.model.specs.Soundness.{filled}
use Rattle.model.specs.Takes.{cell_to}
use Rattle.model.specs.declared.Cell.{Cell}
use Rattle.model.specs.declared.Header.{Header}
use Rattle.model.specs.declared.Note.{Note}
use Rattle.laws.specs.Booleans.{or_right}
use Rattle.laws.specs.CutLines.{joined, put}
use Rattle.laws.specs.Notes.{note_same}
use Rattle.laws.specs.Relations.{All}
use Rattle.laws.specs.Rules.{Opening, Pair, Pieced, bound-opening, double, fill_close_alone, fill_open_alone, moved_alone, moved_bound, open_free, own, pair_close, pair_filled, pair_fills, pair_open, single, span, stop}
use Rattle.laws.specs.Walk.{walk, walk_double, walk_single}

-- ---- some beats later

-- The note s ticks later.
abbrev pub note_later : ℕ → Note → Note
note_later s n = record { lane = n.lane; start = n.start + s; end = n.end + s; velocity = n.velocity }

-- The cell k beats later.
abbrev pub cell_later : ℕ → Cell → Cell
cell_later k c = cell_to (k + c.beat) c

module _ (H : Header) (k : ℕ) where
  meet_later : (c d : Cell) → meet (cell_later k c) (cell_later k d) ≡ meet c d
  unfolding meet
  meet_later c d = ap (λ (t : Bool). eqb c.lane d.lane && eqb c.side 1 && eqb d.side 0 && t) go
    where
      go : eqb (k + d.beat) (suc (k + c.beat)) ≡ eqb d.beat (suc c.beat)
      go = elim (ℕ_discrete d.beat (suc c.beat)) [
        | yes e ↦ eq-eqb (k + d.beat) (suc (k + c.beat)) (omega arith) ∙ sym (eq-eqb d.beat (suc c.beat) e)
        | no e ↦ ne_eqb (k + d.beat) (suc (k + c.beat)) (omega arith) ∙ sym (ne_eqb d.beat (suc c.beat) e)
      ]

  bound_later : (c : Cell) (cs : List Cell) → bound_next H (cell_later k c) (map (cell_later k) cs) ≡ bound_next H c cs
  unfolding bound_next
  bound_later c [] = refl
  bound_later c (d ∷ ds) = ap₂ ◌&&◌ (meet_later c d) (moved_bound H (k + c.beat) (k + d.beat) c d)

  line_later : (b : ℕ) → (k + b) * H.delta ≡ b * H.delta + k * H.delta
  line_later b = let m : (k + b) * H.delta ≡ k * H.delta + b * H.delta = add-mul k b H.delta in omega arith

  own_later : (c : Cell) → filled H.delta c ≡ false → own H.delta (cell_later k c) ≡ note_later (k * H.delta) (own H.delta c)
  unfolding own start_of end_of filled
  own_later c g = go (opening c) refl
    where
      go : (o : Bool) → opening c ≡ o → ◌≡◌ {A = Note} (record {
        lane = c.lane;
        start = cond o ((k + c.beat) * H.delta) (suc (k + c.beat) * H.delta - c.before);
        end = cond o ((k + c.beat) * H.delta + c.after) (suc (k + c.beat) * H.delta);
        velocity = c.velocity;
      }) (note_later (k * H.delta) (record {
        lane = c.lane;
        start = cond o (c.beat * H.delta) (suc c.beat * H.delta - c.before);
        end = cond o (c.beat * H.delta + c.after) (suc c.beat * H.delta);
        velocity = c.velocity;
      }))
      go true e = let l = line_later c.beat in note_same refl (omega arith) (omega arith) refl
      go false e =
          let l = line_later c.beat in
          let b : c.before < H.delta = leb-false H.delta c.before (rw e at g) in
          note_same refl (omega arith) (omega arith) refl

  span_later : (c d : Cell) → Pair H.delta c d
      → span H.delta (cell_later k c) (cell_later k d) ≡ note_later (k * H.delta) (span H.delta c d)
  unfolding start_of end_of
  span_later c d q =
      let l = line_later c.beat in
      let m = line_later d.beat in
      rw (pair_open H.delta c d q, pair_close H.delta c d q) (note_same refl (omega arith) (omega arith) refl)

  put_later : (n : Note) (on shown : Bool) (ns : List Note)
      → put (note_later (k * H.delta) n) on shown (map (note_later (k * H.delta)) ns) ≡ map (note_later (k * H.delta)) (put n on shown ns)
  put_later n true shown [] = refl
  put_later n true shown (m ∷ ms) = refl
  put_later n false true ns = refl
  put_later n false false ns = refl

  -- the notes of cells k beats later are k beats later
  pub walk_later : {cs : List Cell} → Pieced H.delta cs → (held : Bool)
      → walk H held (map (cell_later k) cs) ≡ map (note_later (k * H.delta)) (walk H held cs)
  walk_later stop held = unfold walk in refl
  walk_later (single {c = c} {cs = cs} f g p) held =
      walk_single H (cell_later k c) (map (cell_later k) cs) held (unfold fills in f)
      ∙ rw (bound_later c cs, walk_later p (bound_next H c cs), own_later c g, moved_alone H (k + c.beat) c)
      (put_later (own H.delta c) (bound_next H c cs) (stands_alone H c || held) (walk H (bound_next H c cs) cs))
      ∙ ap (map (note_later (k * H.delta))) (sym (walk_single H c cs held f))
  walk_later (double {c = c} {d = d} {cs = cs} q p) held =
      let r : Pair H.delta (cell_later k c) (cell_later k d) = record {
        lane_same = q.lane_same;
        beat_same = ap (◌+◌ k) q.beat_same;
        opens = q.opens;
        closes = q.closes;
        long = q.long;
        before_is = q.before_is;
        after_is = q.after_is;
        velocity_same = q.velocity_same;
      } in
      walk_double H (cell_later k c) (cell_later k d) (map (cell_later k) cs) held r
      ∙ rw (bound_later d cs, walk_later p (bound_next H d cs), span_later c d q)
      (put_later (span H.delta c d) (bound_next H d cs) true (walk H (bound_next H d cs) cs))
      ∙ ap (map (note_later (k * H.delta))) (sym (walk_double H c d cs held q))

-- ---- the first note of cells, and the last

module _ {A : Type 0} where
  -- The last of d and xs.
  abbrev pub last_or : A → List A → A
  last_or d [] = d
  last_or d (x ∷ xs) = last_or x xs

  -- what holds of all holds of the last
  pub last-all : (P : A → Type 0) (x : A) (xs : List A) → All P (x ∷ xs) → P (last_or x xs)
  last-all P x [] a = a.0
  last-all P x (y ∷ ys) a = last-all P y ys a.1

module _ (H : Header) (le : H.epsilon ≤ H.delta) where
  -- The notes of d ∷ ds, where d is an opening cell: `note` and then `rest` if d goes on from a cell before it; else `note` is there if d stands alone.
  pub record Opened (d : Cell) (ds : List Cell) : Type 0 where
    pub note : Note
    pub rest : List Note
    pub held : walk H true (d ∷ ds) ≡ note ∷ rest
    pub unheld : walk H false (d ∷ ds) ≡ cons_if (stands_alone H d) note rest
    pub start_is : note.start ≡ start_of H.delta d
    pub short : stands_alone H d ≡ false → note ≡ own H.delta d

  cons_cond : (b : Bool) (n : Note) (ns : List Note) → cond b (n ∷ ns) ns ≡ cons_if b n ns
  cons_cond true n ns = refl
  cons_cond false n ns = refl

  pub opened : {d : Cell} {ds : List Cell} → Pieced H.delta (d ∷ ds) → opening d ≡ true → Opened d ds
  opened {d} {ds} (single f g p) o =
      let b : bound_next H d ds ≡ false = open_free H d ds (eqb-true d.side 0 o) in
      record {
        note = own H.delta d;
        rest = walk H false ds;
        held = walk_single H d ds true f ∙ rw (b, or_right (stands_alone H d) {b = true} refl);
        unheld = walk_single H d ds false f ∙ rw (b, or-false (stands_alone H d)) (cons_cond (stands_alone H d) (own H.delta d) (walk H false ds));
        start_is = unfold own in refl;
        short = λ e. refl;
      }
  opened (double {c = c} {d = d} {cs = cs} q p) o = go (bound_next H d cs) (walk H (bound_next H d cs) cs) (walk_double H c d cs true q) (walk_double H c d cs false q)
    where
      a : stands_alone H c ≡ true
      a = fill_open_alone H le c (pair_fills H.delta c d q)

      made : (m : Note) (ms : List Note) → walk H true (c ∷ d ∷ cs) ≡ m ∷ ms → walk H false (c ∷ d ∷ cs) ≡ m ∷ ms → m.start ≡ start_of H.delta c → Opened c (d ∷ cs)
      made m ms t u i = record { note = m; rest = ms; held = t; unheld = rw a u; start_is = i; short = λ e. absurd (true≢false (sym a ∙ e)) }

      go : (b : Bool) (ns : List Note) → walk H true (c ∷ d ∷ cs) ≡ put (span H.delta c d) b true ns
          → walk H false (c ∷ d ∷ cs) ≡ put (span H.delta c d) b true ns → Opened c (d ∷ cs)
      go true [] t u = made (span H.delta c d) [] t u refl
      go true (n ∷ ns) t u = made (joined (span H.delta c d) n) ns t u refl
      go false ns t u = made (span H.delta c d) ns t u refl

  -- Notes are there.
  abbrev Some : List Note → Type 0
  Some [] = ⊥
  Some (n ∷ ns) = Unit {0}

  some_held : {cs : List Cell} → Pieced H.delta cs → Opening cs → Some (walk H true cs)
  some_held stop o = absurd o
  some_held (single {c = c} {cs = cs} f g p) o = let w = opened (single f g p) o in rw w.held tt
  some_held (double {c = c} {d = d} {cs = cs} q p) o = let w = opened (double q p) o in rw w.held tt

  -- ---- one list behind another

  module _ (bs : List Cell) where
    -- The last cell is not bound to the first of bs.
    abbrev pub Free : List Cell → Type 0
    Free [] = Unit {0}
    Free (c ∷ cs) = bound_next H (last_or c cs) bs ≡ false

    free_more : (c : Cell) (cs : List Cell) → Free (c ∷ cs) → Free cs
    free_more c [] e = tt
    free_more c (r ∷ rs) e = e

    free_next : (c : Cell) (cs : List Cell) → Free (c ∷ cs) → bound_next H c (cs ++ bs) ≡ bound_next H c cs
    unfolding bound_next
    free_next c [] e = e
    free_next c (r ∷ rs) e = refl

    put-append : (n : Note) (on shown : Bool) (ns ms : List Note) → (on ≡ true → Some ns) → put n on shown (ns ++ ms) ≡ put n on shown ns ++ ms
    put-append n true shown [] ms h = absurd (h refl)
    put-append n true shown (k ∷ ks) ms h = refl
    put-append n false true ns ms h = refl
    put-append n false false ns ms h = refl

    free_walk : {cs : List Cell} → Pieced H.delta cs → Free cs → (held : Bool) → (held ≡ true → Opening cs)
        → walk H held (cs ++ bs) ≡ walk H held cs ++ walk H false bs
    free_walk stop e held o = go held o
      where
        go : (held : Bool) → (held ≡ true → ⊥) → walk H held bs ≡ walk H held [] ++ walk H false bs
        go true o = absurd (o refl)
        go false o = unfold walk in refl
    free_walk (single {c = c} {cs = cs} f g p) e held o =
        let b = bound_next H c cs in
        walk_single H c (cs ++ bs) held f
        ∙ rw (free_next c cs e, free_walk p (free_more c cs e) b (bound-opening H c cs))
        (put-append (own H.delta c) b (stands_alone H c || held) (walk H b cs) (walk H false bs) (λ t. rw t (some_held p (bound-opening H c cs t))))
        ∙ ap (λ (ns : List Note). ns ++ walk H false bs) (sym (walk_single H c cs held f))
    free_walk (double {c = c} {d = d} {cs = cs} q p) e held o =
        let b = bound_next H d cs in
        walk_double H c d (cs ++ bs) held q
        ∙ rw (free_next d cs e, free_walk p (free_more d cs e) b (bound-opening H d cs))
        (put-append (span H.delta c d) b true (walk H b cs) (walk H false bs) (λ t. rw t (some_held p (bound-opening H d cs t))))
        ∙ ap (λ (ns : List Note). ns ++ walk H false bs) (sym (walk_double H c d cs held q))

    -- the last cell is not bound to the first of bs: the notes of both
    pub walk_free : {cs : List Cell} → Pieced H.delta cs → Free cs → walk H false (cs ++ bs) ≡ walk H false cs ++ walk H false bs
    walk_free p e = free_walk p e false (λ t. absurd (true≢false (sym t)))

    -- The last cell c of cs is bound to the first of bs, with which the note m begins: the last note of cs, or c's piece, goes on in m. It is
    -- among the notes of cs if c stands alone.
    pub record Goes (held : Bool) (c : Cell) (cs : List Cell) (m : Note) (ms : List Note) : Type 0 where
      pub front : List Note
      pub note : Note
      pub whole : walk H held (cs ++ bs) ≡ front ++ joined note m ∷ ms
      pub part : walk H held cs ≡ front ++ cons_if (stands_alone H c) note []
      pub end_is : note.end ≡ end_of H.delta c
      pub short : stands_alone H c ≡ false → note ≡ own H.delta c

    module _ (m : Note) (ms : List Note) where
      -- the last piece
      last_goes : (held : Bool) (c : Cell) (cs : List Cell) (n : Note) (shown : Bool) → shown ≡ stands_alone H c → n.end ≡ end_of H.delta c → (stands_alone H c ≡ false → n ≡ own H.delta c)
          → walk H held (cs ++ bs) ≡ go_on n (m ∷ ms) → walk H held cs ≡ cond shown (n ∷ []) [] → Goes held c cs m ms
      last_goes held c cs n shown a i s w p = record {
        front = [];
        note = n;
        whole = w;
        part = p ∙ rw a (cons_cond (stands_alone H c) n []);
        end_is = i;
        short = s;
      }

      -- a piece in front
      more_goes : (held : Bool) (c : Cell) (cs rest : List Cell) (n : Note) (on shown : Bool) → (on ≡ true → Some (walk H on rest))
          → walk H held (cs ++ bs) ≡ put n on shown (walk H on (rest ++ bs)) → walk H held cs ≡ put n on shown (walk H on rest)
          → Goes on c rest m ms → Goes held c cs m ms
      more_goes held c cs rest n on shown h w p g = go on shown g.front (stands_alone H c) refl (λ e. rw g.part at (h e)) (rw g.whole at w) (rw g.part at p)
        where
          go : (on shown : Bool) (fs : List Note) (a : Bool) → stands_alone H c ≡ a → (on ≡ true → Some (fs ++ cons_if (stands_alone H c) g.note []))
              → walk H held (cs ++ bs) ≡ put n on shown (fs ++ joined g.note m ∷ ms)
              → walk H held cs ≡ put n on shown (fs ++ cons_if (stands_alone H c) g.note []) → Goes held c cs m ms
          go true shown [] true e s u v =
              record { front = []; note = joined n g.note; whole = u; part = v ∙ rw e; end_is = g.end_is; short = λ i. absurd (true≢false (sym e ∙ i)) }
          go true shown [] false e s u v = absurd (rw e at (s refl))
          go true shown (f ∷ fs) a e s u v = record { front = joined n f ∷ fs; note = g.note; whole = u; part = v; end_is = g.end_is; short = g.short }
          go false true fs a e s u v = record { front = n ∷ fs; note = g.note; whole = u; part = v; end_is = g.end_is; short = g.short }
          go false false fs a e s u v = record { front = fs; note = g.note; whole = u; part = v; end_is = g.end_is; short = g.short }

      goes : {c : Cell} {cs : List Cell} → Pieced H.delta (c ∷ cs) → bound_next H (last_or c cs) bs ≡ true → walk H true bs ≡ m ∷ ms → (held : Bool)
          → (held ≡ true → opening c ≡ true) → Goes held (last_or c cs) (c ∷ cs) m ms
      goes (single {c = c} {cs = []} f g p) e w held o =
          last_goes held c (c ∷ []) (own H.delta c) (stands_alone H c || held) (unheld held o) (unfold own in refl) (λ i. refl)
          (walk_single H c bs held f ∙ rw (e, w)) (walk_single H c [] held f ∙ unfold bound_next walk in refl)
        where
          unheld : (held : Bool) → (held ≡ true → opening c ≡ true) → stands_alone H c || held ≡ stands_alone H c
          unheld true o = absurd (true≢false (sym e ∙ open_free H c bs (eqb-true c.side 0 (o refl))))
          unheld false o = or-false (stands_alone H c)
      goes (single {c = c} {cs = r ∷ rs} f g p) e w held o =
          let b = bound_next H c (r ∷ rs) in
          more_goes held (last_or r rs) (c ∷ r ∷ rs) (r ∷ rs) (own H.delta c) b (stands_alone H c || held)
          (λ t. rw t (some_held p (bound-opening H c (r ∷ rs) t)))
          (walk_single H c (r ∷ rs ++ bs) held f ∙ unfold bound_next in refl) (walk_single H c (r ∷ rs) held f)
          (goes p e w b (bound-opening H c (r ∷ rs)))
      goes (double {c = c} {d = d} {cs = []} q p) e w held o =
          let a : stands_alone H d ≡ true = fill_close_alone H le d (pair_filled H.delta c d q) in
          last_goes held d (c ∷ d ∷ []) (span H.delta c d) true (sym a) refl (λ i. absurd (true≢false (sym a ∙ i)))
          (walk_double H c d bs held q ∙ rw (e, w)) (walk_double H c d [] held q ∙ unfold bound_next walk in refl)
      goes (double {c = c} {d = d} {cs = r ∷ rs} q p) e w held o =
          let b = bound_next H d (r ∷ rs) in
          more_goes held (last_or r rs) (c ∷ d ∷ r ∷ rs) (r ∷ rs) (span H.delta c d) b true
          (λ t. rw t (some_held p (bound-opening H d (r ∷ rs) t)))
          (walk_double H c d (r ∷ rs ++ bs) held q ∙ unfold bound_next in refl) (walk_double H c d (r ∷ rs) held q)
          (goes p e w b (bound-opening H d (r ∷ rs)))

      -- the last cell is bound to the first of bs
      pub walk-bound : {c : Cell} {cs : List Cell} → Pieced H.delta (c ∷ cs) → bound_next H (last_or c cs) bs ≡ true → walk H true bs ≡ m ∷ ms
          → Goes false (last_or c cs) (c ∷ cs) m ms
      walk-bound p e w = goes p e w false (λ t. absurd (true≢false (sym t)))

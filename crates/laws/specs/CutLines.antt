-- The notes of the cells of some beats, against the notes of all cells: one law for whatever cuts notes at a line.
-- Assumes nothing.
use Rattle.std.specs.Prelude.{Bool, ◌&&◌, ◌||◌, ◌≡◌, ◌*◌, ◌<◌, ◌≤◌, suc, ℕ}
use Rattle.std.proofs.Math.Bool.{cond, false, or-false, true}
use Rattle.std.proofs.Common.{true≢false, ◌∙◌, ap, sym, arith, eq-eqb, eqb-true, ne_eqb}
use mathlib.Core.List.{List, [], ◌++◌, ◌∷◌}
use Rattle.std.proofs.Math.Path.{refl}
use Rattle.model.specs.Binding.{bound, bound_next, end_of, fills, go_on, meet, opening, stands_alone, start_of}
use Rattle.model.specs.Lists.{cons_if, gather, keep}
use Rattle.model.specs.Soundness.{filled}
use Rattle.model.specs.declared.Cell.{Cell}
use Rattle.model.specs.declared.Header.{Header}
use Rattle.model.specs.declared.Note.{Note}
use Rattle.laws.specs.Booleans.{and_left, and_no, or_right}
use Rattle.laws.specs.Counting.{Edge, down, meets, no_skip}
use Rattle.laws.specs.Lines.{close_end, meet-line}
use Rattle.laws.specs.Order.{walk_fair}
use Rattle.laws.specs.Relations.{All, Pairs, all_keep}
use Rattle.laws.specs.Rules.{Opening, Pair, Pieced, bound-opening, double, fill_close_alone, fill_open_alone, open_free, own, pair_fills, pair_filled, single, span, stop}
use Rattle.laws.specs.Solid.{Apart, Fine}
use Rattle.laws.specs.Spans.{Spans, spans_double, spans_single}
use Rattle.laws.specs.Walk.{walk, walk_double, walk_single}

-- A piece in front of the notes behind it: it goes on in the first of them, or is a note if it is shown.
abbrev pub put : Note → Bool → Bool → List Note → List Note
put n on shown ns = cond on (go_on n ns) (cond shown (n ∷ ns) ns)

-- A piece and the note behind it as one.
abbrev pub joined : Note → Note → Note
joined n m = record { lane = n.lane; start = n.start; end = m.end; velocity = n.velocity }

-- What `Counting` says of two cells holds whatever beats are kept.
every_beat : Edge (λ b. true)
every_beat = down (λ b e. e)

-- p: the beats that are kept; Known: what else is known of each cell.
module _ (H : Header) (beats : ℕ) (z : 0 < H.delta) (le : H.epsilon ≤ H.delta) (p : ℕ → Bool) (Known : Cell → Type 0) where
  abbrev q : Cell → Bool
  q c = p c.beat

  -- ---- cells by their first piece

  -- What is known of cells.
  pub record Cells (cs : List Cell) : Type 0 where
    pub in_pieces : Pieced H.delta cs
    pub all_fine : All (Fine H.delta beats) cs
    pub all_apart : Pairs (Apart H.delta) cs
    pub all_known : All Known cs

  -- The cells c ∷ cs begin with the piece n; c is its first cell and x its last, and `rest` are the cells behind it.
  pub record Front (c x : Cell) (cs rest : List Cell) (n : Note) : Type 0 where
    pub spans : Spans H.delta beats z c n
    pub velocity_is : n.velocity ≡ c.velocity
    pub end_is : n.end ≡ end_of H.delta x
    pub lane-last : x.lane ≡ c.lane
    pub beat_last : x.beat ≡ c.beat
    pub known_last : Known x
    pub apart-last : All (Apart H.delta x) rest
    pub behind : Cells rest
    pub alone-last : stands_alone H x ≡ stands_alone H c
    -- a piece that touches its opening line and is bound behind it fills its beat
    pub steady : opening c ≡ true → bound_next H x rest ≡ true → stands_alone H x ≡ true
    pub walks : (held : Bool) → walk H held (c ∷ cs) ≡ put n (bound_next H x rest) (stands_alone H x || held) (walk H (bound_next H x rest) rest)
    pub kept : q c ≡ true → (held : Bool)
        → walk H held (keep q (c ∷ cs)) ≡ put n (bound_next H x (keep q rest)) (stands_alone H x || held) (walk H (bound_next H x (keep q rest)) (keep q rest))
    pub dropped : q c ≡ false → keep q (c ∷ cs) ≡ keep q rest

  front_single : (c : Cell) (cs : List Cell) → fills H.delta c ≡ false → filled H.delta c ≡ false → Cells (c ∷ cs) → Cells cs
      → Front c c cs cs (own H.delta c)
  front_single c cs f g k r = record {
    spans = spans_single H.delta beats z c f g k.all_fine.0;
    velocity_is = unfold own in refl;
    end_is = unfold own in refl;
    lane-last = refl;
    beat_last = refl;
    known_last = k.all_known.0;
    apart-last = k.all_apart.0;
    behind = r;
    alone-last = refl;
    steady = λ o b. absurd (true≢false (sym b ∙ open_free H c cs (eqb-true c.side 0 o)));
    walks = λ held. walk_single H c cs held f;
    kept = λ e held. rw e (walk_single H c (keep q cs) held f);
    dropped = λ e. rw e;
  }

  front_double : (c d : Cell) (cs : List Cell) → Pair H.delta c d → Cells (c ∷ d ∷ cs) → Cells cs → Front c d (d ∷ cs) cs (span H.delta c d)
  front_double c d cs w k r =
      let same : q d ≡ q c = ap p w.beat_same in
      let a : stands_alone H d ≡ true = fill_close_alone H le d (pair_filled H.delta c d w) in
      record {
        spans = spans_double H.delta beats z c d w k.all_fine.0;
        velocity_is = refl;
        end_is = refl;
        lane-last = w.lane_same;
        beat_last = w.beat_same;
        known_last = k.all_known.1.0;
        apart-last = k.all_apart.1.0;
        behind = r;
        alone-last = a ∙ sym (fill_open_alone H le c (pair_fills H.delta c d w));
        steady = λ o b. a;
        walks = λ held. rw a (walk_double H c d cs held w);
        kept = λ e held. rw (same, e, a) (walk_double H c d (keep q cs) held w);
        dropped = λ e. rw (same, e);
      }

  -- what holds of no cells, and of cells with a piece in front if it holds of those behind it, holds of all cells
  pub by_piece : (P : List Cell → Type 0) → P []
      → ((c x : Cell) (cs rest : List Cell) (n : Note) → Front c x cs rest n → Cells (c ∷ cs) → P rest → P (c ∷ cs)) → {cs : List Cell} → Cells cs
      → P cs
  by_piece P base step k = go k.in_pieces k
    where
      fewer : (c : Cell) (cs : List Cell) → Pieced H.delta cs → Cells (c ∷ cs) → Cells cs
      fewer c cs r k = record { in_pieces = r; all_fine = k.all_fine.1; all_apart = k.all_apart.1; all_known = k.all_known.1 }

      go : {cs : List Cell} → Pieced H.delta cs → Cells cs → P cs
      go stop k = base
      go (single {c = c} {cs = cs} f g r) k = step c c cs cs (own H.delta c) (front_single c cs f g k (fewer c cs r k)) k (go r (fewer c cs r k))
      go (double {c = c} {d = d} {cs = cs} w r) k =
          let b : Cells cs = record { in_pieces = r; all_fine = k.all_fine.1.1; all_apart = k.all_apart.1.1; all_known = k.all_known.1.1 } in
          step c d (d ∷ cs) cs (span H.delta c d) (front_double c d cs w k b) k (go r b)

  -- ---- a piece that is bound to the next

  -- The notes of r ∷ rs, where r is an opening cell: m and then ms if r goes on from a cell before it; else m is there if r stands alone.
  pub record Opened (r : Cell) (rs : List Cell) (m : Note) (ms : List Note) : Type 0 where
    pub held : walk H true (r ∷ rs) ≡ m ∷ ms
    pub unheld : walk H false (r ∷ rs) ≡ cons_if (stands_alone H r) m ms
    pub lane_is : m.lane ≡ r.lane
    pub start_is : m.start ≡ start_of H.delta r
    pub velocity_is : m.velocity ≡ r.velocity
    pub order : m.start < m.end

  abbrev SomeOpened : Cell → List Cell → Type 0
  SomeOpened r rs = (m : Note) × (ms : List Note) × Opened r rs m ms

  abbrev Opens : List Cell → Type 0
  Opens [] = Unit {0}
  Opens (c ∷ cs) = opening c ≡ true → SomeOpened c cs

  front_opened : (c x : Cell) (cs rest : List Cell) (n : Note) → Front c x cs rest n → Cells (c ∷ cs) → opening c ≡ true → SomeOpened c cs
  front_opened c x cs rest n f k o = go (bound_next H x rest) refl (walk H (bound_next H x rest) rest) (f.walks true) (f.walks false)
    where
      made : (m : Note) (ms : List Note) → walk H true (c ∷ cs) ≡ m ∷ ms → walk H false (c ∷ cs) ≡ cons_if (stands_alone H c) m ms → m.lane ≡ n.lane
          → m.start ≡ n.start → m.velocity ≡ n.velocity → SomeOpened c cs
      made m ms t u l s v =
          let a = walk_fair H beats z k.in_pieces k.all_fine k.all_apart true in (
            m,
            ms,
            record {
              held = t;
              unheld = u;
              lane_is = l ∙ f.spans.is_lane;
              start_is = s ∙ f.spans.is_start;
              velocity_is = v ∙ f.velocity_is;
              order = (rw t at a).0.order;
            },
          )

      go : (b : Bool) → bound_next H x rest ≡ b → (ns : List Note) → walk H true (c ∷ cs) ≡ put n b (stands_alone H x || true) ns
          → walk H false (c ∷ cs) ≡ put n b (stands_alone H x || false) ns → SomeOpened c cs
      go true e [] t u = made n [] t (u ∙ rw (sym f.alone-last ∙ f.steady o e)) refl refl refl
      go true e (h ∷ hs) t u = made (joined n h) hs t (u ∙ rw (sym f.alone-last ∙ f.steady o e)) refl refl refl
      go false e ns t u =
          made n ns (t ∙ rw (or_right (stands_alone H x) {b = true} refl))
          (u ∙ rw (or-false (stands_alone H x), f.alone-last) (cons_cond (stands_alone H c) ns)) refl refl refl
        where
          cons_cond : (a : Bool) (ns : List Note) → cond a (n ∷ ns) ns ≡ cons_if a n ns
          cons_cond true ns = refl
          cons_cond false ns = refl

  -- The piece n is bound to the first of the cells behind it, r, with which the note m begins.
  pub record Seam (c x : Cell) (cs : List Cell) (n : Note) (r : Cell) (rs : List Cell) (m : Note) (ms : List Note) : Type 0 where
    pub front : Front c x cs (r ∷ rs) n
    pub behind : Opened r rs m ms
    pub closes : x.side ≡ 1
    pub opens : r.side ≡ 0
    pub next_beat : r.beat ≡ suc c.beat
    pub on_line : n.end ≡ suc c.beat * H.delta
    pub one_lane : m.lane ≡ n.lane
    pub one-tick : m.start ≡ n.end

  next_opens : (x r : Cell) (rs : List Cell) → bound_next H x (r ∷ rs) ≡ true → meet x r ≡ true
  unfolding bound_next
  next_opens x r rs e = and_left (meet x r) (bound H x r) e

  pub seam : (c x : Cell) (cs : List Cell) (n : Note) (r : Cell) (rs : List Cell) → Front c x cs (r ∷ rs) n → bound_next H x (r ∷ rs) ≡ true
      → (m : Note) × (ms : List Note) × Seam c x cs n r rs m ms
  seam c x cs n r rs f e =
      let t : meet x r ≡ true = next_opens x r rs e in
      let w = meets H z le (λ b. true) every_beat x r t in
      let o = by_piece Opens tt (λ c x cs rest n f k ih. front_opened c x cs rest n f k) f.behind (eq-eqb r.side 0 w.opens_it) in
      let s : start_of H.delta r ≡ end_of H.delta x = meet-line H.delta z x r t in (
        o.0,
        o.1,
        record {
          front = f;
          behind = o.2;
          closes = w.closes_it;
          opens = w.opens_it;
          next_beat = w.next_beat ∙ ap suc f.beat_last;
          on_line = f.end_is ∙ close_end H.delta z x (let y = w.closes_it in ne_eqb x.side 0 (omega arith)) ∙ ap (λ (b : ℕ). suc b * H.delta) f.beat_last;
          one_lane = o.2.lane_is ∙ sym w.lanes-meet ∙ f.lane-last ∙ sym f.spans.is_lane;
          one-tick = o.2.start_is ∙ s ∙ sym f.end_is;
        },
      )

  -- ---- bound among the kept cells

  -- The first cell is kept.
  abbrev first_kept : List Cell → Bool
  first_kept [] = false
  first_kept (c ∷ cs) = q c

  -- a cell is bound to the next kept one where it is bound to the next and that is kept
  bound-kept : (x : Cell) (cs : List Cell) → All (Apart H.delta x) cs → Pairs (Apart H.delta) cs
      → bound_next H x (keep q cs) ≡ first_kept cs && bound_next H x cs
  unfolding bound_next
  bound-kept x [] a s = refl
  bound-kept x (d ∷ ds) a s = go (q d) refl (bound_next H x (keep q ds)) refl
    where
      go : (b : Bool) → q d ≡ b → (t : Bool) → bound_next H x (keep q ds) ≡ t → bound_next H x (cons_if b d (keep q ds)) ≡ b && bound_next H x (d ∷ ds)
      go true e t u = refl
      go false e true u = absurd (no_skip H z le (λ b. true) every_beat x d (keep q ds) a.0 (all_keep (Apart H.delta d) q ds s.0) u)
      go false e false u = u

  -- ---- cutting notes

  -- A piece n with first cell c that ends its note.
  pub record AtEnd (cut : Note → List Note) (c : Cell) (n : Note) : Type 0 where
    pub kept_end : q c ≡ true → cut n ≡ n ∷ []
    pub dropped_end : q c ≡ false → cut n ≡ []

  -- A piece n, with cells c to x, bound to the cell r, with which the note m begins: both are left, or one, if its cell on the line stands alone, or what is left of m.
  pub record AtSeam (cut : Note → List Note) (c x r : Cell) (n m : Note) : Type 0 where
    pub kept-kept : q c ≡ true → q r ≡ true → (l : Note) × (cut m ≡ l ∷ []) × (cut (joined n m) ≡ joined n l ∷ [])
    pub kept_dropped : q c ≡ true → q r ≡ false → (cut m ≡ []) × (cut (joined n m) ≡ cons_if (stands_alone H x) n [])
    pub dropped_kept : q c ≡ false → q r ≡ true → (cut m ≡ m ∷ []) × (cut (joined n m) ≡ cons_if (stands_alone H r) m [])
    pub dropped_dropped : q c ≡ false → q r ≡ false → cut (joined n m) ≡ cut m

  -- It cuts notes as the kept beats have them.
  pub record Cuts (cut : Note → List Note) : Type 0 where
    pub ends : {c x : Cell} {cs rest : List Cell} {n : Note} → Front c x cs rest n → AtEnd cut c n
    pub seams : {c x : Cell} {cs : List Cell} {n : Note} {r : Cell} {rs : List Cell} {m : Note} {ms : List Note} → Seam c x cs n r rs m ms
        → AtSeam cut c x r n m

  module _ (cut : Note → List Note) (k : Cuts cut) where
    abbrev Law : List Cell → Type 0
    Law cs = (held : Bool) → (held ≡ true → Opening cs) → walk H (first_kept cs && held) (keep q cs) ≡ gather cut (walk H held cs)

    law_unheld : (cs : List Cell) → Law cs → walk H false (keep q cs) ≡ gather cut (walk H false cs)
    law_unheld cs l = let i = l false (λ h. absurd (true≢false (sym h))) in rw (and_no (first_kept cs) false refl) at i

    kept_shown : (n : Note) (ns : List Note) (shown : Bool) → cut n ≡ n ∷ []
        → cond shown (n ∷ gather cut ns) (gather cut ns) ≡ gather cut (cond shown (n ∷ ns) ns)
    kept_shown n ns true e = rw e
    kept_shown n ns false e = refl

    dropped_shown : (n : Note) (ns : List Note) (shown : Bool) → cut n ≡ [] → gather cut ns ≡ gather cut (cond shown (n ∷ ns) ns)
    dropped_shown n ns true e = rw e
    dropped_shown n ns false e = refl

    -- a piece that is kept in front
    kept_put : (c x : Cell) (cs rest : List Cell) (n : Note) → Front c x cs rest n → q c ≡ true → (held : Bool) → (held ≡ true → opening c ≡ true)
        → put n (first_kept rest && bound_next H x rest) (stands_alone H x || held) (gather cut (walk H (bound_next H x rest) rest))
        ≡ gather cut (put n (bound_next H x rest) (stands_alone H x || held) (walk H (bound_next H x rest) rest))
    kept_put c x cs [] n f e held o = unfold bound_next in kept_shown n (walk H false []) (stands_alone H x || held) ((k.ends f).kept_end e)
    kept_put c x cs (r ∷ rs) n f e held o = go (bound_next H x (r ∷ rs)) refl (q r) refl
      where
        -- what goes on into a dropped cell is shown if its own cell stands alone
        off : bound_next H x (r ∷ rs) ≡ true → (b : Bool) → (b ≡ true → opening c ≡ true) → (a : Bool) → stands_alone H x ≡ a → (ns : List Note)
            → cond (a || b) (n ∷ ns) ns ≡ cons_if a n [] ++ ns
        off g b i true j ns = refl
        off g true i false j ns = absurd (true≢false (sym (f.steady (i refl) g) ∙ j))
        off g false i false j ns = refl

        go : (b : Bool) → bound_next H x (r ∷ rs) ≡ b → (t : Bool) → q r ≡ t
            → put n (t && b) (stands_alone H x || held) (gather cut (walk H b (r ∷ rs))) ≡ gather cut (put n b (stands_alone H x || held) (walk H b (r ∷ rs)))
        go true g true u =
            let s = seam c x cs n r rs f g in
            let l = (k.seams s.2).kept-kept e u in
            rw (s.2.behind.held, l.1, l.2)
        go true g false u =
            let s = seam c x cs n r rs f g in
            let l = (k.seams s.2).kept_dropped e u in
            rw (s.2.behind.held, l.0, l.1) (off g held o (stands_alone H x) refl (gather cut s.1))
        go false g true u = kept_shown n (walk H false (r ∷ rs)) (stands_alone H x || held) ((k.ends f).kept_end e)
        go false g false u = kept_shown n (walk H false (r ∷ rs)) (stands_alone H x || held) ((k.ends f).kept_end e)

    -- a piece that is dropped in front
    dropped_put : (c x : Cell) (cs rest : List Cell) (n : Note) → Front c x cs rest n → q c ≡ false → (shown : Bool) → Law rest
        → walk H false (keep q rest) ≡ gather cut (put n (bound_next H x rest) shown (walk H (bound_next H x rest) rest))
    dropped_put c x cs [] n f e shown ih = unfold bound_next in law_unheld [] ih ∙ dropped_shown n (walk H false []) shown ((k.ends f).dropped_end e)
    dropped_put c x cs (r ∷ rs) n f e shown ih = go (bound_next H x (r ∷ rs)) refl (q r) refl
      where
        on : (a : Bool) (m : Note) (ms : List Note) → cut m ≡ m ∷ [] → gather cut (cons_if a m ms) ≡ cons_if a m [] ++ gather cut ms
        on true m ms h = rw h
        on false m ms h = refl

        go : (b : Bool) → bound_next H x (r ∷ rs) ≡ b → (t : Bool) → q r ≡ t
            → walk H false (keep q (r ∷ rs)) ≡ gather cut (put n b shown (walk H b (r ∷ rs)))
        go true g true u =
            let s = seam c x cs n r rs f g in
            let l = (k.seams s.2).dropped_kept e u in
            law_unheld (r ∷ rs) ih ∙ rw (s.2.behind.unheld, s.2.behind.held, l.1) (on (stands_alone H r) s.0 s.1 l.0)
        go true g false u =
            let s = seam c x cs n r rs f g in
            let i : walk H (q r && true) (keep q (r ∷ rs)) ≡ gather cut (walk H true (r ∷ rs)) = ih true (λ h. bound-opening H x (r ∷ rs) g) in
            ap (λ (t : Bool). walk H t (keep q (r ∷ rs))) (sym (rw u)) ∙ i ∙ rw (s.2.behind.held, (k.seams s.2).dropped_dropped e u)
        go false g t u = law_unheld (r ∷ rs) ih ∙ dropped_shown n (walk H false (r ∷ rs)) shown ((k.ends f).dropped_end e)

    law : (c x : Cell) (cs rest : List Cell) (n : Note) → Front c x cs rest n → Law rest → Law (c ∷ cs)
    law c x cs rest n f ih held o = go (q c) refl
      where
        go : (b : Bool) → q c ≡ b → walk H (b && held) (keep q (c ∷ cs)) ≡ gather cut (walk H held (c ∷ cs))
        go true e =
            f.kept e held
            ∙ rw (bound-kept x rest f.apart-last f.behind.all_apart, ih (bound_next H x rest) (bound-opening H x rest)) (kept_put c x cs rest n f e held o)
            ∙ ap (gather cut) (sym (f.walks held))
        go false e = ap (walk H false) (f.dropped e) ∙ dropped_put c x cs rest n f e (stands_alone H x || held) ih ∙ ap (gather cut) (sym (f.walks held))

    -- the notes of the kept cells are those of all cells, cut
    pub walk-keep : {cs : List Cell} → Cells cs → walk H false (keep q cs) ≡ gather cut (walk H false cs)
    walk-keep {cs} s = law_unheld cs (by_piece Law (λ h o. unfold walk in refl) (λ c x cs rest n f k ih. law c x cs rest n f ih) s)

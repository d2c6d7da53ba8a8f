-- Split, join and history keep takes solid.
-- Assumes nothing.
use Rattle.std.specs.Prelude.{Bool, true, ◌≡◌, refl, get_or}
use mathlib.Core.List.{List, [], ◌++◌, ◌∷◌, map}
use Rattle.std.proofs.Common.{◌∙◌, sym, div-add-mod', mul-le-mul_right}
use Rattle.std.proofs.Math.Path.{ap, subst}
use Prim.Native.Nat.{◌%◌, ◌*◌, ◌+◌, ◌-◌, ◌/◌, ◌<◌, ◌≤◌, suc, zero, ℕ}
use Rattle.std.proofs.Math.Decide.{dec_le, ℕ_discrete}
use native.Mathlib.Omega.{arith}
use Rattle.std.proofs.Math.Dec.{eqb, leb, ltb}
use borrow.Author.Tests.{eqb-true, leb-true, ltb-true}
use Rattle.model.specs.Binding.{fills}
use Rattle.model.specs.Histories.{Recording, history_take, placed, take_of}
use Rattle.model.specs.Lists.{keep}
use Rattle.model.specs.Pieces.{first_beat, inside}
use Rattle.model.specs.Soundness.{filled, notes_ok}
use Rattle.model.specs.Takes.{Take, by_lane, cell_to, join_takes, later_by, left_of, note_to, right_of, split_left, split_right}
use Rattle.model.specs.declared.Cell.{Cell}
use Rattle.model.specs.declared.Note.{Note}
use Rattle.laws.specs.Beats.{div_mono, inside_high, inside_low, inside-to, note_beat}
use Rattle.laws.specs.Histories.{join_takes_lem}
use Rattle.laws.specs.Lanes.{all_both, all-by_lane, all_moved, pairs-by_lane, pairs_moved}
use Rattle.laws.specs.Notes.{Fair, Follow, above, later}
use Rattle.laws.specs.OneNote.{Valid, pieced_append, pieced_count, pieced_keep, solid_recording}
use Rattle.laws.specs.Relations.{All, all-all, all_append, all_imp, all_keep, all-kept, all-kept_imp, pairs-append, pairs_imp, pairs-keep}
use Rattle.laws.specs.Rules.{Pieced, double, single, stop}
use Rattle.laws.specs.Solid.{Apart, Clear, Fine, Solid, beat_up, lane_up, side_up}

pub pieced_by_lane : (δ : ℕ) {xs : List Cell} → Pieced δ xs → Pieced δ (by_lane (λ c. c.lane) xs)
unfolding by_lane
pieced_by_lane δ {xs} p = pieced_count δ (λ l. keep (λ (c : Cell). eqb c.lane l) xs) 2048 0 (λ k a b. pieced_keep δ (λ c. eqb c.lane k) (λ c d q. rw q.lane_same) p)

-- ---- some of the beats

module _ (δ : ℕ) (z : 0 < δ) where
  abbrev cell_beat : Cell → ℕ
  cell_beat c = c.beat

  -- an inner note's beat
  pub inner_beat : (beats : ℕ) (n : Note) → Fair δ beats n → inside δ n ≡ true → first_beat δ n < beats
  inner_beat beats n f i =
      let l : first_beat δ n * δ < n.start = inside_low δ n i in
      let o : n.start < n.end = f.order in
      let e : n.end ≤ beats * δ = f.fits in
      elim (dec_le (suc (first_beat δ n)) beats) [ yes h ↦ h | no h ↦ let k : beats * δ ≤ first_beat δ n * δ = mul-le-mul_right δ (omega arith) in absurd (omega arith) ]

  refit : (beats more : ℕ) (n : Note) → first_beat δ n < more → inside δ n ≡ true → Fair δ beats n → Fair δ more n
  refit beats more n b i f =
      let h : n.end < suc (first_beat δ n) * δ = inside_high δ n i in
      let k : suc (first_beat δ n) * δ ≤ more * δ = mul-le-mul_right δ b in
      record { lane_below = f.lane_below; order = f.order; fits = omega arith; loud = f.loud }

  rebeat : (beats more : ℕ) (c : Cell) → c.beat < more → Fine δ beats c → Fine δ more c
  rebeat beats more c b f = record { lane_below = f.lane_below; beat_below = b; side_below = f.side_below; loud = f.loud; sum = f.sum; open_ticks = f.open_ticks; close_ticks = f.close_ticks }

  pub solid_keep : (t : Take) → Solid δ t → (q : ℕ → Bool) (more : ℕ) → ((b : ℕ) → b < t.beats → q b ≡ true → b < more)
      → Solid δ (record { beats = more; inner = keep (λ n. q (first_beat δ n)) t.inner; cells = keep (λ c. q c.beat) t.cells })
  solid_keep t s q more h = record {
    notes_fair = all-kept_imp (λ n. Fair δ t.beats n × (inside δ n ≡ true)) (Fair δ more) (λ n. q (first_beat δ n)) t.inner
        (λ n e k. refit t.beats more n (h (first_beat δ n) (inner_beat t.beats n k.0 k.1) e) k.1 k.0) (all_both (Fair δ t.beats) (λ n. inside δ n ≡ true) t.inner s.notes_fair s.notes-inside);
    notes-inside = all_keep (λ n. inside δ n ≡ true) (λ n. q (first_beat δ n)) t.inner s.notes-inside;
    notes-apart = pairs-keep Follow (λ n. q (first_beat δ n)) t.inner s.notes-apart;
    cells_fine = all-kept_imp (Fine δ t.beats) (Fine δ more) (λ c. q c.beat) t.cells (λ c e k. rebeat t.beats more c (h c.beat k.beat_below e) k) s.cells_fine;
    cells_pieced = pieced_keep δ (λ c. q c.beat) (λ c d p. rw p.beat_same) s.cells_pieced;
    cells-apart = pairs-keep (Apart δ) (λ c. q c.beat) t.cells s.cells-apart;
    all-clear = all_keep (λ n. All (Clear δ n) (keep (λ c. q c.beat) t.cells)) (λ n. q (first_beat δ n)) t.inner
        (all_imp (λ n. All (Clear δ n) t.cells) (λ n. All (Clear δ n) (keep (λ c. q c.beat) t.cells)) t.inner (λ n a. all_keep (Clear δ n) (λ c. q c.beat) t.cells a) s.all-clear);
  }

  -- ---- in other beats

  -- a note in another beat
  record Shifted (n m : Note) (i : ℕ) : Type 0 where
    start_is : m.start + first_beat δ n * δ ≡ n.start + i * δ
    end_is : m.end + first_beat δ n * δ ≡ n.end + i * δ

  shifted : (n : Note) (i : ℕ) → n.start ≤ n.end → Shifted n (note_to δ i n) i
  shifted n i v =
      let d : n.start / δ * δ + n.start % δ ≡ n.start = div-add-mod' n.start δ in
      record { start_is = omega arith; end_is = omega arith }

  -- two inner notes in two beats
  beat_follow : (n m : Note) → inside δ n ≡ true → inside δ m ≡ true → n.lane ≡ m.lane → first_beat δ n < first_beat δ m → Follow n m
  beat_follow n m i j l b =
      let h : n.end < suc (first_beat δ n) * δ = inside_high δ n i in
      let k : suc (first_beat δ n) * δ ≤ first_beat δ m * δ = mul-le-mul_right δ b in
      let g : first_beat δ m * δ < m.start = inside_low δ m j in
      later l (omega arith)

  module _ (D : ℕ → Type 0) (g : ℕ → ℕ) (mono : (a b : ℕ) → D a → D b → a < b → g a < g b) where
    once : (a b : ℕ) → D a → D b → g a ≡ g b → a ≡ b
    once a b p q e = elim (dec_le (suc a) b) [
      | yes l ↦ let m = mono a b p q l in absurd (omega arith)
      | no l ↦ elim (dec_le (suc b) a) [ yes k ↦ let m = mono b a q p k in absurd (omega arith) | no k ↦ omega arith ]
    ]

    abbrev cell_move : Cell → Cell
    cell_move c = cell_to (g c.beat) c

    abbrev note_move : Note → Note
    note_move n = note_to δ (g (first_beat δ n)) n

    move_pieced : {cs : List Cell} → Pieced δ cs → Pieced δ (map cell_move cs)
    unfolding fills filled
    move_pieced stop = stop
    move_pieced (single {c = c} f h p) = single {c = cell_move c} f h (move_pieced p)
    move_pieced (double {c = c} {d = d} q p) =
        double {c = cell_move c} {d = cell_move d}
        (record { lane_same = q.lane_same; beat_same = ap g q.beat_same; opens = q.opens; closes = q.closes; long = q.long; before_is = q.before_is; after_is = q.after_is; velocity_same = q.velocity_same })
        (move_pieced p)

    move_apart : (c d : Cell) → D c.beat → D d.beat → Apart δ c d → Apart δ (cell_move c) (cell_move d)
    unfolding fills
    move_apart c d p q (lane_up a) = lane_up a
    move_apart c d p q (beat_up a b) = beat_up a (mono c.beat d.beat p q b)
    move_apart c d p q (side_up a b o r i) = side_up a (ap g b) o r i

    abbrev Inner : Note → Type 0
    Inner n = D (first_beat δ n) × (inside δ n ≡ true) × (n.start < n.end)

    move_inside : (n : Note) → inside δ n ≡ true → inside δ (note_move n) ≡ true
    move_inside n i = inside-to δ z (g (first_beat δ n)) n i

    move_beat : (n : Note) → first_beat δ (note_move n) ≡ g (first_beat δ n)
    move_beat n = note_beat δ z (g (first_beat δ n)) n

    move_follow : (n m : Note) → Inner n → Inner m → Follow n m → Follow (note_move n) (note_move m)
    move_follow n m p q (above a) = above a
    move_follow n m p q (later a b) =
        let nv : n.start < n.end = p.2 in
        let mv : m.start < m.end = q.2 in
        let d : first_beat δ n ≤ first_beat δ m = div_mono δ z n.start m.start (omega arith) in
        elim (ℕ_discrete (first_beat δ n) (first_beat δ m)) [
          | yes e ↦
              let x : Shifted n (note_move n) (g (first_beat δ n)) = shifted n (g (first_beat δ n)) (omega arith) in
              let y : Shifted m (note_move m) (g (first_beat δ m)) = shifted m (g (first_beat δ m)) (omega arith) in
              let xe = x.end_is in
              let ys = y.start_is in
              let k : first_beat δ n * δ ≡ first_beat δ m * δ = ap (λ (i : ℕ). i * δ) e in
              let j : g (first_beat δ n) * δ ≡ g (first_beat δ m) * δ = ap (λ (i : ℕ). g i * δ) e in
              later a (follow_sum (note_move n).end (note_move m).start n.end m.start (first_beat δ n * δ) (first_beat δ m * δ) (g (first_beat δ n) * δ) (g (first_beat δ m) * δ) xe ys k j b)
          | no e ↦ beat_follow (note_move n) (note_move m) (move_inside n p.1) (move_inside m q.1) a
              (rw (move_beat n, move_beat m) (mono (first_beat δ n) (first_beat δ m) p.0 q.0 (omega arith)))
        ]
      where
        follow_sum : (e s x y a b c d : ℕ) → e + a ≡ x + c → s + b ≡ y + d → a ≡ b → c ≡ d → x ≤ y → e ≤ s
        follow_sum e s x y a b c d p q r t u = omega arith

    move_clear : (n : Note) (c : Cell) → Inner n → D c.beat → Clear δ n c → Clear δ (note_move n) (cell_move c)
    move_clear n c p q w =
        let v : n.start < n.end = p.2 in
        let x : Shifted n (note_move n) (g (first_beat δ n)) = shifted n (g (first_beat δ n)) (omega arith) in
        let same : first_beat δ (note_move n) ≡ g c.beat → first_beat δ n ≡ c.beat = λ e. once (first_beat δ n) c.beat p.0 q (sym (move_beat n) ∙ e) in
        record {
          behind = λ l b e.
              let h : first_beat δ n ≡ c.beat = same b in
              behind_sum (note_move n).start n.start (first_beat δ n * δ) (c.beat * δ) (g (first_beat δ n) * δ) (g c.beat * δ) c.after x.start_is (ap (λ (i : ℕ). i * δ) h) (ap (λ (i : ℕ). g i * δ) h) (w.behind l h e);
          before = λ l b e.
              let h : first_beat δ n ≡ c.beat = same b in
              before-sum (note_move n).end n.end (first_beat δ n * δ) c.beat (g (first_beat δ n) * δ) (g c.beat) c.before x.end_is (ap (λ (i : ℕ). i * δ) h) (ap (λ (i : ℕ). g i * δ) h) (w.before l h e);
        }
      where
        behind_sum : (s x a b c d k : ℕ) → s + a ≡ x + c → a ≡ b → c ≡ d → b + k ≤ x → d + k ≤ s
        behind_sum s x a b c d k p q r t = omega arith

        before-sum : (s x a b c d k : ℕ) → s + a ≡ x + c → a ≡ b * δ → c ≡ d * δ → x + k ≤ suc b * δ → s + k ≤ suc d * δ
        before-sum s x a b c d k p q r t = omega arith

    move_fair : (beats more : ℕ) (n : Note) → Inner n → g (first_beat δ n) < more → Fair δ beats n → Fair δ more (note_move n)
    move_fair beats more n p b f =
        let v : n.start < n.end = p.2 in
        let h : (note_move n).end < suc (first_beat δ (note_move n)) * δ = inside_high δ (note_move n) (move_inside n p.1) in
        let e : suc (first_beat δ (note_move n)) * δ ≡ suc (g (first_beat δ n)) * δ = ap (λ (i : ℕ). suc i * δ) (move_beat n) in
        let k : suc (g (first_beat δ n)) * δ ≤ more * δ = mul-le-mul_right δ b in
        record { lane_below = f.lane_below; order = omega arith; fits = le3 _ _ _ _ h e k; loud = f.loud }
      where
        le3 : (a b c d : ℕ) → a < b → b ≡ c → c ≤ d → a ≤ d
        le3 a b c d p q r = omega arith

    pub solid_move : (t : Take) → Solid δ t → (more : ℕ) → All (λ n. D (first_beat δ n)) t.inner → All (λ c. D c.beat) t.cells
        → ((b : ℕ) → D b → g b < more)
        → Solid δ (record { beats = more; inner = map note_move t.inner; cells = map cell_move t.cells })
    solid_move t s more dn dc h =
        let is : All Inner t.inner =
        inners t.inner dn s.notes-inside s.notes_fair in
        record {
          notes_fair = all_moved (λ n. Inner n × Fair δ t.beats n) (Fair δ more) note_move t.inner (λ n k. move_fair t.beats more n k.0 (h (first_beat δ n) k.0.0) k.1) (all_both Inner (Fair δ t.beats) t.inner is s.notes_fair);
          notes-inside = all_moved (λ n. inside δ n ≡ true) (λ n. inside δ n ≡ true) note_move t.inner move_inside s.notes-inside;
          notes-apart = pairs_moved Inner Follow note_move t.inner move_follow is s.notes-apart;
          cells_fine = all_moved (λ c. D c.beat × Fine δ t.beats c) (Fine δ more) cell_move t.cells (λ c k. move_fine t.beats c (h c.beat k.0) k.1) (all_both (λ c. D c.beat) (Fine δ t.beats) t.cells dc s.cells_fine);
          cells_pieced = move_pieced s.cells_pieced;
          cells-apart = pairs_moved (λ c. D c.beat) (Apart δ) cell_move t.cells move_apart dc s.cells-apart;
          all-clear = all_moved (λ n. Inner n × All (Clear δ n) t.cells) (λ n. All (Clear δ n) (map cell_move t.cells)) note_move t.inner
              (λ n k. all_moved (λ c. D c.beat × Clear δ n c) (Clear δ (note_move n)) cell_move t.cells (λ c j. move_clear n c k.0 j.0 j.1) (all_both (λ c. D c.beat) (Clear δ n) t.cells dc k.1))
              (all_both Inner (λ n. All (Clear δ n) t.cells) t.inner is s.all-clear);
        }
      where
        inners : (ns : List Note) → All (λ n. D (first_beat δ n)) ns → All (λ n. inside δ n ≡ true) ns → All (Fair δ t.beats) ns → All Inner ns
        inners [] a b c = tt
        inners (n ∷ ns) a b c = ((a.0, b.0, c.0.order), inners ns a.1 b.1 c.1)

        move_fine : (beats : ℕ) (c : Cell) → g c.beat < more → Fine δ beats c → Fine δ more (cell_move c)
        move_fine beats c b f = record { lane_below = f.lane_below; beat_below = b; side_below = f.side_below; loud = f.loud; sum = f.sum; open_ticks = f.open_ticks; close_ticks = f.close_ticks }

  -- ---- one take beside another

  abbrev note_lane : Note → ℕ
  note_lane n = n.lane

  abbrev cell_lane : Cell → ℕ
  cell_lane c = c.lane

  -- t's beats lie before u's
  pub solid_beside : (t u : Take) → Solid δ t → Solid δ u → t.beats ≤ u.beats → All (λ n. t.beats ≤ first_beat δ n) u.inner
      → All (λ c. t.beats ≤ c.beat) u.cells
      → Solid δ (record { beats = u.beats; inner = by_lane (λ n. n.lane) (t.inner ++ u.inner); cells = by_lane (λ c. c.lane) (t.cells ++ u.cells) })
  solid_beside t u s r le un uc =
      let ti = t.inner in
      let ui = u.inner in
      let tc = t.cells in
      let u_c = u.cells in
      let k = t.beats in
      let tn : All (λ n. (first_beat δ n < k) × (inside δ n ≡ true)) ti = all_imp (λ n. Fair δ k n × (inside δ n ≡ true)) (λ n. (first_beat δ n < k) × (inside δ n ≡ true)) ti (λ n p. (inner_beat k n p.0 p.1, p.1)) (all_both (Fair δ k) (λ n. inside δ n ≡ true) ti s.notes_fair s.notes-inside) in
      let um : All (λ n. (k ≤ first_beat δ n) × (inside δ n ≡ true)) ui = all_both (λ n. k ≤ first_beat δ n) (λ n. inside δ n ≡ true) ui un r.notes-inside in
      let tb : All (λ c. c.beat < k) tc = all_imp (Fine δ k) (λ c. c.beat < k) tc (λ c f. f.beat_below) s.cells_fine in
      record {
        notes_fair = all-by_lane (λ n. n.lane) (Fair δ u.beats) (ti ++ ui) (all_append (Fair δ u.beats) ti ui
            (all_imp (λ n. Fair δ k n × ((first_beat δ n < k) × (inside δ n ≡ true))) (Fair δ u.beats) ti (λ n p. let b = p.1.0 in refit k u.beats n (omega arith) p.1.1 p.0) (all_both (Fair δ k) (λ n. (first_beat δ n < k) × (inside δ n ≡ true)) ti s.notes_fair tn)) r.notes_fair);
        notes-inside = all-by_lane (λ n. n.lane) (λ n. inside δ n ≡ true) (ti ++ ui) (all_append (λ n. inside δ n ≡ true) ti ui s.notes-inside r.notes-inside);
        notes-apart = pairs-by_lane (λ n. n.lane) Follow (λ n m l. above l) (ti ++ ui)
            (pairs-append (λ n m. n.lane ≡ m.lane → Follow n m) ti ui (pairs_imp Follow (λ n m. n.lane ≡ m.lane → Follow n m) ti (λ n m f e. f) s.notes-apart) (pairs_imp Follow (λ n m. n.lane ≡ m.lane → Follow n m) ui (λ n m f e. f) r.notes-apart)
            (all-all (λ n. (first_beat δ n < k) × (inside δ n ≡ true)) (λ n. (k ≤ first_beat δ n) × (inside δ n ≡ true)) (λ n m. n.lane ≡ m.lane → Follow n m) ti ui
            (λ n m p q e. let a = p.0 in let b = q.0 in beat_follow n m p.1 q.1 e (omega arith)) tn um));
        cells_fine = all-by_lane (λ c. c.lane) (Fine δ u.beats) (tc ++ u_c) (all_append (Fine δ u.beats) tc u_c
            (all_imp (Fine δ k) (Fine δ u.beats) tc (λ c f. let b = f.beat_below in rebeat k u.beats c (omega arith) f) s.cells_fine) r.cells_fine);
        cells_pieced = pieced_by_lane δ (pieced_append δ s.cells_pieced r.cells_pieced);
        cells-apart = pairs-by_lane (λ c. c.lane) (Apart δ) (λ c d l. lane_up l) (tc ++ u_c)
            (pairs-append (λ c d. c.lane ≡ d.lane → Apart δ c d) tc u_c (pairs_imp (Apart δ) (λ c d. c.lane ≡ d.lane → Apart δ c d) tc (λ c d f e. f) s.cells-apart) (pairs_imp (Apart δ) (λ c d. c.lane ≡ d.lane → Apart δ c d) u_c (λ c d f e. f) r.cells-apart)
            (all-all (λ c. c.beat < k) (λ c. k ≤ c.beat) (λ c d. c.lane ≡ d.lane → Apart δ c d) tc u_c (λ c d p q e. beat_up e (omega arith)) tb uc));
        all-clear = all-by_lane (λ n. n.lane) (λ n. All (Clear δ n) (by_lane (λ c. c.lane) (tc ++ u_c))) (ti ++ ui)
            (all_imp (λ n. All (Clear δ n) (tc ++ u_c)) (λ n. All (Clear δ n) (by_lane (λ c. c.lane) (tc ++ u_c))) (ti ++ ui) (λ n a. all-by_lane (λ c. c.lane) (Clear δ n) (tc ++ u_c) a)
            (all_append (λ n. All (Clear δ n) (tc ++ u_c)) ti ui
            (all_imp (λ n. All (Clear δ n) tc × ((first_beat δ n < k) × (inside δ n ≡ true))) (λ n. All (Clear δ n) (tc ++ u_c)) ti
            (λ n p. all_append (Clear δ n) tc u_c p.0 (all_imp (λ c. k ≤ c.beat) (Clear δ n) u_c (λ c q. let b = p.1.0 in no_clear n c (λ e. omega arith)) uc))
            (all_both (λ n. All (Clear δ n) tc) (λ n. (first_beat δ n < k) × (inside δ n ≡ true)) ti s.all-clear tn))
            (all_imp (λ n. All (Clear δ n) u_c × (k ≤ first_beat δ n)) (λ n. All (Clear δ n) (tc ++ u_c)) ui
            (λ n p. let b = p.1 in all_append (Clear δ n) tc u_c (all_imp (λ c. c.beat < k) (Clear δ n) tc (λ c q. no_clear n c (λ e. omega arith)) tb) p.0)
            (all_both (λ n. All (Clear δ n) u_c) (λ n. k ≤ first_beat δ n) ui r.all-clear un))));
      }
    where
      no_clear : (n : Note) (c : Cell) → (first_beat δ n ≡ c.beat → ⊥) → Clear δ n c
      no_clear n c h = record { behind = λ l b e. absurd (h b); before = λ l b e. absurd (h b) }

  -- ---- the calls

  pub solid_left : (t : Take) → Solid δ t → (k : ℕ) → Solid δ (split_left δ k t)
  unfolding split_left left_of
  solid_left t s k = solid_keep t s (λ b. ltb b k) k (λ b a e. ltb-true b k e)

  pub solid_right : (t : Take) → Solid δ t → (k : ℕ) → Solid δ (split_right δ k t)
  unfolding split_right right_of
  solid_right t s k =
      let kept : Take = record { beats = t.beats; inner = keep (λ n. leb k (first_beat δ n)) t.inner; cells = keep (λ c. leb k c.beat) t.cells } in
      let r : Solid δ kept = solid_keep t s (λ b. leb k b) t.beats (λ b a e. a) in
      let D : ℕ → Type 0 = λ b. (k ≤ b) × (b < t.beats) in
      solid_move D (λ b. b - k) (λ a b p q l. let x = p.0 in let y = q.0 in omega arith) kept r (t.beats - k)
      (all_imp (λ n. (leb k (first_beat δ n) ≡ true) × (Fair δ t.beats n × (inside δ n ≡ true))) (λ n. D (first_beat δ n)) kept.inner (λ n p. (leb-true k (first_beat δ n) p.0, inner_beat t.beats n p.1.0 p.1.1))
      (all_both (λ n. leb k (first_beat δ n) ≡ true) (λ n. Fair δ t.beats n × (inside δ n ≡ true)) kept.inner (all-kept (λ n. leb k (first_beat δ n)) t.inner) (all_both (Fair δ t.beats) (λ n. inside δ n ≡ true) kept.inner r.notes_fair r.notes-inside)))
      (all_imp (λ c. (leb k c.beat ≡ true) × Fine δ t.beats c) (λ c. D c.beat) kept.cells (λ c p. (leb-true k c.beat p.0, p.1.beat_below))
      (all_both (λ c. leb k c.beat ≡ true) (Fine δ t.beats) kept.cells (all-kept (λ c. leb k c.beat) t.cells) r.cells_fine))
      (λ b p. let x = p.0 in let y = p.1 in omega arith)

  pub solid_join : (t u : Take) → Solid δ t → Solid δ u → Solid δ (join_takes δ t u)
  unfolding join_takes later_by
  solid_join t u s r =
      let D : ℕ → Type 0 = λ b. b < u.beats in
      let k = t.beats in
      let v : Take = record { beats = k + u.beats; inner = map (λ n. note_to δ (k + first_beat δ n) n) u.inner; cells = map (λ c. cell_to (k + c.beat) c) u.cells } in
      let m : Solid δ v = solid_move D (λ b. k + b) (λ a b p q l. omega arith) u r (k + u.beats)
      (all_imp (λ n. Fair δ u.beats n × (inside δ n ≡ true)) (λ n. D (first_beat δ n)) u.inner (λ n p. inner_beat u.beats n p.0 p.1) (all_both (Fair δ u.beats) (λ n. inside δ n ≡ true) u.inner r.notes_fair r.notes-inside))
      (all_imp (Fine δ u.beats) (λ c. D c.beat) u.cells (λ c f. f.beat_below) r.cells_fine) (λ b p. omega arith) in
      solid_beside t v s m (omega arith) (later_notes k u.inner) (later_cells k u.cells)
    where
      later_notes : (k : ℕ) (ns : List Note) → All (λ n. k ≤ first_beat δ n) (map (λ n. note_to δ (k + first_beat δ n) n) ns)
      later_notes k [] = tt
      later_notes k (n ∷ ns) = (rw (note_beat δ z (k + first_beat δ n) n) (omega arith), later_notes k ns)

      later_cells : (k : ℕ) (cs : List Cell) → All (λ (c : Cell). k ≤ c.beat) (map (λ c. cell_to (k + c.beat) c) cs)
      later_cells k [] = tt
      later_cells k (c ∷ cs) = (omega arith, later_cells k cs)

  solid_none : (n : ℕ) → Solid δ (record { beats = n; inner = []; cells = [] })
  solid_none n = record { notes_fair = tt; notes-inside = tt; notes-apart = tt; cells_fine = tt; cells_pieced = stop; cells-apart = tt; all-clear = tt }

  -- ---- histories

  module _ (recordings : List Recording) (v : All (Valid δ) recordings) where
    valid_at : (rs : List Recording) → All (Valid δ) rs → (r : ℕ) → Valid δ (get_or rs r (record { beats = 0; notes = [] }))
    unfolding notes_ok
    valid_at [] a r = (omega arith, refl)
    valid_at (x ∷ rs) a zero = a.0
    valid_at (x ∷ rs) a (suc r) = valid_at rs a.1 r

    solid_of : (r : ℕ) → Solid δ (take_of δ recordings r)
    unfolding take_of
    solid_of r = let w = valid_at recordings v r in solid_recording δ z (get_or recordings r (record { beats = 0; notes = [] })) w.0 w.1

    solid_pair : (p : ℕ × ℕ) → Solid δ (history_take δ recordings (p ∷ []))
    unfolding history_take placed
    solid_pair p =
        let t = take_of δ recordings p.0 in
        let kept : Take = record { beats = t.beats; inner = keep (λ n. eqb (first_beat δ n) p.1) t.inner; cells = keep (λ c. eqb c.beat p.1) t.cells } in
        let r : Solid δ kept = solid_keep t (solid_of p.0) (λ b. eqb b p.1) t.beats (λ b a e. a) in
        let D : ℕ → Type 0 = λ b. b ≡ p.1 in
        let m = solid_move D (λ b. 0) (λ a b x y l. absurd (omega arith)) kept r 1
        (all_imp (λ n. eqb (first_beat δ n) p.1 ≡ true) (λ n. D (first_beat δ n)) kept.inner (λ n. eqb-true (first_beat δ n) p.1) (all-kept (λ n. eqb (first_beat δ n) p.1) t.inner))
        (all_imp (λ c. eqb c.beat p.1 ≡ true) (λ c. D c.beat) kept.cells (λ c. eqb-true c.beat p.1) (all-kept (λ c. eqb c.beat p.1) t.cells)) (λ b x. omega arith) in
        solid_beside (record { beats = 1; inner = map (λ n. note_to δ 0 n) kept.inner; cells = map (λ c. cell_to 0 c) kept.cells }) (record { beats = 1; inner = []; cells = [] }) m (solid_none 1) (omega arith) tt tt

    -- what a history of valid recordings gives is solid
    pub solid_history : (h : List (ℕ × ℕ)) → Solid δ (history_take δ recordings h)
    solid_history [] = unfold history_take placed in solid_none 0
    solid_history (p ∷ h) = subst (Solid δ) (join_takes_lem δ z recordings (p ∷ []) h) (solid_join (history_take δ recordings (p ∷ [])) (history_take δ recordings h) (solid_pair p) (solid_history h))

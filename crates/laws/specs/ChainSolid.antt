-- The test by neighbours and solid takes: each gives the other.
-- Assumes nothing.
use Rattle.std.specs.Prelude.{Bool, ◌&&◌, ◌||◌, ◌≢◌, ◌≡◌, ◌*◌, ◌+◌, ◌-◌, ◌<◌, ◌≤◌, suc, ℕ, leb, drop, replicate}
use Rattle.std.proofs.Math.Bool.{cond, false, not, true}
use Rattle.std.proofs.Common.{true≢false, ◌∙◌, ap, arith}
use mathlib.Core.List.{List, [], ◌++◌, ◌∷◌}
use Rattle.std.proofs.Math.Path.{refl, sym}
use Rattle.std.proofs.Math.Dec.{eqb, ltb}
use Rattle.std.proofs.Math.ListN.{length}
use borrow.Author.Tests.{eq-eqb, eqb-false, eqb-true, le-leb, leb-true, lt-ltb, ltb-true, ne_eqb, not-true}
use Rattle.model.specs.Binding.{fills, line_notes, opening}
use Rattle.model.specs.Lists.{every, gather, keep}
use Rattle.model.specs.Pieces.{first_beat, inside}
use Rattle.model.specs.Questions.{fits}
use Rattle.model.specs.Soundness.{cell_before, cell_in_range, filled, has_ticks, layout_ok, memory_within, notes_given, notes_ok, partners, same_words}
use Rattle.model.specs.Takes.{Take, cell_words, merge, note_words, notes_of, read_cells, read_notes, shelf_words, take_in, word, words_of}
use Rattle.model.specs.declared.Cell.{Cell}
use Rattle.model.specs.declared.Header.{Header}
use Rattle.model.specs.declared.Note.{Note}
use Rattle.laws.specs.Booleans.{and_left, and_right, and_yes, or_left, or_right}
use Rattle.laws.specs.Chain.{cell_ok, cells_chain, cells_sound, chain_shelf, chain_take, clear, neighbours, same_beat}
use Rattle.laws.specs.Lines.{solid_inner, solid_line}
use Rattle.laws.specs.Merging.{merge-parts}
use Rattle.laws.specs.Notes.{Fair, Follow, fair_notes, ok_pairs, ok_sorted}
use Rattle.laws.specs.Order.{solid_notes}
use Rattle.laws.specs.Reading.{notes_same, past_all, past_head, read_cells_lem, read_notes_lem, same_words_lem, shelf-back, zeros}
use Rattle.laws.specs.Relations.{All, Pairs, all_imp, all_keep, all-kept, every-all, every_yes, pairs-keep}
use Rattle.laws.specs.Rules.{Pair, Pieced, double, not_open, pair_close, pair_fills, pair_open, single, stop}
use Rattle.laws.specs.Solid.{Apart, Clear, Fine, Solid, beat_up, fine, fine_memory, fine_range, fine_ticks, lane_up, side_up}

-- ---- cells

pub apart-before : (δ : ℕ) (c d : Cell) → Apart δ c d → cell_before c d ≡ true
unfolding cell_before
apart-before δ c d (lane_up a) = or_left (eqb c.lane d.lane && (ltb c.beat d.beat || eqb c.beat d.beat && ltb c.side d.side)) (lt-ltb c.lane d.lane a)
apart-before δ c d (beat_up a b) = or_right (ltb c.lane d.lane) (and_yes (eq-eqb c.lane d.lane a) (or_left (eqb c.beat d.beat && ltb c.side d.side) (lt-ltb c.beat d.beat b)))
apart-before δ c d (side_up a b o p i) =
    or_right (ltb c.lane d.lane) (and_yes (eq-eqb c.lane d.lane a) (or_right (ltb c.beat d.beat) (and_yes (eq-eqb c.beat d.beat b) (lt-ltb c.side d.side (omega arith)))))

apart_gap : (δ : ℕ) (c d : Cell) → fills δ c ≡ false → Apart δ c d → not (same_beat c d) || leb (c.after + d.before) δ ≡ true
unfolding same_beat
apart_gap δ c d f (lane_up a) = rw (ne_eqb c.lane d.lane (omega arith))
apart_gap δ c d f (beat_up a b) = rw (eq-eqb c.lane d.lane a, ne_eqb c.beat d.beat (omega arith))
apart_gap δ c d f (side_up a b o p i) = or_right (not (eqb c.lane d.lane && eqb c.beat d.beat)) (le-leb (c.after + d.before) δ (i f))

pub open_filled : (δ : ℕ) (c : Cell) → opening c ≡ true → filled δ c ≡ false
unfolding filled
open_filled δ c e = rw e

pub pair_partners : (δ : ℕ) (c d : Cell) → Pair δ c d → partners δ c d ≡ true
unfolding partners
pair_partners δ c d q =
    let b : d.before ≡ c.before + δ = q.before_is in
    let a : d.after + δ ≡ c.after = q.after_is in
    and_yes (and_yes (and_yes (and_yes (and_yes (and_yes (eq-eqb c.lane d.lane (sym q.lane_same)) (eq-eqb c.beat d.beat (sym q.beat_same))) (pair_open δ c d q)) (rw (pair_close δ c d q)))
    (eq-eqb d.before (c.before + δ) b)) (eq-eqb (d.after + δ) c.after a)) (eq-eqb c.velocity d.velocity (sym q.velocity_same))

module _ (δ : ℕ) where
  near_single : (c e : Cell) → fills δ c ≡ false → filled δ e ≡ false → Apart δ c e → neighbours δ c e ≡ true
  unfolding neighbours
  near_single c e f g a = and_yes (apart-before δ c e a) (rw (f, g) (apart_gap δ c e f a))

  pick : (a b x y : Bool) → a ≡ true → x ≡ true → cond (a || b) x y ≡ true
  pick true b x y p q = q
  pick false b x y p q = absurd (true≢false (sym p))

  near_double : (c d : Cell) → Pair δ c d → Apart δ c d → neighbours δ c d ≡ true
  unfolding neighbours
  near_double c d q a = and_yes (apart-before δ c d a) (pick (fills δ c) (filled δ d) (partners δ c d) _ (pair_fills δ c d q) (pair_partners δ c d q))

  chain : {cs : List Cell} → Pieced δ cs → (c : Cell) → fills δ c ≡ false → All (Apart δ c) cs → Pairs (Apart δ) cs → cells_chain δ c cs ≡ true
  unfolding cells_chain
  chain stop c f a b = rw f
  chain (single {c = e} f g p) c h a b = and_yes (near_single c e h g a.0) (chain p e f b.0 b.1)
  chain (double {c = e} {d = d} q p) c h a b =
      and_yes (near_single c e h (open_filled δ e (pair_open δ e d q)) a.0)
      (and_yes (near_double e d q b.0.0) (chain p d (not_open δ d (pair_close δ e d q)) b.1.0 b.1.1))

  pub cells_sound_lem : {cs : List Cell} → Pieced δ cs → Pairs (Apart δ) cs → cells_sound δ cs ≡ true
  unfolding cells_sound
  cells_sound_lem stop b = refl
  cells_sound_lem (single {c = e} f g p) b = rw g (chain p e f b.0 b.1)
  cells_sound_lem (double {c = e} {d = d} q p) b =
      rw (open_filled δ e (pair_open δ e d q)) (and_yes (near_double e d q b.0.0) (chain p d (not_open δ d (pair_close δ e d q)) b.1.0 b.1.1))

  pub clear_is : (n : Note) (c : Cell) → Clear δ n c → clear δ n c ≡ true
  unfolding clear
  clear_is n c w = go (eqb n.lane c.lane) (eqb (first_beat δ n) c.beat) (opening c) refl refl refl
    where
      go : (s t o : Bool) → eqb n.lane c.lane ≡ s → eqb (first_beat δ n) c.beat ≡ t → opening c ≡ o
          → not (s && t) || cond o (leb (c.beat * δ + c.after) n.start) (leb (n.end + c.before) (suc c.beat * δ)) ≡ true
      go false t o a b e = refl
      go true false o a b e = refl
      go true true true a b e = le-leb (c.beat * δ + c.after) n.start (w.behind (eqb-true n.lane c.lane a) (eqb-true (first_beat δ n) c.beat b) e)
      go true true false a b e = le-leb (n.end + c.before) (suc c.beat * δ) (w.before (eqb-true n.lane c.lane a) (eqb-true (first_beat δ n) c.beat b) e)

pub parts-shelf : (H : Header) (beats : ℕ) (ns : List Note) (cs : List Cell) → beats ≤ 4096 → 3 + 4 * length ns + 6 * length cs ≤ H.words
    → chain_take H beats ns cs ≡ true
    → chain_shelf H (shelf_words H.words beats ns cs) ≡ true
unfolding chain_shelf layout_ok shelf_words
parts-shelf H beats ns cs b f e =
    let k = H.words - (3 + 4 * length ns + 6 * length cs) in
    rw (
      past_all beats (length ns) (length cs) ns cs (replicate k 0),
      past_head beats (length ns) (length cs) ns (gather cell_words cs ++ replicate k 0),
      read_cells_lem cs (replicate k 0),
      read_notes_lem ns (gather cell_words cs ++ replicate k 0),
      le-leb beats 4096 b,
      le-leb (3 + 4 * length ns + 6 * length cs) H.words f,
      zeros k,
    ) e

module _ (H : Header) (z : 0 < H.delta) (le : H.epsilon ≤ H.delta) (t : Take) (s : Solid H.delta t) where
  pub solid_parts : chain_take H t.beats (notes_of H t) t.cells ≡ true
  unfolding chain_take cell_ok notes_given
  solid_parts =
      and_yes (and_yes (and_yes (and_yes (solid_notes H z le t s)
      (every_yes (cell_ok H.delta t.beats) t.cells (all_imp (Fine H.delta t.beats) (λ c. cell_ok H.delta t.beats c ≡ true) t.cells (λ c f. and_yes (and_yes (fine_range H.delta t.beats c f) (fine_memory H.delta t.beats c f)) (fine_ticks H.delta t.beats c f)) s.cells_fine)))
      (cells_sound_lem H.delta s.cells_pieced s.cells-apart))
      (rw (solid_inner H z t s) (every_yes (λ n. every (clear H.delta n) t.cells) t.inner
      (all_imp (λ n. All (Clear H.delta n) t.cells) (λ n. every (clear H.delta n) t.cells ≡ true) t.inner
      (λ n a. every_yes (clear H.delta n) t.cells (all_imp (Clear H.delta n) (λ c. clear H.delta n c ≡ true) t.cells (λ c. clear_is H.delta n c) a)) s.all-clear))))
      (rw (solid_line H z t s) (same_words_lem (gather note_words (line_notes H t.cells))))

  -- the words of a solid take that fits are a sound shelf
  pub solid_chain : t.beats ≤ 4096 → fits H t ≡ true → chain_shelf H (words_of H t) ≡ true
  unfolding words_of fits
  solid_chain b f = parts-shelf H t.beats (notes_of H t) t.cells b (leb-true (3 + 4 * length (notes_of H t) + 6 * length t.cells) H.words f) solid_parts

-- ---- the parts of the test

pub record Parts (H : Header) (ws : List ℕ) : Type 0 where
  pub beats_ok : word ws 0 ≤ 4096
  pub used_ok : 3 + 4 * word ws 1 + 6 * word ws 2 ≤ H.words
  pub zeros_ok : every (eqb 0) (drop (3 + 4 * word ws 1 + 6 * word ws 2) ws) ≡ true
  pub notes_ok_lem : notes_ok H.delta (word ws 0) (read_notes (word ws 1) (drop 3 ws)) ≡ true
  pub cells_ok : every (cell_ok H.delta (word ws 0)) (read_cells (word ws 2) (drop (3 + 4 * word ws 1) ws)) ≡ true
  pub chain_ok : cells_sound H.delta (read_cells (word ws 2) (drop (3 + 4 * word ws 1) ws)) ≡ true
  pub clear_ok : every (λ n. every (clear H.delta n) (read_cells (word ws 2) (drop (3 + 4 * word ws 1) ws))) (keep (inside H.delta) (read_notes (word ws 1) (drop 3 ws))) ≡ true
  pub same_ok : same_words (gather note_words (keep (λ n. not (inside H.delta n)) (read_notes (word ws 1) (drop 3 ws)))) (gather note_words (line_notes H (read_cells (word ws 2) (drop (3 + 4 * word ws 1) ws)))) ≡ true

pub parts : (H : Header) (ws : List ℕ) → chain_shelf H ws ≡ true → Parts H ws
unfolding chain_shelf chain_take layout_ok notes_given
parts H ws e =
    let used = 3 + 4 * word ws 1 + 6 * word ws 2 in
    let notes = read_notes (word ws 1) (drop 3 ws) in
    let cells = read_cells (word ws 2) (drop (3 + 4 * word ws 1) ws) in
    let a = leb (word ws 0) 4096 in
    let b = leb used H.words in
    let c = every (eqb 0) (drop used ws) in
    let d = notes_ok H.delta (word ws 0) notes in
    let f = every (cell_ok H.delta (word ws 0)) cells in
    let g = cells_sound H.delta cells in
    let h = every (λ n. every (clear H.delta n) cells) (keep (inside H.delta) notes) in
    let i = same_words (gather note_words (keep (λ n. not (inside H.delta n)) notes)) (gather note_words (line_notes H cells)) in
    let x = and_left (a && b && c) (d && f && g && h && i) e in
    let y = and_right (a && b && c) (d && f && g && h && i) e in
    let y4 = and_left (d && f && g && h) i y in
    let y3 = and_left (d && f && g) h y4 in
    let y2 = and_left (d && f) g y3 in
    record {
      beats_ok = leb-true (word ws 0) 4096 (and_left a b (and_left (a && b) c x));
      used_ok = leb-true used H.words (and_right a b (and_left (a && b) c x));
      zeros_ok = and_right (a && b) c x;
      notes_ok_lem = and_left d f y2;
      cells_ok = and_right d f y2;
      chain_ok = and_right (d && f) g y3;
      clear_ok = and_right (d && f && g) h y4;
      same_ok = and_right (d && f && g && h) i y;
    }

-- ---- cells

pub fine_of : (δ beats : ℕ) (c : Cell) → cell_ok δ beats c ≡ true → Fine δ beats c
unfolding cell_ok
fine_of δ beats c e =
    let a = cell_in_range beats c in
    let b = memory_within δ c in
    fine δ beats c (and_left a b (and_left (a && b) (has_ticks c) e)) (and_right a b (and_left (a && b) (has_ticks c) e)) (and_right (a && b) (has_ticks c) e)

module _ (δ : ℕ) where
  -- what partners have in common, in numbers
  pub pair_of : (c d : Cell) → c.side ≤ 1 → d.side ≤ 1 → partners δ c d ≡ true → Pair δ c d
  unfolding partners
  pair_of c d s t e =
      let l = eqb c.lane d.lane in
      let b = eqb c.beat d.beat in
      let o = opening c in
      let p = not (opening d) in
      let x = eqb d.before (c.before + δ) in
      let y = eqb (d.after + δ) c.after in
      let v = eqb c.velocity d.velocity in
      let e6 = and_left (l && b && o && p && x && y) v e in
      let e5 = and_left (l && b && o && p && x) y e6 in
      let e4 = and_left (l && b && o && p) x e5 in
      let e3 = and_left (l && b && o) p e4 in
      let e2 = and_left (l && b) o e3 in
      let a : d.after + δ ≡ c.after = eqb-true (d.after + δ) c.after (and_right (l && b && o && p && x) y e6) in
      record {
        lane_same = sym (eqb-true c.lane d.lane (and_left l b e2));
        beat_same = sym (eqb-true c.beat d.beat (and_right l b e2));
        opens = eqb-true c.side 0 (and_right (l && b) o e3);
        closes = let k : d.side ≢ 0 = eqb-false d.side 0 (not-true (opening d) (and_right (l && b && o) p e4)) in omega arith;
        long = omega arith;
        before_is = eqb-true d.before (c.before + δ) (and_right (l && b && o && p) x e5);
        after_is = a;
        velocity_same = sym (eqb-true c.velocity d.velocity (and_right (l && b && o && p && x && y) v e));
      }

  near_before : (c d : Cell) → neighbours δ c d ≡ true → cell_before c d ≡ true
  unfolding neighbours
  near_before c d e = and_left (cell_before c d) _ e

  near_next : (c d : Cell) → neighbours δ c d ≡ true
      → cond (fills δ c || filled δ d) (partners δ c d) (not (same_beat c d) || leb (c.after + d.before) δ) ≡ true
  unfolding neighbours
  near_next c d e = and_right (cell_before c d) _ e

  partners-fills : (c d : Cell) → partners δ c d ≡ true → fills δ c ≡ true
  unfolding partners fills
  partners-fills c d e =
      let q = eqb c.lane d.lane && eqb c.beat d.beat in
      let o = opening c in
      let p = not (opening d) in
      let x = eqb d.before (c.before + δ) in
      let y = eqb (d.after + δ) c.after in
      let e6 = and_left (q && o && p && x && y) (eqb c.velocity d.velocity) e in
      let a : d.after + δ ≡ c.after = eqb-true (d.after + δ) c.after (and_right (q && o && p && x) y e6) in
      and_yes (and_right q o (and_left (q && o) p (and_left (q && o && p) x (and_left (q && o && p && x) y e6)))) (le-leb δ c.after (omega arith))

  not_filled : (c d : Cell) → neighbours δ c d ≡ true → fills δ c ≡ false → filled δ d ≡ false
  not_filled c d e f = go (fills δ c) (filled δ d) f refl (near_next c d e)
    where
      go : (a b : Bool) → a ≡ false → filled δ d ≡ b → cond (a || b) (partners δ c d) (not (same_beat c d) || leb (c.after + d.before) δ) ≡ true
          → b ≡ false
      go true b p q r = absurd (true≢false p)
      go false true p q r = absurd (true≢false (sym (partners-fills c d r) ∙ f))
      go false false p q r = refl

  near_pair : (c d : Cell) → c.side ≤ 1 → d.side ≤ 1 → neighbours δ c d ≡ true → fills δ c ≡ true → Pair δ c d
  near_pair c d s t e f = pair_of c d s t (go (fills δ c) f (near_next c d e))
    where
      go : (a : Bool) → a ≡ true → cond (a || filled δ d) (partners δ c d) (not (same_beat c d) || leb (c.after + d.before) δ) ≡ true
          → partners δ c d ≡ true
      go true p r = r
      go false p r = absurd (true≢false (sym p))

  near_gap : (c d : Cell) → neighbours δ c d ≡ true → c.lane ≡ d.lane → c.beat ≡ d.beat → fills δ c ≡ false → c.after + d.before ≤ δ
  unfolding same_beat
  near_gap c d e l b f =
      let r = near_next c d e in
      leb-true (c.after + d.before) δ (rw (f, not_filled c d e f, eq-eqb c.lane d.lane l, eq-eqb c.beat d.beat b) at r)

  near_apart : (c d : Cell) → c.side ≤ 1 → d.side ≤ 1 → neighbours δ c d ≡ true → Apart δ c d
  unfolding cell_before
  near_apart c d s t e = go (ltb c.lane d.lane) refl (near_before c d e)
    where
      deep : c.lane ≡ d.lane → (b : Bool) → ltb c.beat d.beat ≡ b → b || eqb c.beat d.beat && ltb c.side d.side ≡ true
          → Apart δ c d
      deep l true p q = beat_up l (ltb-true c.beat d.beat p)
      deep l false p q =
          let b : c.beat ≡ d.beat = eqb-true c.beat d.beat (and_left (eqb c.beat d.beat) _ q) in
          let u : c.side < d.side = ltb-true c.side d.side (and_right (eqb c.beat d.beat) _ q) in
          side_up l b (omega arith) (omega arith) (near_gap c d e l b)

      go : (a : Bool) → ltb c.lane d.lane ≡ a
          → a || eqb c.lane d.lane && (ltb c.beat d.beat || eqb c.beat d.beat && ltb c.side d.side) ≡ true → Apart δ c d
      go true p q = lane_up (ltb-true c.lane d.lane p)
      go false p q = deep (eqb-true c.lane d.lane (and_left (eqb c.lane d.lane) _ q)) (ltb c.beat d.beat) refl (and_right (eqb c.lane d.lane) _ q)

  pub apart_trans : (c d e : Cell) → Apart δ c d → Apart δ d e → Apart δ c e
  apart_trans c d e (lane_up a) (lane_up b) = lane_up (omega arith)
  apart_trans c d e (lane_up a) (beat_up b p) = lane_up (omega arith)
  apart_trans c d e (lane_up a) (side_up b p q r s) = lane_up (omega arith)
  apart_trans c d e (beat_up a p) (lane_up b) = lane_up (omega arith)
  apart_trans c d e (beat_up a p) (beat_up b q) = beat_up (omega arith) (omega arith)
  apart_trans c d e (beat_up a p) (side_up b q r s t) = beat_up (omega arith) (omega arith)
  apart_trans c d e (side_up a p q r s) (lane_up b) = lane_up (omega arith)
  apart_trans c d e (side_up a p q r s) (beat_up b t) = beat_up (omega arith) (omega arith)
  apart_trans c d e (side_up a p q r s) (side_up b t u v w) = absurd (omega arith)

  chain_first : (c d : Cell) (ds : List Cell) → cells_chain δ c (d ∷ ds) ≡ true → neighbours δ c d ≡ true
  unfolding cells_chain
  chain_first c d ds e = and_left (neighbours δ c d) (cells_chain δ d ds) e

  chain_more : (c d : Cell) (ds : List Cell) → cells_chain δ c (d ∷ ds) ≡ true → cells_chain δ d ds ≡ true
  unfolding cells_chain
  chain_more c d ds e = and_right (neighbours δ c d) (cells_chain δ d ds) e

  chain-last : (c : Cell) → cells_chain δ c [] ≡ true → fills δ c ≡ false
  unfolding cells_chain
  chain-last c e = go (fills δ c) e
    where
      go : (b : Bool) → not b ≡ true → b ≡ false
      go true p = absurd (true≢false (sym p))
      go false p = refl

  module _ (beats : ℕ) where
    chain-pairs : (c : Cell) (cs : List Cell) → Fine δ beats c → All (Fine δ beats) cs → cells_chain δ c cs ≡ true → Pairs (Apart δ) (c ∷ cs)
    chain-pairs c [] f k e = (tt, tt)
    chain-pairs c (d ∷ ds) f k e =
        let a : Apart δ c d = near_apart c d f.side_below k.0.side_below (chain_first c d ds e) in
        let r : Pairs (Apart δ) (d ∷ ds) = chain-pairs d ds k.0 k.1 (chain_more c d ds e) in
        ((a, all_imp (Apart δ d) (Apart δ c) ds (λ x b. apart_trans c d x a b) r.0), r)

    chain_pieced : (c : Cell) (cs : List Cell) → Fine δ beats c → All (Fine δ beats) cs → filled δ c ≡ false → cells_chain δ c cs ≡ true
        → Pieced δ (c ∷ cs)
    chain_pieced c [] f k g e = single (chain-last c e) g stop
    chain_pieced c (d ∷ []) f k g e = go (fills δ c) refl (λ h. chain_pieced d [] k.0 tt h (chain_more c d [] e))
      where
        go : (b : Bool) → fills δ c ≡ b → (filled δ d ≡ false → Pieced δ (d ∷ [])) → Pieced δ (c ∷ d ∷ [])
        go true p r = double (near_pair c d f.side_below k.0.side_below (chain_first c d [] e) p) stop
        go false p r = single p g (r (not_filled c d (chain_first c d [] e) p))
    chain_pieced c (d ∷ x ∷ xs) f k g e =
        go (fills δ c) refl (λ h. chain_pieced d (x ∷ xs) k.0 k.1 h (chain_more c d (x ∷ xs) e))
        (λ h. chain_pieced x xs k.1.0 k.1.1 h (chain_more d x xs (chain_more c d (x ∷ xs) e)))
      where
        go : (b : Bool) → fills δ c ≡ b → (filled δ d ≡ false → Pieced δ (d ∷ x ∷ xs)) → (filled δ x ≡ false → Pieced δ (x ∷ xs))
            → Pieced δ (c ∷ d ∷ x ∷ xs)
        go true p r q =
            let w : Pair δ c d = near_pair c d f.side_below k.0.side_below (chain_first c d (x ∷ xs) e) p in
            let o : d.side ≡ 1 = w.closes in
            double w (q (not_filled d x (chain_first d x xs (chain_more c d (x ∷ xs) e)) (not_open δ d (ne_eqb d.side 0 (omega arith)))))
        go false p r q = single p g (r (not_filled c d (chain_first c d (x ∷ xs) e) p))

    pub sound_pieced : (cs : List Cell) → All (Fine δ beats) cs → cells_sound δ cs ≡ true → Pieced δ cs
    unfolding cells_sound
    sound_pieced [] k e = stop
    sound_pieced (c ∷ cs) k e = chain_pieced c cs k.0 k.1 (go (filled δ c) (and_left (not (filled δ c)) (cells_chain δ c cs) e)) (and_right (not (filled δ c)) (cells_chain δ c cs) e)
      where
        go : (b : Bool) → not b ≡ true → b ≡ false
        go true p = absurd (true≢false (sym p))
        go false p = refl

    pub sound-apart : (cs : List Cell) → All (Fine δ beats) cs → cells_sound δ cs ≡ true → Pairs (Apart δ) cs
    unfolding cells_sound
    sound-apart [] k e = tt
    sound-apart (c ∷ cs) k e = chain-pairs c cs k.0 k.1 (and_right (not (filled δ c)) (cells_chain δ c cs) e)

  pub clear_of : (n : Note) (c : Cell) → clear δ n c ≡ true → Clear δ n c
  unfolding clear
  clear_of n c e = record {
    behind = λ l b o. leb-true (c.beat * δ + c.after) n.start (rw (eq-eqb n.lane c.lane l, eq-eqb (first_beat δ n) c.beat b, o) at e);
    before = λ l b o. leb-true (n.end + c.before) (suc c.beat * δ) (rw (eq-eqb n.lane c.lane l, eq-eqb (first_beat δ n) c.beat b, o) at e);
  }

-- ---- the take

-- a sound shelf's take is solid
pub chain_solid : (H : Header) → 0 < H.delta → (ws : List ℕ) → chain_shelf H ws ≡ true → Solid H.delta (take_in H.delta ws)
unfolding take_in
chain_solid H z ws e =
    let p : Parts H ws = parts H ws e in
    let notes = read_notes (word ws 1) (drop 3 ws) in
    let cells = read_cells (word ws 2) (drop (3 + 4 * word ws 1) ws) in
    let k : All (Fine H.delta (word ws 0)) cells = all_imp (λ c. cell_ok H.delta (word ws 0) c ≡ true) (Fine H.delta (word ws 0)) cells (λ c. fine_of H.delta (word ws 0) c) (every-all (cell_ok H.delta (word ws 0)) cells p.cells_ok) in
    record {
      notes_fair = all_keep (Fair H.delta (word ws 0)) (inside H.delta) notes (fair_notes H.delta (word ws 0) notes p.notes_ok_lem);
      notes-inside = all-kept (inside H.delta) notes;
      notes-apart = pairs-keep Follow (inside H.delta) notes (ok_pairs H.delta (word ws 0) notes p.notes_ok_lem);
      cells_fine = k;
      cells_pieced = sound_pieced H.delta (word ws 0) cells k p.chain_ok;
      cells-apart = sound-apart H.delta (word ws 0) cells k p.chain_ok;
      all-clear = all_imp (λ n. every (clear H.delta n) cells ≡ true) (λ n. All (Clear H.delta n) cells) (keep (inside H.delta) notes)
          (λ n a. all_imp (λ c. clear H.delta n c ≡ true) (Clear H.delta n) cells (λ c. clear_of H.delta n c) (every-all (clear H.delta n) cells a)) (every-all (λ n. every (clear H.delta n) cells) (keep (inside H.delta) notes) p.clear_ok);
    }

-- the notes of a sound shelf are its take's
pub chain-notes : (H : Header) → 0 < H.delta → (ws : List ℕ) → chain_shelf H ws ≡ true
    → notes_of H (take_in H.delta ws) ≡ read_notes (word ws 1) (drop 3 ws)
unfolding take_in notes_of
chain-notes H z ws e =
    let p : Parts H ws = parts H ws e in
    let notes = read_notes (word ws 1) (drop 3 ws) in
    let cells = read_cells (word ws 2) (drop (3 + 4 * word ws 1) ws) in
    ap (merge (keep (inside H.delta) notes)) (sym (notes_same (keep (λ n. not (inside H.delta n)) notes) (line_notes H cells) p.same_ok))
    ∙ merge-parts (inside H.delta) notes (ok_sorted H.delta (word ws 0) notes p.notes_ok_lem)

-- a sound shelf's words are those of its take
pub chain_words : (H : Header) → 0 < H.delta → (ws : List ℕ) → length ws ≡ H.words → chain_shelf H ws ≡ true
    → words_of H (take_in H.delta ws) ≡ ws
unfolding words_of
chain_words H z ws n e =
    let p : Parts H ws = parts H ws e in
    ap (λ (ns : List Note). shelf_words H.words (take_in H.delta ws).beats ns (take_in H.delta ws).cells) (chain-notes H z ws e)
    ∙ (unfold take_in in shelf-back H.words ws n p.used_ok p.zeros_ok)

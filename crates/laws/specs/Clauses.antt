-- The paper's definition of a sound take, clause by clause, is the test by neighbours of `Chain`.
-- Assumes nothing.
use Rattle.std.specs.Prelude.{Bool, ◌&&◌, false, List, ◌++◌, ◌≡◌, refl, ◌<◌, ℕ}
use Rattle.std.proofs.Math.Bool.{true}
use Rattle.std.proofs.Common.{ap, sym}
use Rattle.model.specs.Lists.{chain, every, keep, pairwise}
use Rattle.model.specs.Pieces.{inside}
use Rattle.model.specs.Soundness.{apart, cell_before, cell_in_range, filled_whole, has_ticks, layout_ok, memory_within, no_overlap, notes_given, notes_ok, sound_shelf, sound_take}
use Rattle.model.specs.Takes.{cells_in, notes_in, word}
use Rattle.model.specs.declared.Cell.{Cell}
use Rattle.model.specs.declared.Header.{Header}
use Rattle.model.specs.declared.Note.{Note}
use Rattle.laws.specs.Beats.{inside_high, inside_low}
use Rattle.laws.specs.Booleans.{and_left, and_right, and_yes}
use Rattle.laws.specs.Chain.{cell_ok, cells_sound, chain_shelf, chain_take, clear}
use Rattle.laws.specs.ChainSolid.{apart-before, cells_sound_lem, clear_is, clear_of, fine_of, sound-apart, sound_pieced}
use Rattle.laws.specs.Notes.{Away, Fair, Follow, fair_notes, left, ok_pairs}
use Rattle.laws.specs.Overlap.{Ahead, apart_away, away_apart, away_cells, away_clear, away_flip, cells_follow, clear_away, piece_notes, pieces-notes}
use Rattle.laws.specs.Partners.{all_both, all_swap, cells-before, chain_yes, pairs-parts, pairwise-all, pairwise_yes, pieced_whole, whole_pieced}
use Rattle.laws.specs.Relations.{All, Pairs, all_imp, all_keep, all-kept, every-all, every_yes, pairs-append, pairs_imp, pairs-keep}
use Rattle.laws.specs.Rules.{Pieced}
use Rattle.laws.specs.Solid.{Apart, Clear, Fine, Solid, fine, fine_memory, fine_range, fine_ticks}

-- two answers are the same if each being yes gives the other
both_yes : (a b : Bool) → (a ≡ true → b ≡ true) → (b ≡ true → a ≡ true) → a ≡ b
both_yes true b f g = sym (f refl)
both_yes false true f g = g refl
both_yes false false f g = refl

module _ (H : Header) (beats : ℕ) (notes : List Note) (cells : List Cell) where
  -- ticks in a beat
  abbrev δ : ℕ
  δ = H.delta

  -- The paper's clauses, one by one.
  record Clauses : Type 0 where
    notes_ok_lem : notes_ok δ beats notes ≡ true
    range_ok : every (cell_in_range beats) cells ≡ true
    order_ok : chain cell_before cells ≡ true
    memory_ok : every (memory_within δ) cells ≡ true
    ticks_ok : every has_ticks cells ≡ true
    overlap_ok : no_overlap H notes cells ≡ true
    filled_ok : filled_whole δ cells ≡ true
    given_ok : notes_given H notes cells ≡ true

  clauses : sound_take H beats notes cells ≡ true → Clauses
  unfolding sound_take
  clauses e =
      let n = notes_ok δ beats notes in
      let r = every (cell_in_range beats) cells in
      let o = chain cell_before cells in
      let m = every (memory_within δ) cells in
      let t = every has_ticks cells in
      let v = no_overlap H notes cells in
      let f = filled_whole δ cells in
      let g = notes_given H notes cells in
      let e7 = and_left (n && r && o && m && t && v && f) g e in
      let e6 = and_left (n && r && o && m && t && v) f e7 in
      let e5 = and_left (n && r && o && m && t) v e6 in
      let e4 = and_left (n && r && o && m) t e5 in
      let e3 = and_left (n && r && o) m e4 in
      let e2 = and_left (n && r) o e3 in
      record {
        notes_ok_lem = and_left n r e2;
        range_ok = and_right n r e2;
        order_ok = and_right (n && r) o e3;
        memory_ok = and_right (n && r && o) m e4;
        ticks_ok = and_right (n && r && o && m) t e5;
        overlap_ok = and_right (n && r && o && m && t) v e6;
        filled_ok = and_right (n && r && o && m && t && v) f e7;
        given_ok = and_right (n && r && o && m && t && v && f) g e;
      }

  clauses_fine : Clauses → All (Fine δ beats) cells
  clauses_fine c =
      all_both (λ c. cell_in_range beats c ≡ true) (λ c. (memory_within δ c ≡ true) × (has_ticks c ≡ true)) (Fine δ beats) cells (λ c r x. fine δ beats c r x.0 x.1)
      (every-all (cell_in_range beats) cells c.range_ok)
      (all_both (λ c. memory_within δ c ≡ true) (λ c. has_ticks c ≡ true) _ cells (λ c m t. (m, t)) (every-all (memory_within δ) cells c.memory_ok) (every-all has_ticks cells c.ticks_ok))

  clauses_sound : Clauses → sound_take H beats notes cells ≡ true
  unfolding sound_take
  clauses_sound c =
      and_yes (and_yes (and_yes (and_yes (and_yes (and_yes (and_yes c.notes_ok_lem c.range_ok) c.order_ok) c.memory_ok) c.ticks_ok) c.overlap_ok) c.filled_ok) c.given_ok

  -- The parts of the test by neighbours.
  record Links : Type 0 where
    notes_ok_lem : notes_ok δ beats notes ≡ true
    cells_ok : every (cell_ok δ beats) cells ≡ true
    chain_ok : cells_sound δ cells ≡ true
    clear_ok : every (λ n. every (clear δ n) cells) (keep (inside δ) notes) ≡ true
    given_ok : notes_given H notes cells ≡ true

  links : chain_take H beats notes cells ≡ true → Links
  unfolding chain_take
  links e =
      let n = notes_ok δ beats notes in
      let k = every (cell_ok δ beats) cells in
      let s = cells_sound δ cells in
      let w = every (λ n. every (clear δ n) cells) (keep (inside δ) notes) in
      let g = notes_given H notes cells in
      let e4 = and_left (n && k && s && w) g e in
      let e3 = and_left (n && k && s) w e4 in
      let e2 = and_left (n && k) s e3 in
      record {
        notes_ok_lem = and_left n k e2;
        cells_ok = and_right n k e2;
        chain_ok = and_right (n && k) s e3;
        clear_ok = and_right (n && k && s) w e4;
        given_ok = and_right (n && k && s && w) g e;
      }

  links_fine : Links → All (Fine δ beats) cells
  links_fine l = all_imp (λ c. cell_ok δ beats c ≡ true) (Fine δ beats) cells (fine_of δ beats) (every-all (cell_ok δ beats) cells l.cells_ok)

  links_chain : Links → chain_take H beats notes cells ≡ true
  unfolding chain_take
  links_chain l = and_yes (and_yes (and_yes (and_yes l.notes_ok_lem l.cells_ok) l.chain_ok) l.clear_ok) l.given_ok

  -- ---- both say that the take is solid

  -- the notes that touch no line
  abbrev inner : List Note
  inner = keep (inside δ) notes

  abbrev solid_take : Type 0
  solid_take = Solid δ (record { beats = beats; inner = inner; cells = cells })

  solid_links : notes_ok δ beats notes ≡ true → notes_given H notes cells ≡ true → solid_take → Links
  unfolding cell_ok
  solid_links ok g s = record {
    notes_ok_lem = ok;
    cells_ok = every_yes (cell_ok δ beats) cells (all_imp (Fine δ beats) (λ c. cell_ok δ beats c ≡ true) cells
        (λ c f. and_yes (and_yes (fine_range δ beats c f) (fine_memory δ beats c f)) (fine_ticks δ beats c f)) s.cells_fine);
    chain_ok = cells_sound_lem δ s.cells_pieced s.cells-apart;
    clear_ok = every_yes (λ n. every (clear δ n) cells) inner (all_imp (λ n. All (Clear δ n) cells) (λ n. every (clear δ n) cells ≡ true) inner
        (λ n a. every_yes (clear δ n) cells (all_imp (Clear δ n) (λ c. clear δ n c ≡ true) cells (clear_is δ n) a)) s.all-clear);
    given_ok = g;
  }

  module _ (z : 0 < δ) where
    module _ (ok : notes_ok δ beats notes ≡ true) where
      inner_fair : All (Fair δ beats) inner
      inner_fair = all_keep (Fair δ beats) (inside δ) notes (fair_notes δ beats notes ok)

      -- an inner note has ticks and touches no line
      inner_imp : (P Q : Note → Type 0)
          → ((n : Note) → n.start < n.end → inside δ n ≡ true → P n → Q n) → All P inner → All Q inner
      inner_imp P Q h a =
          all_both (λ n. inside δ n ≡ true) (λ n. Fair δ beats n × P n) Q inner (λ n i x. h n x.0.order i x.1) (all-kept (inside δ) notes)
          (all_both (Fair δ beats) P (λ n. Fair δ beats n × P n) inner (λ n f p. (f, p)) inner_fair a)

      solid : All (Fine δ beats) cells → Pieced δ cells → Pairs (Apart δ) cells → All (λ n. All (Clear δ n) cells) inner → solid_take
      solid k p a w = record {
        notes_fair = inner_fair;
        notes-inside = all-kept (inside δ) notes;
        notes-apart = pairs-keep Follow (inside δ) notes (ok_pairs δ beats notes ok);
        cells_fine = k;
        cells_pieced = p;
        cells-apart = a;
        all-clear = w;
      }

    clauses_solid : Clauses → solid_take
    unfolding no_overlap
    clauses_solid c =
        let k : All (Fine δ beats) cells = clauses_fine c in
        let b : Pairs Ahead cells = cells-before δ beats cells k c.order_ok in
        let p : Pieced δ cells = whole_pieced δ beats cells k b c.filled_ok in
        let ps = piece_notes δ p in
        let o : pairwise apart (ps ++ inner) ≡ true = rw (pieces-notes H p false) at c.overlap_ok in
        let a = pairs-parts Away ps inner (pairs_imp (λ m n. apart m n ≡ true) Away (ps ++ inner) apart_away (pairwise-all apart (ps ++ inner) o)) in
        solid c.notes_ok_lem k p (away_cells δ beats z p k b a.0)
        (inner_imp c.notes_ok_lem (λ n. All (λ m. Away m n) ps) (λ n. All (Clear δ n) cells)
        (λ n v i x. away_clear δ n v (inside_low δ n i) (inside_high δ n i) p (all_imp (λ m. Away m n) (Away n) ps (λ m. away_flip m n) x))
        (all_swap Away ps inner a.2))

    solid_clauses : notes_ok δ beats notes ≡ true → notes_given H notes cells ≡ true → solid_take → Clauses
    solid_clauses ok g s = record {
      notes_ok_lem = ok;
      range_ok = every_yes (cell_in_range beats) cells (all_imp (Fine δ beats) (λ c. cell_in_range beats c ≡ true) cells (fine_range δ beats) s.cells_fine);
      order_ok = chain_yes cell_before cells (pairs_imp (Apart δ) (λ c d. cell_before c d ≡ true) cells (apart-before δ) s.cells-apart);
      memory_ok = every_yes (memory_within δ) cells (all_imp (Fine δ beats) (λ c. memory_within δ c ≡ true) cells (fine_memory δ beats) s.cells_fine);
      ticks_ok = every_yes has_ticks cells (all_imp (Fine δ beats) (λ c. has_ticks c ≡ true) cells (fine_ticks δ beats) s.cells_fine);
      overlap_ok = solid_overlap;
      filled_ok = pieced_whole δ cells s.cells_pieced;
      given_ok = g;
    }
      where
        ps : List Note
        ps = piece_notes δ s.cells_pieced

        follow_away : (ns : List Note) → Pairs Follow ns → Pairs Away ns
        follow_away ns a = pairs_imp Follow Away ns (λ m n f. left f) a

        pieces_away : All (λ m. All (Away m) inner) ps
        pieces_away =
            all_swap (λ n m. Away m n) inner ps (inner_imp ok (λ n. All (Clear δ n) cells) (λ n. All (λ m. Away m n) ps)
            (λ n v i x. all_imp (Away n) (λ m. Away m n) ps (λ m. away_flip n m) (clear_away δ n v (inside_low δ n i) (inside_high δ n i) beats z s.cells_pieced s.cells_fine x))
            s.all-clear)

        solid_overlap : no_overlap H notes cells ≡ true
        solid_overlap =
            unfold no_overlap in
            rw (pieces-notes H s.cells_pieced false)
            (pairwise_yes apart (ps ++ inner) (pairs_imp Away (λ m n. apart m n ≡ true) (ps ++ inner) away_apart
            (pairs-append Away ps inner (follow_away ps (cells_follow δ beats z s.cells_pieced s.cells_fine s.cells-apart)) (follow_away inner s.notes-apart) pieces_away)))

    links_solid : Links → solid_take
    links_solid l =
        let k : All (Fine δ beats) cells = links_fine l in
        solid l.notes_ok_lem k (sound_pieced δ beats cells k l.chain_ok) (sound-apart δ beats cells k l.chain_ok)
        (all_imp (λ n. every (clear δ n) cells ≡ true) (λ n. All (Clear δ n) cells) inner
        (λ n a. all_imp (λ c. clear δ n c ≡ true) (Clear δ n) cells (clear_of δ n) (every-all (clear δ n) cells a))
        (every-all (λ n. every (clear δ n) cells) inner l.clear_ok))

-- a take is sound by the paper's clauses if and only if it is by neighbours
pub clauses_chain : (H : Header) → 0 < H.delta → (beats : ℕ) (notes : List Note) (cells : List Cell)
    → sound_take H beats notes cells ≡ chain_take H beats notes cells
clauses_chain H z beats notes cells = both_yes (sound_take H beats notes cells) (chain_take H beats notes cells) to from
  where
    to : sound_take H beats notes cells ≡ true → chain_take H beats notes cells ≡ true
    to e =
        let c = clauses H beats notes cells e in
        links_chain H beats notes cells (solid_links H beats notes cells c.notes_ok_lem c.given_ok (clauses_solid H beats notes cells z c))

    from : chain_take H beats notes cells ≡ true → sound_take H beats notes cells ≡ true
    from e =
        let l = links H beats notes cells e in
        clauses_sound H beats notes cells (solid_clauses H beats notes cells z l.notes_ok_lem l.given_ok (links_solid H beats notes cells z l))

-- and so is a shelf
pub sound-chain : (H : Header) → 0 < H.delta → (ws : List ℕ) → sound_shelf H ws ≡ chain_shelf H ws
unfolding sound_shelf chain_shelf
sound-chain H z ws = ap (◌&&◌ (layout_ok H.words ws)) (clauses_chain H z (word ws 0) (notes_in ws) (cells_in ws))

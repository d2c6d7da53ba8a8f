-- The notes one after the other: what stands beside the cells when all have passed. Assumes nothing.
use mathlib.Core.Path.{◌≡◌, refl, sym, ap, subst, ◌∙◌}
use mathlib.Core.Bool.{Bool, true, false, not, ◌&&◌, and-false}
use mathlib.Core.List.{List, [], ◌∷◌}
use Prim.Native.Nat.{ℕ, ◌*◌, ◌≤◌, ◌<◌}
use native.Mathlib.Nat.{mul-le-mul_right}
use native.Mathlib.Omega.{arith}
use borrow.Author.Tests.{eqb-true, ltb-true}
use lib.Dec.{eqb, ltb}
use lib.ListN.{length}
use Rattle.std.specs.Prelude.{Option, Some, None}
use Rattle.model.specs.Binding.{end_of}
use Rattle.model.specs.Limits.{max_beats}
use Rattle.model.specs.Lists.{every, keep}
use Rattle.model.specs.Pieces.{first_beat, inside}
use Rattle.model.specs.Soundness.{note_ok, follows, first_follows, notes_ok, filled}
use Rattle.model.specs.declared.Header.{Header}
use Rattle.model.specs.declared.Note.{Note}
use Rattle.model.specs.declared.Cell.{Cell}
use Rattle.laws.specs.Booleans.{and_left, and_right, and_yes}
use Rattle.laws.specs.Chain.{neighbours, cell_ok, cells_chain, cells_sound, clear}
use Rattle.laws.specs.Linear.{cells-apart_of}
use Rattle.laws.specs.Notes.{Follow, Long, fair, long_notes, ok_pairs}
use Rattle.laws.specs.Relations.{All, Pairs, all_imp, all_keep, pairs-keep}
use Rattle.laws.specs.Solid.{Apart}
use Rattle.laws.specs.Sweep.{skip, clear_two, sweep, sweep_without, clear_of_last, clear_of_earlier}
use Rattle.session.specs.Checking.{given_by, standing, notes_asked, before_all}
use Rattle.session.specs.Passing.{fewer, passed_inner, passed_line, passed, all_pass}
use Rattle.session.specs.Running.{from_shown, from_last, note_of_run, same_note, behind_ends, behind_run}
use Rattle.session.proofs.Checks.{first_follows_lem}
use Rattle.session.proofs.Tails.{Tail, Tail.here, Tail.there, tail_of_tail, two_tails, all_first, skip_tail, shown_tail, last_tail, link_none}
use Rattle.session.proofs.Walks.{run_lane, gives_nothing, gives_note, inner_first, line_first, line-none}

-- ---- cells that passed their test

-- each cell passes the test with the next one
unfoldable pub chained : ℕ → List Cell → Bool
unfolding cells_chain
chained δ [] = true
chained δ (c ∷ cs) = cells_chain δ c cs

-- what the test of the cells has shown of those that are left
abbrev pub Tested : ℕ → List Cell → Type 0
Tested δ cs = Pairs (Apart δ) cs × (chained δ cs ≡ true)

tested_behind : (δ : ℕ) (c : Cell) (cs : List Cell) → Tested δ (c ∷ cs) → Tested δ cs
unfolding chained cells_chain
tested_behind δ c [] t = (tt, refl)
tested_behind δ c (d ∷ ds) t = (t.0.1, and_right (neighbours δ c d) (cells_chain δ d ds) t.1)

tested_tail : (δ : ℕ) {cs ds : List Cell} → Tail cs ds → Tested δ cs → Tested δ ds
tested_tail δ here t = t
tested_tail δ (there u) t = tested_tail δ u (tested_behind δ _ _ t)

sound-chained : (δ : ℕ) (cs : List Cell) → cells_sound δ cs ≡ true → chained δ cs ≡ true
unfolding chained cells_sound
sound-chained δ [] s = refl
sound-chained δ (c ∷ cs) s = and_right (not (filled δ c)) _ s

tested_all : (δ beats : ℕ) (cs : List Cell) → every (cell_ok δ beats) cs && cells_sound δ cs ≡ true → Tested δ cs
tested_all δ beats cs e =
    let s = and_right (every (cell_ok δ beats) cs) _ e in
    (cells-apart_of δ beats cs (and_left (every (cell_ok δ beats) cs) _ e) s, sound-chained δ cs s)

-- ---- a note and its run

module _ (m n : Note) (e : same_note m n ≡ true) where
  same_lane : m.lane ≡ n.lane
  unfolding same_note
  same_lane = eqb-true _ _ (and_left _ _ (and_left _ _ (and_left _ _ e)))

  same_end : m.end ≡ n.end
  unfolding same_note
  same_end = eqb-true _ _ (and_right (eqb m.lane n.lane && eqb m.start n.start) _ (and_left _ _ e))

-- the notes behind a note that ends with d are swept from the cell behind d on
module _ (h : Header) (d : Cell) (rest : List Cell) (z : 0 < h.delta) (n : Note) (l : n.lane ≡ d.lane) (e : n.end ≡ end_of h.delta d) (ns : List Note) (v : All Long ns) (a : Pairs Follow ns) (f : All (Follow n) ns) where
  without : (c : Cell) (cs : List Cell) → Pairs (Apart h.delta) (c ∷ cs) → ((m : Note) → Follow n m → clear h.delta m c ≡ true)
      → sweep h.delta ns (c ∷ cs) ≡ sweep h.delta ns cs
  without c cs s k = sweep_without h.delta z c cs ns v a s (all_imp (Follow n) (λ m. clear h.delta m c ≡ true) ns k f)

  sweep-behind : {cs : List Cell} → Tail cs (d ∷ rest) → Pairs (Apart h.delta) cs → sweep h.delta ns cs ≡ sweep h.delta ns rest
  sweep-behind here s = without d rest s (λ m k. clear_of_last h.delta z n m d l e k)
  sweep-behind (there {x} {xs} t) s =
      let o : Apart h.delta x d = all_first (Apart h.delta x) t s.0 in
      without x xs s (λ m k. clear_of_earlier h.delta z n m d l e k x o) ∙ sweep-behind t s.1

module _ (h : Header) (z : 0 < h.delta) {all : List Cell} (u : Tested h.delta all) (n : Note) (i : inside h.delta n ≡ false) where
  module _ (c d : Cell) (more rest : List Cell) (starts : Tail all (c ∷ more)) (stops : from_last h (c ∷ more) ≡ d ∷ rest) (y : same_note n (note_of_run h.delta c d) ≡ true) where
    run_end : n.lane ≡ d.lane
    unfolding note_of_run chained
    run_end = same_lane n (note_of_run h.delta c d) y ∙ sym (run_lane h c more (tested_tail h.delta starts u).1 d rest stops)

    run_tail : Tail all (d ∷ rest)
    run_tail = subst (Tail all) stops (tail_of_tail starts (last_tail h (c ∷ more)))

    module _ (ns : List Note) (v : All Long ns) (a : Pairs Follow (n ∷ ns)) where
      behind-run : {cs : List Cell} → Tail all cs → length rest < length cs
          → sweep h.delta (keep (inside h.delta) ns) cs ≡ sweep h.delta (keep (inside h.delta) ns) rest
      unfolding note_of_run
      behind-run t less =
          let within = inside h.delta in
          let ends = same_end n (note_of_run h.delta c d) y in
          let long : length (d ∷ rest) ≤ length _ = omega arith in
          sweep-behind h d rest z n run_end ends (keep within ns) (all_keep Long within ns v) (pairs-keep Follow within ns a.1) (all_keep (Follow n) within ns a.0)
          (two_tails t run_tail long) (tested_tail h.delta t u).0

      beside-run : {cs : List Cell} → Tail all cs → standing h ns cs rest ≡ standing h ns (fewer rest cs) rest
      unfolding standing fewer
      beside-run {cs} t = go (ltb (length rest) (length cs)) refl
        where
          go : (b : Bool) → ltb (length rest) (length cs) ≡ b → standing h ns cs rest ≡ standing h ns (elim b [ true ↦ rest | false ↦ cs ]) rest
          go true e = ap (λ (s : Bool). s && given_by h ns rest) (behind-run t (ltb-true _ _ e))
          go false e = refl

-- ---- one note

-- what is left to ask behind a note
abbrev left_stands : Header → List Note → Option (List Cell × List Cell) → Bool
left_stands h ns None = false
left_stands h ns (Some l) = standing h ns l.0 l.1

abbrev LeftTails : List Cell → Option (List Cell × List Cell) → Type 0
LeftTails all None = Unit {0}
LeftTails all (Some l) = Tail all l.0 × Tail all l.1

fewer_tail : {all cs ds : List Cell} → Tail all cs → Tail all ds → Tail all (fewer cs ds)
unfolding fewer
fewer_tail {all} {cs} {ds} t u = go (ltb (length cs) (length ds))
  where
    go : (b : Bool) → Tail all (elim b [ true ↦ cs | false ↦ ds ])
    go true = t
    go false = u

module _ (h : Header) (n : Note) (ns : List Note) (cs ds : List Cell) where
  inner_stands : inside h.delta n ≡ true → standing h (n ∷ ns) cs ds ≡ left_stands h ns (passed_inner h n cs ds)
  unfolding passed_inner
  inner_stands i = go (clear_two h.delta n es) refl
    where
      es : List Cell
      es = skip n.lane (first_beat h.delta n) cs

      go : (p : Bool) → clear_two h.delta n es ≡ p → standing h (n ∷ ns) cs ds ≡ left_stands h ns (elim p [ true ↦ Some (es, ds) | false ↦ None ])
      go true e = inner_first h n ns cs ds i es refl (sym e)
      go false e = inner_first h n ns cs ds i es refl (sym e)

  inner_tails : {all : List Cell} → Tail all cs → Tail all ds → LeftTails all (passed_inner h n cs ds)
  unfolding passed_inner
  inner_tails {all} t u = go (clear_two h.delta n es)
    where
      es : List Cell
      es = skip n.lane (first_beat h.delta n) cs

      go : (p : Bool) → LeftTails all (elim p [ true ↦ Some (es, ds) | false ↦ None ])
      go true = (tail_of_tail t (skip_tail n.lane (first_beat h.delta n) cs), u)
      go false = tt

  abbrev line_left : Option (List Cell) → Option (List Cell × List Cell)
  line_left r = elim r [ None ↦ None | Some es ↦ Some (fewer es cs, es) ]

  line_stands : 0 < h.delta → {all : List Cell} → Tested h.delta all → Tail all cs → Tail all ds → All Long ns → Pairs Follow (n ∷ ns) → inside h.delta n ≡ false
      → standing h (n ∷ ns) cs ds ≡ left_stands h ns (passed_line h n cs ds)
  unfolding passed_line behind_run behind_ends
  line_stands z {all} tested t u v a i = ends (from_shown h ds) (from_last h (from_shown h ds)) refl refl
    where
      ends : (first last : List Cell) → from_shown h ds ≡ first → from_last h first ≡ last → standing h (n ∷ ns) cs ds ≡ left_stands h ns (line_left (behind_ends h n first last))
      ends [] last f l = line-none h n ns cs ds i (gives_nothing h ds [] last (sym f) (sym l) (sym l ∙ link_none h))
      ends (c ∷ more) [] f l = line-none h n ns cs ds i (gives_nothing h ds (c ∷ more) [] (sym f) (sym l) refl)
      ends (c ∷ more) (d ∷ rest) f l = go (same_note n (note_of_run h.delta c d)) refl
        where
          first : {p : Bool} → p ≡ same_note n (note_of_run h.delta c d) → standing h (n ∷ ns) cs ds ≡ p && standing h ns cs rest
          first e = line_first h n ns cs ds i (note_of_run h.delta c d) rest (gives_note h ds (c ∷ more) (d ∷ rest) (sym f) (sym l) c d more rest refl refl) e

          go : (p : Bool) → same_note n (note_of_run h.delta c d) ≡ p → standing h (n ∷ ns) cs ds ≡ left_stands h ns (line_left (elim p [ true ↦ Some rest | false ↦ None ]))
          go true e = first (sym e) ∙ beside-run h z tested n i c d more rest (subst (Tail all) f (tail_of_tail u (shown_tail h ds))) l e ns v a t
          go false e = first (sym e)

  line_tails : {all : List Cell} → Tail all cs → Tail all ds → LeftTails all (passed_line h n cs ds)
  unfolding passed_line behind_run behind_ends
  line_tails {all} t u = ends (from_shown h ds) (from_last h (from_shown h ds)) refl refl
    where
      ends : (first last : List Cell) → from_shown h ds ≡ first → from_last h first ≡ last → LeftTails all (line_left (behind_ends h n first last))
      ends [] last f l = tt
      ends (c ∷ more) [] f l = tt
      ends (c ∷ more) (d ∷ rest) f l = go (same_note n (note_of_run h.delta c d))
        where
          behind : Tail all rest
          behind = tail_of_tail (subst (Tail all) l (tail_of_tail (subst (Tail all) f (tail_of_tail u (shown_tail h ds))) (last_tail h (c ∷ more)))) (there here)

          go : (p : Bool) → LeftTails all (line_left (elim p [ true ↦ Some rest | false ↦ None ]))
          go true = (fewer_tail behind t, behind)
          go false = tt

  pub passed_stands : 0 < h.delta → {all : List Cell} → Tested h.delta all → Tail all cs → Tail all ds → All Long ns → Pairs Follow (n ∷ ns)
      → standing h (n ∷ ns) cs ds ≡ left_stands h ns (passed h n cs ds)
  unfolding passed
  passed_stands z tested t u v a = go (inside h.delta n) refl
    where
      go : (b : Bool) → inside h.delta n ≡ b → standing h (n ∷ ns) cs ds ≡ left_stands h ns (elim b [ true ↦ passed_inner h n cs ds | false ↦ passed_line h n cs ds ])
      go true i = inner_stands i
      go false i = line_stands z tested t u v a i

  pub passed_tails : {all : List Cell} → Tail all cs → Tail all ds → LeftTails all (passed h n cs ds)
  unfolding passed
  passed_tails {all} t u = go (inside h.delta n)
    where
      go : (b : Bool) → LeftTails all (elim b [ true ↦ passed_inner h n cs ds | false ↦ passed_line h n cs ds ])
      go true = inner_tails t u
      go false = line_tails t u

-- ---- the notes one after the other

-- what is asked behind a test may use that the test passed
late : (a x y : Bool) → (a ≡ true → x ≡ y) → a && x ≡ a && y
late true x y e = e refl
late false x y e = refl

reorder : (f o q r s : Bool) → (f && (o && q && r)) && s ≡ (o && f) && ((q && r) && s)
reorder true true q r s = refl
reorder true false q r s = refl
reorder false true q r s = refl
reorder false false q r s = refl

module _ (h : Header) (beats : ℕ) (z : 0 < h.delta) {all : List Cell} (tested : Tested h.delta all) where
  all_pass_law : (ns : List Note) (m : Note) (cs ds : List Cell) → Tail all cs → Tail all ds
      → all_pass h beats m ns cs ds ≡ (first_follows m ns && notes_ok h.delta beats ns) && standing h ns cs ds
  unfolding all_pass first_follows notes_ok standing
  all_pass_law [] m cs ds t u = refl
  all_pass_law (n ∷ ns) m cs ds t u =
      ap (λ (b : Bool). ok && b) (behind (all_pass_law ns n) (passed h n cs ds) (passed_tails h n ns cs ds t u)) ∙ sym right
    where
      ok : Bool
      ok = note_ok h.delta beats n && follows m n

      later : Bool
      later = first_follows n ns && notes_ok h.delta beats ns

      behind : ((es fs : List Cell) → Tail all es → Tail all fs → all_pass h beats n ns es fs ≡ later && standing h ns es fs)
          → (r : Option (List Cell × List Cell)) → LeftTails all r → elim r [ None ↦ false | Some l ↦ all_pass h beats n ns l.0 l.1 ] ≡ later && left_stands h ns r
      behind ih None b = sym (and-false later)
      behind ih (Some l) b = ih l.0 l.1 b.0 b.1

      in_order : ok ≡ true → later ≡ true → notes_ok h.delta beats (n ∷ ns) ≡ true
      in_order o y = and_yes (and_yes (and_left (note_ok h.delta beats n) (follows m n) o) (and_left (first_follows n ns) _ y)) (and_right (first_follows n ns) _ y)

      stands : ok ≡ true → later ≡ true → standing h (n ∷ ns) cs ds ≡ left_stands h ns (passed h n cs ds)
      stands o y = passed_stands h n ns cs ds z tested t u (long_notes h.delta beats ns (and_right (first_follows n ns) _ y)) (ok_pairs h.delta beats (n ∷ ns) (in_order o y))

      right : (first_follows m (n ∷ ns) && notes_ok h.delta beats (n ∷ ns)) && standing h (n ∷ ns) cs ds ≡ ok && (later && left_stands h ns (passed h n cs ds))
      right =
          reorder (follows m n) (note_ok h.delta beats n) (first_follows n ns) (notes_ok h.delta beats ns) (standing h (n ∷ ns) cs ds)
          ∙ late ok _ _ (λ o. late later _ _ (λ y. stands o y))

-- what is asked of the notes of a shelf whose cells passed
pub notes_pass : (h : Header) (beats : ℕ) → 0 < h.delta → (ns : List Note) (cs : List Cell) → every (cell_ok h.delta beats) cs && cells_sound h.delta cs ≡ true
    → all_pass h beats before_all ns cs cs ≡ notes_asked h beats ns cs
unfolding notes_asked
notes_pass h beats z ns cs passed =
    all_pass_law h beats z (tested_all h.delta beats cs passed) ns before_all cs cs here here ∙ rw (first_follows_lem ns)

-- a note in order starts at a tick of a take
pub start-within : (δ beats : ℕ) (m n : Note) → beats ≤ max_beats → {p : Bool} → p ≡ note_ok δ beats n && follows m n → p ≡ true → n.start ≤ max_beats * δ
start-within δ beats m n most {p} o t =
    let r = fair δ beats n (and_left (note_ok δ beats n) (follows m n) (sym o ∙ t)) in
    omega (arith, r.order, r.fits, mul-le-mul_right δ most)

-- one note more, and its way out
module _ (h : Header) (beats : ℕ) (m n : Note) {rest behind : List Note} (is : rest ≡ n ∷ behind) (cs ds : List Cell) {p : Bool} (o : p ≡ note_ok h.delta beats n && follows m n) where
  pub not_in_order : p ≡ false → all_pass h beats m rest cs ds ≡ false
  unfolding all_pass
  not_in_order t = rw (is, all_pass, ← o, t)

  module _ (t : p ≡ true) where
    pub not_passed : passed h n cs ds ≡ None → all_pass h beats m rest cs ds ≡ false
    unfolding all_pass
    not_passed e = rw (is, all_pass, ← o, t, e)

    pub pass_next : {l : List Cell × List Cell} → passed h n cs ds ≡ Some l → all_pass h beats m rest cs ds ≡ all_pass h beats n behind l.0 l.1
    unfolding all_pass
    pass_next e = rw (is, all_pass, ← o, t, e)

pub pass_none : (h : Header) (beats : ℕ) (m : Note) {rest : List Note} → rest ≡ [] → (cs ds : List Cell) → all_pass h beats m rest cs ds ≡ given_by h [] ds
unfolding all_pass
pass_none h beats m is cs ds = rw is

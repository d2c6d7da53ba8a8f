-- A lane's joined notes, written: the first take's with the note over the line, and the second's behind them. Assumes nothing.
use mathlib.Core.Path.{◌≡◌, refl, sym, ap, ap₂, ◌∙◌}
use mathlib.Core.Bool.{Bool, true, false, cond}
use mathlib.Core.List.{List, [], ◌∷◌, ◌++◌, map, append_assoc}
use Prim.Native.Nat.{ℕ, ◌+◌, ◌-◌, ◌*◌, ◌≤◌}
use native.Mathlib.Omega.{arith}
use lib.ListN.{length, length-append}
use Rattle.words.specs.Apart.{Apart, apart_swap, apart-within}
use Rattle.words.specs.Parts.{Same, splice_same}
use Rattle.words.specs.Splice.{splice, splice-append, splice_over}
use Rattle.model.specs.Binding.{stands_alone}
use Rattle.model.specs.Lists.{gather}
use Rattle.model.specs.Takes.{note_words}
use Rattle.model.specs.declared.Header.{Header}
use Rattle.model.specs.declared.Note.{Note}
use Rattle.model.specs.declared.Cell.{Cell}
use Rattle.laws.specs.JoinWalk.{run-rest, note_run, cell_run, cell_rest}
use Rattle.laws.specs.Lists.{gather_append}
use Rattle.laws.specs.Seam.{bound_at, but_last, join_apart, join_over, join_lane}
use Rattle.laws.specs.SeamWalk.{last_or, note_later}
use Rattle.laws.specs.Sessions.{length-note_words}
use Rattle.session.specs.Reading.{last_notes, last_cells}
use Rattle.session.proofs.Lasts.{length_last}
use Rattle.std.specs.Prelude.{Option, Some, None}
use Rattle.cuts.specs.declared.halves.Contents.{Contents}
use Rattle.cuts.specs.declared.seam.Seam.{Seam}
use Rattle.cuts.specs.Halving.{Noted, Placed}
use Rattle.cuts.specs.Seams.{lane_by}
use Rattle.cuts.specs.LaneNotes.{lane_joined, kept_by, seam_end, seam_words, SeamPut, front_by, back_by}
use Rattle.cuts.proofs.Passes.{notes_agree, cells_agree}

-- ---- what is read while other words are written

-- A take's last notes and cells are the same in two lists.
pub record Still (s t : List ℕ) (from : Contents) : Type 0 where
  pub notes : (k : ℕ) → k ≤ from.notes.left → last_notes t from.notes.end k ≡ last_notes s from.notes.end k
  pub cells : (k : ℕ) → k ≤ from.cells.left → last_cells t from.cells.end k ≡ last_cells s from.cells.end k

pub still_by : {s t : List ℕ} {from : Contents} {to size : ℕ} (p : Placed s from to size) → Same t s p.low (from.cells.end - p.low) → Still s t from
still_by {s} {t} {from} p same = record {
  notes = λ k less. notes_agree t s from.notes.end from.notes.end k (omega (arith, p.notes_in_lem)) (omega (arith, p.notes_in_lem))
      (λ i pos upto. same.at (from.notes.end - i) (omega (arith, p.notes_in_lem)) (omega (arith, p.notes_in_lem, p.order)));
  cells = λ k less. cells_agree t s from.cells.end from.cells.end k (omega (arith, p.cells_in)) (omega (arith, p.cells_in))
      (λ i pos upto. same.at (from.cells.end - i) (omega (arith, p.cells_in)) (omega (arith, p.cells_in)));
}

pub still : {s t : List ℕ} {from : Contents} {to size : ℕ} → Placed s from to size → (ws : List ℕ) → length ws ≤ size → t ≡ splice s to ws → Still s t from
still {s} {to = to} p ws few e = still_by p (rw e (splice_same s to ws p.apart few))

-- the joined notes of the lane are the same
pub still_lane : {s t : List ℕ} {first second : Contents} (h : Header) (beats lane : ℕ) → Still s t first → Still s t second
    → lane_joined h beats lane t first second ≡ lane_joined h beats lane s first second
unfolding lane_joined
still_lane {first = first} {second = second} h beats lane a b =
    let e = a.notes first.notes.left (omega arith) in
    let f = a.cells first.cells.left (omega arith) in
    let g = b.notes second.notes.left (omega arith) in
    let i = b.cells second.cells.left (omega arith) in
    (λ j. join_lane h beats (note_run lane (e j)) (cell_run lane (f j)) (note_run lane (g j)) (cell_run lane (i j)))

-- ---- the two parts of a lane's notes

snoc : (x : Note) (xs : List Note) → x ∷ xs ≡ but_last (x ∷ xs) ++ last_or x xs ∷ []
snoc x [] = refl
snoc x (y ∷ ys) = ap (◌∷◌ x) (snoc y ys)

length-but_last : (xs : List Note) → length (but_last xs) ≡ length xs - 1
length-but_last [] = refl
length-but_last (x ∷ xs) = omega (arith, ap length (snoc x xs), length-append (but_last (x ∷ xs)) (last_or x xs ∷ []))

pub lane-parts : (seam : Option Seam) (line : ℕ) (ms ns : List Note) → lane_by seam line ms ns ≡ front_by seam ms ++ map (note_later line) (back_by seam ns)
unfolding lane_by front_by back_by
lane-parts None line ms ns = refl
lane-parts (Some r) line ms ns = sym (append_assoc (cond r.held (but_last ms) ms) (r.note ∷ []) (map (note_later line) (cond r.skipped _ ns)))

pub front_length : (seam : Option Seam) (ms : List Note) → length (front_by seam ms) ≡ seam_end seam (length ms)
unfolding front_by seam_end kept_by
front_length None ms = refl
front_length (Some r) ms = go r.held
  where
    go : (g : Bool) → length (cond g (but_last ms) ms ++ r.note ∷ []) ≡ cond g (length ms - 1) (length ms) + 1
    go true = length-append (but_last ms) (r.note ∷ []) ∙ ap (λ (n : ℕ). n + 1) (length-but_last ms)
    go false = length-append ms (r.note ∷ [])

-- no fewer than the first take's
pub lane_long : (h : Header) (k : ℕ) (ms : List Note) (cs : List Cell) (ns : List Note) (ds : List Cell) → length ms ≤ length (join_lane h k ms cs ns ds)
unfolding join_lane join_over
lane_long h k ms cs ns ds = by cs ds
  where
    apart : length ms ≤ length (join_apart (k * h.delta) ms ns)
    apart = omega (arith, length-append ms (map (note_later (k * h.delta)) ns))

    over : (g : Bool) (n : Note) (ys : List Note) → length ms ≤ length (cond g (but_last ms) ms ++ n ∷ ys)
    over true n ys = omega (arith, length-append (but_last ms) (n ∷ ys), length-but_last ms)
    over false n ys = omega (arith, length-append ms (n ∷ ys))

    either : (b : Bool) (xs ys : List Note) → length ms ≤ length xs → length ms ≤ length ys → length ms ≤ length (cond b xs ys)
    either true xs ys h i = h
    either false xs ys h i = i

    by : (cs ds : List Cell) → length ms ≤ length (join_lane h k ms cs ns ds)
    by [] ds = apart
    by (c ∷ cs) [] = apart
    by (c ∷ cs) (d ∷ ds) = either (bound_at h k (last_or c cs) d) _ _ (over (stands_alone h (last_or c cs)) _ _) apart

-- ---- the first take's notes with the note over the line

one-behind : (s : List ℕ) (to : ℕ) (ms : List Note) (n : Note)
    → splice (splice s to (gather note_words ms)) (to + 4 * length ms) (note_words n) ≡ splice s to (gather note_words (ms ++ n ∷ []))
one-behind s to ms n =
    let place : to + 4 * length ms ≡ to + length (gather note_words ms) = omega (arith, length-note_words ms) in
    ap (λ (x : ℕ). splice (splice s to (gather note_words ms)) x (note_words n)) place ∙ sym (splice-append s to (gather note_words ms) (note_words n))
    ∙ ap (splice s to) (sym (gather_append note_words ms (n ∷ [])))

one_over : (s : List ℕ) (to : ℕ) (ms : List Note) (n : Note)
    → splice (splice s to (gather note_words ms)) (to + 4 * (length ms - 1)) (note_words n) ≡ splice s to (gather note_words (but_last ms ++ n ∷ []))
one_over s to [] n = one-behind s to [] n
one_over s to (x ∷ xs) n =
    let ms = but_last (x ∷ xs) in
    let at = to + 4 * length ms in
    let place : to + 4 * (length (x ∷ xs) - 1) ≡ at = omega (arith, length-but_last (x ∷ xs)) in
    ap₂ (λ (l : List ℕ) (y : ℕ). splice l y (note_words n)) (ap (λ (ys : List Note). splice s to (gather note_words ys)) (snoc x xs) ∙ sym (one-behind s to ms (last_or x xs))) place
    ∙ splice_over (splice s to (gather note_words ms)) at (note_words (last_or x xs)) at (note_words n) (omega arith) (omega arith)
    ∙ one-behind s to ms n

-- with it, if there is one
over_put : (s : List ℕ) (to : ℕ) (seam : Option Seam) (ms : List Note) → seam_words (splice s to (gather note_words ms)) to (length ms) seam ≡ splice s to (gather note_words (front_by seam ms))
unfolding seam_words front_by kept_by
over_put s to None ms = refl
over_put s to (Some r) ms = go r.held
  where
    go : (g : Bool) → splice (splice s to (gather note_words ms)) (to + 4 * cond g (length ms - 1) (length ms)) (note_words r.note)
        ≡ splice s to (gather note_words (cond g (but_last ms) ms ++ r.note ∷ []))
    go true = one_over s to ms r.note
    go false = one-behind s to ms r.note

pub front_put : {s s₁ t : List ℕ} {to q : ℕ} (seam : Option Seam) (ms : List Note) → s₁ ≡ splice s to (gather note_words ms) → SeamPut s₁ to (length ms) seam t q
    → Noted s to (front_by seam ms) t q
front_put {s} {to = to} seam ms e p = record {
  words = p.words ∙ ap (λ (l : List ℕ). seam_words l to (length ms) seam) e ∙ over_put s to seam ms;
  behind = p.behind ∙ ap (λ (n : ℕ). to + 4 * n) (sym (front_length seam ms));
}

pub later_none : (ns : List Note) → map (note_later 0) ns ≡ ns
later_none [] = refl
later_none (n ∷ ns) = ap₂ ◌∷◌ one (later_none ns)
  where
    one : note_later 0 n ≡ n
    one =
        let a : n.start + 0 ≡ n.start = omega arith in
        let b : n.end + 0 ≡ n.end = omega arith in
        λ i. record { lane = n.lane; start = a i; end = b i; velocity = n.velocity }

-- of the cells in front of those that are left, how many are of the lane
pub cells-run : (s : List ℕ) (lane end k r : ℕ) → last_cells s end r ≡ cell_rest lane (last_cells s end k) → k ≡ r + length (cell_run lane (last_cells s end k))
cells-run s lane end k r e =
    let cs = last_cells s end k in
    omega (
      arith,
      length_last s end k,
      length_last s end r,
      ap length e,
      ap length (run-rest (λ c. c.lane) lane cs),
      length-append (cell_run lane cs) (cell_rest lane cs),
    )

-- a take's notes or cells inside what is placed are apart from what is written
pub notes-apart : {s : List ℕ} {from : Contents} {to size : ℕ} → Placed s from to size → (k at n : ℕ) → k ≤ from.notes.left → to ≤ at → at + n ≤ to + size
    → Apart (from.notes.end - 4 * k) (4 * k) at n
notes-apart {from = from} p k at n few low high =
    apart-within at n
    (apart_swap (apart-within (from.notes.end - 4 * k) (4 * k) (apart_swap p.apart) (omega (arith, p.notes_in_lem)) (omega (arith, p.notes_in_lem, p.order))))
    low high

-- A sound shelf that is read, and a half of its take that fits another shelf. Assumes nothing.
use mathlib.Core.Path.{◌≡◌, refl, sym, ap, ◌∙◌}
use mathlib.Core.Bool.{Bool, true, false, ◌&&◌}
use mathlib.Core.List.{List, [], ◌∷◌, ◌++◌}
use Prim.Native.Nat.{ℕ, suc, ◌+◌, ◌-◌, ◌*◌, ◌≤◌, ◌<◌}
use native.Mathlib.Nat.{mul-le-mul, mul-le-mul_right, suc-mul}
use native.Mathlib.Decide.{ℕ_discrete}
use native.Mathlib.Omega.{arith}
use borrow.Author.Tests.{leb-true, leb-false}
use lib.Dec.{leb, ltb}
use lib.ListN.{length, get_or, drop}
use lib.Seq.{get_or-drop, get_or-take}
use Rattle.words.specs.Apart.{Apart, Apart.ahead, Apart.behind, apart_swap, apart-within}
use Rattle.model.specs.Lists.{cons_if, gather, keep}
use Rattle.model.specs.Session.{shelf, shelf_at}
use Rattle.model.specs.Takes.{Take, words_used, word, notes_in, take_in, notes_of, split_left, split_right}
use Rattle.model.specs.Questions.{fits, take_at}
use Rattle.model.specs.declared.Header.{Header}
use Rattle.model.specs.declared.Cell.{Cell}
use Rattle.model.proofs.Headers.{InRange, in_range}
use Rattle.laws.specs.Booleans.{and_left, and_right}
use Rattle.laws.specs.Counting.{split_fits}
use Rattle.laws.specs.Halves.{left_pass, right_pass, left_half-cells, right_half-cells}
use Rattle.laws.specs.Sound.{sound_solid, sound-notes, sound_used}
use Rattle.session.specs.Reading.{last_notes, last_cells}
use Rattle.session.proofs.Sources.{shelf-inside}
use Rattle.cuts.specs.declared.halves.Half.{Half}
use Rattle.cuts.specs.declared.halves.Contents.{Contents}
use Rattle.cuts.specs.Halving.{is_right, half_of, note_parts, contents_at, max_session, notes_left, Placed, HalfAsks}
use Rattle.cuts.specs.BothHalves.{left_cell, right_cell}
use Rattle.cuts.proofs.Passes.{notes_agree, cells_agree, parts-right, parts-left}
use Rattle.cuts.proofs.TakeWords.{take-room}

-- ---- two shelves

module _ (h : Header) where
  -- different shelves share no word
  pub shelves_apart : (i j : ℕ) → (i ≡ j → ⊥) → Apart (shelf_at h i) h.words (shelf_at h j) h.words
  shelves_apart i j differ =
      elim (ℕ_discrete i j) [
        | yes e ↦ absurd (differ e)
        | no e ↦ go (leb (suc i) j) refl
      ]
    where
      go : (t : Bool) → leb (suc i) j ≡ t → Apart (shelf_at h i) h.words (shelf_at h j) h.words
      go true e = ahead (omega (arith, suc-mul i h.words, mul-le-mul_right h.words (leb-true (suc i) j e)))
      go false e = let less : suc j ≤ i = omega (arith, leb-false (suc i) j e) in behind (omega (arith, suc-mul j h.words, mul-le-mul_right h.words less))

-- the place of a shelf, whose counts are read
pub counts_place : {n : ℕ} {h : Header} {i : ℕ} → InRange h n → i < h.shelves → {at : ℕ} → at ≡ shelf_at h i → (at ≤ max_session) × (at + 3 ≤ n)
counts_place {n} {h} {i} r below e =
    let inside = shelf-inside h i n r below in
    rw e (omega (arith, inside, r.exact, mul-le-mul r.few_shelves r.small), omega (arith, inside, r.large))

-- ---- cells

keep-gather : (p : Cell → Bool) (cs : List Cell) → keep p cs ≡ gather (λ c. cons_if (p c) c []) cs
keep-gather p [] = refl
keep-gather p (c ∷ cs) = go (p c) (keep-gather p cs)
  where
    go : (t : Bool) → keep p cs ≡ gather (λ c. cons_if (p c) c []) cs → cons_if t c (keep p cs) ≡ cons_if t c [] ++ gather (λ c. cons_if (p c) c []) cs
    go true e = ap (◌∷◌ c) e
    go false e = e

module _ (δ : ℕ) (v : Half) (t : Take) where
  pub left_cells_lem : is_right v.side ≡ false → gather (left_cell v.beat) t.cells ≡ (half_of δ v t).cells
  unfolding half_of left_cell
  left_cells_lem e = sym (keep-gather (λ c. ltb c.beat v.beat) t.cells) ∙ sym (left_half-cells δ v.beat t) ∙ rw e

  pub right_cells_lem : is_right v.side ≡ true → gather (right_cell v.beat) t.cells ≡ (half_of δ v t).cells
  unfolding half_of right_cell
  right_cells_lem e = sym (right_half-cells δ v.beat t) ∙ rw e

-- ---- the half

module _ {s : List ℕ} {h : Header} {v : Half} {i j : ℕ} (a : HalfAsks s h v i j) where
  pub range : InRange h (length s)
  range = in_range a.header

  abbrev ws : List ℕ
  ws = shelf h s i

  abbrev t : Take
  t = take_at h s i

  abbrev half : Take
  half = half_of h.delta v t

  pub source_inside : shelf_at h i + h.words ≤ length s
  source_inside = shelf-inside h i (length s) range a.take_below

  pub target_inside : shelf_at h j + h.words ≤ length s
  target_inside = shelf-inside h j (length s) range a.to_below

  word_is : (k : ℕ) → k < h.words → get_or ws k 0 ≡ get_or s (shelf_at h i + k) 0
  unfolding shelf
  word_is k less = rw (get_or-take h.words (drop (shelf_at h i) s) k 0 less, get_or-drop (shelf_at h i) s k 0)

  used : words_used (word ws 1) (word ws 2) ≤ h.words
  used = sound_used h range.some-ticks ws a.sound

  -- the notes and cells of the shelf that is read are its take's
  pub record Read (from : Contents) : Type 0 where
    pub middle_is : from.notes.end ≡ shelf_at h i + 3 + 4 * from.notes.left
    pub end_is : from.cells.end ≡ from.notes.end + 6 * from.cells.left
    pub used_is : 3 + 4 * from.notes.left + 6 * from.cells.left ≤ h.words
    pub notes_are : last_notes s from.notes.end from.notes.left ≡ notes_of h t
    pub cells_are : last_cells s from.cells.end from.cells.left ≡ t.cells

  notes_in_lem : (N : ℕ) → N ≡ word ws 1 → 3 + 4 * N ≤ h.words → last_notes s (shelf_at h i + 3 + 4 * N) N ≡ notes_of h t
  unfolding last_notes
  notes_in_lem N e few =
      notes_agree s ws (shelf_at h i + 3 + 4 * N) (3 + 4 * N) N (omega arith) (omega arith)
      (λ k pos upto. let at : shelf_at h i + 3 + 4 * N - k ≡ shelf_at h i + (3 + 4 * N - k) = omega arith in rw at (sym (word_is (3 + 4 * N - k) (omega arith))))
      ∙ from_three ∙ sym (sound-notes h range.some-ticks ws a.sound)
    where
      from_three : last_notes ws (3 + 4 * N) N ≡ notes_in ws
      from_three = let three : 3 + 4 * N - 4 * N ≡ 3 = omega arith in rw (three, e)

  cells_in : (N C : ℕ) → N ≡ word ws 1 → C ≡ word ws 2 → 3 + 4 * N + 6 * C ≤ h.words → last_cells s (shelf_at h i + 3 + 4 * N + 6 * C) C ≡ t.cells
  unfolding last_cells take_in
  cells_in N C e f few =
      cells_agree s ws (shelf_at h i + 3 + 4 * N + 6 * C) (3 + 4 * N + 6 * C) C (omega arith) (omega arith)
      (λ k pos upto. let at : shelf_at h i + 3 + 4 * N + 6 * C - k ≡ shelf_at h i + (3 + 4 * N + 6 * C - k) = omega arith in rw at (sym (word_is (3 + 4 * N + 6 * C - k) (omega arith))))
      ∙ behind-notes
    where
      behind-notes : last_cells ws (3 + 4 * N + 6 * C) C ≡ t.cells
      behind-notes = let place : 3 + 4 * N + 6 * C - 6 * C ≡ 3 + 4 * N = omega arith in rw (place, e, f)

  pub read : {from : Contents} → from ≡ contents_at s (shelf_at h i) → Read from
  unfolding contents_at
  read {from} f =
      let N : word s (shelf_at h i + 1) ≡ word ws 1 = sym (word_is 1 (omega (arith, range.large))) in
      let C : word s (shelf_at h i + 2) ≡ word ws 2 = sym (word_is 2 (omega (arith, range.large))) in
      let few : 3 + 4 * word s (shelf_at h i + 1) + 6 * word s (shelf_at h i + 2) ≤ h.words = omega (arith, used, N, C) in
      rw f
      (record {
        middle_is = refl;
        end_is = refl;
        used_is = few;
        notes_are = notes_in_lem (word s (shelf_at h i + 1)) N (omega arith);
        cells_are = cells_in (word s (shelf_at h i + 1)) (word s (shelf_at h i + 2)) N C few;
      })

  -- what the half has, and that it fits
  half-notes : note_parts h v (notes_of h t) t.cells ≡ notes_of h half
  unfolding half_of
  half-notes = go (is_right v.side) refl
    where
      go : (b : Bool) → is_right v.side ≡ b → note_parts h v (notes_of h t) t.cells ≡ notes_of h half
      go true e =
          parts-right h v a.half e (notes_of h t) t.cells
          ∙ sym (right_pass h range.some-ticks range.kept-within t (sound_solid h range.some-ticks ws a.sound) v.beat)
          ∙ rw e
      go false e =
          parts-left h v a.half e (notes_of h t) t.cells
          ∙ sym (left_pass h range.some-ticks range.kept-within t (sound_solid h range.some-ticks ws a.sound) v.beat)
          ∙ rw e

  pub half-fits : fits h half ≡ true
  unfolding half_of
  half-fits = go (is_right v.side) refl
    where
      both : fits h (split_left h.delta v.beat t) && fits h (split_right h.delta v.beat t) ≡ true
      both = split_fits h range.some-ticks range.kept-within ws a.sound v.beat

      go : (b : Bool) → is_right v.side ≡ b → fits h half ≡ true
      go true e = rw e (and_right (fits h (split_left h.delta v.beat t)) (fits h (split_right h.delta v.beat t)) both)
      go false e = rw e (and_left (fits h (split_left h.delta v.beat t)) (fits h (split_right h.delta v.beat t)) both)

  pub room : 3 + 4 * length (notes_of h half) + 6 * length half.cells ≤ h.words
  room = take-room h half half-fits

  -- ---- what the functions ask

  module _ {from : Contents} (r : Read from) where
    pub notes_left_lem : notes_left h v s from from.notes.left from.cells.left ≡ notes_of h half
    unfolding notes_left
    notes_left_lem = rw (r.notes_are, r.cells_are) half-notes

    -- a run of places inside the other shelf
    pub placed : (l : List ℕ) → length l ≡ length s → (to size : ℕ) → shelf_at h j ≤ to → to + size ≤ shelf_at h j + h.words → Placed l from to size
    placed l long to size low high =
        record {
          low = shelf_at h i;
          notes_in_lem = omega (arith, r);
          cells_in = omega (arith, r);
          order = omega (arith, r);
          inside = omega (arith, r, source_inside);
          apart =
              apart-within to size
              (apart_swap (apart-within (shelf_at h i) (from.cells.end - shelf_at h i) (apart_swap (shelves_apart h i j a.differ)) (omega arith) (omega (arith, r))))
              low high;
          room = omega (arith, target_inside);
        }

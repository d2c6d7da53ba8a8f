-- A session's words are its header's and its shelves', one behind the other: reading and writing a shelf.
-- Assumes nothing.
use Rattle.std.specs.Prelude.{true, ◌≡◌, refl, drop, get_or, replicate, set, take}
use mathlib.Core.List.{List, [], ◌++◌, ◌∷◌, append_assoc}
use Rattle.std.proofs.Common.{◌∙◌, ap, sym, length-append, take_at, leb-true}
use Prim.Native.Nat.{◌*◌, ◌+◌, ◌-◌, ◌<◌, ◌≤◌, suc, zero, ℕ}
use Rattle.std.proofs.Math.Nat.{mul-le-mul_right}
use native.Mathlib.Omega.{arith}
use Rattle.std.proofs.Math.ListN.{length}
use Rattle.std.proofs.lemmas.List.{length-replicate, replicate-append-replicate}
use Rattle.std.proofs.Math.Seq.{drop-append-add, drop-append_seam, take-append-add}
use Rattle.model.specs.Histories.{Recording, history_take, history_words}
use Rattle.model.specs.Lists.{gather}
use Rattle.model.specs.Questions.{fits}
use Rattle.model.specs.Session.{fresh_words, header_of, put_shelf, shelf, words_of_header}
use Rattle.model.specs.Takes.{Take, cell_words, note_words, notes_of, shelf_words, words_of, words_used}
use Rattle.model.specs.declared.Cell.{Cell}
use Rattle.model.specs.declared.Header.{Header}
use Rattle.model.specs.declared.Note.{Note}
use Rattle.words.specs.Splice.{splice-parts}
use Rattle.laws.specs.Relations.{All}

-- The words of a session with these shelves.
unfoldable pub session_of : Header → List (List ℕ) → List ℕ
session_of H shelves = words_of_header H ++ gather (λ ws. ws) shelves

-- Each shelf has W words.
abbrev pub Whole : ℕ → List (List ℕ) → Type 0
Whole W shelves = All (λ (ws : List ℕ). length ws ≡ W) shelves

abbrev flat : List (List ℕ) → List ℕ
flat shelves = gather (λ ws. ws) shelves

-- ---- the flat list of shelves

module _ (W : ℕ) where
  length-flat : (shelves : List (List ℕ)) → Whole W shelves → length (flat shelves) ≡ length shelves * W
  length-flat [] w = let m : 0 * W ≡ 0 = omega arith in sym m
  length-flat (ws ∷ shelves) w =
      let l : length ws ≡ W = w.0 in
      let m : suc (length shelves) * W ≡ W + length shelves * W = omega arith in
      length-append ws (flat shelves) ∙ rw (l, length-flat shelves w.1, m)

  take-shelf : (shelves : List (List ℕ)) (i : ℕ) → Whole W shelves → i < length shelves → take W (drop (i * W) (flat shelves)) ≡ get_or shelves i []
  take-shelf [] i w b = absurd (omega arith)
  take-shelf (ws ∷ shelves) zero w b = let m : 0 * W ≡ 0 = omega arith in rw m (take_at ws (flat shelves) W w.0)
  take-shelf (ws ∷ shelves) (suc i) w b =
      let l : length ws ≡ W = w.0 in
      let m : suc i * W ≡ length ws + i * W = omega arith in
      rw (m, drop-append-add ws (flat shelves) (i * W)) (take-shelf shelves i w.1 (omega arith))

  put-flat : (shelves : List (List ℕ)) (i : ℕ) (ws : List ℕ) → Whole W shelves → i < length shelves
      → take (i * W) (flat shelves) ++ (ws ++ drop (i * W + W) (flat shelves)) ≡ flat (set shelves i ws)
  put-flat [] i ws w b = absurd (omega arith)
  put-flat (x ∷ shelves) zero ws w b =
      let l : length x ≡ W = w.0 in
      let m : 0 * W ≡ 0 = omega arith in
      let k : 0 + W ≡ length x = omega arith in
      rw (m, k, drop-append_seam x (flat shelves))
  put-flat (x ∷ shelves) (suc i) ws w b =
      let l : length x ≡ W = w.0 in
      let k : suc i * W + W ≡ length x + (i * W + W) = omega arith in
      let m : suc i * W ≡ length x + i * W = omega arith in
      rw (k, m, drop-append-add x (flat shelves) (i * W + W), take-append-add x (flat shelves) (i * W), append_assoc)
      (ap (◌++◌ x) (put-flat shelves i ws w.1 (omega arith)))

  zero_flat : (k : ℕ) → flat (replicate k (replicate W 0)) ≡ replicate (k * W) 0
  zero_flat zero = let e : 0 * W ≡ 0 = omega arith in rw e
  zero_flat (suc k) = let e : suc k * W ≡ W + k * W = omega arith in rw (e, zero_flat k) (replicate-append-replicate W (k * W) 0)

-- ---- the session

pub header_of_lem : (H : Header) (shelves : List (List ℕ)) → header_of (session_of H shelves) ≡ H
unfolding header_of session_of
header_of_lem H shelves = refl

module _ (H : Header) (shelves : List (List ℕ)) (w : Whole H.words shelves) where
  pub length_session : length (session_of H shelves) ≡ 4 + length shelves * H.words
  unfolding session_of
  length_session = let e : length (flat shelves) ≡ length shelves * H.words = length-flat H.words shelves w in omega arith

  -- shelf i of the session
  pub shelf_of : (i : ℕ) → i < length shelves → shelf H (session_of H shelves) i ≡ get_or shelves i []
  unfolding shelf session_of
  shelf_of i b = let m : 4 + i * H.words ≡ suc (suc (suc (suc (i * H.words)))) = omega arith in rw m (take-shelf H.words shelves i w b)

  put-parts : (i : ℕ) (ws : List ℕ) → i < length shelves → length ws ≡ H.words
      → take (4 + i * H.words) (session_of H shelves) ++ (ws ++ drop (4 + i * H.words + length ws) (session_of H shelves)) ≡ session_of H (set shelves i ws)
  unfolding session_of
  put-parts i ws b n =
      let k : 4 + i * H.words + length ws ≡ suc (suc (suc (suc (i * H.words + H.words)))) = omega arith in
      let m : 4 + i * H.words ≡ suc (suc (suc (suc (i * H.words)))) = omega arith in
      rw (k, m) (ap (λ (l : List ℕ). words_of_header H ++ l) (put-flat H.words shelves i ws w b))

  -- other words in shelf i
  pub put_of : (i : ℕ) (ws : List ℕ) → i < length shelves → length ws ≡ H.words
      → put_shelf H (session_of H shelves) i ws ≡ session_of H (set shelves i ws)
  unfolding put_shelf
  put_of i ws b n =
      let l : length (session_of H shelves) ≡ 4 + length shelves * H.words = length_session in
      let s : suc i * H.words ≤ length shelves * H.words = mul-le-mul_right H.words b in
      let c : suc i * H.words ≡ i * H.words + H.words = omega arith in
      splice-parts (session_of H shelves) (4 + i * H.words) ws (omega arith) ∙ put-parts i ws b n

-- ---- a fresh session

-- Three zeros make the empty take; zeros stand behind it.
pub empty_shelf : (H : Header) → 3 ≤ H.words → (recordings : List Recording) → history_words H recordings [] ≡ replicate H.words 0
unfolding history_words words_of history_take
empty_shelf H v recordings = let e : H.words ≡ suc (suc (suc (H.words - 3))) = omega arith in ap (λ (k : ℕ). replicate k 0) (sym e)

pub fresh_session : (H : Header) → fresh_words H ≡ session_of H (replicate H.shelves (replicate H.words 0))
unfolding fresh_words session_of
fresh_session H = ap (λ (l : List ℕ). words_of_header H ++ l) (sym (zero_flat H.words H.shelves))

-- ---- the length of a take's words

pub length-note_words : (ns : List Note) → length (gather note_words ns) ≡ 4 * length ns
length-note_words [] = refl
length-note_words (n ∷ ns) = let e = length-note_words ns in omega arith

pub length-cell_words : (cs : List Cell) → length (gather cell_words cs) ≡ 6 * length cs
length-cell_words [] = refl
length-cell_words (c ∷ cs) = let e = length-cell_words cs in omega arith

pub length-shelf_words : (W beats : ℕ) (ns : List Note) (cs : List Cell) → words_used (length ns) (length cs) ≤ W
    → length (shelf_words W beats ns cs) ≡ W
unfolding shelf_words
length-shelf_words W beats ns cs h = simp (length-append, length-replicate, length-note_words, length-cell_words) (omega arith)

pub length_words : (H : Header) (t : Take) → fits H t ≡ true → length (words_of H t) ≡ H.words
unfolding fits words_of
length_words H t e = length-shelf_words H.words t.beats (notes_of H t) t.cells (leb-true (words_used (length (notes_of H t)) (length t.cells)) H.words e)

-- The answer to a frame by its call byte. Assumes nothing.
use Rattle.std.specs.Prelude.{◌≡◌, refl, Bool, true, false, cond, List, [], ◌∷◌, ◌++◌, ℕ, ◌+◌, ◌-◌, ◌*◌, ◌≤◌, eqb, length, get_or, set, take, drop, Ok, Some, None}
use Rattle.std.proofs.Common.{sym, ap, ◌∙◌, arith, ne_eqb, length-append}
use Rattle.std.proofs.lemmas.Bool.{eq-eqb}
use lib.Seq.{take_all}
use Rattle.words.specs.Splice.{splice, splice-append, splice_snoc}
use Rattle.midi.specs.Numbers.{word32}
use Rattle.frames.specs.Digits.{byte_digits, digits_of}
use Rattle.frames.specs.Lines.{Frame, malformed, write_frame, with_words, open_of, lay_of, split_of, join_of, write_of, load_of, change_of, call_of, frame_of, decoded, frame_read, frame_in}
use Rattle.frames.specs.Answers.{number_of, session_after, file_after, answer_of}
use Rattle.frames.specs.Calling.{number_in, Wrote}
use Rattle.frames.specs.Answering.{Put}
use Rattle.frames.specs.Lent.{Opened, AnswersIn}
use Rattle.frames.specs.declared.calls.Done.{Done}
use Rattle.frames.proofs.Putting.{length-digits_of}
use Rattle.frames.proofs.Lending.{call_kept}
use Rattle.frames.proofs.Carried.{nothing}

-- ---- the frame of a call byte

module _ {c : ℕ} (bytes : List ℕ) where
  pub change_lay : c ≡ 2 → change_of c bytes ≡ lay_of bytes
  unfolding change_of
  change_lay e = rw (eq-eqb c 2 e)

  pub change_split : c ≡ 3 → change_of c bytes ≡ split_of bytes
  unfolding change_of
  change_split e = rw (ne_eqb c 2 (omega arith), eq-eqb c 3 e)

  pub change_join : c ≡ 4 → change_of c bytes ≡ join_of bytes
  unfolding change_of
  change_join e = rw (ne_eqb c 2 (omega arith), ne_eqb c 3 (omega arith), eq-eqb c 4 e)

  pub change_load : c ≡ 6 → change_of c bytes ≡ load_of bytes
  unfolding change_of
  change_load e = rw (ne_eqb c 2 (omega arith), ne_eqb c 3 (omega arith), ne_eqb c 4 (omega arith), eq-eqb c 6 e)

  pub change_unknown : (c ≡ 2 → ⊥) → (c ≡ 3 → ⊥) → (c ≡ 4 → ⊥) → (c ≡ 6 → ⊥) → change_of c bytes ≡ malformed
  unfolding change_of
  change_unknown a b d f = rw (ne_eqb c 2 a, ne_eqb c 3 b, ne_eqb c 4 d, ne_eqb c 6 f)

  pub call_open : c ≡ 1 → call_of c bytes ≡ open_of bytes
  unfolding call_of
  call_open e = rw (eq-eqb c 1 e)

  pub call_write : c ≡ 5 → call_of c bytes ≡ write_of bytes
  unfolding call_of
  call_write e = rw (ne_eqb c 1 (omega arith), eq-eqb c 5 e)

  pub call_change : (c ≡ 1 → ⊥) → (c ≡ 5 → ⊥) → call_of c bytes ≡ change_of c bytes
  unfolding call_of
  call_change a b = rw (ne_eqb c 1 a, ne_eqb c 5 b)

-- the frame of bytes, and of a line
pub frame_some : (l : List ℕ) → 1 ≤ length l → frame_of l ≡ call_of (get_or l 0 0) (take (length l - 1) (drop 1 l))
unfolding frame_of
frame_some [] h = absurd (omega arith)
frame_some (c ∷ l) h = ap (call_of c) (sym (take_all (length (c ∷ l) - 1) l (omega arith)))

pub frame_empty : (l : List ℕ) → length l ≡ 0 → frame_of l ≡ malformed
unfolding frame_of
frame_empty [] e = refl
frame_empty (c ∷ l) e = absurd (omega arith)

pub frame_decoded : (line l : List ℕ) → Some l ≡ decoded line → frame_in line ≡ frame_of l
unfolding frame_in frame_read
frame_decoded line l e = rw (← e)

pub frame_none : (line : List ℕ) → None ≡ decoded line → frame_in line ≡ malformed
unfolding frame_in frame_read
frame_none line e = rw (← e)

-- ---- answers

-- a write leaves the session
pub write_leaves : (s bytes : List ℕ) → session_after s (write_of bytes) ≡ s
unfolding session_after write_of with_words
write_leaves s bytes = go (eqb (length bytes) 4) where
  go : (b : Bool) → session_after s (cond b (write_frame (word32 bytes 0)) malformed) ≡ s
  go true = refl
  go false = refl

-- an answer without a file
pub no_file : (s : List ℕ) (f : Frame) {n : ℕ} → n ≡ number_of s f → file_after s f ≡ [] → byte_digits n ++ 10 ∷ [] ≡ answer_of s f
unfolding answer_of
no_file s f is none = rw (none, ← is)

pub put_line : (out : List ℕ) (at n : ℕ) {out₁ : List ℕ} → out₁ ≡ splice out at (byte_digits n) → Put out at (byte_digits n ++ 10 ∷ []) (set out₁ (at + 2) 10) (at + 3)
put_line out at n e = record { output = rw e (sym (splice_snoc out at (byte_digits n) 10)); end = refl; few = omega arith }

module _ {words : List ℕ} {held : ℕ} {f : Frame} (out : List ℕ) (at : ℕ) {out' : List ℕ} {to : ℕ} where
  pub answered : {words' : List ℕ} {r : Done} → Opened words held f words' r → Put out at (byte_digits (number_in r.outcome) ++ 10 ∷ []) out' to
      → AnswersIn words held out at f words' out' (record { length = r.size; end = to })
  answered o p = record { gives = o.gives; put = rw (no_file (take held words) f o.number o.file) at p }

  -- the answer to a malformed line
  pub answer_none : length words ≡ 8192 → held ≤ 8192 → f ≡ malformed → Put out at (byte_digits 255 ++ 10 ∷ []) out' to
      → AnswersIn words held out at f words out' (record { length = held; end = to })
  answer_none whole within e p = answered (call_kept whole within (nothing (take held words) e)) p

module _ {s : List ℕ} {f : Frame} {file : List ℕ} {n : ℕ} (w : Wrote s f file (Ok n)) (out : List ℕ) (at : ℕ) {out₁ : List ℕ} (a : out₁ ≡ splice out at (byte_digits 0))
    {out₂ : List ℕ} {to : ℕ} (e : to ≡ at + 2 + 2 * length (take n file)) (b : out₂ ≡ splice out₁ (at + 2) (digits_of (take n file))) where
  pub file_room : to ≤ at + 16386
  file_room = omega (arith, e, w.file.size, w.file.few, ap length w.file.file)

  pub answer_file : Put out at (answer_of s f) (set out₂ to 10) (to + 1)
  unfolding answer_of
  answer_file =
      let long = length-digits_of (file_after s f) in
      let both = length-append (byte_digits 0) (digits_of (file_after s f)) in
      let all = length-append (byte_digits 0 ++ digits_of (file_after s f)) (10 ∷ []) in
      let place : to ≡ at + length (byte_digits 0 ++ digits_of (file_after s f)) = omega (arith, e, ap length w.file.file) in
      let last : out₂ ≡ splice out₁ (at + 2) (digits_of (file_after s f)) = rw w.file.file at b in
      let first : splice out at (byte_digits 0 ++ digits_of (file_after s f)) ≡ out₂ = splice-append out at (byte_digits 0) (digits_of (file_after s f)) ∙ rw (← a) (sym last) in
      rw (← w.number)
      (record {
        output = rw (place, ← first) (sym (splice_snoc out at (byte_digits 0 ++ digits_of (file_after s f)) 10));
        end = omega arith;
        few = omega (arith, file_room);
      })

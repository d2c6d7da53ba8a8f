-- All that is written for an input is the answers to its lines. Assumes nothing.
use Rattle.std.specs.Prelude.{◌≡◌, refl, Bool, true, false, cond, List, [], ◌∷◌, ◌++◌, ℕ, ◌<◌, eqb, ltb, length, None}
use Rattle.std.proofs.Common.{sym, ap, ◌∙◌, append-nil, append_assoc, arith, ltb-false, ne_eqb, length-append}
use Rattle.std.proofs.lemmas.Bool.{lt-leb}
use Rattle.frames.specs.Lines.{Frame, decoded, frame_in}
use Rattle.frames.specs.Answers.{session_after, answer_of, line_answer, line_after, answers}
use Rattle.frames.specs.declared.input.Reading.{Reading}
use Rattle.frames.specs.Input.{start, kept, taken, written, taken_all, written_all, written_last, output_of, lines_from}

-- the characters kept of a line are the line, or both are too long
data Alike (k l : List ℕ) : Type 0 where
  same : k ≡ l → Alike k l
  long : 4000 < length k → 4000 < length l → Alike k l

none-decoded : (l : List ℕ) → 4000 < length l → decoded l ≡ None
unfolding decoded
none-decoded l h = rw (lt-leb (length l) 4000 h)

alike_frame : {k l : List ℕ} → Alike k l → frame_in k ≡ frame_in l
unfolding frame_in
alike_frame (same e) = ap frame_in e
alike_frame {k} {l} (long a b) = rw (none-decoded k a, none-decoded l b)

alike_kept : {k l : List ℕ} (c : ℕ) → Alike k l → Alike (kept k c) (l ++ c ∷ [])
alike_kept {k} {l} c a = go (ltb (length k) 4001) refl a where
  go : (b : Bool) → ltb (length k) 4001 ≡ b → Alike k l → Alike (cond b (k ++ c ∷ []) k) (l ++ c ∷ [])
  go true e (same h) = same (ap (λ (x : List ℕ). x ++ c ∷ []) h)
  go true e (long m n) = long (omega (arith, length-append k (c ∷ []))) (omega (arith, length-append l (c ∷ [])))
  go false e (same h) = let m = ltb-false (length k) 4001 e in long (omega arith) (omega (arith, length-append l (c ∷ []), ap length h))
  go false e (long m n) = long m (omega (arith, length-append l (c ∷ [])))

alike_last : (s : List ℕ) {k l : List ℕ} → Alike k l → written_last (record { session = s; line = k }) ≡ answers s (lines_from l [])
unfolding written_last lines_from answers line_answer line_after
alike_last s {k} {l} (same e) = rw e (go (eqb (length l) 0)) where
  go : (b : Bool) → cond b [] (line_answer s l) ≡ answers s (cond b [] (l ∷ []))
  go true = refl
  go false = sym (append-nil (line_answer s l))
alike_last s {k} {l} (long a b) =
    let both : Alike k l = long a b in
    rw (ne_eqb (length k) 0 (omega arith), ne_eqb (length l) 0 (omega arith), alike_frame both) (sym (append-nil (line_answer s l)))

-- what is written from a reading on
abbrev From : List ℕ → List ℕ → List ℕ → List ℕ
From s k input = written_all (record { session = s; line = k }) input ++ written_last (taken_all (record { session = s; line = k }) input)

step : (s k l : List ℕ) (c : ℕ) (cs : List ℕ) → Alike k l → From (line_after s l) [] cs ≡ answers (line_after s l) (lines_from [] cs)
    → From s (kept k c) cs ≡ answers s (lines_from (l ++ c ∷ []) cs) → From s k (c ∷ cs) ≡ answers s (lines_from l (c ∷ cs))
unfolding written_all taken_all lines_from taken written answers line_answer line_after
step s k l c cs a ended more = go (eqb c 10) refl where
  go : (b : Bool) → eqb c 10 ≡ b → From s k (c ∷ cs) ≡ answers s (lines_from l (c ∷ cs))
  go true e =
      let r : Reading = record { session = line_after s k; line = [] } in
      rw e
      (append_assoc (line_answer s k) (written_all r cs) (written_last (taken_all r cs))
      ∙ ap (λ (f : Frame). answer_of s f ++ From (session_after s f) [] cs) (alike_frame a) ∙ ap (λ (x : List ℕ). line_answer s l ++ x) ended)
  go false e = rw e more

all-written : (s k l input : List ℕ) → Alike k l → From s k input ≡ answers s (lines_from l input)
unfolding written_all taken_all
all-written s k l [] a = alike_last s a
all-written s k l (c ∷ cs) a =
    step s k l c cs a (all-written (line_after s l) [] [] cs (same refl)) (all-written s (kept k c) (l ++ c ∷ []) cs (alike_kept c a))

-- The answers to the lines of an input, from no session on.
pub whole_input : (input : List ℕ) → output_of input ≡ answers [] (lines_from [] input)
unfolding output_of start
whole_input input = all-written [] [] [] input (same refl)

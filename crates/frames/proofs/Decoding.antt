-- How reading the digits of a line goes. Assumes nothing.
use Rattle.std.specs.Prelude.{◌≡◌, refl, List, [], ◌∷◌, ◌++◌, ℕ, zero, suc, ◌+◌, ◌*◌, ◌/◌, ◌%◌, ◌≤◌, ◌<◌, length, get_or, set, take, drop, Option, Some, None}
use Rattle.std.specs.Option.{option_map}
use Rattle.std.specs.Simd.{first_chunks}
use Rattle.std.proofs.Common.{sym, ap, ap₂, ◌∙◌, add-one, append-nil, append_assoc, arith, drop_of_length-le}
use Rattle.std.proofs.lemmas.Bool.{le-leb, lt-leb}
use lib.Seq.{drop-cons, drop-drop, take-suc-set}
use Rattle.frames.specs.Digits.{digit_value, byte_before, bytes_of}
use Rattle.frames.specs.Lines.{decoded}

-- bytes before those of the digits that are left
abbrev pub before : List ℕ → Option (List ℕ) → Option (List ℕ)
before bytes left = option_map (λ (more : List ℕ). bytes ++ more) left

-- i bytes of a line are read, and the digits behind theirs are left
pub record Decodes (line bytes : List ℕ) (i : ℕ) : Type 0 where
  pub whole : bytes_of line ≡ before (take i bytes) (bytes_of (drop (2 * i) line))

before_none : (left : Option (List ℕ)) → left ≡ before [] left
before_none None = refl
before_none (Some bytes) = refl

pair_more : (bytes : List ℕ) (high low : ℕ) (left : Option (List ℕ))
    → before bytes (byte_before (Some high) (Some low) left) ≡ before (bytes ++ (high * 16 + low) ∷ []) left
unfolding byte_before
pair_more bytes high low None = refl
pair_more bytes high low (Some more) = ap Some (sym (append_assoc bytes ((high * 16 + low) ∷ []) more))

high_none : (low : Option ℕ) (left : Option (List ℕ)) → byte_before None low left ≡ None
unfolding byte_before
high_none low left = refl

low_none : (high : Option ℕ) (left : Option (List ℕ)) → byte_before high None left ≡ None
unfolding byte_before
low_none None left = refl
low_none (Some high) left = refl

left_none : (high low : Option ℕ) → byte_before high low None ≡ None
unfolding byte_before
left_none None low = refl
left_none (Some high) None = refl
left_none (Some high) (Some low) = refl

-- the digits that are left behind i pairs: the next pair, and the others
pair_cons : (l : List ℕ) (i : ℕ) → 2 * i + 1 < length l → drop (2 * i) l ≡ get_or l (2 * i) 0 ∷ get_or l (2 * i + 1) 0 ∷ drop (2 * (i + 1)) l
pair_cons l i h =
    let e : suc (suc (2 * i)) ≡ 2 * (i + 1) = omega arith in
    let f : suc (2 * i) ≡ 2 * i + 1 = omega arith in
    drop-cons l (2 * i) 0 (omega arith)
    ∙ ap (λ (x : List ℕ). get_or l (2 * i) 0 ∷ x) (drop-cons l (suc (2 * i)) 0 (omega arith) ∙ ap₂ (λ (m n : ℕ). get_or l m 0 ∷ drop n l) f e)

-- pair i
chunk_at : (k i : ℕ) (l : List ℕ) → i < k → get_or (first_chunks 2 k l) i [] ≡ take 2 (drop (2 * i) l)
chunk_at zero i l h = absurd (omega arith)
chunk_at (suc k) zero l h = refl
chunk_at (suc k) (suc i) l h =
    let e : 2 * i + 2 ≡ 2 * suc i = omega arith in
    chunk_at k i (drop 2 l) (omega arith) ∙ ap (take 2) (drop-drop (2 * i) 2 l ∙ ap (λ (n : ℕ). drop n l) (omega arith))

pub decodes_start : (line bytes : List ℕ) → Decodes line bytes 0
decodes_start line bytes = record { whole = before_none (bytes_of line) }

module _ {line bytes : List ℕ} {i : ℕ} (d : Decodes line bytes i) {pairs : List (List ℕ)} (made : pairs ≡ first_chunks 2 (length line / 2) line) (more : i < length line / 2) where
  pair : get_or pairs i [] ≡ get_or line (2 * i) 0 ∷ get_or line (2 * i + 1) 0 ∷ []
  pair = rw made (chunk_at (length line / 2) i line more ∙ ap (take 2) (pair_cons line i (omega arith)))

  next : bytes_of (drop (2 * i) line)
      ≡ byte_before (digit_value (get_or (get_or pairs i []) 0 0)) (digit_value (get_or (get_or pairs i []) 1 0)) (bytes_of (drop (2 * (i + 1)) line))
  unfolding bytes_of
  next = rw pair (ap bytes_of (pair_cons line i (omega arith)))

  pub decodes_pair : length line ≤ 4000 → 2000 ≤ length bytes → {high low : ℕ} → Some high ≡ digit_value (get_or (get_or pairs i []) 0 0)
      → Some low ≡ digit_value (get_or (get_or pairs i []) 1 0) → Decodes line (set bytes i (high * 16 + low)) (i + 1)
  decodes_pair short room {high} {low} a b =
      let step : bytes_of (drop (2 * i) line) ≡ byte_before (Some high) (Some low) (bytes_of (drop (2 * (i + 1)) line)) = rw (a, b) next in
      record {
        whole =
            rw (add-one i, take-suc-set bytes i (high * 16 + low) (omega arith), ← add-one i)
            (d.whole ∙ ap (before (take i bytes)) step ∙ pair_more (take i bytes) high low (bytes_of (drop (2 * (i + 1)) line)));
      }

  wrong : length line ≤ 4000 → bytes_of (drop (2 * i) line) ≡ None → None ≡ decoded line
  unfolding decoded
  wrong short e = rw (le-leb (length line) 4000 short) (sym (d.whole ∙ ap (before (take i bytes)) e))

  pub bad_high : length line ≤ 4000 → None ≡ digit_value (get_or (get_or pairs i []) 0 0) → None ≡ decoded line
  bad_high short e = wrong short (next ∙ rw (← e) (high_none (digit_value (get_or (get_or pairs i []) 1 0)) (bytes_of (drop (2 * (i + 1)) line))))

  pub bad_low : length line ≤ 4000 → None ≡ digit_value (get_or (get_or pairs i []) 1 0) → None ≡ decoded line
  bad_low short e = wrong short (next ∙ rw (← e) (low_none (digit_value (get_or (get_or pairs i []) 0 0)) (bytes_of (drop (2 * (i + 1)) line))))

-- ---- the result

pub too_long : (line : List ℕ) → 4000 < length line → None ≡ decoded line
unfolding decoded
too_long line h = rw (lt-leb (length line) 4000 h)

odd_none : (l : List ℕ) → (length l % 2 ≡ 0 → ⊥) → bytes_of l ≡ None
unfolding bytes_of
odd_none [] h = absurd (h refl)
odd_none (a ∷ []) h = refl
odd_none (a ∷ b ∷ l) h = rw (odd_none l (λ e. h (omega arith))) (left_none (digit_value a) (digit_value b))

pub odd : (line : List ℕ) → length line ≤ 4000 → (length line % 2 ≡ 0 → ⊥) → None ≡ decoded line
unfolding decoded
odd line short h = rw (le-leb (length line) 4000 short) (sym (odd_none line h))

pub decodes_done : {line bytes : List ℕ} {i : ℕ} → Decodes line bytes i → length line ≤ 4000 → length line ≤ 2 * i → Some (take i bytes) ≡ decoded line
unfolding decoded bytes_of
decodes_done {line} {bytes} {i} d short end =
    let none : drop (2 * i) line ≡ [] = drop_of_length-le line end in
    rw (le-leb (length line) 4000 short) (ap Some (sym (append-nil (take i bytes))) ∙ sym (d.whole ∙ rw none refl))

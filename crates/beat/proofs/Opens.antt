-- Open: the number and the words, by the way that the call goes. Assumes nothing.
use mathlib.Core.Path.{◌≡◌, sym, ap, ◌∙◌}
use mathlib.Core.Bool.{true, false}
use mathlib.Core.List.{List, ◌++◌}
use Prim.Native.Nat.{ℕ, ◌*◌, ◌-◌, ◌≤◌}
use native.Mathlib.Nat.{mul-le-mul}
use native.Mathlib.Omega.{arith}
use lib.ListN.{length, replicate, length-append, length-replicate}
use Rattle.words.specs.Splice.{splice, length-splice, splice-append, splice_whole}
use Rattle.model.specs.Session.{words_of_header, session_length, fresh_words}
use Rattle.model.specs.Machine.{open_call}
use Rattle.model.specs.Questions.{header_ok, questions, first_no, number, written, after}
use Rattle.model.proofs.Headers.{in_range}
use Rattle.model.specs.declared.Header.{Header}

-- a session has a header and a shelf of three words
pub long_enough : (h : Header) (len : ℕ) → header_ok h len ≡ true → 7 ≤ len
long_enough h len e =
    let r = in_range e in
    let shelf : 1 * 3 ≤ h.shelves * h.words = mul-le-mul r.some_shelves r.large in
    omega (arith, r.exact)

-- header words and zeros to the end make a fresh session
pub fresh_done : (s : List ℕ) (h : Header) → header_ok h (length s) ≡ true → (s₁ : List ℕ) → s₁ ≡ splice s 0 (words_of_header h)
    → (s₂ : List ℕ) → s₂ ≡ splice s₁ 4 (replicate (length s₁ - 4) 0) → s₂ ≡ fresh_words h
unfolding fresh_words
fresh_done s h right s₁ e₁ s₂ e₂ =
    let same : length s₁ ≡ length s = ap length e₁ ∙ length-splice s 0 (words_of_header h) in
    let long : length s ≡ session_length h = (in_range right).exact in
    let z : length s₁ - 4 ≡ h.shelves * h.words = omega arith in
    let all : length (words_of_header h ++ replicate (h.shelves * h.words) 0) ≡ length s =
    length-append (words_of_header h) (replicate (h.shelves * h.words) 0) ∙ omega (arith, length-replicate {A = ℕ} (h.shelves * h.words) 0) in
    e₂ ∙ rw (z, e₁) (sym (splice-append s 0 (words_of_header h) (replicate (h.shelves * h.words) 0)))
    ∙ splice_whole s (words_of_header h ++ replicate (h.shelves * h.words) 0) all

module _ (s : List ℕ) (h : Header) where
  pub open_refused : header_ok h (length s) ≡ false → (1 ≡ number s (open_call h)) × (s ≡ after s (open_call h))
  unfolding after number questions first_no
  open_refused e = (rw e, rw (after, e))

  pub open_done : header_ok h (length s) ≡ true → {t : List ℕ} → t ≡ fresh_words h → (0 ≡ number s (open_call h)) × (t ≡ after s (open_call h))
  unfolding after number questions first_no written
  open_done e f = (rw e, rw (after, e) f)

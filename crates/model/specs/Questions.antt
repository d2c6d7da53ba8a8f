-- "The questions" of open, lay, split and join, and what each call returns and leaves. s is the session's words.
-- Assumes nothing.
use Rattle.std.specs.Prelude.{ℕ, zero, suc, ◌%◌, Bool, true, false, not, ◌&&◌, List, [], ◌∷◌, ◌++◌, leb, ltb, eqb, length}
use Rattle.model.specs.Lists.{every, pairwise}
use Rattle.model.specs.Limits.{max_beats, max_shelves, max_delta, min_words, max_words}
use Rattle.model.specs.Takes.{Take, take_in, notes_of, words_of, words_used, split_left, split_right, join_takes}
use Rattle.model.specs.Soundness.{notes_ok, sound_shelf}
use Rattle.model.specs.Histories.{recording_take}
use Rattle.model.specs.Session.{header_of, session_length, shelf, put_shelf, fresh_words}
use Rattle.model.specs.Machine.{Call, open_call, lay_call, split_call, join_call, listed}
use Rattle.model.specs.declared.Header.{Header}

-- ---- what a call names, and what it makes

-- The shelves that a call reads, and those that it writes.
abbrev pub reads : Call → List ℕ
reads (open_call h) = []
reads (lay_call i beats ws) = []
reads (split_call i k l r) = i ∷ []
reads (join_call i j k) = i ∷ j ∷ []

abbrev pub writes : Call → List ℕ
writes (open_call h) = []
writes (lay_call i beats ws) = i ∷ []
writes (split_call i k l r) = l ∷ r ∷ []
writes (join_call i j k) = k ∷ []

-- The take in shelf i.
abbrev pub take_at : Header → List ℕ → ℕ → Take
take_at h s i = take_in h.delta (shelf h s i)

-- The results of a call: each take with the shelf that it goes to.
unfoldable pub results : Header → List ℕ → Call → List (ℕ × Take)
unfolding recording_take listed split_left split_right join_takes take_in shelf
results h s (open_call g) = []
results h s (lay_call i beats ws) = (i, recording_take h.delta (listed beats ws)) ∷ []
results h s (split_call i k l r) = (l, split_left h.delta k (take_at h s i)) ∷ (r, split_right h.delta k (take_at h s i)) ∷ []
results h s (join_call i j k) = (k, join_takes h.delta (take_at h s i) (take_at h s j)) ∷ []

-- ---- the questions

-- 1. Are the four header words in range and the length exact?
unfoldable pub header_ok : Header → ℕ → Bool
header_ok h len =
    leb 1 h.delta && leb h.delta max_delta && leb 1 h.epsilon && leb h.epsilon h.delta
    && leb 1 h.shelves && leb h.shelves max_shelves && leb min_words h.words && leb h.words max_words
    && eqb len (session_length h)

-- 2. Are shelf numbers below K?
unfoldable pub shelves_ok : Header → Call → Bool
shelves_ok h c = every (λ i. ltb i h.shelves) (reads c ++ writes c)

-- 3. Does each written shelf differ from the other named ones?
unfoldable pub writes_differ : Call → Bool
writes_differ c = pairwise (λ i j. not (eqb i j)) (writes c) && every (λ i. every (λ j. not (eqb i j)) (reads c)) (writes c)

-- 4. Are the shelves read sound?
unfoldable pub reads_sound : Header → List ℕ → Call → Bool
unfolding sound_shelf shelf
reads_sound h s c = every (λ i. sound_shelf h (shelf h s i)) (reads c)

-- 5. Is k ≤ n?
unfoldable pub beat_within : Header → List ℕ → ℕ → ℕ → Bool
unfolding take_in shelf
beat_within h s i k = leb k (take_at h s i).beats

-- 6. Has the result at most 4,096 beats?
unfoldable pub beats_ok : Header → List ℕ → Call → Bool
unfolding results
beats_ok h s c = every (λ r. leb r.1.beats max_beats) (results h s c)

-- 7. Is the list whole notes, in range, in order and without overlap in a lane?
unfoldable pub list_ok : Header → ℕ → List ℕ → Bool
unfolding notes_ok listed
list_ok h beats ws = eqb (length ws % 4) 0 && notes_ok h.delta beats (listed beats ws).notes

-- 8. Does each result fit W words?
unfoldable pub fits : Header → Take → Bool
unfolding notes_of
fits h t = leb (words_used (length (notes_of h t)) (length t.cells)) h.words

unfoldable pub results_fit : Header → List ℕ → Call → Bool
unfolding results fits
results_fit h s c = every (λ r. fits h r.1) (results h s c)

-- Each call goes through those naming it, in this order.
unfoldable pub questions : List ℕ → Call → List (ℕ × Bool)
unfolding header_of header_ok shelves_ok writes_differ reads_sound beat_within beats_ok list_ok results_fit
questions s (open_call h) = (1, header_ok h (length s)) ∷ []
questions s (lay_call i beats ws) =
    let h = header_of s in
    let c = lay_call i beats ws in
    (1, header_ok h (length s)) ∷ (2, shelves_ok h c) ∷ (6, beats_ok h s c) ∷ (7, list_ok h beats ws) ∷ (8, results_fit h s c) ∷ []
questions s (split_call i k l r) =
    let h = header_of s in
    let c = split_call i k l r in
    (1, header_ok h (length s)) ∷ (2, shelves_ok h c) ∷ (3, writes_differ c) ∷ (4, reads_sound h s c) ∷ (5, beat_within h s i k)
    ∷ (8, results_fit h s c) ∷ []
questions s (join_call i j k) =
    let h = header_of s in
    let c = join_call i j k in
    (1, header_ok h (length s)) ∷ (2, shelves_ok h c) ∷ (3, writes_differ c) ∷ (4, reads_sound h s c) ∷ (6, beats_ok h s c)
    ∷ (8, results_fit h s c) ∷ []

-- ---- what a call returns and leaves

-- Reading stops at the first question whose answer is no: its number, and 0 if there is none.
unfoldable pub first_no : List (ℕ × Bool) → ℕ
first_no [] = 0
first_no (q ∷ qs) = elim q.1 [ true ↦ first_no qs | false ↦ q.0 ]

-- The number that a call returns.
unfoldable pub number : List ℕ → Call → ℕ
unfolding first_no questions
number s c = first_no (questions s c)

-- The session with each result's words in its shelf.
unfoldable pub put_all : Header → List ℕ → List (ℕ × Take) → List ℕ
unfolding put_shelf words_of
put_all h s [] = s
put_all h s (r ∷ rs) = put_all h (put_shelf h s r.0 (words_of h r.1)) rs

-- The session's words after a call that returned 0.
unfoldable pub written : List ℕ → Call → List ℕ
unfolding fresh_words put_all results header_of
written s (open_call h) = fresh_words h
written s (lay_call i beats ws) = put_all (header_of s) s (results (header_of s) s (lay_call i beats ws))
written s (split_call i k l r) = put_all (header_of s) s (results (header_of s) s (split_call i k l r))
written s (join_call i j k) = put_all (header_of s) s (results (header_of s) s (join_call i j k))

-- The session's words after a call: a call that returns a number above 0 changes nothing.
unfoldable pub after : List ℕ → Call → List ℕ
unfolding number written
after s c = elim (number s c) [ zero ↦ written s c | suc n ↦ s ]

-- ---- lists of calls, each given the session as the one before left it

-- The calls with the numbers that they return.
unfoldable pub answered : List ℕ → List Call → List (Call × ℕ)
unfolding number after
answered s [] = []
answered s (c ∷ cs) = (c, number s c) ∷ answered (after s c) cs

-- The session's words after all of them.
unfoldable pub after_all : List ℕ → List Call → List ℕ
unfolding after
after_all s [] = s
after_all s (c ∷ cs) = after_all (after s c) cs

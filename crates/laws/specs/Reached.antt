-- A session that holds what the machine gives is sound, and the numbers that calls therefore never return: 4 there, 8 for a split in any session.
-- Assumes nothing.
use Rattle.std.specs.Prelude.{Bool, ◌&&◌, false, true, List, [], ◌++◌, ◌∷◌, ◌≢◌, ◌≡◌, refl, ◌<◌, ◌≤◌, ℕ, length}
use Rattle.std.proofs.Common.{◌∙◌, ap, subst, sym, arith}
use Rattle.model.specs.Histories.{history_take, history_words}
use Rattle.model.specs.Lists.{every}
use Rattle.model.specs.Machine.{Call, Machine, given_words, history, join_call, lay_call, open_call, split_call}
use Rattle.model.specs.Questions.{beat_within, beats_ok, first_no, fits, header_ok, number, questions, reads, reads_sound, results, results_fit, shelves_ok, take_at, writes, writes_differ}
use Rattle.model.specs.Session.{header_of, shelf}
use Rattle.model.specs.Soundness.{sound_shelf}
use Rattle.model.specs.Takes.{split_left, split_right}
use Rattle.model.specs.declared.Header.{Header}
use Rattle.laws.specs.Accepted.{below}
use Rattle.laws.specs.Booleans.{and_left, and_right, and_yes}
use Rattle.laws.specs.CallSteps.{header_for, history_beats, history_ok}
use Rattle.laws.specs.Counting.{split_fits}
use Rattle.laws.specs.Relations.{All}
use Rattle.laws.specs.Solid.{Solid}
use Rattle.laws.specs.Sound.{solid_sound}
use Rattle.laws.specs.Steps.{HistoryOk, Kept, Ranges, positive_delta, ranges, session_for, shelf_is, small_epsilon, solid_shelf}

-- ---- a shelf that holds what the machine gives is sound

given-sound : (m : Machine) (i : ℕ) → 0 < m.header.delta → m.header.epsilon ≤ m.header.delta
    → Solid m.header.delta (history_take m.header.delta m.recordings (history m i))
    → HistoryOk m.header m.recordings (history m i) → sound_shelf m.header (given_words m i) ≡ true
unfolding given_words history_words
given-sound m i z le s o =
    let t = history_take m.header.delta m.recordings (history m i) in
    let b : length (history m i) ≤ 4096 = o.short in
    solid_sound m.header z le t s (rw (history_beats m.header.delta m.recordings (history m i)) b) o.fit

-- a shelf that holds what the machine gives is sound
pub kept-sound : (m : Machine) → Kept m → (i : ℕ) → i < m.header.shelves → sound_shelf m.header (shelf m.header (session_for m) i) ≡ true
kept-sound m k i b = ap (sound_shelf m.header) (shelf_is m k i b) ∙ given-sound m i (positive_delta m k) (small_epsilon m k) (solid_shelf m k i) (history_ok m k i b)

-- ---- numbers that are never returned

abbrev Yes : ℕ × Bool → Type 0
Yes q = q.1 ≡ true

-- a question that is answered yes whenever those before it are need not be put
pub skip_question : (qs : List (ℕ × Bool)) (n : ℕ) (b : Bool) (rs : List (ℕ × Bool)) → (All Yes qs → b ≡ true)
    → first_no (qs ++ (n, b) ∷ rs) ≡ first_no (qs ++ rs)
unfolding first_no
skip_question [] n b rs h = rw (h tt)
skip_question (q ∷ qs) n b rs h = go q.1 refl (λ k. skip_question qs n b rs k)
  where
    go : (t : Bool) → q.1 ≡ t → ((All Yes qs → b ≡ true) → first_no (qs ++ (n, b) ∷ rs) ≡ first_no (qs ++ rs))
        → first_no (q ∷ (qs ++ (n, b) ∷ rs)) ≡ first_no (q ∷ (qs ++ rs))
    go true f ih = rw (f, first_no) (ih (λ a. h (f, a)))
    go false f ih = rw (f, first_no)

-- a number that no question has is not returned
pub other_number : (n : ℕ) (qs : List (ℕ × Bool)) → 0 < n → All (λ q. q.0 ≢ n) qs → first_no qs ≢ n
unfolding first_no
other_number n [] z a e = omega arith
other_number n (q ∷ qs) z a e = go q.1 refl (λ f. other_number n qs z a.1 f)
  where
    go : (b : Bool) → q.1 ≡ b → (first_no qs ≢ n) → ⊥
    go true f ih = ih (rw (f, first_no) at e)
    go false f ih = a.0 (rw (f, first_no) at e)

split_fit : (H : Header) (s : List ℕ) (i k l r : ℕ) → 0 < H.delta → H.epsilon ≤ H.delta → reads_sound H s (split_call i k l r) ≡ true
    → results_fit H s (split_call i k l r) ≡ true
unfolding reads_sound results_fit results
split_fit H s i k l r z le e =
    let w = shelf H s i in
    let x = fits H (split_left H.delta k (take_at H s i)) in
    let y = fits H (split_right H.delta k (take_at H s i)) in
    let f : x && y ≡ true = split_fits H z le w (and_left (sound_shelf H w) true e) k in
    and_yes (and_left x y f) (and_yes (and_right x y f) refl)

-- a split's number needs no question 8, in any session
abbrev pub split_questions : List ℕ → ℕ → ℕ → ℕ → ℕ → List (ℕ × Bool)
split_questions s i k l r =
    (1, header_ok (header_of s) (length s)) ∷ (2, shelves_ok (header_of s) (split_call i k l r)) ∷ (3, writes_differ (split_call i k l r))
    ∷ (4, reads_sound (header_of s) s (split_call i k l r)) ∷ (5, beat_within (header_of s) s i k) ∷ []

pub split_number : (s : List ℕ) (i k l r : ℕ) → number s (split_call i k l r) ≡ first_no (split_questions s i k l r)
unfolding number questions
split_number s i k l r = skip_question (split_questions s i k l r) 8 (results_fit (header_of s) s (split_call i k l r)) [] fit
  where
    fit : All Yes (split_questions s i k l r) → results_fit (header_of s) s (split_call i k l r) ≡ true
    fit a =
        let H = header_of s in
        let g : Ranges H (length s) = ranges H (length s) a.0 in
        split_fit H s i k l r g.positive g.small a.1.1.1.0

pub split_never_eight : (s : List ℕ) (i k l r : ℕ) → number s (split_call i k l r) ≢ 8
split_never_eight s i k l r e =
    other_number 8 (split_questions s i k l r) (omega arith) ((λ f. omega arith), ((λ f. omega arith), ((λ f. omega arith), ((λ f. omega arith), ((λ f. omega arith), tt))))) (sym (split_number s i k l r) ∙ e)

-- ---- question 4 in a session that the calls made

-- the shelves that a call reads are sound, where their numbers are below K
reads_sound_lem : (m : Machine) → Kept m → (c : Call) → shelves_ok m.header c ≡ true → reads_sound m.header (session_for m) c ≡ true
unfolding reads_sound
reads_sound_lem m k c e = go (reads c) (all_first (reads c) (writes c) (below m.header c e))
  where
    all_first : (is js : List ℕ) → All (λ i. i < m.header.shelves) (is ++ js) → All (λ i. i < m.header.shelves) is
    all_first [] js a = tt
    all_first (i ∷ is) js a = (a.0, all_first is js a.1)

    go : (is : List ℕ) → All (λ i. i < m.header.shelves) is → every (λ i. sound_shelf m.header (shelf m.header (session_for m) i)) is ≡ true
    go [] a = refl
    go (i ∷ is) a = and_yes (kept-sound m k i a.0) (go is a.1)

-- so question 4 never refuses what the calls themselves made
pub never_four : (m : Machine) → Kept m → (c : Call) → number (session_for m) c ≢ 4
unfolding number questions
never_four m k (open_call h) e = other_number 4 (questions (session_for m) (open_call h)) (omega arith) ((λ f. omega arith), tt) e
never_four m k (lay_call i beats ws) e = other_number 4 (questions (session_for m) (lay_call i beats ws)) (omega arith) ((λ f. omega arith), ((λ f. omega arith), ((λ f. omega arith), ((λ f. omega arith), ((λ f. omega arith), tt))))) e
never_four m k (split_call i n l r) e =
    let c = split_call i n l r in
    let s = session_for m in
    let H = header_of s in
    let before : List (ℕ × Bool) = (1, header_ok H (length s)) ∷ (2, shelves_ok H c) ∷ (3, writes_differ c) ∷ [] in
    let behind : List (ℕ × Bool) = (5, beat_within H s i n) ∷ (8, results_fit H s c) ∷ [] in
    other_number 4 (before ++ behind) (omega arith) ((λ f. omega arith), ((λ f. omega arith), ((λ f. omega arith), ((λ f. omega arith), ((λ f. omega arith), tt)))))
    (sym (skip_question before 4 (reads_sound H s c) behind (λ a. subst (λ (h : Header). shelves_ok h c ≡ true → reads_sound h s c ≡ true) (sym (header_for m)) (reads_sound_lem m k c) a.1.0)) ∙ e)
never_four m k (join_call i j n) e =
    let c = join_call i j n in
    let s = session_for m in
    let H = header_of s in
    let before : List (ℕ × Bool) = (1, header_ok H (length s)) ∷ (2, shelves_ok H c) ∷ (3, writes_differ c) ∷ [] in
    let behind : List (ℕ × Bool) = (6, beats_ok H s c) ∷ (8, results_fit H s c) ∷ [] in
    other_number 4 (before ++ behind) (omega arith) ((λ f. omega arith), ((λ f. omega arith), ((λ f. omega arith), ((λ f. omega arith), ((λ f. omega arith), tt)))))
    (sym (skip_question before 4 (reads_sound H s c) behind (λ a. subst (λ (h : Header). shelves_ok h c ≡ true → reads_sound h s c ≡ true) (sym (header_for m)) (reads_sound_lem m k c) a.1.0)) ∙ e)

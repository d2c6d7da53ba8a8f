-- One call, in the session and in the plain machine: a session that holds what the machine gives still does after any call.
-- Assumes nothing.
use Rattle.std.specs.Prelude.{◌&&◌, true, ◌≡◌, ◌*◌, ◌+◌, ◌<◌, ◌≤◌, ℕ, eqb, leb, get_or, set}
use mathlib.Core.List.{List, [], ◌∷◌, map, map-map}
use Rattle.std.proofs.Common.{◌∙◌, arith, eqb-true, leb-true}
use Rattle.std.proofs.Math.Path.{ap, ap₂, refl, sym}
use Rattle.std.proofs.Math.ListN.{length, length-set}
use Rattle.model.specs.Histories.{Recording, history_take, history_words}
use Rattle.model.specs.Machine.{Machine, given_words, history}
use Rattle.model.specs.Questions.{fits, header_ok, put_all, take_at}
use Rattle.model.specs.Session.{session_length, shelf}
use Rattle.model.specs.Takes.{Take, take_in, words_of}
use Rattle.model.specs.declared.Header.{Header}
use Rattle.laws.specs.Booleans.{and_left, and_right}
use Rattle.laws.specs.Lines.{solid_inner}
use Rattle.laws.specs.Lists.{get_d_map, length-map, map-set}
use Rattle.laws.specs.Moving.{solid_history}
use Rattle.laws.specs.OneNote.{Valid}
use Rattle.laws.specs.Reading.{words_take}
use Rattle.laws.specs.Relations.{All, all_imp, all_set}
use Rattle.laws.specs.Sessions.{Whole, length_words, put_of, session_of, shelf_of}
use Rattle.laws.specs.Solid.{Solid}

-- ---- what the header's ranges say

pub record Ranges (H : Header) (len : ℕ) : Type 0 where
  pub positive : 0 < H.delta
  pub small : H.epsilon ≤ H.delta
  pub room : 3 ≤ H.words
  pub exact : len ≡ 4 + H.shelves * H.words

pub ranges : (H : Header) (len : ℕ) → header_ok H len ≡ true → Ranges H len
unfolding header_ok
ranges H len e =
    let a = leb 1 H.delta in
    let b = leb H.delta 32767 in
    let c = leb 1 H.epsilon in
    let d = leb H.epsilon H.delta in
    let f = leb 1 H.shelves in
    let g = leb H.shelves 64 in
    let h = leb 3 H.words in
    let i = leb H.words 1048576 in
    let j = eqb len (4 + H.shelves * H.words) in
    let e8 = and_left (a && b && c && d && f && g && h && i) j e in
    let e7 = and_left (a && b && c && d && f && g && h) i e8 in
    let e4 = and_left (a && b && c && d) f (and_left (a && b && c && d && f) g (and_left (a && b && c && d && f && g) h e7)) in
    record {
      positive = leb-true 1 H.delta (and_left a b (and_left (a && b) c (and_left (a && b && c) d e4)));
      small = leb-true H.epsilon H.delta (and_right (a && b && c) d e4);
      room = leb-true 3 H.words (and_right (a && b && c && d && f && g) h e7);
      exact = eqb-true len (4 + H.shelves * H.words) (and_right (a && b && c && d && f && g && h && i) j e);
    }

-- ---- several places of a list written

module _ {A : Type 0} where
  -- xs with each named place replaced.
  unfoldable pub set_all : List A → List (ℕ × A) → List A
  set_all xs [] = xs
  set_all xs (p ∷ ps) = set_all (set xs p.0 p.1) ps

  pub length-set_all : (xs : List A) (ps : List (ℕ × A)) → length (set_all xs ps) ≡ length xs
  unfolding set_all
  length-set_all xs [] = refl
  length-set_all xs (p ∷ ps) = length-set_all (set xs p.0 p.1) ps ∙ length-set xs p.0 p.1

  pub all-set_all : (P : A → Type 0) (xs : List A) (ps : List (ℕ × A)) → All P xs → All (λ p. P p.1) ps → All P (set_all xs ps)
  unfolding set_all
  all-set_all P xs [] a b = a
  all-set_all P xs (p ∷ ps) a b = all-set_all P (set xs p.0 p.1) ps (all_set P xs p.0 p.1 a b.0) b.1

module _ {A B : Type 0} where
  pub map-set_all : (f : A → B) (xs : List A) (ps : List (ℕ × A)) → map f (set_all xs ps) ≡ set_all (map f xs) (map (λ p. (p.0, f p.1)) ps)
  unfolding set_all
  map-set_all f xs [] = refl
  map-set_all f xs (p ∷ ps) = map-set_all f (set xs p.0 p.1) ps ∙ ap (λ (ys : List B). set_all ys (map (λ p. (p.0, f p.1)) ps)) (map-set f xs p.0 p.1)

-- A result fits, and its shelf is one of n.
abbrev pub Fitting : Header → ℕ → ℕ × Take → Type 0
Fitting H n r = (r.0 < n) × (fits H r.1 ≡ true)

-- A result as the words of its shelf.
abbrev pub words_for : Header → ℕ × Take → ℕ × List ℕ
words_for H r = (r.0, words_of H r.1)

-- each result's words in its shelf
pub put_all_lem : (H : Header) (shelves : List (List ℕ)) (rs : List (ℕ × Take)) → Whole H.words shelves → All (Fitting H (length shelves)) rs
    → put_all H (session_of H shelves) rs ≡ session_of H (set_all shelves (map (words_for H) rs))
unfolding put_all set_all
put_all_lem H shelves [] w a = refl
put_all_lem H shelves (r ∷ rs) w a =
    let ws = words_of H r.1 in
    let n : length ws ≡ H.words = length_words H r.1 a.0.1 in
    let l : length (set shelves r.0 ws) ≡ length shelves = length-set shelves r.0 ws in
    rw (put_of H shelves w r.0 ws a.0.0 n)
    (put_all_lem H (set shelves r.0 ws) rs (all_set (λ (x : List ℕ). length x ≡ H.words) shelves r.0 ws w n)
    (all_imp (Fitting H (length shelves)) (Fitting H (length (set shelves r.0 ws))) rs (λ s b. (rw l b.0, b.1)) a.1))

-- ---- a session that holds what the machine gives

-- A history of the machine: its pairs name recordings, it is not too long, and its take fits a shelf.
pub record HistoryOk (H : Header) (recordings : List Recording) (pairs : List (ℕ × ℕ)) : Type 0 where
  pub named : All (λ (p : ℕ × ℕ). p.0 < length recordings) pairs
  pub short : length pairs ≤ 4096
  pub fit : fits H (history_take H.delta recordings pairs) ≡ true

-- What every machine fed the calls' own numbers keeps.
pub record Kept (m : Machine) : Type 0 where
  pub header_holds : header_ok m.header (session_length m.header) ≡ true
  pub count : length m.histories ≡ m.header.shelves
  pub histories_ok : All (HistoryOk m.header m.recordings) m.histories
  pub recordings_ok : All (Valid m.header.delta) m.recordings

-- The shelves that the machine gives, and the session that holds them.
unfoldable pub shelves_of : Machine → List (List ℕ)
shelves_of m = map (history_words m.header m.recordings) m.histories

unfoldable pub session_for : Machine → List ℕ
session_for m = session_of m.header (shelves_of m)

module _ (m : Machine) (k : Kept m) where
  pub positive_delta : 0 < m.header.delta
  positive_delta = (ranges m.header (session_length m.header) k.header_holds).positive

  pub small_epsilon : m.header.epsilon ≤ m.header.delta
  small_epsilon = (ranges m.header (session_length m.header) k.header_holds).small

  whole_shelves : Whole m.header.words (shelves_of m)
  unfolding shelves_of history_words
  whole_shelves = go m.histories k.histories_ok
    where
      go : (gs : List (List (ℕ × ℕ))) → All (HistoryOk m.header m.recordings) gs
          → Whole m.header.words (map (history_words m.header m.recordings) gs)
      go [] a = tt
      go (g ∷ gs) a = (length_words m.header (history_take m.header.delta m.recordings g) a.0.fit, go gs a.1)

  count_shelves : length (shelves_of m) ≡ m.header.shelves
  unfolding shelves_of
  count_shelves = length-map (history_words m.header m.recordings) m.histories ∙ k.count

  shelf_at : (i : ℕ) → i < m.header.shelves → get_or (shelves_of m) i [] ≡ history_words m.header m.recordings (history m i)
  unfolding shelves_of
  shelf_at i b = get_d_map (history_words m.header m.recordings) m.histories i [] [] (let d : length m.histories ≡ m.header.shelves = k.count in omega arith)

  -- the words of shelf i are those that its history gives
  pub shelf_is : (i : ℕ) → i < m.header.shelves → shelf m.header (session_for m) i ≡ given_words m i
  unfolding session_for given_words
  shelf_is i b = shelf_of m.header (shelves_of m) whole_shelves i (let c : length (shelves_of m) ≡ m.header.shelves = count_shelves in omega arith) ∙ shelf_at i b

  pub solid_shelf : (i : ℕ) → Solid m.header.delta (history_take m.header.delta m.recordings (history m i))
  solid_shelf i = solid_history m.header.delta positive_delta m.recordings k.recordings_ok (history m i)

  -- and the take in them is the history's
  pub take_is : (i : ℕ) → i < m.header.shelves → take_at m.header (session_for m) i ≡ history_take m.header.delta m.recordings (history m i)
  take_is i b =
      ap (take_in m.header.delta) (shelf_is i b)
      ∙ (unfold given_words history_words in words_take m.header (history_take m.header.delta m.recordings (history m i)) (solid_inner m.header positive_delta (history_take m.header.delta m.recordings (history m i)) (solid_shelf i)))

  put_session : (rs : List (ℕ × Take)) → All (Fitting m.header (length (shelves_of m))) rs
      → put_all m.header (session_for m) rs ≡ session_of m.header (set_all (shelves_of m) (map (words_for m.header) rs))
  unfolding session_for
  put_session rs a = put_all_lem m.header (shelves_of m) rs whole_shelves a

-- ---- an accepted call that writes shelves

-- The machine with these recordings, and with other histories for some shelves.
unfoldable pub edited : Machine → List Recording → List (ℕ × List (ℕ × ℕ)) → Machine
edited m recordings news = record { header = m.header; recordings = recordings; histories = set_all m.histories news }

-- Both sides of one call: what the machine keeps, and the session's words.
pub record Step (next : Machine) (words : List ℕ) : Type 0 where
  pub kept : Kept next
  pub words_are : words ≡ session_for next

-- Later recordings leave what earlier ones give.
pub record Grown (δ : ℕ) (old new : List Recording) : Type 0 where
  pub longer : length old ≤ length new
  pub same : (pairs : List (ℕ × ℕ)) → All (λ (p : ℕ × ℕ). p.0 < length old) pairs → history_take δ new pairs ≡ history_take δ old pairs
  pub valid : All (Valid δ) new

-- A shelf's new history as its take, and what is asked of it.
abbrev pub take_for : Header → List Recording → ℕ × List (ℕ × ℕ) → ℕ × Take
take_for H recordings p = (p.0, history_take H.delta recordings p.1)

abbrev pub Wanted : Header → List Recording → ℕ × List (ℕ × ℕ) → Type 0
Wanted H recordings p = (p.0 < H.shelves) × HistoryOk H recordings p.1

module _ (m : Machine) (k : Kept m) (new : List Recording) (g : Grown m.header.delta m.recordings new) where
  still_ok : (pairs : List (ℕ × ℕ)) → HistoryOk m.header m.recordings pairs → HistoryOk m.header new pairs
  still_ok pairs o = record {
    named = all_imp (λ p. p.0 < length m.recordings) (λ p. p.0 < length new) pairs (λ p b. let l : length m.recordings ≤ length new = g.longer in omega arith) o.named;
    short = o.short;
    fit = ap (fits m.header) (g.same pairs o.named) ∙ o.fit;
  }

  old_words : (gs : List (List (ℕ × ℕ))) → All (HistoryOk m.header m.recordings) gs
      → map (history_words m.header new) gs ≡ map (history_words m.header m.recordings) gs
  unfolding history_words
  old_words [] a = refl
  old_words (h ∷ gs) a = ap₂ ◌∷◌ (ap (words_of m.header) (g.same h a.0.named)) (old_words gs a.1)

  fit_all : (ps : List (ℕ × List (ℕ × ℕ))) → All (Wanted m.header new) ps
      → All (Fitting m.header (length (shelves_of m))) (map (take_for m.header new) ps)
  fit_all [] q = tt
  fit_all (p ∷ ps) q =
      ((let d : p.0 < m.header.shelves = q.0.0 in let c : length (shelves_of m) ≡ m.header.shelves = count_shelves m k in omega arith, q.0.1.fit), fit_all ps q.1)

  shelves_edited : (news : List (ℕ × List (ℕ × ℕ)))
      → set_all (shelves_of m) (map (words_for m.header) (map (take_for m.header new) news)) ≡ shelves_of (edited m new news)
  unfolding shelves_of edited history_words
  shelves_edited news =
      ap (set_all (map (history_words m.header m.recordings) m.histories)) (map-map (words_for m.header) (take_for m.header new) news)
      ∙ ap (λ (xs : List (List ℕ)). set_all xs (map (λ p. words_for m.header (take_for m.header new p)) news)) (sym (old_words m.histories k.histories_ok))
      ∙ sym (map-set_all (history_words m.header new) m.histories news)

  session_edited : (news : List (ℕ × List (ℕ × ℕ))) → session_of m.header (shelves_of (edited m new news)) ≡ session_for (edited m new news)
  unfolding session_for edited
  session_edited news = refl

  kept-edited : (news : List (ℕ × List (ℕ × ℕ))) → All (Wanted m.header new) news → Kept (edited m new news)
  unfolding edited
  kept-edited news a = record {
    header_holds = k.header_holds;
    count = length-set_all m.histories news ∙ k.count;
    histories_ok = all-set_all (HistoryOk m.header new) m.histories news (all_imp (HistoryOk m.header m.recordings) (HistoryOk m.header new) m.histories still_ok k.histories_ok)
        (all_imp (Wanted m.header new) (λ p. HistoryOk m.header new p.1) news (λ p q. q.1) a);
    recordings_ok = g.valid;
  }

  -- the call's results are what the new histories give, and each new history is in order
  pub edit_step : (rs : List (ℕ × Take)) (news : List (ℕ × List (ℕ × ℕ))) → rs ≡ map (take_for m.header new) news
      → All (Wanted m.header new) news
      → Step (edited m new news) (put_all m.header (session_for m) rs)
  edit_step rs news e a = record {
    kept = kept-edited news a;
    words_are = ap (put_all m.header (session_for m)) e ∙ put_session m k (map (take_for m.header new) news) (fit_all news a) ∙ ap (session_of m.header) (shelves_edited news) ∙ session_edited news;
  }

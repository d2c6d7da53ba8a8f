-- Each call in the session and in the plain machine: open, lay, split and join, accepted or refused.
-- Assumes nothing.
use Rattle.std.specs.Prelude.{true, List, [], ◌++◌, ◌∷◌, map, ◌≡◌, ◌+◌, ◌<◌, ◌≤◌, suc, zero, ℕ, get_or, length, replicate}
use Rattle.std.proofs.Common.{◌∙◌, ap₂, subst, sym, arith, length-append, length-drop, length-take}
use Rattle.std.proofs.Math.Path.{ap, refl}
use Rattle.std.proofs.Math.ListN.{drop, take}
use Rattle.std.proofs.lemmas.List.{length-replicate}
use Rattle.std.proofs.Math.Seq.{get_or-append_seam}
use borrow.Author.Tests.{le-leb}
use Rattle.model.specs.Histories.{Recording, history_take, history_words, pairs_of, recording_take, take_of}
use Rattle.model.specs.Machine.{Call, Machine, accepted, fed, history, join_call, lay_call, listed, open_call, opened, recorded, split_call}
use Rattle.model.specs.Questions.{after, fits, header_ok, number, put_all, questions, results, take_at, written}
use Rattle.model.specs.Session.{fresh_words, header_of}
use Rattle.model.specs.Takes.{Take, join_takes, notes_of, split_left, split_right}
use Rattle.model.specs.declared.Header.{Header}
use Rattle.laws.specs.Accepted.{JoinFacts, LayFacts, SplitFacts, all_yes, join_facts, lay_facts, split_facts}
use Rattle.laws.specs.Histories.{grow, join_takes_lem, split_left_lem, split_right_lem}
use Rattle.laws.specs.Laying.{lay, length-pairs_of}
use Rattle.laws.specs.OneNote.{Valid}
use Rattle.laws.specs.Relations.{All, all_append, all-at, all_drop, all_take}
use Rattle.laws.specs.Sessions.{empty_shelf, fresh_session, header_of_lem, session_of}
use Rattle.laws.specs.Steps.{Grown, HistoryOk, Kept, Ranges, Step, edit_step, edited, positive_delta, ranges, session_for, set_all, shelves_of, take_is}

-- ---- one accepted call

step_as : {m n : Machine} {v w : List ℕ} → m ≡ n → v ≡ w → Step m w → Step n v
step_as {n = n} {w = w} p q s = subst (λ (v : List ℕ). Step n v) (sym q) (subst (λ (x : Machine). Step x w) p s)

module _ (H : Header) (v : 3 ≤ H.words) where
  empty_ok : HistoryOk H [] []
  empty_ok = record { named = tt; short = omega arith; fit = unfold fits history_take notes_of in le-leb 3 H.words v }

  all_empty : (n : ℕ) → All (HistoryOk H []) (replicate n [])
  all_empty zero = tt
  all_empty (suc n) = (empty_ok, all_empty n)

  empty_shelves : (n : ℕ) → replicate n (replicate H.words 0) ≡ map (history_words H []) (replicate n [])
  empty_shelves zero = refl
  empty_shelves (suc n) = ap₂ ◌∷◌ (sym (empty_shelf H v [])) (empty_shelves n)

  fresh_for : fresh_words H ≡ session_for (opened H)
  unfolding session_for shelves_of opened
  fresh_for = fresh_session H ∙ ap (session_of H) (empty_shelves H.shelves)

-- Just opened: no recordings, every list and every shelf empty.
pub open_step : (s : List ℕ) (H : Header) → number s (open_call H) ≡ 0 → Step (opened H) (written s (open_call H))
unfolding opened written questions
open_step s H e =
    let q = (all_yes s (open_call H) e).0 in
    let r : Ranges H (length s) = ranges H (length s) q in
    record {
      kept = record {
        header_holds = subst (λ (n : ℕ). header_ok H n ≡ true) r.exact q;
        count = length-replicate H.shelves [];
        histories_ok = all_empty H r.room H.shelves;
        recordings_ok = tt;
      };
      words_are = fresh_for H r.room;
    }

pub history_beats : (δ : ℕ) (recordings : List Recording) (pairs : List (ℕ × ℕ)) → (history_take δ recordings pairs).beats ≡ length pairs
unfolding history_take
history_beats δ recordings pairs = refl

named_pairs : (n r k b : ℕ) → r < n → All (λ (p : ℕ × ℕ). p.0 < n) (pairs_of r k b)
named_pairs n r zero b h = tt
named_pairs n r (suc k) b h = (h, named_pairs n r k (suc b) h)

pub header_for : (m : Machine) → header_of (session_for m) ≡ m.header
unfolding session_for
header_for m = header_of_lem m.header (shelves_of m)

module _ (m : Machine) (k : Kept m) where
  -- a new recording behind the others
  one_more : (r : Recording) → Valid m.header.delta r → Grown m.header.delta m.recordings (m.recordings ++ r ∷ [])
  one_more r v = record {
    longer = rw (length-append m.recordings (r ∷ [])) (omega arith);
    same = grow m.header.delta m.recordings (r ∷ []);
    valid = all_append (Valid m.header.delta) m.recordings (r ∷ []) k.recordings_ok (v, tt);
  }

  -- the same recordings
  no_more : Grown m.header.delta m.recordings m.recordings
  no_more = record { longer = omega arith; same = λ pairs a. refl; valid = k.recordings_ok }

  -- what a recording's own pairs give is its take
  pub own-pairs : (i : ℕ) (r : Recording) → Valid m.header.delta r → (new : List Recording) → get_or new i (record { beats = 0; notes = [] }) ≡ r
      → history_take m.header.delta new (pairs_of i r.beats 0) ≡ recording_take m.header.delta r
  own-pairs i r v new e = lay m.header.delta (positive_delta m k) new i r (unfold take_of in ap (recording_take m.header.delta) e) v.0 v.1

  -- a recording laid
  pub record_step : (i : ℕ) (r : Recording) → i < m.header.shelves → Valid m.header.delta r
      → fits m.header (recording_take m.header.delta r) ≡ true
      → Step (recorded m i r) (put_all m.header (session_for m) ((i, recording_take m.header.delta r) ∷ []))
  record_step i r b v f =
      let n = length m.recordings in
      let new = m.recordings ++ r ∷ [] in
      let l : history_take m.header.delta new (pairs_of n r.beats 0) ≡ recording_take m.header.delta r =
      own-pairs n r v new (get_or-append_seam m.recordings r [] (record { beats = 0; notes = [] })) in
      let w : length new ≡ n + 1 = length-append m.recordings (r ∷ []) in
      let o : HistoryOk m.header new (pairs_of n r.beats 0) = record {
        named = named_pairs (length new) n r.beats 0 (omega arith);
        short = rw (length-pairs_of n r.beats 0) v.0;
        fit = ap (fits m.header) l ∙ f;
      } in
      let p : edited m new ((i, pairs_of n r.beats 0) ∷ []) ≡ recorded m i r = unfold recorded edited set_all in refl in
      step_as p refl
      (edit_step m k new (one_more r v) ((i, recording_take m.header.delta r) ∷ []) ((i, pairs_of n r.beats 0) ∷ []) (ap (λ (t : Take). (i, t) ∷ []) (sym l)) ((b, o), tt))

  pub lay_step : (i beats : ℕ) (ws : List ℕ) → number (session_for m) (lay_call i beats ws) ≡ 0
      → Step (accepted m (lay_call i beats ws)) (written (session_for m) (lay_call i beats ws))
  lay_step i beats ws e =
      let s = session_for m in
      let r = listed beats ws in
      let a : LayFacts m.header s i beats ws = subst (λ (h : Header). LayFacts h s i beats ws) (header_for m) (lay_facts s i beats ws e) in
      let p : recorded m i r ≡ accepted m (lay_call i beats ws) = unfold accepted in refl in
      let q : written s (lay_call i beats ws) ≡ put_all m.header s ((i, recording_take m.header.delta r) ∷ []) =
      unfold written results in ap (λ (h : Header). put_all h s ((i, recording_take h.delta r) ∷ [])) (header_for m) in
      step_as p q (record_step i r a.shelf-below a.valid a.fit)

  -- a part of a history is in order, if its take fits
  part_ok : (pairs part : List (ℕ × ℕ)) → HistoryOk m.header m.recordings pairs → All (λ (p : ℕ × ℕ). p.0 < length m.recordings) part
      → length part ≤ length pairs
      → fits m.header (history_take m.header.delta m.recordings part) ≡ true → HistoryOk m.header m.recordings part
  part_ok pairs part o n l f = let b : length pairs ≤ 4096 = o.short in record { named = n; short = omega arith; fit = f }

  pub history_ok : (i : ℕ) → i < m.header.shelves → HistoryOk m.header m.recordings (history m i)
  history_ok i b = all-at (HistoryOk m.header m.recordings) m.histories i [] k.histories_ok (let c : length m.histories ≡ m.header.shelves = k.count in omega arith)

  pub split_step : (i n l r : ℕ) → number (session_for m) (split_call i n l r) ≡ 0
      → Step (accepted m (split_call i n l r)) (written (session_for m) (split_call i n l r))
  split_step i n l r e =
      let s = session_for m in
      let H = m.header in
      let R = m.recordings in
      let g = history m i in
      let a : SplitFacts H s i n l r = subst (λ (h : Header). SplitFacts h s i n l r) (header_for m) (split_facts s i n l r e) in
      let t : take_at H s i ≡ history_take H.delta R g = take_is m k i a.take_below in
      let o : HistoryOk H R g = history_ok i a.take_below in
      let w : n ≤ length g = subst (λ (x : ℕ). n ≤ x) (ap (λ (v : Take). v.beats) t ∙ history_beats H.delta R g) a.within in
      let x : split_left H.delta n (take_at H s i) ≡ history_take H.delta R (take n g) = ap (split_left H.delta n) t ∙ split_left_lem H.delta (positive_delta m k) R n g w in
      let y : split_right H.delta n (take_at H s i) ≡ history_take H.delta R (drop n g) = ap (split_right H.delta n) t ∙ split_right_lem H.delta (positive_delta m k) R n g w in
      let ox : HistoryOk H R (take n g) = part_ok g (take n g) o (all_take (λ (p : ℕ × ℕ). p.0 < length R) n g o.named) (rw (length-take n g) (omega arith)) (ap (fits H) (sym x) ∙ a.left_fit) in
      let oy : HistoryOk H R (drop n g) = part_ok g (drop n g) o (all_drop (λ (p : ℕ × ℕ). p.0 < length R) n g o.named) (rw (length-drop n g) (omega arith)) (ap (fits H) (sym y) ∙ a.right_fit) in
      let rs : List (ℕ × Take) = (l, split_left H.delta n (take_at H s i)) ∷ (r, split_right H.delta n (take_at H s i)) ∷ [] in
      let p : edited m R ((l, take n g) ∷ (r, drop n g) ∷ []) ≡ accepted m (split_call i n l r) = unfold accepted edited set_all in refl in
      let q : written s (split_call i n l r) ≡ put_all H s rs =
      unfold written results in ap (λ (h : Header). put_all h s ((l, split_left h.delta n (take_at h s i)) ∷ (r, split_right h.delta n (take_at h s i)) ∷ [])) (header_for m) in
      step_as p q (edit_step m k R no_more rs ((l, take n g) ∷ (r, drop n g) ∷ []) (ap₂ (λ (u v : Take). (l, u) ∷ (r, v) ∷ []) x y) ((a.left_below, ox), ((a.right-below, oy), tt)))

  pub join_step : (i j n : ℕ) → number (session_for m) (join_call i j n) ≡ 0
      → Step (accepted m (join_call i j n)) (written (session_for m) (join_call i j n))
  join_step i j n e =
      let s = session_for m in
      let H = m.header in
      let R = m.recordings in
      let a : JoinFacts H s i j n = subst (λ (h : Header). JoinFacts h s i j n) (header_for m) (join_facts s i j n e) in
      let t : take_at H s i ≡ history_take H.delta R (history m i) = take_is m k i a.first_below in
      let u : take_at H s j ≡ history_take H.delta R (history m j) = take_is m k j a.second_below in
      let g = history m i ++ history m j in
      let x : join_takes H.delta (take_at H s i) (take_at H s j) ≡ history_take H.delta R g = ap₂ (join_takes H.delta) t u ∙ join_takes_lem H.delta (positive_delta m k) R (history m i) (history m j) in
      let bi : (take_at H s i).beats ≡ length (history m i) = ap (λ (v : Take). v.beats) t ∙ history_beats H.delta R (history m i) in
      let bj : (take_at H s j).beats ≡ length (history m j) = ap (λ (v : Take). v.beats) u ∙ history_beats H.delta R (history m j) in
      let b : (take_at H s i).beats + (take_at H s j).beats ≤ 4096 = a.short in
      let o : HistoryOk H R g = record {
        named = all_append (λ (p : ℕ × ℕ). p.0 < length R) (history m i) (history m j) (history_ok i a.first_below).named (history_ok j a.second_below).named;
        short = rw (length-append (history m i) (history m j)) (subst (λ (x : ℕ). x ≤ 4096) (ap₂ ◌+◌ bi bj) b);
        fit = ap (fits H) (sym x) ∙ a.fit;
      } in
      let rs : List (ℕ × Take) = (n, join_takes H.delta (take_at H s i) (take_at H s j)) ∷ [] in
      let p : edited m R ((n, g) ∷ []) ≡ accepted m (join_call i j n) = unfold accepted edited set_all in refl in
      let q : written s (join_call i j n) ≡ put_all H s rs = unfold written results in ap (λ (h : Header). put_all h s ((n, join_takes h.delta (take_at h s i) (take_at h s j)) ∷ [])) (header_for m) in
      step_as p q (edit_step m k R no_more rs ((n, g) ∷ []) (ap (λ (v : Take). (n, v) ∷ []) x) ((a.result_below, o), tt))

  accepted_step : (c : Call) → number (session_for m) c ≡ 0 → Step (accepted m c) (written (session_for m) c)
  accepted_step (open_call H) e = let p : opened H ≡ accepted m (open_call H) = unfold accepted in refl in step_as p refl (open_step (session_for m) H e)
  accepted_step (lay_call i beats ws) e = lay_step i beats ws e
  accepted_step (split_call i n l r) e = split_step i n l r e
  accepted_step (join_call i j n) e = join_step i j n e

-- ---- accepted or refused

pub after-done : (s : List ℕ) (c : Call) → number s c ≡ zero → after s c ≡ written s c
unfolding after
after-done s c e = rw (e, after)

pub after_refused : (s : List ℕ) (c : Call) (n : ℕ) → number s c ≡ suc n → after s c ≡ s
unfolding after
after_refused s c n e = rw (e, after)

fed-done : (m : Machine) (c : Call) (n : ℕ) → n ≡ zero → fed m (c, n) ≡ accepted m c
unfolding fed
fed-done m c n e = rw (e, fed)

fed_refused : (m : Machine) (c : Call) (n k : ℕ) → n ≡ suc k → fed m (c, n) ≡ m
unfolding fed
fed_refused m c n k e = rw (e, fed)

-- a session that holds what the machine gives still does after any call
pub call_step : (m : Machine) → Kept m → (c : Call) → Step (fed m (c, number (session_for m) c)) (after (session_for m) c)
call_step m k c = go (number (session_for m) c) refl
  where
    go : (n : ℕ) → number (session_for m) c ≡ n → Step (fed m (c, number (session_for m) c)) (after (session_for m) c)
    go zero e = step_as (sym (fed-done m c (number (session_for m) c) e)) (after-done (session_for m) c e) (accepted_step m k c e)
    go (suc n) e = step_as (sym (fed_refused m c (number (session_for m) c) n e)) (after_refused (session_for m) c n e) (record { kept = k; words_are = refl })

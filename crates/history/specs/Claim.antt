-- Demand 3: any list of lay, load, split and join calls on a fresh session, refused ones included; one claim about the whole list, and
-- its two consequences. A list may also open the session anew; then the machine starts anew with it. Assumes nothing.
use Rattle.std.specs.Prelude.{List, [], ◌++◌, ◌∷◌, ◌≡◌, refl, ◌<◌, suc, zero, ℕ, get_or, length}
use Rattle.std.proofs.Common.{append_assoc, append-nil, ◌∙◌, ap, ap₂, subst, sym}
use Rattle.model.specs.Histories.{Recording, history_take, history_words, pairs_of, recording_take}
use Rattle.model.specs.Lists.{gather}
use Rattle.model.specs.Machine as M
use Rattle.model.specs.Machine.{Machine, given_words, history, join_call, lay_call, listed, open_call, opened, recorded, split_call}
use Rattle.model.specs.Pieces.{cells_of_note}
use Rattle.model.specs.Questions as Q
use Rattle.model.specs.Session.{shelf}
use Rattle.model.specs.Takes.{Take, notes_of, shelf_words, words_of}
use Rattle.model.specs.declared.Header.{Header}
use Rattle.laws.specs.CallSteps.{after-done, history_ok, open_step, own-pairs}
use Rattle.laws.specs.Healing.{laid_words, notes_again}
use Rattle.laws.specs.Histories.{grow}
use Rattle.laws.specs.OneNote.{Valid}
use Rattle.laws.specs.Relations.{All, all-at}
use Rattle.midi.specs.Reading.{FileAnswer, refused, read, read_file}
use Rattle.history.specs.Lists.{Call, beat_call, load_call, number, after, accepted, recorded_file, fed, answered, after_all, fed_all}
use Rattle.history.specs.Steps.{list_step}
use Rattle.laws.specs.Steps.{Kept, Step, positive_delta, session_for, shelf_is}

-- ---- the claim

module _ (s : List ℕ) (H : Header) (o : Q.number s (open_call H) ≡ 0) where
  -- The session's words after open and then the calls, each given the session as the one before left it.
  abbrev pub session_after : List Call → List ℕ
  session_after cs = after_all (Q.after s (open_call H)) cs

  -- The plain machine, fed the calls and the numbers that they returned.
  abbrev pub machine_after : List Call → Machine
  machine_after cs = fed_all (opened H) (answered (Q.after s (open_call H)) cs)

  run : (cs : List Call) → Step (machine_after cs) (session_after cs)
  run cs =
      let p : Step (opened H) (Q.written s (open_call H)) = open_step s H o in
      let e : Q.after s (open_call H) ≡ session_for (opened H) = after-done s (open_call H) o ∙ p.words_are in
      subst (λ (w : List ℕ). Step (fed_all (opened H) (answered w cs)) (after_all w cs)) (sym e) (list_step cs (opened H) p.kept)

  pub machine_kept : (cs : List Call) → Kept (machine_after cs)
  machine_kept cs = (run cs).kept

  -- Every word of the session: the header's, and those that the shelves' histories give.
  pub session_claim : (cs : List Call) → session_after cs ≡ session_for (machine_after cs)
  session_claim cs = (run cs).words_are

  -- All W words of each shelf are exactly those which the recordings' own beats give in the order of its history.
  pub shelf_claim : (cs : List Call) (i : ℕ) → i < (machine_after cs).header.shelves
      → shelf (machine_after cs).header (session_after cs) i ≡ given_words (machine_after cs) i
  shelf_claim cs i b =
      ap (λ (w : List ℕ). shelf (machine_after cs).header w i) (session_claim cs) ∙ shelf_is (machine_after cs) (machine_kept cs) i b

-- ---- calls that edit

-- Lay, load, split and join: all calls but open.
abbrev pub Edit : Call → Type 0
Edit (beat_call (open_call h)) = ⊥
Edit (beat_call (lay_call i beats ws)) = Unit {0}
Edit (beat_call (split_call i k l r)) = Unit {0}
Edit (beat_call (join_call i j k)) = Unit {0}
Edit (load_call i file) = Unit {0}

-- The machine at a later point: the same header, the same recordings and perhaps more.
pub record Later (m n : Machine) : Type 0 where
  pub header_same : n.header ≡ m.header
  pub more : List Recording
  pub grew : n.recordings ≡ m.recordings ++ more

later_now : (m : Machine) → Later m m
later_now m = record { header_same = refl; more = []; grew = sym (append-nil m.recordings) }

later_then : (l m n : Machine) → Later l m → Later m n → Later l n
later_then l m n p q = record {
  header_same = q.header_same ∙ p.header_same;
  more = p.more ++ q.more;
  grew = q.grew ∙ ap (λ (rs : List Recording). rs ++ q.more) p.grew ∙ append_assoc l.recordings p.more q.more;
}

read_later : (m : Machine) (i : ℕ) (a : FileAnswer) → Later m (recorded_file m i a)
unfolding recorded_file recorded
read_later m i (refused n) = later_now m
read_later m i (read r) = record { header_same = refl; more = r ∷ []; grew = refl }

edit_later : (m : Machine) (c : Call) → Edit c → Later m (accepted m c)
unfolding accepted M.accepted recorded
edit_later m (beat_call (open_call h)) e = absurd e
edit_later m (beat_call (lay_call i beats ws)) e = record { header_same = refl; more = listed beats ws ∷ []; grew = refl }
edit_later m (beat_call (split_call i k l r)) e = record { header_same = refl; more = []; grew = sym (append-nil m.recordings) }
edit_later m (beat_call (join_call i j k)) e = record { header_same = refl; more = []; grew = sym (append-nil m.recordings) }
edit_later m (load_call i file) e = read_later m i (read_file m.header.delta file)

fed_later : (m : Machine) (c : Call) (n : ℕ) → Edit c → Later m (fed m (c, n))
unfolding fed
fed_later m c zero e = edit_later m c e
fed_later m c (suc n) e = later_now m

all_later : (ds : List Call) (s : List ℕ) (m : Machine) → All Edit ds → Later m (fed_all m (answered s ds))
unfolding fed_all answered
all_later [] s m a = later_now m
all_later (d ∷ ds) s m a =
    let n = fed m (d, number s d) in
    later_then m n (fed_all n (answered (after s d) ds)) (fed_later m d (number s d) a.0) (all_later ds (after s d) n a.1)

fed-append : (cs ds : List Call) (s : List ℕ) (m : Machine)
    → fed_all m (answered s (cs ++ ds)) ≡ fed_all (fed_all m (answered s cs)) (answered (after_all s cs) ds)
unfolding fed_all answered after_all
fed-append [] ds s m = refl
fed-append (c ∷ cs) ds s m = fed-append cs ds (after s c) (fed m (c, number s c))

-- ---- the consequences

given_same : (m n : Machine) (i j : ℕ) → Later m n → history m i ≡ history n j → All (λ (p : ℕ × ℕ). p.0 < length m.recordings) (history m i)
    → given_words n j ≡ given_words m i
unfolding given_words history_words
given_same m n i j l e w =
    ap₂ (λ (h : Header) (pairs : List (ℕ × ℕ)). words_of h (history_take h.delta n.recordings pairs)) l.header_same (sym e)
    ∙ ap (λ (rs : List Recording). words_of m.header (history_take m.header.delta rs (history m i))) l.grew
    ∙ ap (words_of m.header) (grow m.header.delta m.recordings l.more (history m i) w)

given-take : (m : Machine) (i : ℕ) (t : Take) → history_take m.header.delta m.recordings (history m i) ≡ t
    → given_words m i ≡ words_of m.header t
unfolding given_words history_words
given-take m i t e = ap (words_of m.header) e

module _ (s : List ℕ) (H : Header) (o : Q.number s (open_call H) ≡ 0) where
  later_point : (cs ds : List Call) → All Edit ds → Later (machine_after s H o cs) (machine_after s H o (cs ++ ds))
  later_point cs ds a =
      subst (λ (n : Machine). Later (machine_after s H o cs) n) (sym (fed-append cs ds (Q.after s (open_call H)) (opened H))) (all_later ds (session_after s H o cs) (machine_after s H o cs) a)

  -- Two shelves of equal history hold equal words, at whatever two points of one list of edits they are read.
  pub equal_histories : (cs ds : List Call) → All Edit ds → (i j : ℕ) → i < (machine_after s H o cs).header.shelves
      → j < (machine_after s H o cs).header.shelves
      → history (machine_after s H o cs) i ≡ history (machine_after s H o (cs ++ ds)) j
      → shelf (machine_after s H o cs).header (session_after s H o cs) i ≡ shelf (machine_after s H o cs).header (session_after s H o (cs ++ ds)) j
  equal_histories cs ds a i j bi bj e =
      let m = machine_after s H o cs in
      let n = machine_after s H o (cs ++ ds) in
      let l : Later m n = later_point cs ds a in
      let h : n.header ≡ m.header = l.header_same in
      let b : j < n.header.shelves = subst (λ (x : Header). j < x.shelves) (sym h) bj in
      let k : Kept m = machine_kept s H o cs in
      let w : All (λ (p : ℕ × ℕ). p.0 < length m.recordings) (history m i) = (history_ok m k i bi).named in
      let x : given_words n j ≡ given_words m i = given_same m n i j l e w in
      shelf_claim s H o cs i bi ∙ sym x ∙ sym (shelf_claim s H o (cs ++ ds) j b) ∙ ap (λ (x : Header). shelf x (session_after s H o (cs ++ ds)) j) h

  -- A shelf whose history is all the beats of one recording in their order is that recording again: exactly its notes and all its cells.
  pub recording_again : (cs : List Call) (i r : ℕ) (R : Recording) → i < (machine_after s H o cs).header.shelves
      → r < length (machine_after s H o cs).recordings
      → get_or (machine_after s H o cs).recordings r (record { beats = 0; notes = [] }) ≡ R
      → history (machine_after s H o cs) i ≡ pairs_of r R.beats 0
      → shelf (machine_after s H o cs).header (session_after s H o cs) i
      ≡ shelf_words (machine_after s H o cs).header.words R.beats R.notes (gather (cells_of_note (machine_after s H o cs).header.delta) R.notes)
  recording_again cs i r R b c e h =
      let m = machine_after s H o cs in
      let k : Kept m = machine_kept s H o cs in
      let v : Valid m.header.delta R = subst (Valid m.header.delta) e (all-at (Valid m.header.delta) m.recordings r (record { beats = 0; notes = [] }) k.recordings_ok c) in
      let x : history_take m.header.delta m.recordings (history m i) ≡ recording_take m.header.delta R =
      ap (history_take m.header.delta m.recordings) h ∙ own-pairs m k r R v m.recordings e in
      let y : notes_of m.header (recording_take m.header.delta R) ≡ R.notes = notes_again m.header (positive_delta m k) R v.1 in
      shelf_claim s H o cs i b ∙ given-take m i (recording_take m.header.delta R) x ∙ laid_words m.header R y

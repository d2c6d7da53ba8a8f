-- A session that holds what the machine gives still does after any call, a load among them. Assumes nothing.
use Rattle.std.specs.Prelude.{Bool, true, false, List, [], ◌∷◌, ◌≡◌, ltb, length}
use Rattle.std.proofs.Math.Path.{refl, subst}
use Rattle.std.proofs.Common.{sym, arith, ltb-true}
use Prim.Native.Nat.{◌<◌, ◌≤◌, suc, zero, ℕ}
use Rattle.model.specs.Histories.{Recording, recording_take}
use Rattle.model.specs.Machine as M
use Rattle.model.specs.Machine.{Machine}
use Rattle.model.specs.Questions.{first_no, fits, header_ok, put_all}
use Rattle.model.specs.Session.{header_of}
use Rattle.model.specs.declared.Header.{Header}
use Rattle.laws.specs.CallSteps.{call_step, header_for, record_step}
use Rattle.laws.specs.OneNote.{Valid}
use Rattle.laws.specs.Steps.{Kept, Step, positive_delta, session_for}
use Rattle.midi.specs.Reading.{FileAnswer, refused, read, read_file}
use Rattle.midi.proofs.Recordings.{read_valid, refused_number}
use Rattle.file.specs.Calls.{file_questions, load_questions, load_number, loaded, load_after}
use Rattle.history.specs.Lists.{Call, beat_call, load_call, number, after, accepted, recorded_file, fed, answered, after_all, fed_all}

-- ---- a load that returned 0

-- its questions are answered yes
record Loads (h : Header) (s : List ℕ) (i : ℕ) (a : FileAnswer) : Type 0 where
  pub below : i < h.shelves
  pub recording : Recording
  pub was_read : a ≡ read recording
  pub fit : fits h (recording_take h.delta recording) ≡ true

loads : (s : List ℕ) (i : ℕ) (file : List ℕ) → 0 < (header_of s).delta → load_number s i file ≡ 0 → Loads (header_of s) s i (read_file (header_of s).delta file)
unfolding load_number load_questions first_no file_questions
loads s i file z e = go (header_ok h (length s)) (ltb i h.shelves) (read_file h.delta file) refl refl e
  where
    h : Header
    h = header_of s

    fit_by : (r : Recording) (b : Bool) → fits h (recording_take h.delta r) ≡ b → first_no ((8, b) ∷ []) ≡ 0 → b ≡ true
    fit_by r true f x = refl
    fit_by r false f x = absurd (omega arith)

    go : (a b : Bool) (f : FileAnswer) → ltb i h.shelves ≡ b → read_file h.delta file ≡ f → first_no ((1, a) ∷ (2, b) ∷ file_questions h f) ≡ 0 → Loads h s i f
    go false b f eb ef x = absurd (omega arith)
    go true false f eb ef x = absurd (omega arith)
    go true true (refused n) eb ef x = let p : 9 ≤ n = (refused_number h.delta z file n ef).0 in absurd (omega arith)
    go true true (read r) eb ef x =
        record { below = ltb-true i h.shelves eb; recording = r; was_read = refl; fit = fit_by r (fits h (recording_take h.delta r)) refl x }

module _ (m : Machine) (k : Kept m) (i : ℕ) (file : List ℕ) where
  abbrev h : Header
  h = m.header

  abbrev answer : FileAnswer
  answer = read_file h.delta file

  load_facts : load_number (session_for m) i file ≡ 0 → Loads h (session_for m) i answer
  load_facts e =
      subst (λ (g : Header). 0 < g.delta → Loads g (session_for m) i (read_file g.delta file)) (header_for m) (λ z. loads (session_for m) i file z e) (positive_delta m k)

  load_done : load_number (session_for m) i file ≡ 0 → Step (accepted m (load_call i file)) (loaded h (session_for m) i answer)
  unfolding accepted recorded_file loaded
  load_done e =
      let a = load_facts e in
      let r = a.recording in
      let v : Valid h.delta r = read_valid h.delta (positive_delta m k) file r a.was_read in
      let s = record_step m k i r a.below v a.fit in
      rw a.was_read (unfold put_all in s)

  pub load_step : Step (fed m (load_call i file, load_number (session_for m) i file)) (load_after (session_for m) i file)
  unfolding fed load_after
  load_step = go (load_number (session_for m) i file) refl
    where
      go : (n : ℕ) → load_number (session_for m) i file ≡ n → Step (fed m (load_call i file, n)) (elim n [ zero ↦ loaded (header_of (session_for m)) (session_for m) i (read_file (header_of (session_for m)).delta file) | suc n ↦ session_for m ])
      go zero e = subst (λ (g : Header). Step (accepted m (load_call i file)) (loaded g (session_for m) i (read_file g.delta file))) (sym (header_for m)) (load_done e)
      go (suc n) e = record { kept = k; words_are = refl }

-- ---- any call, and any list of them

pub any_step : (m : Machine) → Kept m → (c : Call) → Step (fed m (c, number (session_for m) c)) (after (session_for m) c)
unfolding fed accepted number after M.fed
any_step m k (beat_call c) = call_step m k c
any_step m k (load_call i file) = load_step m k i file

pub list_step : (cs : List Call) (m : Machine) → Kept m → Step (fed_all m (answered (session_for m) cs)) (after_all (session_for m) cs)
unfolding fed_all answered after_all
list_step [] m k = record { kept = k; words_are = refl }
list_step (c ∷ cs) m k =
    let s : Step (fed m (c, number (session_for m) c)) (after (session_for m) c) = any_step m k c in
    let next = fed m (c, number (session_for m) c) in
    subst (λ (w : List ℕ). Step (fed_all next (answered w cs)) (after_all w cs)) (sym s.words_are) (list_step cs next s.kept)

-- Sessions in lent words: the first words give way to others, and those behind stay. Assumes nothing.
use Rattle.std.specs.Prelude.{◌≡◌, List, ◌++◌, ℕ, ◌+◌, ◌≤◌, length, take, drop, Result}
use Rattle.std.proofs.Common.{sym, ap, ◌∙◌, arith, length-take-le}
use lib.ListN.{take-append-drop}
use Rattle.words.specs.Splice.{splice, splice-parts}
use Rattle.words.specs.Parts.{part-splice-written}
use Rattle.frames.specs.Lines.{Frame}
use Rattle.frames.specs.Answers.{session_after}
use Rattle.frames.specs.Calling.{Changed}
use Rattle.frames.specs.Answering.{Answers}
use Rattle.frames.specs.Lent.{GivesWay, Opened, AnswersIn}
use Rattle.frames.specs.declared.calls.Refusal.{Refusal}
use Rattle.frames.specs.declared.calls.Done.{Done}
use Rattle.frames.specs.declared.answers.Answered.{Answered}

-- words with other words at the start, as a part of them is written
put_first : (l p : List ℕ) (n : ℕ) → length p ≡ n → n ≤ length l → p ++ drop n l ≡ splice l 0 p
put_first l p n e fits = let z : 0 + length p ≡ n = omega arith in sym (rw z at (splice-parts l 0 p (omega arith)))

module _ {words : List ℕ} {held : ℕ} (whole : length words ≡ 8192) {f : Frame} where
  -- a session that is kept
  pub gives_same : held ≤ 8192 → take held words ≡ session_after (take held words) f → GivesWay words held f words held
  gives_same within e =
      let long = length-take-le held words (omega arith) in
      record {
        session = sym (take-append-drop held words) ∙ put_first words (take held words) held long (omega arith) ∙ ap (splice words 0) e;
        size = sym long ∙ ap length e;
        few = within;
      }

  pub call_kept : held ≤ 8192 → {r : Result (Unit {0}) Refusal} → Changed (take held words) f (take held words) r
      → Opened words held f words (record { outcome = r; size = held })
  call_kept within c = record { number = c.number; gives = gives_same within c.session; file = c.file }

  -- a call on the first n words
  pub call_part : {n : ℕ} → n ≤ 8192 → {p : List ℕ} → length p ≡ length (take n words) → {r : Result (Unit {0}) Refusal} → Changed (take held words) f p r
      → Opened words held f (p ++ drop n words) (record { outcome = r; size = n })
  call_part {n} small {p} same c =
      let long : length p ≡ n = same ∙ length-take-le n words (omega arith) in
      record {
        number = c.number;
        gives = record { session = put_first words p n long (omega arith) ∙ ap (splice words 0) c.session; size = sym long ∙ ap length c.session; few = small };
        file = c.file;
      }

  -- the session afterwards
  given_words : {words' : List ℕ} {n : ℕ} → GivesWay words held f words' n → take n words' ≡ session_after (take held words) f
  given_words g = rw (g.size, g.session) (part-splice-written words 0 (session_after (take held words) f) (omega (arith, g.size, g.few)))

  pub opened_changed : {words' : List ℕ} {r : Done} → Opened words held f words' r → Changed (take held words) f (take r.size words') r.outcome
  opened_changed o = record { number = o.number; session = given_words o.gives; file = o.file }

  pub answers_of : {out : List ℕ} {at : ℕ} {words' out' : List ℕ} {r : Answered} → AnswersIn words held out at f words' out' r
      → Answers (take held words) out at f (take r.length words') out' r.end
  answers_of a = record { session = given_words a.gives; put = a.put }

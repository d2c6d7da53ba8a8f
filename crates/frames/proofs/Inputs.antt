-- Input byte by byte: what one byte leaves, and bytes one behind the other. Assumes nothing.
use Rattle.std.specs.Prelude.{◌≡◌, refl, List, [], ◌∷◌, ◌++◌, ℕ, zero, suc, ◌+◌, ◌-◌, ◌*◌, ◌≤◌, ◌<◌, length, get_or, set, take, drop}
use Rattle.std.proofs.Common.{sym, ap, ◌∙◌, append-nil, append_assoc, add-one, arith, ne_eqb, length-append, length-drop, length-take-le, drop_of_length-le}
use Rattle.std.proofs.lemmas.Bool.{lt-ltb, le-ltb}
use Rattle.std.proofs.lemmas.List.{drop-append-le}
use lib.ListN.{take-append-drop}
use lib.Seq.{take_all, take-suc, take-suc-set, drop-drop}
use Rattle.words.specs.Splice.{splice, splice-append}
use Rattle.frames.specs.Lines.{frame_in}
use Rattle.frames.specs.Answers.{answer_of, line_answer, line_after}
use Rattle.frames.specs.Answering.{Answers}
use Rattle.frames.specs.Input.{kept, taken, written, taken_all, written_all, written_last}
use Rattle.frames.specs.Blocks.{Takes, TakesOne, ReadOn}
use Rattle.frames.specs.Lent.{AnswersIn, reading_of, Holds, TakesOneIn, ReadOnIn}
use Rattle.frames.specs.Loop.{Flushed, ReadWhole, Reads, ReadSome, Last}
use Rattle.frames.specs.declared.answers.Answered.{Answered}
use Rattle.frames.specs.declared.input.Reading.{Reading}
use Rattle.frames.specs.declared.input.Stop.{Stop}
use Rattle.frames.specs.declared.input.Progress.{Progress}
use Rattle.frames.specs.declared.program.Progress as Program
use Rattle.frames.proofs.Lending.{answers_of}
use Rattle.frames.proofs.Putting.{take-splice}

-- ---- one byte

module _ {r : Reading} {out : List ℕ} {at : ℕ} where
  pub takes-end : {s out' : List ℕ} {to : ℕ} → Answers r.session out at (frame_in r.line) s out' to → TakesOne r out at 10 (record { session = s; line = [] }) out' to
  unfolding taken_all written_all taken written line_answer line_after
  takes-end a =
      let f = frame_in r.line in
      let all = sym (append-nil (answer_of r.session f)) in
      record {
        takes = record {
          state = ap (λ (x : List ℕ). record { session = x; line = [] }) a.session;
          output = a.put.output ∙ ap (splice out at) all;
          end = a.put.end ∙ ap (λ (x : List ℕ). at + length x) all;
        };
        small = a.put.few;
      }

  pub takes_kept : {c : ℕ} {line : List ℕ} → (c ≡ 10 → ⊥) → line ≡ kept r.line c → TakesOne r out at c (record { session = r.session; line = line }) out at
  unfolding taken_all written_all taken written splice
  takes_kept {c} other e =
      let no = ne_eqb c 10 other in
      record {
        takes = record { state = rw no (ap (λ (x : List ℕ). record { session = r.session; line = x }) e); output = rw no; end = rw no (omega arith) };
        small = omega arith;
      }

-- the last line, if it has a character
last_none : (r : Reading) → r.line ≡ [] → written_last r ≡ []
unfolding written_last
last_none r e = rw e

last_some : (r : Reading) → (r.line ≡ [] → ⊥) → written_all r (10 ∷ []) ≡ written_last r
unfolding written_last written_all written
last_some r some =
    rw (ne_eqb (length r.line) 0 (λ e. some (empty r.line e))) (append-nil (line_answer r.session r.line))
  where
    empty : (l : List ℕ) → length l ≡ 0 → l ≡ []
    empty [] e = refl
    empty (x ∷ l) e = absurd (omega arith)

-- ---- bytes one behind the other

taken-append : (r : Reading) (bs cs : List ℕ) → taken_all r (bs ++ cs) ≡ taken_all (taken_all r bs) cs
unfolding taken_all
taken-append r [] cs = refl
taken-append r (b ∷ bs) cs = taken-append (taken r b) bs cs

written-append : (r : Reading) (bs cs : List ℕ) → written_all r (bs ++ cs) ≡ written_all r bs ++ written_all (taken_all r bs) cs
unfolding written_all taken_all
written-append r [] cs = refl
written-append r (b ∷ bs) cs = rw (written-append (taken r b) bs cs) (sym (append_assoc (written r b) (written_all (taken r b) bs) (written_all (taken_all (taken r b) bs) cs)))

-- ---- a block

takes_none : (r : Reading) (out : List ℕ) (at : ℕ) → Takes r out at [] r out at
unfolding taken_all written_all splice
takes_none r out at = record { state = refl; output = refl; end = omega arith }

takes_append : {r : Reading} {out : List ℕ} {at : ℕ} {bs : List ℕ} {r₁ : Reading} {out₁ : List ℕ} {to₁ : ℕ} {cs : List ℕ} {r₂ : Reading} {out₂ : List ℕ} {to₂ : ℕ}
    → Takes r out at bs r₁ out₁ to₁ → Takes r₁ out₁ to₁ cs r₂ out₂ to₂ → Takes r out at (bs ++ cs) r₂ out₂ to₂
takes_append {r} {out} {at} {bs} {r₁} {out₁} {to₁} {cs} {r₂} {out₂} {to₂} a b =
    let us = written_all r bs in
    let ws = written_all (taken_all r bs) cs in
    let state' : r₂ ≡ taken_all (taken_all r bs) cs = rw a.state at b.state in
    let output' : out₂ ≡ splice out₁ to₁ ws = rw a.state at b.output in
    let end' : to₂ ≡ to₁ + length ws = rw a.state at b.end in
    let more = written-append r bs cs in
    record {
      state = state' ∙ sym (taken-append r bs cs);
      output = output' ∙ rw (a.output, a.end, more) (sym (splice-append out at us ws));
      end = omega (arith, end', a.end, ap length more, length-append us ws);
    }

-- the first i bytes of the block are taken, and the answers end inside the output
pub record Goes (r : Reading) (out : List ℕ) (at : ℕ) (block : List ℕ) (i : ℕ) (r' : Reading) (out' : List ℕ) (to : ℕ) : Type 0 where
  pub takes : Takes r out at (take i block) r' out' to
  pub inside : to ≤ length out

pub goes_start : (r : Reading) (out : List ℕ) (at : ℕ) (block : List ℕ) → at ≤ length out → Goes r out at block 0 r out at
goes_start r out at block inside = record { takes = takes_none r out at; inside = inside }

module _ {r : Reading} {out : List ℕ} {at : ℕ} {block : List ℕ} {i : ℕ} {r' : Reading} {out' : List ℕ} {to : ℕ} (g : Goes r out at block i r' out' to) where
  pub goes_on : i < length block → to + 16387 ≤ length out → {s : Reading} {t : List ℕ} {end : ℕ} → TakesOne r' out' to (get_or block i 0) s t end → Goes r out at block (i + 1) s t end
  goes_on more room {s} {t} {end} one =
      let next : take i block ++ get_or block i 0 ∷ [] ≡ take (i + 1) block = rw (add-one i) (sym (take-suc block i 0 more)) in
      record { takes = rw next at (takes_append g.takes one.takes); inside = omega (arith, one.small) }

  pub goes_stop : i < length block → length out < to + 16387 → ReadOn block r out at r' out' (record { taken = i; end = to })
  goes_stop more full = record { within = omega arith; takes = g.takes; room = g.inside; stops = λ h. full }

  pub goes_done : length block ≤ i → ReadOn block r out at r' out' (record { taken = length block; end = to })
  goes_done end =
      let all : take i block ≡ take (length block) block = take_all i block end ∙ sym (take_all (length block) block (omega arith)) in
      record { within = omega arith; takes = rw all at g.takes; room = g.inside; stops = λ h. absurd (omega arith) }

-- ---- lent lists

module _ (line : List ℕ) (n c : ℕ) (whole : length line ≡ 4001) where
  pub keep_more : n < 4001 → take (n + 1) (set line n c) ≡ kept (take n line) c
  keep_more h =
      let long = length-take-le n line (omega arith) in
      rw (add-one n, take-suc-set line n c (omega arith), lt-ltb (length (take n line)) 4001 (omega arith))

  pub keep-none : n ≤ 4001 → 4001 ≤ n → take n line ≡ kept (take n line) c
  keep-none low h = let long = length-take-le n line (omega arith) in rw (le-ltb (length (take n line)) 4001 (omega arith))

module _ {line words out : List ℕ} {p : Progress} (h : Holds line words p) where
  pub line_ended : {words' out' : List ℕ} {r : Answered} → AnswersIn words p.length out p.end (frame_in (take p.kept line)) words' out' r → length words' ≡ length words
      → TakesOneIn line words out p 10 line words' out' (record { at = p.at; kept = 0; length = r.length; end = r.end })
  line_ended a same =
      record {
        holds = record { characters = h.characters; whole = same ∙ h.whole; few = omega arith; held = a.gives.few };
        one = takes-end (answers_of h.whole a);
      }

  pub character_kept : {c : ℕ} → (c ≡ 10 → ⊥) → {n : ℕ} {line' : List ℕ} → n ≤ 4001 → take n line' ≡ kept (take p.kept line) c → length line' ≡ length line
      → TakesOneIn line words out p c line' words out (record { at = p.at; kept = n; length = p.length; end = p.end })
  character_kept other few e same =
      record {
        holds = record { characters = same ∙ h.characters; whole = h.whole; few = few; held = h.held };
        one = takes_kept other e;
      }

-- the first i bytes behind p's place are taken
pub record GoesIn (block line₀ words₀ out₀ : List ℕ) (p : Progress) (i : ℕ) (line words out : List ℕ) (kept held end : ℕ) : Type 0 where
  pub holds : Holds line words (record { at = p.at + i; kept = kept; length = held; end = end })
  pub goes : Goes (reading_of line₀ words₀ p) out₀ p.end (drop p.at block) i (record { session = take held words; line = take kept line }) out end
  pub long : length out ≡ length out₀

pub lent_start : {block line words out : List ℕ} {p : Progress} → Holds line words p → p.end ≤ length out
    → GoesIn block line words out p 0 line words out p.kept p.length p.end
lent_start {block} {line} {words} {out} {p} h inside =
    record {
      holds = record { characters = h.characters; whole = h.whole; few = h.few; held = h.held };
      goes = goes_start (reading_of line words p) out p.end (drop p.at block) inside;
      long = refl;
    }

module _ {block line₀ words₀ out₀ : List ℕ} {p : Progress} {i : ℕ} {line words out : List ℕ} {kept held end : ℕ} (g : GoesIn block line₀ words₀ out₀ p i line words out kept held end) where
  pub lent_on : i < length (drop p.at block) → end + 16387 ≤ length out → {line' words' out' : List ℕ} {t : Progress} → length out' ≡ length out
      → {c : ℕ} → get_or (drop p.at block) i 0 ≡ c → TakesOneIn line words out (record { at = p.at + i; kept = kept; length = held; end = end }) c line' words' out' t
      → GoesIn block line₀ words₀ out₀ p (i + 1) line' words' out' t.kept t.length t.end
  lent_on more room same byte one =
      let h = one.holds in
      record {
        holds = record { characters = h.characters; whole = h.whole; few = h.few; held = h.held };
        goes = goes_on g.goes more (omega (arith, g.long)) (rw byte one.one);
        long = same ∙ g.long;
      }

  pub lent_stop : i < length (drop p.at block) → length out < end + 16387
      → ReadOnIn block line₀ words₀ out₀ p line words out (record { at = p.at + i; kept = kept; length = held; end = end })
  lent_stop more full =
      let back : p.at + i - p.at ≡ i = omega arith in
      record { low = omega arith; holds = g.holds; read = rw back (goes_stop g.goes more (omega (arith, g.long))) }

  pub lent_done : p.at ≤ length block → length (drop p.at block) ≤ i
      → ReadOnIn block line₀ words₀ out₀ p line words out (record { at = length block; kept = kept; length = held; end = end })
  lent_done within none =
      let h = g.holds in
      let back : length block - p.at ≡ length (drop p.at block) = sym (length-drop p.at block) in
      record {
        low = within;
        holds = record { characters = h.characters; whole = h.whole; few = h.few; held = h.held };
        read = rw back (goes_done g.goes none);
      }

-- the bytes behind a place, as a part of the block
pub behind : (block : List ℕ) (at : ℕ) → take (length block - at) (drop at block) ≡ drop at block
behind block at = take_all (length block - at) (drop at block) (omega (arith, length-drop at block))

-- a block that is read from its start
pub read_whole : {block line words out : List ℕ} {kept length end : ℕ} {line' words' out' : List ℕ} {q : Progress}
    → ReadOnIn block line words out (record { at = 0; kept = kept; length = length; end = end }) line' words' out' q
    → ReadOn block (record { session = take length words; line = take kept line }) out end (reading_of line' words' q) out' (record { taken = q.at; end = q.end })
read_whole {q = q} h = let all : q.at - 0 ≡ q.at = omega arith in rw all at h.read

-- ---- answers that are collected

-- what stands ahead of the place, and the answers behind it
pub collected : {r : Reading} {out : List ℕ} {at : ℕ} {bs : List ℕ} {r' : Reading} {out' : List ℕ} {to : ℕ} → Takes r out at bs r' out' to → to ≤ length out
    → take to out' ≡ take at out ++ written_all r bs
collected {r} {out} {at} {bs} t inside = rw (t.output, t.end) (take-splice out at (written_all r bs) (omega (arith, t.end)))

pub whole_none : (p : Program.Progress) → ReadWhole p [] 0 p
unfolding taken_all written_all
whole_none p = record { state = refl; count = omega arith; output = sym (append-nil p.answers) }

-- all that is collected is written
pub whole_flushed : {p : Program.Progress} {n : ℕ} {q : Program.Progress} → Flushed p n q → ReadWhole p [] n q
unfolding taken_all written_all
whole_flushed {p} {n} f =
    rw f.emptied
    (record {
      state = refl;
      count = omega (arith, f.count);
      output = sym (ap (drop n) (append-nil p.answers) ∙ drop_of_length-le p.answers {i = n} (omega (arith, f.count)));
    })

pub whole_append : {p : Program.Progress} {bs : List ℕ} {m : ℕ} {q : Program.Progress} {cs : List ℕ} {n : ℕ} {t : Program.Progress}
    → ReadWhole p bs m q → ReadWhole q cs n t → ReadWhole p (bs ++ cs) (m + n) t
whole_append {p} {bs} {m} {q} {cs} {n} {t} a b =
    let r = p.reading in
    let us = written_all r bs in
    let ws = written_all (taken_all r bs) cs in
    let both = length-append p.answers us in
    let state' : t.reading ≡ taken_all (taken_all r bs) cs = rw a.state at b.state in
    let count' : n + length t.answers ≡ length q.answers + length ws = rw a.state at b.count in
    let output' : t.answers ≡ drop n (q.answers ++ ws) = rw a.state at b.output in
    let more = written-append r bs cs in
    record {
      state = state' ∙ sym (taken-append r bs cs);
      count = omega (arith, a.count, count', ap length more, length-append us ws);
      output =
          output' ∙ ap (λ (x : List ℕ). drop n (x ++ ws)) a.output
          ∙ ap (drop n) (sym (drop-append-le m (p.answers ++ us) ws (omega (arith, a.count, both))))
          ∙ drop-drop n m (p.answers ++ us ++ ws)
          ∙ ap (drop (m + n)) (append_assoc p.answers us ws ∙ ap (◌++◌ p.answers) (sym more));
    }

-- a block that is read on, its answers behind those that were collected
pub reads_block : {block : List ℕ} {r : Reading} {items : List ℕ} {count : ℕ} {r' : Reading} {items' : List ℕ} {q : Stop} → ReadOn block r items count r' items' q
    → length items ≡ 65536 → length items' ≡ 65536
    → Reads block (record { reading = r; answers = take count items }) q.taken (record { reading = r'; answers = take q.end items' })
reads_block {block} {r} {items} {count} {r'} {items'} {q} h long long' =
    let made : take q.end items' ≡ take count items ++ written_all r (take q.taken block) = collected h.takes h.room in
    record {
      within = h.within;
      whole = record {
        state = h.takes.state;
        count = omega (arith, ap length made, length-append (take count items) (written_all r (take q.taken block)));
        output = made;
      };
      stops = λ less. omega (arith, h.stops less, h.room, length-take-le q.end items' (omega (arith, h.room)));
    }

-- the answer to a last line, behind those that were collected
pub last_read : {r : Reading} {items : List ℕ} {count : ℕ} {r' : Reading} {items' : List ℕ} {to : ℕ} → TakesOne r items count 10 r' items' to
    → count + 16387 ≤ length items → (r.line ≡ [] → ⊥) → take to items' ≡ take count items ++ written_last r
last_read {r} {items} {count} t room some = collected t.takes (omega (arith, t.small)) ∙ ap (λ (x : List ℕ). take count items ++ x) (last_some r some)

pub last_unread : (answers : List ℕ) (r : Reading) → r.line ≡ [] → answers ≡ answers ++ written_last r
last_unread answers r e = sym (ap (λ (x : List ℕ). answers ++ x) (last_none r e) ∙ append-nil answers)

-- some bytes of the block are read, and the others are left
pub record Between (p : Program.Progress) (block left : List ℕ) (sent : ℕ) (q : Program.Progress) : Type 0 where
  pub read : List ℕ
  pub parts : read ++ left ≡ block
  pub whole : ReadWhole p read sent q
  pub few : sent ≤ length read * 65536

pub between_start : (p : Program.Progress) (block : List ℕ) → Between p block block 0 p
between_start p block = record { read = []; parts = refl; whole = whole_none p; few = omega arith }

-- where there is room for an answer, a byte is taken
pub reads_some : {left : List ℕ} {p : Program.Progress} {n : ℕ} {q : Program.Progress} → Reads left p n q → 1 ≤ length left → length p.answers + 16387 ≤ 65536 → 1 ≤ n
unfolding written_all
reads_some {p = p} {n = zero} {q} r some room =
    let same : q.answers ≡ p.answers = r.whole.output ∙ append-nil p.answers in
    absurd (omega (arith, r.stops some, ap length same))
reads_some {n = suc n} r some room = omega arith

pub reads_less : {left : List ℕ} {p : Program.Progress} {n : ℕ} {q : Program.Progress} → Reads left p n q → 1 ≤ length left → length p.answers + 16387 ≤ 65536
    → length (take (length left - n) (drop n left)) < length left
reads_less {left = left} {n = n} r some room =
    let long = length-drop n left in
    omega (arith, reads_some r some room, r.within, length-take-le (length left - n) (drop n left) (omega arith))

module _ {p : Program.Progress} {block left : List ℕ} {sent : ℕ} {q : Program.Progress} (b : Between p block left sent q) where
  pub between_on : {m : ℕ} {t : Program.Progress} → ReadWhole q [] m t → m ≤ 65536 → {n : ℕ} {u : Program.Progress} → Reads left t n u → 1 ≤ n
      → Between p block (take (length left - n) (drop n left)) (sent + m) u
  between_on {m} {t} room small {n} {u} r some =
      let all : ReadWhole p ((b.read ++ []) ++ take n left) (sent + m + 0) u = whole_append (whole_append b.whole room) r.whole in
      let sum : sent + m + 0 ≡ sent + m = omega arith in
      let plain = append-nil b.read in
      let rest : take (length left - n) (drop n left) ≡ drop n left = take_all (length left - n) (drop n left) (omega (arith, length-drop n left)) in
      record {
        read = b.read ++ take n left;
        parts = rw rest (append_assoc b.read (take n left) (drop n left) ∙ ap (◌++◌ b.read) (take-append-drop n left) ∙ b.parts);
        whole = rw (plain, sum) at all;
        few = omega (arith, b.few, length-append b.read (take n left), length-take-le n left r.within);
      }

  pub between_end : length left ≤ 0 → ReadWhole p block sent q
  between_end end =
      let none : [] ≡ left = take_all 0 left end in
      let all : b.read ≡ block = sym (append-nil b.read) ∙ ap (◌++◌ b.read) none ∙ b.parts in
      rw all at b.whole

-- ---- standard input

pub some-none : (p : Program.Progress) → ReadSome p p
some-none p = record { input = []; sent = 0; whole = whole_none p }

pub some_more : {p q : Program.Progress} {bytes : List ℕ} {n : ℕ} {t : Program.Progress} → ReadSome p q → ReadWhole q bytes n t → ReadSome p t
some_more {bytes = bytes} {n} a b = record { input = a.input ++ bytes; sent = a.sent + n; whole = whole_append a.whole b }

pub last_whole : {p : Program.Progress} {n : ℕ} {q : Program.Progress} → Flushed p n q → {t : Program.Progress} → t.answers ≡ q.answers ++ written_last q.reading
    → Last p t (n + length t.answers)
last_whole {p} {n} f {t} e =
    let made : t.answers ≡ written_last p.reading = rw f.emptied at e in
    record { count = omega (arith, f.count, ap length made); output = made }

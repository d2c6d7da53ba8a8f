-- How an event's definition goes on at each test of the reader. Assumes nothing.
use mathlib.Core.Bool.{Bool, true, false, cond, ◌&&◌}
use mathlib.Core.List.{List}
use mathlib.Core.Path.{◌≡◌, refl, ap, ◌∙◌}
use Prim.Native.Nat.{ℕ, suc, ◌+◌, ◌-◌, ◌*◌, ◌/◌, ◌%◌, ◌≤◌, ◌<◌}
use native.Mathlib.Numerals.{add-one}
use native.Mathlib.Omega.{arith}
use lib.Dec.{leb, ltb, eqb}
use lib.ListN.{length, get_or}
use borrow.Author.Tests.{lt-ltb, le-ltb, ltb-true, ltb-false, le-leb, lt-leb, leb-true, leb-false, eq-eqb, eqb-true, eqb-false, ne_eqb}
use Rattle.midi.specs.Numbers.{no_quantity, quantity, quantity_at}
use Rattle.midi.specs.Events.{
  Place,
  place,
  Message,
  starts,
  ends,
  passed,
  Event,
  illegal,
  event,
  finished,
  data_at,
  channel_message,
  channel_at,
  meta_at,
  sysex_at,
  own_status,
  behind_time,
  event_at,
}
use Rattle.laws.specs.Booleans.{and_left, and_right}
use Rattle.midi.proofs.Branches.{same_test}
use lib.Bits.{bit_or, or_add_and, and_le_l, and_le_r}
use Rattle.midi.proofs.Legal.{InRange}
use Rattle.track.specs.Notes.{Plain, Short, form_at, long}
use Rattle.std.specs.Prelude.{Option, Some, None}
use Rattle.track.specs.Reading.{lane_of, message_of, data_of, second_at, over_at, end_at}
use Rattle.track.specs.declared.cursor.Form.{Form}
use Rattle.track.specs.declared.cursor.Play.{Play}
use Rattle.track.proofs.ReadGroups.{group_last, group_more}

-- ---- data bytes

-- A byte was read at a position.
pub record Byte (s : List ℕ) (q b : ℕ) : Type 0 where
  pub inside : q < length s
  pub is : b ≡ get_or s q 0

pub byte_there : {s : List ℕ} {q b : ℕ} → (q < length s) × ((d : ℕ) → b ≡ get_or s q d) → Byte s q b
byte_there e = record { inside = e.0; is = e.1 0 }

-- No data byte stands at a position; one does.
pub record NoData (s : List ℕ) (q : ℕ) : Type 0 where
  pub none : data_at s q ≡ false

pub record Data (s : List ℕ) (q : ℕ) : Type 0 where
  pub there : data_at s q ≡ true

module _ (s : List ℕ) (q : ℕ) where
  pub data_cut : length s ≤ q → NoData s q
  data_cut h = record { none = rw (le-ltb q (length s) h) }

  pub data_high : q < length s → 128 ≤ get_or s q 0 → NoData s q
  data_high h k = record { none = rw (lt-ltb q (length s) h, le-ltb (get_or s q 0) 128 k) }

  pub data_low : q < length s → get_or s q 0 < 128 → Data s q
  data_low h k = record { there = rw (lt-ltb q (length s) h, lt-ltb (get_or s q 0) 128 k) }

  pub data_inside : Data s q → q < length s
  data_inside d = ltb-true q (length s) (and_left (ltb q (length s)) (ltb (get_or s q 0) 128) d.there)

  -- what the reader of a data byte answers: none, or the byte
  pub data_none : NoData s q → None ≡ data_of s q
  unfolding data_of
  data_none d = rw (d.none, data_of)

  pub none_there : None ≡ data_of s q → NoData s q
  unfolding data_of
  none_there e = record { none = go (data_at s q) e }
    where
      go : (b : Bool) → ◌≡◌ {A = Option ℕ} None (elim b [ true ↦ Some (get_or s q 0) | false ↦ None ]) → b ≡ false
      go true e = absurd cc
      go false e = refl

  pub some_there : {b : ℕ} → Some b ≡ data_of s q → Data s q × (b ≡ get_or s q 0) × (b < 128)
  unfolding data_of
  some_there {b} e = go (data_at s q) refl e
    where
      go : (x : Bool) → data_at s q ≡ x → ◌≡◌ {A = Option ℕ} (Some b) (elim x [ true ↦ Some (get_or s q 0) | false ↦ None ])
          → Data s q × (b ≡ get_or s q 0) × (b < 128)
      go true d e = let f : b ≡ get_or s q 0 = cc in (record { there = d }, f, rw f (ltb-true (get_or s q 0) 128 (and_right (ltb q (length s)) (ltb (get_or s q 0) 128) d)))
      go false d e = absurd cc

-- the byte that was read is a data byte, or none
module _ {s : List ℕ} {q b : ℕ} (y : Byte s q b) where
  pub byte_low : b < 128 → Some b ≡ data_of s q
  unfolding data_of
  byte_low h = let d = data_low s q y.inside (omega (arith, y.is)) in rw (y.is, d.there, data_of)

  pub byte_high : 128 ≤ b → None ≡ data_of s q
  byte_high h = data_none s q (data_high s q y.inside (omega (arith, y.is)))

-- ---- a channel event

module _ (status key velocity : ℕ) where
  pub message_silent : status / 16 ≡ 9 → velocity ≡ 0 → ends (status % 16 * 128 + key) ≡ channel_message status key velocity
  unfolding channel_message
  message_silent e f = rw (eq-eqb (status / 16) 9 e, channel_message, eq-eqb velocity 0 f)

  pub message_starts : status / 16 ≡ 9 → (velocity ≡ 0 → ⊥) → starts (status % 16 * 128 + key) velocity ≡ channel_message status key velocity
  unfolding channel_message
  message_starts e f = rw (eq-eqb (status / 16) 9 e, channel_message, ne_eqb velocity 0 f)

  pub message_ends : (status / 16 ≡ 9 → ⊥) → status / 16 ≡ 8 → ends (status % 16 * 128 + key) ≡ channel_message status key velocity
  unfolding channel_message
  message_ends e f = rw (ne_eqb (status / 16) 9 e, channel_message, eq-eqb (status / 16) 8 f)

  pub message_passed : (status / 16 ≡ 9 → ⊥) → (status / 16 ≡ 8 → ⊥) → passed ≡ channel_message status key velocity
  unfolding channel_message
  message_passed e f = rw (ne_eqb (status / 16) 9 e, channel_message, ne_eqb (status / 16) 8 f)

module _ (s : List ℕ) (tick status key q : ℕ) where
  pub second_none : NoData s q → illegal ≡ second_at s tick status key q
  unfolding second_at
  second_none d = rw (d.none, second_at)

  pub second_there : Data s q → (m : Message) → m ≡ channel_message status key (get_or s q 0) → event (place (q + 1) tick status) m ≡ second_at s tick status key q
  unfolding second_at
  second_there d m e = rw (e, d.there, second_at, add-one)

module _ (s : List ℕ) (tick status q : ℕ) where
  pub channel_none : NoData s q → illegal ≡ channel_at s tick status q
  unfolding channel_at
  channel_none d = rw (d.none, channel_at)

  pub channel_one : Data s q → status / 32 ≡ 6 → event (place (q + 1) tick status) passed ≡ channel_at s tick status q
  unfolding channel_at
  channel_one d f = rw (d.there, channel_at, eq-eqb (status / 32) 6 f, add-one)

  pub channel_two : Data s q → (status / 32 ≡ 6 → ⊥) → second_at s tick status (get_or s q 0) (q + 1) ≡ channel_at s tick status q
  unfolding channel_at second_at
  channel_two d f = let next : q + 1 ≡ suc q = omega arith in ap (second_at s tick status (get_or s q 0)) next ∙ go
    where
      two : suc (suc q) ≡ q + 2
      two = omega arith

      go : second_at s tick status (get_or s q 0) (suc q) ≡ channel_at s tick status q
      go =
          rw (d.there, channel_at, ne_eqb (status / 32) 6 f, second_at)
          (same_test (data_at s (suc q)) (ap (λ n. event (place n tick status) (channel_message status (get_or s q 0) (get_or s (suc q) 0))) two) refl)

-- ---- events with a length

same : (b : Bool) → ◌≡◌ {A = Event} illegal (elim b [ false ↦ illegal | true ↦ illegal ])
same true = refl
same false = refl

module _ (s : List ℕ) (tick n p : ℕ) where
  pub over_cut : length s < p + n → illegal ≡ over_at s tick n p
  unfolding over_at
  over_cut h = rw (lt-leb (p + n) (length s) h, over_at)

  pub over_on : p + n ≤ length s → event (place (p + n) tick 0) passed ≡ over_at s tick n p
  unfolding over_at
  over_on h = rw (le-leb (p + n) (length s) h, over_at)

  pub end_there : n ≡ 0 → p ≡ length s → finished tick ≡ end_at s tick n p
  unfolding end_at
  end_there a b = rw (eq-eqb n 0 a, end_at, eq-eqb p (length s) b)

  pub end_full : (n ≡ 0 → ⊥) → illegal ≡ end_at s tick n p
  unfolding end_at
  end_full a = rw (ne_eqb n 0 a, end_at)

  pub end_early : n ≡ 0 → (p ≡ length s → ⊥) → illegal ≡ end_at s tick n p
  unfolding end_at
  end_early a b = rw (eq-eqb n 0 a, end_at, ne_eqb p (length s) b)

module _ (s : List ℕ) (tick q : ℕ) where
  pub sysex_none : quantity_at s q ≡ no_quantity → illegal ≡ sysex_at s tick q
  unfolding sysex_at
  sysex_none e = rw (e, sysex_at)

  pub sysex_over : (n p : ℕ) → quantity_at s q ≡ quantity n p → over_at s tick n p ≡ sysex_at s tick q
  unfolding sysex_at over_at
  sysex_over n p e = rw (e, sysex_at)

  pub meta_none : NoData s q → illegal ≡ meta_at s tick q
  unfolding meta_at
  meta_none d = rw (d.none, meta_at)

  module _ (d : Data s q) where
    pub meta_bare : quantity_at s (q + 1) ≡ no_quantity → illegal ≡ meta_at s tick q
    unfolding meta_at
    meta_bare e = let f : quantity_at s (suc q) ≡ no_quantity = rw add-one at e in rw (d.there, meta_at, f)

    module _ (n p : ℕ) (e : quantity_at s (q + 1) ≡ quantity n p) where
      f : quantity_at s (suc q) ≡ quantity n p
      f = rw add-one at e

      pub meta_over : (get_or s q 0 ≡ 47 → ⊥) → over_at s tick n p ≡ meta_at s tick q
      unfolding meta_at over_at
      meta_over k = rw (d.there, meta_at, f) (same_test (leb (p + n) (length s)) (rw (ne_eqb (get_or s q 0) 47 k)) refl)

      pub meta_end : get_or s q 0 ≡ 47 → end_at s tick n p ≡ meta_at s tick q
      unfolding meta_at end_at
      meta_end k = rw (d.there, meta_at, f) (short_end ∙ same_test (leb (p + n) (length s)) (rw (eq-eqb (get_or s q 0) 47 k)) refl)
        where
          by_end : (a : Bool) → eqb n 0 ≡ a → (b : Bool) → eqb p (length s) ≡ b
              → ◌≡◌ {A = Event} (elim (a && b) [ true ↦ finished tick | false ↦ illegal ]) (elim (leb (p + n) (length s)) [
                | false ↦ illegal
                | true ↦ elim (a && b) [ true ↦ finished tick | false ↦ illegal ]
              ])
          by_end true x true y = rw (le-leb (p + n) (length s) (omega (arith, eqb-true n 0 x, eqb-true p (length s) y)))
          by_end true x false y = same (leb (p + n) (length s))
          by_end false x b y = same (leb (p + n) (length s))

          -- an end of track of length 0 at the track's last byte is inside the track
          short_end : ◌≡◌ {A = Event} (elim (eqb n 0 && eqb p (length s)) [ true ↦ finished tick | false ↦ illegal ]) (elim (leb (p + n) (length s)) [
            | false ↦ illegal
            | true ↦ elim (eqb n 0 && eqb p (length s)) [ true ↦ finished tick | false ↦ illegal ]
          ])
          short_end = by_end (eqb n 0) refl (eqb p (length s)) refl

-- ---- statuses

module _ (s : List ℕ) (tick status q : ℕ) where
  pub own_channel : status < 240 → channel_at s tick status q ≡ own_status s tick status q
  unfolding own_status
  own_channel h = rw (lt-ltb status 240 h, own_status)

  pub own_meta : status ≡ 255 → meta_at s tick q ≡ own_status s tick status q
  unfolding own_status
  own_meta e = rw (le-ltb status 240 (omega arith), own_status, eq-eqb status 255 e)

  pub own_f0 : status ≡ 240 → sysex_at s tick q ≡ own_status s tick status q
  unfolding own_status
  own_f0 e = rw (le-ltb status 240 (omega arith), own_status, ne_eqb status 255 (λ f. omega arith), eq-eqb status 240 e)

  pub own_f7 : status ≡ 247 → sysex_at s tick q ≡ own_status s tick status q
  unfolding own_status
  own_f7 e =
      rw (le-ltb status 240 (omega arith), own_status, ne_eqb status 255 (λ f. omega arith), ne_eqb status 240 (λ f. omega arith), eq-eqb status 247 e)

  pub own-none : 240 ≤ status → (status ≡ 255 → ⊥) → (status ≡ 240 → ⊥) → (status ≡ 247 → ⊥) → illegal ≡ own_status s tick status q
  unfolding own_status
  own-none h d e f = rw (le-ltb status 240 h, own_status, ne_eqb status 255 d, ne_eqb status 240 e, ne_eqb status 247 f)

module _ (s : List ℕ) (tick running q : ℕ) where
  pub behind_cut : length s ≤ q → illegal ≡ behind_time s tick running q
  unfolding behind_time
  behind_cut h = rw (le-ltb q (length s) h, behind_time)

  module _ (h : q < length s) where
    pub behind-own : 128 ≤ get_or s q 0 → own_status s tick (get_or s q 0) (q + 1) ≡ behind_time s tick running q
    unfolding behind_time
    behind-own k = rw (lt-ltb q (length s) h, behind_time, le-ltb (get_or s q 0) 128 k, add-one)

    pub behind_bare : get_or s q 0 < 128 → running ≡ 0 → illegal ≡ behind_time s tick running q
    unfolding behind_time
    behind_bare k e = rw (lt-ltb q (length s) h, behind_time, lt-ltb (get_or s q 0) 128 k, eq-eqb running 0 e)

    pub behind_running : get_or s q 0 < 128 → (running ≡ 0 → ⊥) → channel_at s tick running q ≡ behind_time s tick running q
    unfolding behind_time
    behind_running k e = rw (lt-ltb q (length s) h, behind_time, lt-ltb (get_or s q 0) 128 k, ne_eqb running 0 e)

-- ---- an event

module _ (s : List ℕ) (p : Place) where
  pub event-none : quantity_at s p.at ≡ no_quantity → illegal ≡ event_at s p
  unfolding event_at
  event-none e = rw (e, event_at)

  pub event-behind : (d q : ℕ) → quantity_at s p.at ≡ quantity d q → behind_time s (p.tick + d) p.running q ≡ event_at s p
  unfolding event_at
  event-behind d q e = rw (e, event_at)

-- the time of one group
one_time : (s : List ℕ) (at : ℕ) → at < length s → get_or s at 0 < 128 → quantity_at s at ≡ quantity (get_or s at 0) (at + 1)
one_time s at h short = let z : 0 * 128 + get_or s at 0 ≡ get_or s at 0 = omega arith in rw z at (group_last 4 s at 0 (omega arith) h short)

-- the two data bytes of a note
note-bytes : (s : List ℕ) (tick status q : ℕ) → q + 2 ≤ length s → status / 32 ≡ 4 → get_or s q 0 < 128 → get_or s (q + 1) 0 < 128 → (m : Message) → m ≡ channel_message status (get_or s q 0) (get_or s (q + 1) 0)
    → event (place (q + 2) tick status) m ≡ channel_at s tick status q
note-bytes s tick status q room note low soft m e =
    let z : q + 1 + 1 ≡ q + 2 = omega arith in
    (rw z at (second_there s tick status (get_or s q 0) (q + 1) (data_low s (q + 1) (omega arith) soft) m e))
    ∙ channel_two s tick status q (data_low s q (omega arith) low) (λ k. omega arith)

-- a note of four bytes
module _ (s : List ℕ) (p : Place) where
  abbrev at : ℕ
  at = p.at

  abbrev tick : ℕ
  tick = p.tick + get_or s at 0

  pub event_plain : Plain s p.at → (m : Message) → m ≡ channel_message (get_or s (p.at + 1) 0) (get_or s (p.at + 2) 0) (get_or s (p.at + 3) 0)
      → event (place (p.at + 4) (p.tick + get_or s p.at 0) (get_or s (p.at + 1) 0)) m ≡ event_at s p
  event_plain w m e =
      let x : at + 2 + 1 ≡ at + 3 = omega arith in
      let y : at + 2 + 2 ≡ at + 4 = omega arith in
      let z : at + 1 + 1 ≡ at + 2 = omega arith in
      let f : m ≡ channel_message (get_or s (at + 1) 0) (get_or s (at + 2) 0) (get_or s (at + 2 + 1) 0) = rw x e in
      let v : get_or s (at + 2 + 1) 0 < 128 = rw x w.velocity in
      (rw y at (note-bytes s tick (get_or s (at + 1) 0) (at + 2) (omega (arith, w.inside)) w.status w.key v m f))
      ∙ own_channel s tick (get_or s (at + 1) 0) (at + 2) (omega (arith, w.status))
      ∙ (rw z at (behind-own s tick p.running (at + 1) (omega (arith, w.inside)) (omega (arith, w.status))))
      ∙ event-behind s p (get_or s at 0) (at + 1) (one_time s at (omega (arith, w.inside)) w.time)

-- the key of a note whose time has one or two groups is at most three bytes on
pub form_inside : (s : List ℕ) (at running : ℕ) → (form_at s at running).at ≤ at + 3
form_inside s at running = go (long s at) (leb 128 (cond (long s at) (get_or s (at + 2) 0) (get_or s (at + 1) 0)))
  where
    go : (a b : Bool) → at + 1 + cond a 1 0 + cond b 1 0 ≤ at + 3
    go true true = omega arith
    go true false = omega arith
    go false true = omega arith
    go false false = omega arith

-- a time of two groups
two_time : (s : List ℕ) (at : ℕ) → at + 1 < length s → 128 ≤ get_or s at 0 → get_or s (at + 1) 0 < 128
    → quantity_at s at ≡ quantity ((get_or s at 0 - 128) * 128 + get_or s (at + 1) 0) (at + 2)
two_time s at h goes low =
    let z : 0 * 128 + (get_or s at 0 - 128) ≡ get_or s at 0 - 128 = omega arith in
    let y : at + 1 + 1 ≡ at + 2 = omega arith in
    rw z at (group_more 4 s at 0 (omega arith) (omega arith) goes) ∙ rw y at (group_last 3 s (at + 1) (get_or s at 0 - 128) (omega arith) h low)

-- the data bytes of a note with a status stand at a position, and the note says m
pub record Noted (s : List ℕ) (q status : ℕ) (m : Message) : Type 0 where
  pub inside : q + 2 ≤ length s
  pub note : status / 32 ≡ 4
  pub key : get_or s q 0 < 128
  pub velocity : get_or s (q + 1) 0 < 128
  pub says : m ≡ channel_message status (get_or s q 0) (get_or s (q + 1) 0)

noted_at : {s : List ℕ} {q status : ℕ} {m : Message} → Noted s q status m → (tick : ℕ) → event (place (q + 2) tick status) m ≡ channel_at s tick status q
noted_at {s} {q} {status} {m} n tick = note-bytes s tick status q n.inside n.note n.key n.velocity m n.says

-- a note behind its time: with a status of its own, or with the one in force
module _ (s : List ℕ) (tick running q : ℕ) (m : Message) where
  abbrev here : ℕ
  here = get_or s q 0

  noted_behind : (b : Bool) → leb 128 here ≡ b → Noted s (q + cond b 1 0) (cond b here running) m
      → event (place (q + cond b 1 0 + 2) tick (cond b here running)) m ≡ behind_time s tick running q
  noted_behind true e n =
      noted_at n tick ∙ own_channel s tick here (q + 1) (omega (arith, n.note))
      ∙ behind-own s tick running q (omega (arith, n.inside)) (leb-true 128 here e)
  noted_behind false e n =
      let z : q + 0 ≡ q = omega arith in
      let low : Noted s q running m = rw z at n in
      rw z (noted_at low tick ∙ behind_running s tick running q (omega (arith, low.inside)) low.key (λ k. omega (arith, low.note)))

-- a note whose time has one or two groups
module _ (s : List ℕ) (p : Place) (bytes : (i : ℕ) → get_or s i 0 < 256) where
  abbrev first : ℕ
  first = get_or s p.at 0

  abbrev by_long : Bool → Form
  by_long b =
      let behind = cond b (get_or s (p.at + 2) 0) (get_or s (p.at + 1) 0) in
      let own = leb 128 behind in
      let last = cond b (get_or s (p.at + 1) 0) first in
      record { last = last; time = cond b (first % 128) 0 * 128 + last; status = cond own behind p.running; at = p.at + 1 + cond b 1 0 + cond own 1 0 }

  by_time : (m : Message) (b : Bool) → leb 128 first ≡ b → (by_long b).last < 128 → Noted s (by_long b).at (by_long b).status m
      → event (place ((by_long b).at + 2) (p.tick + (by_long b).time) (by_long b).status) m ≡ event_at s p
  by_time m true e low n =
      let goes = leb-true 128 first e in
      let z : p.at + 1 + 1 ≡ p.at + 2 = omega arith in
      let y : first % 128 ≡ first - 128 = omega (arith, bytes p.at) in
      let own = leb 128 (get_or s (p.at + 2) 0) in
      let noted : Noted s (p.at + 2 + cond own 1 0) (cond own (get_or s (p.at + 2) 0) p.running) m = rw z at n in
      let tick = p.tick + ((first - 128) * 128 + get_or s (p.at + 1) 0) in
      rw (y, z)
      (noted_behind s tick p.running (p.at + 2) m own refl noted
      ∙ event-behind s p _ (p.at + 2) (two_time s p.at (omega (arith, n.inside)) goes low))
  by_time m false e low n =
      let short = leb-false 128 first e in
      let z : p.at + 1 + 0 ≡ p.at + 1 = omega arith in
      let y : 0 * 128 + first ≡ first = omega arith in
      let own = leb 128 (get_or s (p.at + 1) 0) in
      let noted : Noted s (p.at + 1 + cond own 1 0) (cond own (get_or s (p.at + 1) 0) p.running) m = rw z at n in
      rw (y, z)
      (noted_behind s (p.tick + first) p.running (p.at + 1) m own refl noted
      ∙ event-behind s p first (p.at + 1) (one_time s p.at (omega (arith, n.inside)) (omega arith)))

  abbrev form : Form
  form = form_at s p.at p.running

  pub event_short : Short s p.at p.running → (m : Message) → m ≡ channel_message form.status (get_or s form.at 0) (get_or s (form.at + 1) 0)
      → event (place (form.at + 2) (p.tick + form.time) form.status) m ≡ event_at s p
  event_short w m e =
      by_time m (long s p.at) refl w.time
      (record { inside = omega (arith, form_inside s p.at p.running, w.inside); note = w.status; key = w.key; velocity = w.velocity; says = e })

-- what 8n and 9n say, by the velocity v of the note that they start
module _ (status key velocity v : ℕ) (note : status / 32 ≡ 4) (low : key < 128) (e : v ≡ cond (ltb status 144) 0 velocity) where
  lane : lane_of (status % 16) key ≡ status % 16 * 128 + key
  lane = rw (lt-ltb key 128 low) (omega arith)

  pub note_plays : message_of (Some (record { channel = status % 16; key = key; velocity = v })) ≡ channel_message status key velocity
  note_plays = rw lane (go (ltb status 144) refl)
    where
      by_velocity : 144 ≤ status → (b : Bool) → eqb velocity 0 ≡ b
          → cond b (ends (status % 16 * 128 + key)) (starts (status % 16 * 128 + key) velocity) ≡ channel_message status key velocity
      by_velocity h true z = message_silent status key velocity (omega arith) (eqb-true velocity 0 z)
      by_velocity h false z = message_starts status key velocity (omega arith) (eqb-false velocity 0 z)

      go : (b : Bool) → ltb status 144 ≡ b
          → cond (eqb v 0) (ends (status % 16 * 128 + key)) (starts (status % 16 * 128 + key) v) ≡ channel_message status key velocity
      go true t =
          let h : status < 144 = ltb-true status 144 t in
          let z : v ≡ 0 = rw t at e in
          rw z (message_ends status key velocity (λ f. omega arith) (omega arith))
      go false t =
          let f : v ≡ velocity = rw t at e in
          rw f (by_velocity (ltb-false status 144 t) (eqb velocity 0) refl)

pub note_not : (status key velocity : ℕ) → (status / 32 ≡ 4 → ⊥) → passed ≡ channel_message status key velocity
note_not status key velocity d = message_passed status key velocity (λ e. d (omega arith)) (λ e. d (omega arith))

-- what a message that plays says, and that its channel and key are in range where its lane is
module _ (p : Play) where
  pub plays_low : InRange (message_of (Some p)) → (p.channel < 16) × (p.key < 128)
  plays_low h = by_key (ltb p.key 128) refl (by_velocity (eqb p.velocity 0) h)
    where
      by_velocity : (b : Bool) → InRange (cond b (ends (lane_of p.channel p.key)) (starts (lane_of p.channel p.key) p.velocity)) → lane_of p.channel p.key < 2048
      by_velocity true h = h
      by_velocity false h = h.0

      by_key : (b : Bool) → ltb p.key 128 ≡ b → cond b (128 * p.channel + p.key) 2048 < 2048 → (p.channel < 16) × (p.key < 128)
      by_key true e h = (omega arith, ltb-true p.key 128 e)
      by_key false e h = absurd (omega arith)

  module _ (low : p.key < 128) where
    pub plays_end : p.velocity ≡ 0 → message_of (Some p) ≡ ends (128 * p.channel + p.key)
    plays_end z = rw (eq-eqb p.velocity 0 z, lt-ltb p.key 128 low)

    pub plays_start : (p.velocity ≡ 0 → ⊥) → message_of (Some p) ≡ starts (128 * p.channel + p.key) p.velocity
    plays_start d = rw (ne_eqb p.velocity 0 d, lt-ltb p.key 128 low)

-- the bits of three numbers together are at least each
pub or_most : (a b c n : ℕ) → bit_or (bit_or a b) c < n → (a < n) × (b < n) × (c < n)
or_most a b c n h =
    let x = or_add_and a b in
    let y = or_add_and (bit_or a b) c in
    (omega (arith, x, y, and_le_l a b, and_le_r a b, and_le_r (bit_or a b) c), omega (arith, x, y, and_le_l a b, and_le_r (bit_or a b) c), omega (arith, y, and_le_l (bit_or a b) c))

-- Bytes written are read again: numbers and events. Assumes nothing.
use mathlib.Core.Bool.{Bool, true, false}
use mathlib.Core.List.{List, [], ◌∷◌, ◌++◌}
use mathlib.Core.Path.{◌≡◌, refl, sym, ap, ap₂, ◌∙◌}
use Prim.Native.Nat.{ℕ, zero, suc, ◌+◌, ◌*◌, ◌/◌, ◌%◌, ◌≤◌, ◌<◌}
use native.Mathlib.Omega.{arith}
use lib.Dec.{ltb, eqb}
use lib.ListN.{length, get_or, drop, length-drop}
use lib.Seq.{drop-drop, drop-append_seam}
use borrow.Author.Tests.{lt-ltb, le-ltb, le-leb, eq-eqb, ne_eqb, ltb-true}
use Rattle.midi.specs.Lanes.{channel_of, key_of}
use Rattle.midi.specs.Numbers.{quantity, quantity_from, quantity_at, quantity_bytes}
use Rattle.midi.specs.Events.{
  Place,
  place,
  Message,
  starts,
  ends,
  event,
  finished,
  channel_message,
  channel_at,
  meta_at,
  own_status,
  behind_time,
  event_at,
}
use Rattle.midi.specs.Writing.{NoteEvent, message_bytes, end_of_track}

-- ---- numbers

-- What stands at a position of s: x, and behind it xs.
pub record Stands (s : List ℕ) (at x : ℕ) (xs : List ℕ) : Type 0 where
  pub inside : at < length s
  pub here : get_or s at 0 ≡ x
  pub behind : drop (suc at) s ≡ xs

pub stands : (s : List ℕ) (at : ℕ) {x : ℕ} {xs : List ℕ} → drop at s ≡ x ∷ xs → Stands s at x xs
stands [] zero {x} {xs} e = let z : ◌≡◌ {A = ℕ} 0 1 = cc in absurd (omega arith)
stands [] (suc at) {x} {xs} e = let z : ◌≡◌ {A = ℕ} 0 1 = cc in absurd (omega arith)
stands (y ∷ s) zero {x} {xs} e = record { inside = omega arith; here = cc; behind = cc }
stands (y ∷ s) (suc at) {x} {xs} e = let r = stands s at e in record { inside = omega (arith, r.inside); here = r.here; behind = r.behind }

-- One group of a number.
last_group : (g : ℕ) (s : List ℕ) (at sum : ℕ) {b : ℕ} {rest : List ℕ} → drop at s ≡ b ∷ rest → b < 128 → quantity_from (suc g) s at sum ≡ quantity (sum * 128 + b) (suc at)
unfolding quantity_from
last_group g s at sum {b} {rest} e h = let r = stands s at e in rw (lt-ltb at (length s) r.inside, quantity_from, r.here, lt-ltb b 128 h, r.here)

more_group : (g : ℕ) (s : List ℕ) (at sum b : ℕ) {rest : List ℕ} → drop at s ≡ (128 + b) ∷ rest → quantity_from (suc g) s at sum ≡ quantity_from g s (suc at) (sum * 128 + b)
unfolding quantity_from
more_group g s at sum b {rest} e = let r = stands s at e in
    rw (lt-ltb at (length s) r.inside, quantity_from, r.here, le-ltb (128 + b) 128 (omega arith)) (ap (λ n. quantity_from g s (suc at) (sum * 128 + n)) (omega arith))

-- A number's bytes are read as the number.
pub quantity_read : (n : ℕ) → n < 268435456 → (s : List ℕ) (at : ℕ) (rest : List ℕ) → drop at s ≡ quantity_bytes n ++ rest → quantity_at s at ≡ quantity n (at + length (quantity_bytes n))
unfolding quantity_bytes
quantity_read n h s at rest e = go (ltb n 128) refl (ltb n 16384) refl (ltb n 2097152) refl
  where
    go : (a : Bool) → ltb n 128 ≡ a → (b : Bool) → ltb n 16384 ≡ b → (c : Bool) → ltb n 2097152 ≡ c → quantity_at s at ≡ quantity n (at + length (quantity_bytes n))
    go true p b q c r =
        let e0 = rw (p, quantity_bytes) at e in
        rw (p, quantity_bytes, last_group 3 s at 0 e0 (ltb-true n 128 p)) (ap₂ quantity (omega arith) (omega arith))
    go false p true q c r =
        let e0 = rw (p, quantity_bytes, q) at e in
        let e1 = (stands s at e0).behind in
        rw (p, quantity_bytes, q, more_group 3 s at 0 (n / 128) e0, last_group 2 s (suc at) (0 * 128 + n / 128) e1 (omega arith)) (ap₂ quantity (omega arith) (omega arith))
    go false p false q true r =
        let e0 = rw (p, quantity_bytes, q, r) at e in
        let e1 = (stands s at e0).behind in
        let e2 = (stands s (suc at) e1).behind in
        rw (
          p,
          quantity_bytes,
          q,
          r,
          more_group 3 s at 0 (n / 16384) e0,
          more_group 2 s (suc at) (0 * 128 + n / 16384) (n / 128 % 128) e1,
          last_group 1 s (suc (suc at)) ((0 * 128 + n / 16384) * 128 + n / 128 % 128) e2 (omega arith),
        ) (ap₂ quantity (omega arith) (omega arith))
    go false p false q false r =
        let e0 = rw (p, quantity_bytes, q, r) at e in
        let e1 = (stands s at e0).behind in
        let e2 = (stands s (suc at) e1).behind in
        let e3 = (stands s (suc (suc at)) e2).behind in
        rw (
          p,
          quantity_bytes,
          q,
          r,
          more_group 3 s at 0 (n / 2097152) e0,
          more_group 2 s (suc at) (0 * 128 + n / 2097152) (n / 16384 % 128) e1,
          more_group 1 s (suc (suc at)) ((0 * 128 + n / 2097152) * 128 + n / 16384 % 128) (n / 128 % 128) e2,
          last_group 0 s (suc (suc (suc at))) (((0 * 128 + n / 2097152) * 128 + n / 16384 % 128) * 128 + n / 128 % 128) e3 (omega arith),
        ) (ap₂ quantity (omega arith) (omega arith))

-- What stands behind xs.
pub past : (s : List ℕ) (at : ℕ) (xs ys : List ℕ) → drop at s ≡ xs ++ ys → drop (at + length xs) s ≡ ys
past s at xs ys e = sym (drop-drop (length xs) at s) ∙ ap (drop (length xs)) e ∙ drop-append_seam xs ys

-- ---- events

-- What a written event has: a lane, a kind and a velocity in range.
pub record Writable (e : NoteEvent) : Type 0 where
  pub lane_low : e.lane < 2048
  pub kind_low : e.kind < 2
  pub loud : 1 ≤ e.velocity
  pub soft : e.velocity < 128

-- The message that a written event is read as, and its status.
unfoldable pub message_of : NoteEvent → Message
message_of e = elim (eqb e.kind 0) [ true ↦ ends e.lane | false ↦ starts e.lane e.velocity ]

unfoldable pub status_of : NoteEvent → ℕ
status_of e = 128 + e.kind * 16 + channel_of e.lane

-- A channel event of two data bytes.
channel_read : (b k v : ℕ) (s : List ℕ) (tick q : ℕ) (rest : List ℕ) → b / 32 < 6 → k < 128 → v < 128 → drop q s ≡ k ∷ v ∷ rest
    → channel_at s tick b q ≡ event (place (q + 2) tick b) (channel_message b k v)
unfolding channel_at
channel_read b k v s tick q rest hb hk hv e =
    let r = stands s q e in
    let r1 = stands s (suc q) r.behind in
    rw (
      lt-ltb q (length s) r.inside,
      channel_at,
      r.here,
      lt-ltb k 128 hk,
      ne_eqb (b / 32) 6 (omega arith),
      lt-ltb (suc q) (length s) r1.inside,
      r1.here,
      lt-ltb v 128 hv,
      r.here,
      r1.here,
    )

-- One with a status of its own.
status_read : (b k v : ℕ) (s : List ℕ) (tick running q : ℕ) (rest : List ℕ) → 128 ≤ b → b < 160 → k < 128 → v < 128 → drop q s ≡ b ∷ k ∷ v ∷ rest
    → behind_time s tick running q ≡ event (place (q + 3) tick b) (channel_message b k v)
unfolding behind_time own_status
status_read b k v s tick running q rest h0 h1 hk hv e =
    let r = stands s q e in
    rw (
      lt-ltb q (length s) r.inside,
      behind_time,
      r.here,
      le-ltb b 128 h0,
      r.here,
      lt-ltb b 240 (omega arith),
      own_status,
      r.here,
      channel_read b k v s tick (suc q) rest (omega arith) hk hv r.behind,
    )
    (ap (λ n. event (place n tick b) (channel_message b k v)) (omega arith))

end_message : (l v : ℕ) → l < 2048 → channel_message (128 + 0 * 16 + channel_of l) (key_of l) v ≡ ends l
unfolding channel_message
end_message l v h =
    rw (ne_eqb ((128 + 0 * 16 + channel_of l) / 16) 9 (omega arith), channel_message, eq-eqb ((128 + 0 * 16 + channel_of l) / 16) 8 (omega arith))
    (ap ends (omega arith))

start_message : (l v : ℕ) → l < 2048 → 1 ≤ v → channel_message (128 + 1 * 16 + channel_of l) (key_of l) v ≡ starts l v
unfolding channel_message
start_message l v h hv =
    rw (eq-eqb ((128 + 1 * 16 + channel_of l) / 16) 9 (omega arith), channel_message, ne_eqb v 0 (λ z. omega arith))
    (ap (λ n. starts n v) (omega arith))

message_read : (e : NoteEvent) → Writable e → channel_message (status_of e) (key_of e.lane) e.velocity ≡ message_of e
unfolding message_of status_of
message_read e w = go e.kind w.kind_low
  where
    go : (k : ℕ) → k < 2 → channel_message (128 + k * 16 + channel_of e.lane) (key_of e.lane) e.velocity
        ≡ elim (eqb k 0) [ true ↦ ends e.lane | false ↦ starts e.lane e.velocity ]
    go zero h = end_message e.lane e.velocity w.lane_low
    go (suc zero) h = start_message e.lane e.velocity w.lane_low w.loud
    go (suc (suc k)) h = absurd (omega arith)

-- An event's three bytes.
bytes_read : (e : NoteEvent) (s : List ℕ) (tick running q : ℕ) (rest : List ℕ) → Writable e → drop q s ≡ message_bytes e ++ rest
    → behind_time s tick running q ≡ event (place (q + 3) tick (status_of e)) (message_of e)
unfolding message_bytes status_of
bytes_read e s tick running q rest w f =
    status_read (128 + e.kind * 16 + channel_of e.lane) (key_of e.lane) e.velocity s tick running q rest (omega arith)
    (omega (arith, w.lane_low, w.kind_low)) (omega arith) w.soft f
    ∙ ap (event (place (q + 3) tick (128 + e.kind * 16 + channel_of e.lane))) (message_read e w)

-- An event behind its time.
pub event_read : (e : NoteEvent) (d : ℕ) (s : List ℕ) (p : Place) (rest : List ℕ) → Writable e → d < 268435456
    → drop p.at s ≡ quantity_bytes d ++ (message_bytes e ++ rest)
    → event_at s p ≡ event (place (p.at + length (quantity_bytes d) + 3) (p.tick + d) (status_of e)) (message_of e)
unfolding event_at
event_read e d s p rest w hd f =
    rw (quantity_read d hd s p.at (message_bytes e ++ rest) f, event_at)
    (bytes_read e s (p.tick + d) p.running (p.at + length (quantity_bytes d)) rest w (past s p.at (quantity_bytes d) (message_bytes e ++ rest) f))

-- The end of track.
meta_read : (s : List ℕ) (tick q : ℕ) → drop q s ≡ 47 ∷ 0 ∷ [] → meta_at s tick q ≡ finished tick
unfolding meta_at
meta_read s tick q e =
    let r = stands s q e in
    let r1 = stands s (suc q) r.behind in
    let n : length s ≡ suc (suc q) = omega (arith, r.inside, simp length-drop at (ap length e)) in
    rw (
      lt-ltb q (length s) r.inside,
      meta_at,
      r.here,
      last_group 3 s (suc q) 0 r.behind (omega arith),
      le-leb (suc (suc q) + 0) (length s) (omega arith),
      r.here,
      eq-eqb (suc (suc q)) (length s) (sym n),
    )

end_read : (s : List ℕ) (tick running q : ℕ) → drop q s ≡ end_of_track → behind_time s tick running q ≡ finished tick
unfolding behind_time own_status
end_read s tick running q e =
    let r = stands s q e in
    rw (lt-ltb q (length s) r.inside, behind_time, r.here, r.here) (meta_read s tick (suc q) r.behind)

pub finish_read : (d : ℕ) (s : List ℕ) (p : Place) → d < 268435456 → drop p.at s ≡ quantity_bytes d ++ end_of_track
    → event_at s p ≡ finished (p.tick + d)
unfolding event_at
finish_read d s p hd e =
    rw (quantity_read d hd s p.at end_of_track e, event_at)
    (end_read s (p.tick + d) p.running (p.at + length (quantity_bytes d)) (past s p.at (quantity_bytes d) end_of_track e))

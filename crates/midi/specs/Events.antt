-- One event of a track, where reading stands (question 12). s is the track's bytes; event bytes are hexadecimal. Assumes nothing.
use Rattle.std.specs.Prelude.{ℕ, suc, ◌+◌, ◌/◌, ◌%◌, Bool, true, false, ◌&&◌, ◌||◌, List, leb, ltb, eqb, length, get_or}
use Rattle.midi.specs.Lanes.{lane_of}
use Rattle.midi.specs.Numbers.{no_quantity, quantity, quantity_from, quantity_at}

-- Where reading stands: the position in the track, the tick of the last event, the running status in force (0: none).
pub record Place : Type 0 where
  pub at : ℕ
  pub tick : ℕ
  pub running : ℕ

abbrev pub place : ℕ → ℕ → ℕ → Place
place at tick running = record { at = at; tick = tick; running = running }

-- What an event says: a note starts (lane and velocity), a note ends (lane), or nothing (it is read over).
pub data Message : Type 0 where
  starts : ℕ → ℕ → Message
  ends : ℕ → Message
  passed : Message

-- What stands at a place: no legal event; an event, with the place behind it; the end of track, with its tick.
pub data Event : Type 0 where
  illegal : Event
  event : Place → Message → Event
  finished : ℕ → Event

-- A data byte, or a meta type, stands at a position inside the track and is below 80.
abbrev pub data_at : List ℕ → ℕ → Bool
data_at s at = ltb at (length s) && ltb (get_or s at 0) 0x80

-- 9n with velocity above 0 starts a note. 8n, or 9n with velocity 0, ends it. n is the channel. Others are read over.
unfoldable pub channel_message : ℕ → ℕ → ℕ → Message
channel_message status key velocity = elim (eqb (status / 16) 9) [
  | true ↦ elim (eqb velocity 0) [ true ↦ ends (lane_of (status % 16) key) | false ↦ starts (lane_of (status % 16) key) velocity ]
  | false ↦ elim (eqb (status / 16) 8) [ true ↦ ends (lane_of (status % 16) key) | false ↦ passed ]
]

-- A channel event, its data at q: one byte for Cn and Dn, two for the others. Its status is in force behind it.
unfoldable pub channel_at : List ℕ → ℕ → ℕ → ℕ → Event
unfolding channel_message
channel_at s tick status q = elim (data_at s q) [
  | false ↦ illegal
  | true ↦ elim (eqb (status / 32) 6) [
    | true ↦ event (place (suc q) tick status) passed
    | false ↦ elim (data_at s (suc q)) [
      | false ↦ illegal
      | true ↦ event (place (q + 2) tick status) (channel_message status (get_or s q 0) (get_or s (suc q) 0))
    ]
  ]
]

-- A meta event, its type at q, then its length. FF 2F, the end of track, has length 0 and is at the track's last byte.
unfoldable pub meta_at : List ℕ → ℕ → ℕ → Event
unfolding quantity_from
meta_at s tick q = elim (data_at s q) [
  | false ↦ illegal
  | true ↦ elim (quantity_at s (suc q)) [
    | no_quantity ↦ illegal
    | quantity n p ↦ elim (leb (p + n) (length s)) [
      | false ↦ illegal
      | true ↦ elim (eqb (get_or s q 0) 0x2F) [
        | true ↦ elim (eqb n 0 && eqb p (length s)) [ true ↦ finished tick | false ↦ illegal ]
        | false ↦ event (place (p + n) tick 0) passed
      ]
    ]
  ]
]

-- An F0 or F7 event, its length at q, with any bytes counted by it.
unfoldable pub sysex_at : List ℕ → ℕ → ℕ → Event
unfolding quantity_from
sysex_at s tick q = elim (quantity_at s q) [
  | no_quantity ↦ illegal
  | quantity n p ↦ elim (leb (p + n) (length s)) [ false ↦ illegal | true ↦ event (place (p + n) tick 0) passed ]
]

-- An event with a status of its own, 80 to EF, FF, F0 or F7, the rest of it at q. FF, F0 and F7 events end running status.
unfoldable pub own_status : List ℕ → ℕ → ℕ → ℕ → Event
unfolding channel_at meta_at sysex_at
own_status s tick status q = elim (ltb status 0xF0) [
  | true ↦ channel_at s tick status q
  | false ↦ elim (eqb status 0xFF) [
    | true ↦ meta_at s tick q
    | false ↦ elim (eqb status 0xF0 || eqb status 0xF7) [ true ↦ sysex_at s tick q | false ↦ illegal ]
  ]
]

-- An event behind its time, at q: with a status of its own, or with the running status, if one is in force.
unfoldable pub behind_time : List ℕ → ℕ → ℕ → ℕ → Event
unfolding own_status channel_at
behind_time s tick running q = elim (ltb q (length s)) [
  | false ↦ illegal
  | true ↦ elim (ltb (get_or s q 0) 0x80) [
    | true ↦ elim (eqb running 0) [ true ↦ illegal | false ↦ channel_at s tick running q ]
    | false ↦ own_status s tick (get_or s q 0) (suc q)
  ]
]

-- The event at a place: its time, counted from the event before it, then status and data.
unfoldable pub event_at : List ℕ → Place → Event
unfolding quantity_from behind_time
event_at s p = elim (quantity_at s p.at) [ no_quantity ↦ illegal | quantity d q ↦ behind_time s (p.tick + d) p.running q ]

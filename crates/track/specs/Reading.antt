-- What the answers of a track's reader are, case by case, and the parts in which it reads an event. Assumes nothing.
use Rattle.std.specs.Prelude.{ℕ, suc, ◌+◌, ◌*◌, true, false, cond, ◌&&◌, List, leb, ltb, eqb, length, get_or, Option, Some, None}
use Rattle.midi.specs.Numbers as N
use Rattle.midi.specs.Events as E
use Rattle.track.specs.declared.cursor.Cursor.{Cursor}
use Rattle.track.specs.declared.quantities.Quantity.{Quantity}
use Rattle.track.specs.declared.cursor.Play.{Play}
use Rattle.track.specs.declared.cursor.Event.{Event}
use Rattle.track.specs.declared.cursor.Event.TheVariants.{Next, Finished}

-- A number read, or none.
abbrev pub quantity_of : Option Quantity → N.Quantity
quantity_of None = N.no_quantity
quantity_of (Some q) = N.quantity q.number q.end

-- The place of a cursor.
abbrev pub place_of : Cursor → E.Place
place_of c = E.place c.at c.tick c.running

-- The lane of a channel's key; 2,048, which is no lane, for a key above 127.
abbrev pub lane_of : ℕ → ℕ → ℕ
lane_of channel key = cond (ltb key 128) (128 * channel + key) 2048

-- What an event says: a note starts or ends, or it is read over.
abbrev pub message_of : Option Play → E.Message
message_of (Some p) = cond (eqb p.velocity 0) (E.ends (lane_of p.channel p.key)) (E.starts (lane_of p.channel p.key) p.velocity)
message_of None = E.passed

-- What stands at a place.
abbrev pub event_of : Option Event → E.Event
event_of None = E.illegal
event_of (Some (Next c m)) = E.event (place_of c) (message_of m)
event_of (Some (Finished tick)) = E.finished tick

-- ---- parts of an event

-- The data byte at a position, if one stands there.
unfoldable pub data_of : List ℕ → ℕ → Option ℕ
data_of s q = elim (E.data_at s q) [ true ↦ Some (get_or s q 0) | false ↦ None ]

-- A channel event from its second data byte on.
unfoldable pub second_at : List ℕ → ℕ → ℕ → ℕ → ℕ → E.Event
second_at s tick status key q = elim (E.data_at s q) [
  | false ↦ E.illegal
  | true ↦ E.event (E.place (suc q) tick status) (E.channel_message status key (get_or s q 0))
]

-- An event that is read over, from behind its length on.
unfoldable pub over_at : List ℕ → ℕ → ℕ → ℕ → E.Event
over_at s tick n p = elim (leb (p + n) (length s)) [ false ↦ E.illegal | true ↦ E.event (E.place (p + n) tick 0) E.passed ]

-- The end of track, from behind its length on.
unfoldable pub end_at : List ℕ → ℕ → ℕ → ℕ → E.Event
end_at s tick n p = elim (eqb n 0 && eqb p (length s)) [ true ↦ E.finished tick | false ↦ E.illegal ]

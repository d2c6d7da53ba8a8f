-- "Calls and the plain machine": the machine is fed each call's arguments and the number that the call returned, and nothing
-- from the session's words. Assumes nothing.
use Rattle.std.specs.Prelude.{ℕ, zero, suc, ◌/◌, List, [], ◌∷◌, ◌++◌, length, get_or, set, take, drop, replicate}
use Rattle.model.specs.Takes.{read_notes}
use Rattle.model.specs.Histories.{Recording, pairs_of, history_words}
use Rattle.model.specs.declared.Header.{Header}

-- A call with its arguments. Open: δ, ε, K, W. Lay: shelf, beats, the words of the note list. Split: take, beat k, left, right.
-- Join: first, second, result.
pub data Call : Type 0 where
  open_call : Header → Call
  lay_call : ℕ → ℕ → List ℕ → Call
  split_call : ℕ → ℕ → ℕ → ℕ → Call
  join_call : ℕ → ℕ → ℕ → Call

-- A lent note list, four words a note, with its beats is a recording.
unfoldable pub listed : ℕ → List ℕ → Recording
unfolding read_notes
listed beats ws = record { beats = beats; notes = read_notes (length ws / 4) ws }

-- It keeps the header, the recordings and, per shelf, a list of pairs (recording, beat): the shelf's history.
pub record Machine : Type 0 where
  pub header : Header
  pub recordings : List Recording
  pub histories : List (List (ℕ × ℕ))

-- After open there are no recordings and every list is empty.
unfoldable pub opened : Header → Machine
opened h = record { header = h; recordings = []; histories = replicate h.shelves [] }

-- The history of shelf i.
abbrev pub history : Machine → ℕ → List (ℕ × ℕ)
history m i = get_or m.histories i []

-- A new recording, whose pairs in order become the list of shelf i.
unfoldable pub recorded : Machine → ℕ → Recording → Machine
recorded m i r = record {
  header = m.header;
  recordings = m.recordings ++ r ∷ [];
  histories = set m.histories i (pairs_of (length m.recordings) r.beats 0);
}

-- A call that returned 0. A shelf given a new list loses its old one; every other shelf keeps its own.
unfoldable pub accepted : Machine → Call → Machine
unfolding opened listed recorded
accepted m (open_call h) = opened h
accepted m (lay_call i beats ws) = recorded m i (listed beats ws)
accepted m (split_call i k l r) = record {
  header = m.header;
  recordings = m.recordings;
  histories = set (set m.histories l (take k (history m i))) r (drop k (history m i));
}
accepted m (join_call i j k) = record {
  header = m.header;
  recordings = m.recordings;
  histories = set m.histories k (history m i ++ history m j);
}

-- A call with a number above 0 changes nothing.
unfoldable pub fed : Machine → Call × ℕ → Machine
unfolding accepted
fed m c = elim c.1 [ zero ↦ accepted m c.0 | suc n ↦ m ]

-- The machine after a list of calls with their numbers.
unfoldable pub fed_all : Machine → List (Call × ℕ) → Machine
unfolding fed
fed_all m [] = m
fed_all m (c ∷ cs) = fed_all (fed m c) cs

-- The words that the machine gives for shelf i.
unfoldable pub given_words : Machine → ℕ → List ℕ
unfolding history_words
given_words m i = history_words m.header m.recordings (history m i)

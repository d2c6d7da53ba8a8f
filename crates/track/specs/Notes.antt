-- The forms in which nearly all notes of a track stand. Assumes nothing.
use Rattle.std.specs.Prelude.{◌≡◌, Bool, cond, List, ℕ, ◌+◌, ◌*◌, ◌/◌, ◌%◌, ◌≤◌, ◌<◌, leb, length, get_or}
use Rattle.track.specs.declared.cursor.Form.{Form}

-- A time of one group, 8n or 9n, key and velocity.
pub record Plain (s : List ℕ) (at : ℕ) : Type 0 where
  pub inside : at + 4 ≤ length s
  pub time : get_or s at 0 < 128
  pub status : get_or s (at + 1) 0 / 32 ≡ 4
  pub key : get_or s (at + 2) 0 < 128
  pub velocity : get_or s (at + 3) 0 < 128

-- A time of one or two groups: by whether the first goes on, its last byte, what the byte ahead of it gives, and the byte behind it.
abbrev pub long : List ℕ → ℕ → Bool
long s at = leb 128 (get_or s at 0)

abbrev pub last : List ℕ → ℕ → ℕ
last s at = cond (long s at) (get_or s (at + 1) 0) (get_or s at 0)

abbrev pub high : List ℕ → ℕ → ℕ
high s at = cond (long s at) (get_or s at 0 % 128) 0

abbrev pub behind : List ℕ → ℕ → ℕ
behind s at = cond (long s at) (get_or s (at + 2) 0) (get_or s (at + 1) 0)

-- A note behind such a time: a byte of 128 or more is its status, behind which its key stands; a smaller one is its key, with the status in force.
abbrev pub form_at : List ℕ → ℕ → ℕ → Form
form_at s at running =
    let own = leb 128 (behind s at) in
    record {
      last = last s at;
      time = high s at * 128 + last s at;
      status = cond own (behind s at) running;
      at = at + 1 + cond (long s at) 1 0 + cond own 1 0;
    }

-- A time of one or two groups, 8n or 9n as a status of its own or in force, key and velocity.
pub record Short (s : List ℕ) (at running : ℕ) : Type 0 where
  pub inside : at + 5 ≤ length s
  pub time : (form_at s at running).last < 128
  pub status : (form_at s at running).status / 32 ≡ 4
  pub key : get_or s (form_at s at running).at 0 < 128
  pub velocity : get_or s ((form_at s at running).at + 1) 0 < 128

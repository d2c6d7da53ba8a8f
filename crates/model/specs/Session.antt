-- "The session and its shelves": a session as a list of words. The number of header words and the place of a shelf stand here only.
-- Assumes nothing.
use Rattle.std.specs.Prelude.{ℕ, ◌+◌, ◌*◌, List, [], ◌∷◌, ◌++◌, take, drop, replicate}
use Rattle.words.specs.Splice.{splice}
use Rattle.model.specs.Takes.{word}
use Rattle.model.specs.declared.Header.{Header}

-- δ, ε, K, W, then K shelves.
abbrev pub header_words : ℕ
header_words = 4

unfoldable pub header_of : List ℕ → Header
header_of s = record { delta = word s 0; epsilon = word s 1; shelves = word s 2; words = word s 3 }

abbrev pub words_of_header : Header → List ℕ
words_of_header h = h.delta ∷ h.epsilon ∷ h.shelves ∷ h.words ∷ []

-- Its length is exactly 4 + K × W.
abbrev pub session_length : Header → ℕ
session_length h = header_words + h.shelves * h.words

-- Where shelf i begins.
abbrev pub shelf_at : Header → ℕ → ℕ
shelf_at h i = header_words + i * h.words

-- The W words of shelf i.
unfoldable pub shelf : Header → List ℕ → ℕ → List ℕ
shelf h s i = take h.words (drop (shelf_at h i) s)

-- The session with other words in shelf i.
unfoldable pub put_shelf : Header → List ℕ → ℕ → List ℕ → List ℕ
unfolding splice
put_shelf h s i ws = splice s (shelf_at h i) ws

-- A fresh session: the header, and every shelf empty. Three zeros make the empty take, and zeros stand behind it.
unfoldable pub fresh_words : Header → List ℕ
fresh_words h = words_of_header h ++ replicate (h.shelves * h.words) 0

-- Lines and their answers by computation: the paper's example, malformed lines, lines before an accepted open. Assumes nothing.
use Rattle.std.specs.Prelude.{◌≡◌, refl, List, [], ◌∷◌, ◌++◌, map, ℕ}
use Rattle.model.specs.Lists.{gather}
use Rattle.frames.specs.Digits.{digits_of}
use Rattle.frames.specs.Answers.{line_answer, line_after, answers}

-- Lines of digits, given by their bytes.
unfoldable pub lines : List (List ℕ) → List (List ℕ)
lines = map digits_of

-- The same as one text, each with its line feed.
unfoldable pub text : List (List ℕ) → List ℕ
text = gather (λ bytes. digits_of bytes ++ 10 ∷ [])

-- ---- the paper's example

unfoldable pub frames : List (List ℕ)
frames =
    (0x01 ∷ 0x00 ∷ 0x00 ∷ 0x00 ∷ 0x0A ∷ 0x00 ∷ 0x00 ∷ 0x00 ∷ 0x03 ∷ 0x00 ∷ 0x00 ∷ 0x00 ∷ 0x04 ∷ 0x00 ∷ 0x00 ∷ 0x00 ∷ 0x20 ∷ [])
    ∷ (0x02 ∷ 0x00 ∷ 0x00 ∷ 0x00 ∷ 0x00 ∷ 0x00 ∷ 0x00 ∷ 0x00 ∷ 0x02 ∷ 0x00 ∷ 0x00 ∷ 0x00 ∷ 0x3C ∷ 0x00 ∷ 0x00 ∷ 0x00 ∷ 0x08 ∷ 0x00 ∷ 0x00 ∷ 0x00 ∷ 0x0C ∷ 0x00 ∷ 0x00 ∷ 0x00 ∷ 0x64 ∷ [])
    ∷ (0x03 ∷ 0x00 ∷ 0x00 ∷ 0x00 ∷ 0x00 ∷ 0x00 ∷ 0x00 ∷ 0x00 ∷ 0x01 ∷ 0x00 ∷ 0x00 ∷ 0x00 ∷ 0x01 ∷ 0x00 ∷ 0x00 ∷ 0x00 ∷ 0x02 ∷ [])
    ∷ (0x04 ∷ 0x00 ∷ 0x00 ∷ 0x00 ∷ 0x01 ∷ 0x00 ∷ 0x00 ∷ 0x00 ∷ 0x02 ∷ 0x00 ∷ 0x00 ∷ 0x00 ∷ 0x03 ∷ [])
    ∷ (0x05 ∷ 0x00 ∷ 0x00 ∷ 0x00 ∷ 0x01 ∷ [])
    ∷ (0x05 ∷ 0x00 ∷ 0x00 ∷ 0x00 ∷ 0x03 ∷ []) ∷ []

unfoldable pub outputs : List (List ℕ)
outputs =
    (0x00 ∷ []) ∷ (0x00 ∷ []) ∷ (0x00 ∷ []) ∷ (0x00 ∷ [])
    ∷ (0x00 ∷ 0x4D ∷ 0x54 ∷ 0x68 ∷ 0x64 ∷ 0x00 ∷ 0x00 ∷ 0x00 ∷ 0x06 ∷ 0x00 ∷ 0x00 ∷ 0x00 ∷ 0x01 ∷ 0x00 ∷ 0x0A ∷ 0x4D ∷ 0x54 ∷ 0x72 ∷ 0x6B ∷ 0x00 ∷ 0x00 ∷ 0x00 ∷ 0x04 ∷ 0x0A ∷ 0xFF ∷ 0x2F ∷ 0x00 ∷ [])
    ∷ (0x00 ∷ 0x4D ∷ 0x54 ∷ 0x68 ∷ 0x64 ∷ 0x00 ∷ 0x00 ∷ 0x00 ∷ 0x06 ∷ 0x00 ∷ 0x00 ∷ 0x00 ∷ 0x01 ∷ 0x00 ∷ 0x0A ∷ 0x4D ∷ 0x54 ∷ 0x72 ∷ 0x6B ∷ 0x00 ∷ 0x00 ∷ 0x00 ∷ 0x0C ∷ 0x08 ∷ 0x90 ∷ 0x3C ∷ 0x64 ∷ 0x04 ∷ 0x80 ∷ 0x3C ∷ 0x40 ∷ 0x08 ∷ 0xFF ∷ 0x2F ∷ 0x00 ∷ []) ∷ []

pub the_example : answers [] (lines frames) ≡ text outputs
unfolding answers line_answer line_after lines text frames outputs
the_example = refl

-- ---- malformed lines, before any other number

unfoldable pub malformed_lines : List (List ℕ)
unfolding lines
malformed_lines =
    -- empty; a lowercase digit, a space, a carriage return, a zero byte, a byte above 7F; an odd digit
    [] ∷ (48 ∷ 97 ∷ []) ∷ (48 ∷ 49 ∷ 32 ∷ []) ∷ (48 ∷ 53 ∷ 13 ∷ []) ∷ (0 ∷ 0 ∷ []) ∷ (200 ∷ 200 ∷ []) ∷ (48 ∷ 53 ∷ 48 ∷ [])
    -- unknown call bytes; an incomplete word; too few words; too many
    ∷ lines ((0x00 ∷ []) ∷ (0x07 ∷ 0 ∷ 0 ∷ 0 ∷ 0 ∷ []) ∷ (0x05 ∷ 0 ∷ 0 ∷ 0 ∷ []) ∷ (0x04 ∷ 0 ∷ 0 ∷ 0 ∷ 0 ∷ []) ∷ (0x05 ∷ 0 ∷ 0 ∷ 0 ∷ 0 ∷ 0 ∷ 0 ∷ 0 ∷ 0 ∷ [])
    -- lay with one word; load with three bytes
    ∷ (0x02 ∷ 0 ∷ 0 ∷ 0 ∷ 0 ∷ []) ∷ (0x06 ∷ 0 ∷ 0 ∷ 0 ∷ []) ∷ [])

pub all_malformed : map (line_answer []) malformed_lines ≡ map (λ l. 70 ∷ 70 ∷ 10 ∷ []) malformed_lines
unfolding line_answer malformed_lines lines
all_malformed = refl

-- ---- before an accepted open

-- Every other call prints 01: lay, split, join, write and load, the last with no file bytes.
unfoldable pub unopened : List (List ℕ)
unopened =
    (0x02 ∷ 0 ∷ 0 ∷ 0 ∷ 0 ∷ 0 ∷ 0 ∷ 0 ∷ 0 ∷ []) ∷ (0x03 ∷ 0 ∷ 0 ∷ 0 ∷ 0 ∷ 0 ∷ 0 ∷ 0 ∷ 0 ∷ 0 ∷ 0 ∷ 0 ∷ 1 ∷ 0 ∷ 0 ∷ 0 ∷ 2 ∷ [])
    ∷ (0x04 ∷ 0 ∷ 0 ∷ 0 ∷ 0 ∷ 0 ∷ 0 ∷ 0 ∷ 0 ∷ 0 ∷ 0 ∷ 0 ∷ 1 ∷ []) ∷ (0x05 ∷ 0 ∷ 0 ∷ 0 ∷ 0 ∷ []) ∷ (0x06 ∷ 0 ∷ 0 ∷ 0 ∷ 0 ∷ []) ∷ []

pub all-unopened : answers [] (lines unopened) ≡ text (map (λ l. 0x01 ∷ []) unopened)
unfolding answers line_answer line_after lines text unopened
all-unopened = refl

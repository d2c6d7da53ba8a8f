-- Calls on a small session, by computation: the paper's example for the program, and for each question a call that is refused
-- with its number, the order of the questions included. Assumes nothing.
use Rattle.std.specs.Prelude.{◌≡◌, refl, List, [], ◌∷◌, ◌++◌, map, ℕ, replicate}
use Rattle.model.specs.Machine.{Call, open_call, lay_call, split_call, join_call, opened, fed_all, given_words}
use Rattle.model.specs.Questions.{number, answered, after_all}
use Rattle.model.specs.declared.Header.{Header}

-- ---- the paper's example: open, lay, split, join

unfoldable pub header : ℕ → ℕ → ℕ → ℕ → Header
header δ ε K W = record { delta = δ; epsilon = ε; shelves = K; words = W }

unfoldable pub example : List Call
unfolding header
example =
    open_call (header 10 3 4 32)
    ∷ lay_call 0 2 (60 ∷ 8 ∷ 12 ∷ 100 ∷ [])
    ∷ split_call 0 1 1 2
    ∷ join_call 1 2 3
    ∷ []

-- The 132 lent words, and what the four shelves are to hold: [8,12], its hidden halves, and [8,12] again.
unfoldable pub lent : List ℕ
lent = replicate 132 7

pub whole : List ℕ
whole = 2 ∷ 1 ∷ 2 ∷ 60 ∷ 8 ∷ 12 ∷ 100 ∷ 60 ∷ 0 ∷ 1 ∷ 2 ∷ 2 ∷ 100 ∷ 60 ∷ 1 ∷ 0 ∷ 2 ∷ 2 ∷ 100 ∷ replicate 13 0

pub half : ℕ → List ℕ
half side = 1 ∷ 0 ∷ 1 ∷ 60 ∷ 0 ∷ side ∷ 2 ∷ 2 ∷ 100 ∷ replicate 23 0

pub example_words : after_all lent example ≡ 10 ∷ 3 ∷ 4 ∷ 32 ∷ whole ++ (half 1 ++ (half 0 ++ whole))
unfolding after_all lent example whole half
example_words = refl

pub example_numbers : map (λ a. a.1) (answered lent example) ≡ 0 ∷ 0 ∷ 0 ∷ 0 ∷ []
unfolding answered lent example
example_numbers = refl

-- What the plain machine gives for shelf 3, fed the calls and the numbers.
pub example-given : given_words (fed_all (opened (header 10 3 4 32)) (answered lent example)) 3 ≡ whole
unfolding given_words fed_all opened answered lent example whole header
example-given = refl

-- ---- refusals

-- A call on the example's session, and its number.
pub record Asked : Type 0 where
  pub call : Call
  pub answer : ℕ

ask : Call → ℕ → Asked
ask c n = record { call = c; answer = n }

pub asked : List Asked
unfolding ask header
asked =
    -- 1: each header word below and above its range, and the length
    ask (open_call (header 10 3 4 32)) 0
    ∷ ask (open_call (header 0 0 4 32)) 1
    ∷ ask (open_call (header 32768 3 4 32)) 1
    ∷ ask (open_call (header 10 0 4 32)) 1
    ∷ ask (open_call (header 10 11 4 32)) 1
    ∷ ask (open_call (header 10 3 0 32)) 1
    ∷ ask (open_call (header 10 3 65 32)) 1
    ∷ ask (open_call (header 10 3 64 2)) 1
    ∷ ask (open_call (header 10 3 3 32)) 1
    ∷ ask (open_call (header 32767 32767 1 128)) 0
    -- 2, before 3, 6 and 7
    ∷ ask (lay_call 4 4097 (1 ∷ [])) 2
    ∷ ask (split_call 4 1 4 4) 2
    ∷ ask (split_call 0 1 4 2) 2
    ∷ ask (split_call 0 1 1 4) 2
    ∷ ask (join_call 0 1 4) 2
    -- 3, before 5
    ∷ ask (split_call 0 9 0 2) 3
    ∷ ask (split_call 0 9 1 0) 3
    ∷ ask (split_call 0 9 1 1) 3
    ∷ ask (join_call 0 1 0) 3
    ∷ ask (join_call 1 0 0) 3
    -- 5: k at n and above it
    ∷ ask (split_call 0 2 1 2) 0
    ∷ ask (split_call 0 3 1 2) 5
    -- 6, before 7
    ∷ ask (lay_call 0 4096 []) 0
    ∷ ask (lay_call 0 4097 (1 ∷ [])) 6
    -- 7: whole notes, ranges, order, overlap; before 8
    ∷ ask (lay_call 0 1 (60 ∷ 1 ∷ 2 ∷ [])) 7
    ∷ ask (lay_call 0 1 (60 ∷ 2 ∷ 2 ∷ 100 ∷ [])) 7
    ∷ ask (lay_call 0 1 (60 ∷ 2 ∷ 4 ∷ 100 ∷ 60 ∷ 3 ∷ 5 ∷ 100 ∷ [])) 7
    ∷ ask (lay_call 0 1 (60 ∷ 2 ∷ 4 ∷ 100 ∷ 59 ∷ 5 ∷ 6 ∷ 100 ∷ [])) 7
    -- 8: of 32 words, one note over four beats takes 3 + 4 + 6 × 6, the whole joined with itself 3 + 8 + 24, a hidden half twice 3 + 12
    ∷ ask (lay_call 0 4 (60 ∷ 5 ∷ 35 ∷ 100 ∷ [])) 8
    ∷ ask (join_call 0 0 1) 8
    ∷ ask (join_call 1 1 2) 0
    ∷ []

pub numbers : map (λ a. number (after_all lent example) a.call) asked ≡ map (λ a. a.answer) asked
unfolding number after_all lent example asked
numbers = refl

-- 4 comes before 5, 6 and 8, and looks at the shelves read only: a word in shelf 0 that is no zero behind its cells.
unfoldable pub damaged : List ℕ
damaged = 10 ∷ 3 ∷ 3 ∷ 4 ∷ 0 ∷ 0 ∷ 0 ∷ 9 ∷ replicate 8 0

pub damaged_numbers
    : map (number damaged) (split_call 0 9 1 2 ∷ join_call 1 0 2 ∷ join_call 0 1 2 ∷ split_call 1 9 0 2 ∷ join_call 1 2 0 ∷ lay_call 0 3 [] ∷ [])
    ≡ 4 ∷ 4 ∷ 4 ∷ 5 ∷ 0 ∷ 0 ∷ []
unfolding number damaged
damaged_numbers = refl

-- A session that is too short, too long, or of fewer than four words is refused by every call.
pub lengths
    : map (λ s. number s (lay_call 0 0 []))
    ([] ∷ (10 ∷ 3 ∷ 1 ∷ []) ∷ (10 ∷ 3 ∷ 1 ∷ 3 ∷ 0 ∷ 0 ∷ []) ∷ (10 ∷ 3 ∷ 1 ∷ 3 ∷ 0 ∷ 0 ∷ 0 ∷ 0 ∷ []) ∷ (10 ∷ 3 ∷ 1 ∷ 3 ∷ 0 ∷ 0 ∷ 0 ∷ []) ∷ [])
    ≡ 1 ∷ 1 ∷ 1 ∷ 1 ∷ 0 ∷ []
unfolding number
lengths = refl

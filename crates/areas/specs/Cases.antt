-- Worked cases of the totals and of each refusal. Each list pairs what a definition gives with what it should give, and one
-- proof by computation holds the whole list. Assumes nothing.
use Rattle.std.specs.Prelude.{ℕ, List, [], ◌∷◌, ◌++◌, refl, replicate}
use Rattle.num.specs.Cases.{Hold}
use Rattle.num.specs.Refusals.{bad_side, unless}
use Rattle.num.specs.Rewrite.{rewrite}
use Rattle.areas.specs.Areas.{sum, some, holds, channel, total, words, totals_of, bad_area, bad_areas, bad_list, refusal_of, Answer, Read, Refused, judged}

-- two rows of three words; the top byte of a word is no channel
abbrev picture : List ℕ
picture = 0x010203 ∷ 0xff040506 ∷ 0x070809 ∷ 0x0a0b0c ∷ 0x0d0e0f ∷ 0xffffff ∷ []

-- a result, before the call
abbrev nines : ℕ → List ℕ
nines n = replicate n 9

-- two rectangles that share a word, and words left over in the result; one rectangle twice; two that are empty at the right
-- and the lower edge; none; the whole; one that is empty outside the picture
abbrev pub answered : List ((Answer × List ℕ) × (Answer × List ℕ))
answered =
    (judged picture 3 2 (0 ∷ 0 ∷ 2 ∷ 2 ∷ 1 ∷ 0 ∷ 2 ∷ 1 ∷ []) (nines 8), (Read 5, 28 ∷ 32 ∷ 36 ∷ 11 ∷ 13 ∷ 15 ∷ 9 ∷ 9 ∷ []))
    ∷ (judged picture 3 2 (2 ∷ 1 ∷ 1 ∷ 1 ∷ 2 ∷ 1 ∷ 1 ∷ 1 ∷ []) (nines 6), (Read 1, replicate 6 255))
    ∷ (judged picture 3 2 (3 ∷ 0 ∷ 0 ∷ 2 ∷ 0 ∷ 2 ∷ 3 ∷ 0 ∷ []) (nines 6), (Read 0, replicate 6 0))
    ∷ (judged picture 3 2 [] (nines 1), (Read 0, nines 1))
    ∷ (judged picture 3 2 (0 ∷ 0 ∷ 3 ∷ 2 ∷ []) (nines 3), (Read 6, 290 ∷ 295 ∷ 300 ∷ []))
    ∷ (judged picture 3 2 (4 ∷ 0 ∷ 0 ∷ 0 ∷ []) (nines 3), (Refused 19, nines 3))
    ∷ []

pub answered_hold : Hold answered
unfolding judged unless refusal_of bad_list bad_areas bad_area bad_side words totals_of rewrite total channel holds some sum
answered_hold = refl

-- a picture of one word, in 64 rectangles: it is read once
abbrev ones : List ℕ
ones = 0 ∷ 0 ∷ 1 ∷ 1 ∷ []

abbrev colours : List ℕ
colours = 1 ∷ 2 ∷ 3 ∷ []

abbrev four : List ℕ → List ℕ
four xs = xs ++ (xs ++ (xs ++ xs))

abbrev pub once : List ((Answer × List ℕ) × (Answer × List ℕ))
once = (judged (0x010203 ∷ []) 1 1 (four (four (four ones))) (nines 192), (Read 1, four (four (four colours)))) ∷ []

pub once_hold : Hold once
unfolding judged unless refusal_of bad_list bad_areas bad_area bad_side words totals_of rewrite total channel holds some sum
once_hold = refl

-- By the sizes: a side of 0 and of 1025 (8), 1024 taken; a picture of one word too few (9). The list: 64 rectangles taken and
-- 65 not, a number too many, one that leaves the picture to the right, below, and though it is empty, and a result of one
-- total too few (19). The first that holds is given.
abbrev pub stopped : List (ℕ × ℕ)
stopped =
    (refusal_of 0 0 1 (0 ∷ []) 0, 8)
    ∷ (refusal_of 0 1 0 (0 ∷ []) 0, 8)
    ∷ (refusal_of 1025 1025 1 [] 0, 8)
    ∷ (refusal_of 1025 1 1025 [] 0, 8)
    ∷ (refusal_of 1024 1024 1 [] 0, 0)
    ∷ (refusal_of 5 3 2 (0 ∷ []) 0, 9)
    ∷ (refusal_of 1 1 1 (replicate 256 0) 192, 0)
    ∷ (refusal_of 1 1 1 (replicate 260 0) 195, 19)
    ∷ (refusal_of 6 3 2 (0 ∷ 0 ∷ 3 ∷ 2 ∷ 0 ∷ []) 6, 19)
    ∷ (refusal_of 6 3 2 (1 ∷ 0 ∷ 2 ∷ 2 ∷ []) 3, 0)
    ∷ (refusal_of 6 3 2 (1 ∷ 0 ∷ 3 ∷ 2 ∷ []) 3, 19)
    ∷ (refusal_of 6 3 2 (0 ∷ 1 ∷ 3 ∷ 2 ∷ []) 3, 19)
    ∷ (refusal_of 6 3 2 (65535 ∷ 65535 ∷ 65535 ∷ 65535 ∷ []) 3, 19)
    ∷ (refusal_of 6 3 2 (4 ∷ 0 ∷ 0 ∷ 2 ∷ []) 3, 19)
    ∷ (refusal_of 6 3 2 (0 ∷ 3 ∷ 0 ∷ 0 ∷ []) 3, 19)
    ∷ (refusal_of 6 3 2 (0 ∷ 0 ∷ 3 ∷ 2 ∷ []) 2, 19)
    ∷ []

pub stopped_hold : Hold stopped
unfolding refusal_of bad_list bad_areas bad_area bad_side some
stopped_hold = refl

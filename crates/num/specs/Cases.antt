-- The cases of the number steps: those that document 01 marks (●), and those at the limits that it leaves to be read. Each list pairs what a definition
-- gives with what it should give, and one proof by computation holds the whole list. Assumes nothing.
use Rattle.std.specs.Prelude.{true, false, List, [], ◌∷◌, map, ◌≡◌, refl, ℕ, Float}
use Rattle.std.specs.Float.{nan, inf, binary32}
use Rattle.std.specs.Float.Ieee.{of_bits, neg}
use Rattle.num.specs.Const.{c0_0, c0_5, c0_95, c1_0, c2_0, c3_0, c4_0, c1023_0, c1023_5, c8388608_0}
use Rattle.num.specs.F32.{dec}
use Rattle.num.specs.Steps.{clamp_of, min_of, max_of, plus_zero_of, limit_of, abs_of, cut_of, round_of}
use Rattle.num.specs.Root.{root_of}

-- the list holds: each first is its second
abbrev pub Hold : {A : Type 0} → List (A × A) → Type 0
Hold {A} l = map (λ (p : A × A). p.0) l ≡ map (λ (p : A × A). p.1) l

-- ● Round gives 1 at 0.5, -1 at -0.5, 3 at 2.5, and 0 at the largest binary32 below 0.5. Root gives 0 at either zero, 1 at 1, and at 2 the value with
-- the bits 3FB504F3.
abbrev pub marked : List (Float × Float)
marked =
    (round_of c0_5, c1_0)
    ∷ (round_of (neg c0_5), neg c1_0)
    ∷ (round_of (dec 25 1), c3_0)
    ∷ (round_of (of_bits binary32 0x3eff_ffff), c0_0)
    ∷ (root_of c0_0, c0_0)
    ∷ (root_of (neg c0_0), c0_0)
    ∷ (root_of c1_0, c1_0)
    ∷ (root_of c2_0, of_bits binary32 0x3fb5_04f3)
    ∷ []

pub marked_hold : Hold marked
unfolding dec neg of_bits round_of root_of
marked_hold = refl

-- cut at -1, -0, 0.99, 1023, the next value above 1023, and 1023.5; then of what is no number or not finite
abbrev pub cuts : List (ℕ × ℕ)
cuts =
    (cut_of (neg c1_0), 0)
    ∷ (cut_of (neg c0_0), 0)
    ∷ (cut_of (dec 99 2), 0)
    ∷ (cut_of c1023_0, 1023)
    ∷ (cut_of (of_bits binary32 0x447f_c001), 0)
    ∷ (cut_of c1023_5, 0)
    ∷ (cut_of nan, 0)
    ∷ (cut_of (inf false), 0)
    ∷ []

pub cuts_hold : Hold cuts
unfolding dec neg of_bits cut_of
cuts_hold = refl

-- round keeps the sign of what it makes zero, reaches 2 ^ 23 from the last half below it, and leaves what is not finite
abbrev pub rounds : List (Float × Float)
rounds =
    (round_of (neg (dec 2 1)), neg c0_0)
    ∷ (round_of (dec 83886075 1), c8388608_0)
    ∷ (round_of (inf true), inf true)
    ∷ (round_of nan, nan)
    ∷ []

pub rounds_hold : Hold rounds
unfolding dec neg of_bits round_of
rounds_hold = refl

-- roots of 4, 3, 5 (rounded up), the smallest value, the largest subnormal one, the smallest normal one, the largest one; then of -1 and of what is not finite
abbrev pub roots : List (Float × Float)
roots =
    (root_of c4_0, c2_0)
    ∷ (root_of c3_0, of_bits binary32 0x3fdd_b3d7)
    ∷ (root_of (dec 50 1), of_bits binary32 0x400f_1bbd)
    ∷ (root_of (of_bits binary32 1), of_bits binary32 0x1a35_04f3)
    ∷ (root_of (of_bits binary32 0x007f_ffff), of_bits binary32 0x1fff_ffff)
    ∷ (root_of (of_bits binary32 0x0080_0000), of_bits binary32 0x2000_0000)
    ∷ (root_of (of_bits binary32 0x7f7f_ffff), of_bits binary32 0x5f7f_ffff)
    ∷ (root_of (neg c1_0), c0_0)
    ∷ (root_of (inf false), c0_0)
    ∷ (root_of (inf true), c0_0)
    ∷ (root_of nan, c0_0)
    ∷ []

pub roots_hold : Hold roots
unfolding dec neg of_bits root_of
roots_hold = refl

-- clamp leaves -0 and a NaN; a limit makes -0 zero; min and max give the second where neither is below the other; |-0| is 0
abbrev pub choices : List (Float × Float)
choices =
    (clamp_of (neg c0_0) c0_0 c1_0, neg c0_0)
    ∷ (clamp_of nan c0_0 c1_0, nan)
    ∷ (limit_of (neg c0_0) c0_0 c1_0, c0_0)
    ∷ (limit_of (neg c0_0) (neg c1_0) c1_0, c0_0)
    ∷ (limit_of c2_0 c0_0 c0_95, c0_95)
    ∷ (limit_of (neg c1_0) c0_0 c4_0, c0_0)
    ∷ (min_of c0_0 (neg c0_0), neg c0_0)
    ∷ (min_of nan c1_0, c1_0)
    ∷ (max_of c1_0 nan, nan)
    ∷ (abs_of (neg c0_0), c0_0)
    ∷ (abs_of (inf true), inf false)
    ∷ []

pub choices_hold : Hold choices
unfolding neg of_bits clamp_of plus_zero_of limit_of min_of max_of abs_of
choices_hold = refl

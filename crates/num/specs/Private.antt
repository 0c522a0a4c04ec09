-- What the private functions of src/whole.rt and src/root.rt promise one another. No public contract cites these. Definitions only.
use Rattle.std.specs.Prelude.{◌≡◌, List, ℕ, ◌+◌, ◌*◌, ◌/◌, ◌%◌, ◌^◌, ◌≤◌, ◌<◌, Bool, true, false, not, ◌&&◌, cond, ltb, length, get_or, Float}
use Rattle.std.specs.Float.{nan, inf, fin, binary32}
use Rattle.std.specs.Float.Ieee.{up, down, lt, of_bits, to_bits}
use Rattle.num.specs.Const.{c0_0, c1_0}
use Rattle.num.specs.Root.{whole_root, root_of}

-- x is from +0 to below n
unfoldable pub under : ℕ → Float → Bool
under n nan = false
under n (inf s) = false
under n (fin s m e) = not s && ltb (m * up e) (n * down e)

-- the whole part of |x|, and of |x| + 1/2
unfoldable pub floor_of : Float → ℕ
floor_of nan = 0
floor_of (inf s) = 0
floor_of (fin s m e) = m * up e / down e

unfoldable pub half_up_of : Float → ℕ
half_up_of nan = 0
half_up_of (inf s) = 0
half_up_of (fin s m e) = (2 * (m * up e) + down e) / (2 * down e)

-- n is |x|, or at most a half away from it
unfoldable pub Near : Float → ℕ → Type 0
Near nan n = ⊥
Near (inf s) n = ⊥
Near (fin s m e) n = (2 * (m * up e) ≤ (2 * n + 1) * down e) × (2 * n * down e ≤ 2 * (m * up e) + down e)

-- x's sign, which a zero has too
unfoldable pub negative : Float → Bool
negative nan = false
negative (inf s) = s
negative (fin s m e) = s

-- x where it is above 0, and 1 elsewhere
abbrev pub operand : Float → Float
operand x = cond (lt c0_0 x) x c1_0

-- ---- the root, from the digits of its operand

-- the pattern that a whole root of 25 digits and the pattern of a power of two make
abbrev pub pattern : ℕ → ℕ → ℕ
pattern q power = (q + 1) / 2 + power

-- it is finite, and r's
abbrev pub Makes : ℕ → ℕ → Float → Type 0
Makes q power r = (pattern q power < 0x7f80_0000) × (of_bits binary32 (pattern q power) ≡ r)

-- it is finite, and that of x's root, where x is above 0 and finite
abbrev pub Answers : Float → ℕ → ℕ → Type 0
Answers x q power =
    (pattern q power < 0x7f80_0000) × (lt c0_0 x ≡ true → to_bits binary32 x < 0x7f80_0000 → of_bits binary32 (pattern q power) ≡ root_of x)

abbrev pub Readied : Float → ℕ → ℕ → Type 0
Readied x m power = (m < 2 ^ 25) × Answers x (whole_root (m * 2 ^ 25)) power

-- the digits of the root of a from the first down to `place`, a power of two, in `twice`, which is twice what is found of it: the square of that
-- leaves rest * place / 2 of a, and less than one more digit of `place` would take
pub record Digits (a rest twice place : ℕ) : Type 0 where
  pub sum : rest * place + rest * place + twice * twice ≡ 4 * a
  pub below : rest < 2 * twice + 2 * place
  pub room : twice + 2 * place ≤ 2 ^ 27
  pub even : twice % 2 ≡ 0

abbrev pub HasDigits : ℕ → ℕ → ℕ → Type 0
HasDigits rest twice place = (a : ℕ) × Digits a rest twice place

-- digits down to `place'`, whatever the root is of
abbrev pub Further : ℕ → ℕ → ℕ → ℕ → ℕ → ℕ → Type 0
Further rest twice place rest' twice' place' = (a : ℕ) → Digits a rest twice place → Digits a rest' twice' place'

-- ---- the same of lines of them

abbrev pub AllReadied : List Float → List ℕ → List ℕ → Type 0
AllReadied xs rest power =
    (length rest ≡ length xs)
    × (length power ≡ length xs)
    × ((k : ℕ) → k < length xs → Readied (get_or xs k nan) (get_or rest k 0) (get_or power k 0))

abbrev pub AllDigits : ℕ → List ℕ → List ℕ → Type 0
AllDigits place rest twice = (length twice ≡ length rest) × ((k : ℕ) → k < length rest → HasDigits (get_or rest k 0) (get_or twice k 0) place)

-- two digits more of each
abbrev pub MoreDigits : ℕ → List ℕ → List ℕ → List ℕ → List ℕ → Type 0
MoreDigits place rest twice rest' twice' =
    (length rest' ≡ length rest)
    × (length twice' ≡ length twice)
    × ((k : ℕ) → k < length rest → Further (get_or rest k 0) (get_or twice k 0) (4 * place) (get_or rest' k 0) (get_or twice' k 0) place)

-- whole numbers of at most 25 digits, and twice the whole root of each, times 2 ^ 25
abbrev pub Wholes : List ℕ → List ℕ → Type 0
Wholes ms twice = (length twice ≡ length ms) × ((k : ℕ) → k < length ms → get_or ms k 0 < 2 ^ 25)

abbrev pub WholeRoots : List ℕ → List ℕ → Type 0
WholeRoots ms twice = (length twice ≡ length ms) × ((k : ℕ) → k < length ms → get_or twice k 0 / 2 ≡ whole_root (get_or ms k 0 * 2 ^ 25))

abbrev pub AllAnswer : List Float → List ℕ → List ℕ → Type 0
AllAnswer xs twice power =
    (length twice ≡ length xs)
    × (length power ≡ length xs)
    × ((k : ℕ) → k < length xs → Answers (get_or xs k nan) (get_or twice k 0 / 2) (get_or power k 0))

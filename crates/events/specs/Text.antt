-- The lines that program `station` prints, as the bytes of their text. Assumes nothing.
use Rattle.std.specs.Prelude.{ℕ, ◌+◌, ◌/◌, ◌%◌, cond, List, [], ◌∷◌, ◌++◌, ltb}

-- the letters F, L, R, S and E, a space, a line's end
abbrev pub F : ℕ
F = 70

abbrev pub L : ℕ
L = 76

abbrev pub R : ℕ
R = 82

abbrev pub S : ℕ
S = 83

abbrev pub E : ℕ
E = 69

abbrev pub space : ℕ
space = 32

abbrev pub newline : ℕ
newline = 10

-- a digit below sixteen: 0 to 9, then capitals from A
abbrev pub digit_of : ℕ → ℕ
digit_of d = cond (ltb d 10) (48 + d) (55 + d)

-- a number of a byte, in decimal, with the fewest digits
unfoldable pub decimal : ℕ → List ℕ
decimal n =
    cond (ltb n 10) (digit_of n ∷ [])
    (cond (ltb n 100) (digit_of (n / 10) ∷ digit_of (n % 10) ∷ [])
    (digit_of (n / 100) ∷ digit_of (n / 10 % 10) ∷ digit_of (n % 10) ∷ []))

-- one space stands before each number and pixel
abbrev pub number_of : ℕ → List ℕ
number_of n = space ∷ decimal n

-- a pixel is six hexadecimal digits, RRGGBB
abbrev pub pixel_of : ℕ → List ℕ
pixel_of p =
    space ∷ digit_of (p / 1048576 % 16) ∷ digit_of (p / 65536 % 16) ∷ digit_of (p / 4096 % 16) ∷ digit_of (p / 256 % 16)
    ∷ digit_of (p / 16 % 16) ∷ digit_of (p % 16) ∷ []

unfoldable pub numbers_of : List ℕ → List ℕ
numbers_of [] = []
numbers_of (n ∷ ns) = number_of n ++ numbers_of ns

unfoldable pub pixels_of : List ℕ → List ℕ
pixels_of [] = []
pixels_of (p ∷ ps) = pixel_of p ++ pixels_of ps

-- a line: its letter, what follows it, the line's end
abbrev pub line : ℕ → List ℕ → List ℕ
line letter rest = letter ∷ rest ++ newline ∷ []

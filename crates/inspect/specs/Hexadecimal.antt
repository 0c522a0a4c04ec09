-- Hexadecimal text: pairs of digits, each a byte, with spaces before, between and after the pairs. Assumes nothing.
use Rattle.std.specs.Prelude.{ℕ, ◌+◌, ◌-◌, ◌*◌, Bool, true, false, cond, ◌&&◌, List, [], ◌∷◌, ◌++◌, eqb, leb, ltb, length, drop}
use Rattle.std.specs.Prelude.{Option, Some, None, Result, Ok, Err}
use Rattle.inspect.specs.declared.hexadecimal.DecodeError.{DecodeError}
use Rattle.inspect.specs.declared.hexadecimal.DecodeError.TheVariants.{NotHexadecimal, NoRoom}

-- the bytes of a text, or none where it is not hexadecimal
abbrev pub Hex : Type 0
Hex = Option (List ℕ)

abbrev pub within : (low high c : ℕ) → Bool
within low high c = leb low c && leb c high

-- the value of a digit: 0 to 9, A to F, a to f; 16 for a byte that is none
abbrev pub digit_of : ℕ → ℕ
digit_of c = cond (within 48 57 c) (c - 48) (cond (within 65 70 c) (c - 55) (cond (within 97 102 c) (c - 87) 16))

abbrev pub is_digit : ℕ → Bool
is_digit c = ltb (digit_of c) 16

abbrev pub space : ℕ
space = 32

-- a byte before those of a text
abbrev pub before : ℕ → Hex → Hex
before b (Some bs) = Some (b ∷ bs)
before b None = None

unfoldable pub hex_of : List ℕ → Hex
hex_of [] = Some []
hex_of (a ∷ []) = cond (eqb a space) (Some []) None
hex_of (a ∷ b ∷ rest) =
    cond (eqb a space) (hex_of (b ∷ rest))
    (cond (is_digit a && is_digit b) (before (digit_of a * 16 + digit_of b) (hex_of rest)) None)

abbrev pub is_hex : Hex → Bool
is_hex (Some bs) = true
is_hex None = false

abbrev pub bytes_of : Hex → List ℕ
bytes_of (Some bs) = bs
bytes_of None = []

-- the answer, by the length of the buffer
abbrev pub answer_for : ℕ → Hex → Result ℕ DecodeError
answer_for room (Some bs) = cond (leb (length bs) room) (Ok (length bs)) (Err NoRoom)
answer_for room None = Err NotHexadecimal

-- what is left in the buffer
abbrev pub left_in : List ℕ → Hex → List ℕ
left_in out (Some bs) = cond (leb (length bs) (length out)) (bs ++ drop (length bs) out) out
left_in out None = out

unfoldable pub decode_answer : (text out : List ℕ) → Result ℕ DecodeError
decode_answer text out = answer_for (length out) (hex_of text)

unfoldable pub decode_into : (text out : List ℕ) → List ℕ
decode_into text out = left_in out (hex_of text)

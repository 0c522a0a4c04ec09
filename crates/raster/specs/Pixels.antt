-- Pixels: as words 0xRRGGBB, and as three bytes each, red first. Assumes nothing.
use Rattle.std.specs.Prelude.{ℕ, zero, suc, ◌+◌, ◌*◌, ◌/◌, ◌%◌, List, [], ◌∷◌, ◌++◌, get_or, drop}

abbrev pub byte_at : List ℕ → ℕ → ℕ
byte_at bytes i = get_or bytes i 0

abbrev pub packed : ℕ → ℕ → ℕ → ℕ
packed r g b = r * 65536 + g * 256 + b

abbrev pub pixel_at : List ℕ → ℕ → ℕ
pixel_at bytes i = packed (byte_at bytes i) (byte_at bytes (i + 1)) (byte_at bytes (i + 2))

-- n pixels of three bytes
unfoldable pub unpacked : ℕ → List ℕ → List ℕ
unpacked zero bytes = []
unpacked (suc n) bytes = pixel_at bytes 0 ∷ unpacked n (drop 3 bytes)

-- a word's red, green and blue; what is above them is left out
abbrev pub bytes_of : ℕ → List ℕ
bytes_of word = word / 65536 % 256 ∷ word / 256 % 256 ∷ word % 256 ∷ []

unfoldable pub packed_bytes : List ℕ → List ℕ
packed_bytes [] = []
packed_bytes (word ∷ words) = bytes_of word ++ packed_bytes words

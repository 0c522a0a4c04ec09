-- The words of a line, and the bytes of a name. Assumes nothing.
use Prim.Native.Char.{code}
use Rattle.std.specs.Prelude.{ℕ, zero, suc, ◌+◌, ◌-◌, ◌≤◌, Bool, true, false, not, cond, ◌&&◌, ◌||◌, List, [], ◌∷◌, ◌≡◌, eqb, leb, length, take, drop}
use Prim.Native.String.{String, [] as empty, ◌∷◌ as ◌then◌}
use Rattle.texts.specs.declared.words.Span.{Span}

-- the bytes of an ASCII text
abbrev pub ascii : String → List ℕ
ascii empty = []
ascii (c then s) = code c ∷ ascii s

-- a buffer whose first n bytes are a text
abbrev pub Begins : (text : List ℕ) → ℕ → (out : List ℕ) → Type 0
Begins text n out = (n ≤ length out) × (take n out ≡ text)

-- what stands between words: tab, carriage return, space, comma, colon, equals sign
abbrev pub is_blank : ℕ → Bool
is_blank b = eqb b 9 || eqb b 13 || eqb b 32 || eqb b 44 || eqb b 58 || eqb b 61

-- how many bytes at the front of a list are such
unfoldable pub front : (ℕ → Bool) → List ℕ → ℕ
front such [] = 0
front such (b ∷ bs) = cond (such b) (suc (front such bs)) 0

abbrev pub is_letter : ℕ → Bool
is_letter b = not (is_blank b)

-- the next word from a place on: where it begins and where it ends
unfoldable pub next_word : List ℕ → ℕ → Span
next_word line at = let from = at + front is_blank (drop at line) in record { from = from; to = from + front is_letter (drop from line) }

-- word i, counted from 0; past the last one it is empty
unfoldable pub span_of : List ℕ → ℕ → Span
span_of line zero = next_word line 0
span_of line (suc i) = next_word line (span_of line i).to

unfoldable pub word_of : List ℕ → ℕ → List ℕ
word_of line i = let s : Span = span_of line i in take (s.to - s.from) (drop s.from line)

-- a letter without its case
abbrev pub small : ℕ → ℕ
small b = cond (leb 65 b && leb b 90) (b + 32) b

-- a word is a name, whatever the case of either
unfoldable pub is : (word name : List ℕ) → Bool
is [] [] = true
is [] (c ∷ name) = false
is (b ∷ word) [] = false
is (b ∷ word) (c ∷ name) = eqb (small b) (small c) && is word name

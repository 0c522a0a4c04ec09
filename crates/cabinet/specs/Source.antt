-- A source: a picture of numbers with its sides, and colours. Each of its pixels becomes three by three words. Assumes nothing.
use Rattle.std.specs.Prelude.{ℕ, ◌+◌, ◌*◌, ◌/◌, ◌%◌, Bool, cond, ◌||◌, List, ◌++◌, eqb, ltb, get_or, take, drop}
use Rattle.passes.specs.Rows.{sampled}

-- a side that no source has
unfoldable pub bad_source_side : ℕ → Bool
bad_source_side x = eqb x 0 || ltb 341 x

-- 21, by the sides and how many numbers and colours are lent; 0 for none
unfoldable pub source_stops : (w h numbers colours : ℕ) → ℕ
source_stops w h numbers colours = cond (bad_source_side w || bad_source_side h || ltb numbers (h * w) || ltb colours 64) 21 0

-- number p shows colour p modulo 64, the word as lent
abbrev pub shown_by : (colours : List ℕ) → ℕ → ℕ
shown_by colours p = get_or colours (p % 64) 0

-- the word in column x and row y of the enlarged frame
abbrev pub enlarged_at : (w : ℕ) → (picture colours : List ℕ) → (x y : ℕ) → ℕ
enlarged_at w picture colours x y = shown_by colours (get_or picture (y / 3 * w + x / 3) 0)

-- the framebuffer with the enlarged frame at its start
unfoldable pub enlarged : (w h : ℕ) → (picture colours words : List ℕ) → List ℕ
enlarged w h picture colours words =
    let count : ℕ = 3 * h * (3 * w) in sampled (3 * w) (enlarged_at w picture colours) (take count words) ++ drop count words

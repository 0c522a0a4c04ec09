-- What private functions promise. Assumes nothing.
use Rattle.std.specs.Prelude.{ℕ, zero, suc, ◌+◌, ◌*◌, ◌-◌, ◌/◌, ◌%◌, ◌≤◌, ◌<◌, max, ◌≡◌, Bool, true, false, ◌&&◌, cond, List, leb, ltb, length, get_or}
use Rattle.num.specs.Rewrite.{rewrite}
use Rattle.areas.specs.Areas.{sum, count, area_at, held, channel, words, totals_of}
use Rattle.areas.specs.declared.area.Area.{Area}
use Rattle.areas.specs.declared.area.Part.{Part}
use Rattle.areas.specs.declared.block.Band.{Band}
use Rattle.areas.specs.declared.share.Colour.{Colour}

-- ## Rectangles

-- a rectangle as it stands in the list: its numbers have 16 bits
pub record Listed (a r : Area) : Type 0 where
  pub same : r ≡ a
  pub across : r.left + r.wide ≤ 131070
  pub down : r.top + r.high ≤ 131070

-- it lies in w by h, and each of the list does
pub record Inside (w h : ℕ) (a : Area) : Type 0 where
  pub across : a.left + a.wide ≤ w
  pub down : a.top + a.high ≤ h

pub record Placed (w h : ℕ) (areas : List ℕ) : Type 0 where
  pub each : (k : ℕ) → k < count areas → Inside w h (area_at areas k)

unfoldable pub in_row : Area → ℕ → Bool
in_row a y = leb a.top y && ltb y (a.top + a.high)

-- ## Edges

-- e is past row y, and the rectangle neither begins nor ends between them
pub record Edge (a : Area) (y e : ℕ) : Type 0 where
  pub past : y < e
  pub begins : y < a.top → e ≤ a.top
  pub ends : y < a.top + a.high → e ≤ a.top + a.high

-- nor does one of the first n
pub record Edges (areas : List ℕ) (n y h e : ℕ) : Type 0 where
  pub past : y < e
  pub within : e ≤ h
  pub each : (k : ℕ) → k < n → Edge (area_at areas k) y e

-- ## The places of a row

-- those that a rectangle has
unfoldable pub part_of : Area → ℕ → Part
part_of a y = cond (in_row a y) (record { from = a.left; to = a.left + a.wide }) (record { from = 0; to = 0 })

-- all numbers of which p holds are in the part, and it ends at w at most
pub record Spans (p : ℕ → Bool) (w : ℕ) (s : Part) : Type 0 where
  pub along : s.from ≤ s.to
  pub within : s.to ≤ w
  pub each : (z : ℕ) → p z ≡ true → (s.from ≤ z) × (z < s.to)

-- ## Lines

-- a list of n words, of which those from i up to j are those of f
pub record Line (n i j : ℕ) (f : ℕ → ℕ) (xs : List ℕ) : Type 0 where
  pub long : length xs ≡ n
  pub at : (x : ℕ) → i ≤ x → x < j → get_or xs x 0 ≡ f x

-- the words from `from` up to `to` by the rule f; the others stay
pub record Changed (from to : ℕ) (f : ℕ → ℕ → ℕ) (xs ys : List ℕ) : Type 0 where
  pub kept : length ys ≡ length xs
  pub before : (x : ℕ) → x < from → get_or ys x 0 ≡ get_or xs x 0
  pub at : (x : ℕ) → from ≤ x → x < to → get_or ys x 0 ≡ f x (get_or xs x 0)
  pub rest : (x : ℕ) → to ≤ x → get_or ys x 0 ≡ get_or xs x 0

-- ## Marks

-- where the part begins the mark is not before its end, and where a mark has grown it has passed places of the part alone
pub record Marked (p : Part) (old ends : List ℕ) : Type 0 where
  pub kept : length ends ≡ length old
  pub begins : p.from < p.to → p.to ≤ get_or ends p.from 0
  pub grown : (x : ℕ) → get_or old x 0 ≤ get_or ends x 0
  pub passed : (x z : ℕ) → get_or old x 0 ≤ z → x ≤ z → z < get_or ends x 0 → (p.from ≤ z) × (z < p.to)

-- so with the parts of the first n rectangles
pub record Marks (areas : List ℕ) (n y : ℕ) (old ends : List ℕ) : Type 0 where
  pub kept : length ends ≡ length old
  pub begins : (k : ℕ) → k < n → let p = part_of (area_at areas k) y in p.from < p.to → p.to ≤ get_or ends p.from 0
  pub passed : (x z : ℕ) → get_or old x 0 ≤ z → x ≤ z → z < get_or ends x 0 → held areas z y ≡ true

-- the largest of f 0 .. f (n - 1), and of the words from `from` up to place x
unfoldable pub most : ℕ → (ℕ → ℕ) → ℕ
most zero f = 0
most (suc n) f = max (most n f) (f n)

abbrev pub most_from : ℕ → List ℕ → ℕ → ℕ
most_from from xs x = most (x + 1 - from) (λ i. get_or xs (from + i) 0)

-- whether a place's mark is past it
abbrev pub marked : List ℕ → ℕ → Bool
marked ends x = ltb x (get_or ends x 0)

-- in the part a marked place is marked up to its mark, which is in the part
pub record Closed (s : Part) (ends : List ℕ) : Type 0 where
  pub long : length ends ≡ 1024
  pub within : (x : ℕ) → s.from ≤ x → x < s.to → get_or ends x 0 ≤ s.to
  pub full : (x z : ℕ) → s.from ≤ x → x < s.to → x ≤ z → z < get_or ends x 0 → z < get_or ends z 0

-- and those are marked of which p holds
pub record Reaches (p : ℕ → Bool) (s : Part) (ends : List ℕ) : Type 0 where
  pub closed : Closed s ends
  pub same : (x : ℕ) → s.from ≤ x → x < s.to → marked ends x ≡ p x

-- s is the first number from x on of which p holds, or w
pub record First (p : ℕ → Bool) (x w s : ℕ) : Type 0 where
  pub low : x ≤ s
  pub high : s ≤ w
  pub free : (z : ℕ) → x ≤ z → z < s → p z ≡ false
  pub found : s < w → p s ≡ true

-- ## The words of a band

unfoldable pub spread_of : ℕ → ℕ
spread_of word = word / 65536 % 256 * 4398046511104 + word / 256 % 256 * 2097152 + word % 256

-- a channel of sums that were spread
unfoldable pub unspread : ℕ → ℕ → ℕ
unspread zero d = d / 4398046511104
unspread (suc zero) d = d / 2097152 % 2097152
unspread (suc (suc c)) d = d % 2097152

pub record Readable (picture : List ℕ) (row from to : ℕ) (columns : List ℕ) : Type 0 where
  pub along : from ≤ to
  pub inside : row + to ≤ length picture
  pub few : to ≤ 1024
  pub fits : to ≤ length columns
  pub small : (x : ℕ) → from ≤ x → x < to → get_or columns x 0 ≤ 1152921504606846976

-- the words of a row from `from` to `to` are added to the columns
pub record WithRow (picture : List ℕ) (row from to : ℕ) (old columns : List ℕ) (words : ℕ) : Type 0 where
  pub added : Changed from to (λ x v. v + spread_of (get_or picture (row + x) 0)) old columns
  pub counted : words ≡ to - from

-- the columns from `from` to `to` of the band are words of the picture
pub record InPicture (picture : List ℕ) (b : Band) (from to : ℕ) : Type 0 where
  pub along : from ≤ to
  pub across : to ≤ b.width
  pub narrow : b.width ≤ 1024
  pub low : b.y + b.rows ≤ 1024
  pub full : (b.y + b.rows) * b.width ≤ length picture

-- the word at place x of the band's row j
abbrev pub word_at : List ℕ → Band → ℕ → ℕ → ℕ
word_at picture b x j = get_or picture ((b.y + j) * b.width + x) 0

-- column x over the band's rows
abbrev pub column_sum : List ℕ → Band → ℕ → ℕ
column_sum picture b x = sum b.rows (λ j. spread_of (word_at picture b x j))

-- the columns from `from` to `to` are summed, and those before stay
pub record Columns (picture : List ℕ) (b : Band) (from to : ℕ) (old columns : List ℕ) (words : ℕ) : Type 0 where
  pub line : Line 1024 from to (column_sum picture b) columns
  pub kept : (x : ℕ) → x < from → get_or columns x 0 ≡ get_or old x 0
  pub counted : words ≡ b.rows * (to - from)

-- F p + .. + F (q - 1)
abbrev pub over : ℕ → ℕ → (ℕ → ℕ) → ℕ
over p q F = sum (q - p) (λ t. F (p + t))

-- the marked columns of the part are summed up to x
pub record SummedTo (picture : List ℕ) (b : Band) (s : Part) (ends : List ℕ) (x : ℕ) (columns : List ℕ) (words : ℕ) : Type 0 where
  pub long : length columns ≡ 1024
  pub at : (z : ℕ) → s.from ≤ z → z < x → marked ends z ≡ true → get_or columns z 0 ≡ column_sum picture b z
  pub counted : words ≡ b.rows * over s.from x (λ z. cond (marked ends z) 1 0)

-- channel i % 3 of the columns from `from` up to i / 3
abbrev pub running_at : List ℕ → ℕ → ℕ → ℕ
running_at columns from i = over from (i / 3) (λ t. unspread (i % 3) (get_or columns t 0))

-- ## What each rectangle gets of a band

abbrev pub between : List ℕ → Part → ℕ → ℕ
between sums p c = get_or sums (3 * p.to + c) 0 - get_or sums (3 * p.from + c) 0

-- over the part the sums grow, and not by much
pub record Growing (sums : List ℕ) (p : Part) : Type 0 where
  pub long : length sums ≡ 3075
  pub along : p.from ≤ p.to
  pub within : p.to ≤ 1024
  pub grows : (c : ℕ) → c < 3 → get_or sums (3 * p.from + c) 0 ≤ get_or sums (3 * p.to + c) 0
  pub small : (c : ℕ) → c < 3 → between sums p c ≤ 1152921504606846976

unfoldable pub colour_between : List ℕ → Part → Colour
colour_between sums p = record { red = between sums p 0; green = between sums p 1; blue = between sums p 2 }

abbrev pub shared_at : List ℕ → ℕ → List ℕ → ℕ → ℕ
shared_at areas y sums i = between sums (part_of (area_at areas (i / 3)) y) (i % 3)

-- to all of them
abbrev pub shared_out : List ℕ → ℕ → (sums result : List ℕ) → List ℕ
shared_out areas y sums result = rewrite (3 * count areas) (λ i v. v + shared_at areas y sums i) result

-- room for three totals of each rectangle, none of them large
pub record Roomy (areas result : List ℕ) (bound : ℕ) : Type 0 where
  pub room : 3 * count areas ≤ length result
  pub small : (i : ℕ) → i < 3 * count areas → get_or result i 0 ≤ bound

pub record Shareable (areas : List ℕ) (y : ℕ) (sums result : List ℕ) : Type 0 where
  pub placed : Placed 1024 1024 areas
  pub growing : (k : ℕ) → k < count areas → Growing sums (part_of (area_at areas k) y)
  pub roomy : Roomy areas result 2305843009213693952

-- ## Bands

-- the sum of a channel over the rectangle's words in row y
unfoldable pub row_total : List ℕ → ℕ → ℕ → Area → ℕ → ℕ
row_total picture w c a y = sum a.wide (λ i. channel c (get_or picture (y * w + (a.left + i)) 0))

unfoldable pub row_words : ℕ → List ℕ → ℕ → ℕ
row_words w areas y = sum w (λ x. cond (held areas x y) 1 0)

-- over the band's rows, if it has them
unfoldable pub band_part : List ℕ → Band → ℕ → Area → ℕ
band_part picture b c a = cond (in_row a b.y) (sum b.rows (λ j. row_total picture b.width c a (b.y + j))) 0

-- the lines that a band works with
pub record Lent (ends columns sums : List ℕ) : Type 0 where
  pub for_ends : length ends ≡ 1024
  pub for_columns : length columns ≡ 1024
  pub for_sums : length sums ≡ 3075

pub record Ready (picture : List ℕ) (b : Band) (areas result : List ℕ) : Type 0 where
  pub narrow : b.width ≤ 1024
  pub low : b.y + b.rows ≤ 1024
  pub full : (b.y + b.rows) * b.width ≤ length picture
  pub placed : Placed b.width 1024 areas
  pub roomy : Roomy areas result 1152921504606846976

pub record Banded (picture : List ℕ) (b : Band) (areas result done : List ℕ) (words : ℕ) : Type 0 where
  pub added : done ≡ rewrite (3 * count areas) (λ i v. v + band_part picture b (i % 3) (area_at areas (i / 3))) result
  pub counted : words ≡ b.rows * row_words b.width areas b.y

pub record Framed (picture : List ℕ) (w h : ℕ) (areas result : List ℕ) : Type 0 where
  pub narrow : w ≤ 1024
  pub low : h ≤ 1024
  pub full : h * w ≤ length picture
  pub placed : Placed w h areas
  pub room : 3 * count areas ≤ length result

-- all of it
abbrev pub Walked : List ℕ → ℕ → ℕ → (areas result : List ℕ) → ℕ → List ℕ → Type 0
Walked picture w h areas result read done = (read ≡ words w h areas) × (done ≡ totals_of picture w areas result)

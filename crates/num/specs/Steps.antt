-- The number steps of document 01 but the root, by value: `fin s m e` is the number m * up e / down e, negative where s is true. Definitions only.
use Rattle.std.specs.Prelude.{ℕ, ◌+◌, ◌*◌, ◌/◌, false, not, ◌&&◌, cond, leb, Float}
use Rattle.std.specs.Float.Ieee as Ieee
use Rattle.std.specs.Float.{nan, inf, fin, binary32}
use Rattle.std.specs.Float.Ieee.{up, down, lt, eq}
use Rattle.num.specs.Const.{c0_0}

-- the low end if x is below it, the high end if above, else x
unfoldable pub clamp_of : Float → Float → Float → Float
unfolding lt
clamp_of x lo hi = cond (lt x lo) lo (cond (lt hi x) hi x)

-- b where the two are equal, or one is a NaN
unfoldable pub min_of : Float → Float → Float
unfolding lt
min_of a b = cond (lt a b) a b

unfoldable pub max_of : Float → Float → Float
unfolding lt
max_of a b = cond (lt b a) a b

-- negative zero becomes zero
unfoldable pub plus_zero_of : Float → Float
unfolding eq
plus_zero_of x = cond (eq x c0_0) c0_0 x

-- a card's setting, brought to lo..hi
unfoldable pub limit_of : Float → Float → Float → Float
unfolding plus_zero_of clamp_of
limit_of x lo hi = clamp_of (plus_zero_of x) lo hi

unfoldable pub abs_of : Float → Float
abs_of nan = nan
abs_of (inf s) = inf false
abs_of (fin s m e) = fin false m e

-- the whole part of x, for x from 0 to 1023, and 0 for any other x
unfoldable pub cut_of : Float → ℕ
cut_of nan = 0
cut_of (inf s) = 0
cut_of (fin s m e) = cond (not s && leb (m * up e) (1023 * down e)) (m * up e / down e) 0

-- |x| + 1/2, cut to a whole number, with x's sign: the whole number nearest to x, and at a half the one further from zero. x itself where it is not finite
unfoldable pub round_of : Float → Float
unfolding Ieee.round
round_of nan = nan
round_of (inf s) = inf s
round_of (fin s m e) = Ieee.round binary32 s ((2 * (m * up e) + down e) / (2 * down e)) 1

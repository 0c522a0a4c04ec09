-- The samples that the blurs of a frame take (request P9): an offset of a place counts where it is inside the row or the column, once for all
-- channels. Definitions, and the claim that the paper's formula counts them.
use Rattle.std.specs.Prelude.{◌≡◌, ℕ, ◌+◌, ◌-◌, ◌*◌, cond, nat_lt}
use Rattle.num.specs.Sums.{sum}
use Rattle.passes.specs.Blur.{inside}

-- document 02's S(n, r), of a line of n places and radius r
unfoldable pub samples : (n r : ℕ) → ℕ
samples n r = cond (nat_lt r n) (n * (2 * r + 1) - r * (r + 1)) (n * n)

-- NTSC blurs along rows, bloom along rows and then along columns
unfoldable pub ntsc_samples : (w h bleed : ℕ) → ℕ
ntsc_samples w h bleed = h * samples w bleed

unfoldable pub bloom_samples : (w h radius : ℕ) → ℕ
bloom_samples w h radius = h * samples w radius + w * samples h radius

-- ## What S counts

-- 1 where offset k of place x is inside, else 0
abbrev pub once : (n r x k : ℕ) → ℕ
once n r x k = cond (inside n r x k) 1 0

-- the pairs of a place and an offset that is inside
abbrev pub pairs : (n r : ℕ) → ℕ
pairs n r = sum n (λ x. sum (2 * r + 1) (once n r x))

abbrev pub SamplesCounted : Type 0
SamplesCounted = (n r : ℕ) → samples n r ≡ pairs n r

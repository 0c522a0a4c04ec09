-- Game Boy's level. A word's channels as 0..1 are none of them negative, so their luma is from +0 to 3, and three times that from +0 to 9. There
-- `nearest`, as a float, is `round`. Assumes nothing.
use lib.Ieee.{nan, inf}
use Rattle.std.proofs.Common.{◌≡◌, ℕ, ◌+◌, ◌*◌, ◌/◌, ◌%◌, ◌<◌, ◌≤◌, true, false, T, pos, refl, ap, ◌∙◌, subst, true≢false, arith, lit<, lit≤}
use lib.Ieee.{Float, fin, binary32, up, down, add, mul, div, sum, of_int, of_bits}
use lib.Ieee.Fits.{down_pos}
use lib.Ieee.Exact.{HasValue}
use Rattle.num.specs.Laws.Bounds.{cut-round}
use Rattle.num.specs.Const.{c0_114, c0_299, c0_587, c3_0, c255_0}
use Rattle.num.specs.F32.{◌⊕◌, ◌⊗◌, ◌⊘◌, whole}
use Rattle.num.specs.Laws.Quotients.{share-within}
use Rattle.num.specs.Steps.{cut_of, round_of}
use Rattle.num.specs.Laws.Values.{whole_value}
use Rattle.num.specs.Ranges.{within, Signed}
use Rattle.num.specs.Laws.Within.{size-le, round_signed, mul-within, add-within}
use Rattle.passes.specs as Text
use Rattle.passes.specs.Plain.Pixel.{unit, luma601}
use Rattle.passes.specs.Private.{Share, OfWord}
use Rattle.passes.specs.declared.pixel.Rgb.{Rgb}

-- from +0 to n
record Plus (n : ℕ) (x : Float) : Type 0 where
  inside : T (within n x)
  sign : Signed false x

times : (n k : ℕ) (x y : Float) → n * k ≤ 16777216 → Plus n x → Plus k y → Plus (n * k) (x ⊗ y)
unfolding within mul
times n k x y l h g = record { inside = mul-within n k x y l h.inside g.inside; sign = go x y h.inside g.inside h.sign g.sign }
  where
    go : (x y : Float) → T (within n x) → T (within k y) → Signed false x → Signed false y → Signed false (x ⊗ y)
    go nan y h g s t = elim h [ ]
    go (inf _) y h g s t = elim h [ ]
    go (fin false m e) nan h g s t = elim g [ ]
    go (fin false m e) (inf _) h g s t = elim g [ ]
    go (fin true m e) y h g s t = absurd (true≢false s)
    go (fin false m e) (fin true i d) h g s t = absurd (true≢false t)
    go (fin false m e) (fin false i d) h g s t = round_signed binary32 false (m * up e * (i * up d)) (down e * down d)

plus : (n k : ℕ) (x y : Float) → n + k ≤ 16777216 → Plus n x → Plus k y → Plus (n + k) (x ⊕ y)
unfolding within add sum
plus n k x y l h g = record { inside = add-within n k x y l h.inside g.inside; sign = go x y h.inside g.inside h.sign g.sign }
  where
    go : (x y : Float) → T (within n x) → T (within k y) → Signed false x → Signed false y → Signed false (x ⊕ y)
    go nan y h g s t = elim h [ ]
    go (inf _) y h g s t = elim h [ ]
    go (fin false m e) nan h g s t = elim g [ ]
    go (fin false m e) (inf _) h g s t = elim g [ ]
    go (fin true m e) y h g s t = absurd (true≢false s)
    go (fin false m e) (fin true i d) h g s t = absurd (true≢false t)
    go (fin false m e) (fin false i d) h g s t = round_signed binary32 false (m * up e * down d + i * up d * down e) (down e * down d)

-- ---- a channel

channel : (k : ℕ) → k ≤ 255 → Share (whole k ⊘ c255_0)
unfolding of_int of_bits div
channel k l = record { inside = subst (λ (y : Float). T (within 1 (whole k ⊘ y))) top (share-within k 255 l (lit< tt) (lit≤ tt)); sign = go (whole k) (whole_value k (omega arith)) }
  where
    top : whole 255 ≡ c255_0
    top = refl

    go : (x : Float) → HasValue x false k 1 → Signed false (x ⊘ c255_0)
    go nan v = elim v [ ]
    go (inf _) v = elim v [ ]
    go (fin true m e) v = absurd (true≢false v.0)
    go (fin false m e) v = round_signed binary32 false (m * up e * down (pos 0)) (255 * up (pos 0) * down e)

pub of_word : (p : ℕ) → OfWord (unit p)
unfolding Text.Pixel.unit Text.Pixel.unpack
of_word p =
    record {
      red = channel (p / 65536 % 256) (omega arith);
      green = channel (p / 256 % 256) (omega arith);
      blue = channel (p % 256) (omega arith);
    }

-- ---- the luma, three times

share : {x : Float} → Share x → Plus 1 x
share h = record { inside = h.inside; sign = h.sign }

nine : (c : Rgb) → OfWord c → Plus 9 (luma601 c ⊗ c3_0)
unfolding Text.Pixel.luma601 of_bits within
nine c h =
    times 3 3 _ c3_0 (lit≤ tt)
    (plus 2 1 _ _ (lit≤ tt)
    (plus 1 1 _ _ (lit≤ tt) (times 1 1 c0_299 c.r (lit≤ tt) (record { inside = tt; sign = refl }) (share h.red))
    (times 1 1 c0_587 c.g (lit≤ tt) (record { inside = tt; sign = refl }) (share h.green)))
    (times 1 1 c0_114 c.b (lit≤ tt) (record { inside = tt; sign = refl }) (share h.blue)))
    (record { inside = tt; sign = refl })

-- ---- rounded

rounds : (x : Float) → Plus 9 x → whole (cut_of (round_of x)) ≡ round_of x
unfolding within round_of of_int
rounds x h = go x h.inside h.sign
  where
    small : (a c : ℕ) → a ≤ 9 * c → 0 < c → a * 2 < 2047 * c
    small a c l p = omega arith

    go : (x : Float) → T (within 9 x) → Signed false x → whole (cut_of (round_of x)) ≡ round_of x
    go nan h s = elim h [ ]
    go (inf _) h s = elim h [ ]
    go (fin true m e) h s = absurd (true≢false s)
    go (fin false m e) h s = ap whole (cut-round m e (small (m * up e) (down e) (size-le 9 false m e h) (down_pos e)))

pub third-is : (c : Rgb) → OfWord c → (n : ℕ) → n ≡ cut_of (round_of (luma601 c ⊗ c3_0)) → whole n ⊘ c3_0 ≡ round_of (luma601 c ⊗ c3_0) ⊘ c3_0
third-is c h n e = ap (λ (x : Float). x ⊘ c3_0) (ap whole e ∙ rounds (luma601 c ⊗ c3_0) (nine c h))

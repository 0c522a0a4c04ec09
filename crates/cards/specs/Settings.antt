-- The settings of a pass: what is refused, and what is limited. Assumes nothing.
use Rattle.std.specs.Prelude.{ℕ, ltb, eqb, cond, not, ◌||◌, Float}
use Rattle.std.specs.Float.{binary32}
use Rattle.std.specs.Float.Ieee.{of_bits, lt}
use Rattle.std.specs.Float.Ieee.Scale.{finite}
use Rattle.num.specs.Const.{c0_0, c4_0}
use Rattle.num.specs.Steps.{limit_of}
use Rattle.cards.specs.Step.{Reader, ◌>>=◌, ◌>>◌, ret, here, refuse_if}
use Rattle.cards.specs.Bits.{field_at}

-- F: a binary32 that is finite, or a bad setting
unfoldable pub finite_at : Reader Float
finite_at = do
  p ← here
  b ← field_at 32
  refuse_if 6 p (not (finite (of_bits binary32 b)))
  ret (of_bits binary32 b)

-- strength, vertical, horizontal, amount: limited to 0..high
unfoldable pub limited_at : Float → Reader Float
limited_at high = do
  x ← finite_at
  ret (limit_of x c0_0 high)

-- brightness: refused outside low..high
unfoldable pub within_at : Float → Float → Reader Float
within_at low high = do
  p ← here
  x ← finite_at
  refuse_if 6 p (lt x low || lt high x)
  ret (limit_of x low high)

-- contrast, saturation, gamma: refused above 4; below `low` becomes `low`
unfoldable pub raised_at : Float → Reader Float
raised_at low = do
  p ← here
  x ← finite_at
  refuse_if 6 p (lt c4_0 x)
  ret (limit_of x low c4_0)

-- 0 becomes 1
abbrev pub one_at_least : ℕ → ℕ
one_at_least v = cond (eqb v 0) 1 v

-- bleed, radius, depth: refused above `most`; 0 becomes 1
unfoldable pub count_at : ℕ → Reader ℕ
count_at most = do
  p ← here
  v ← field_at 8
  refuse_if 6 p (ltb most v)
  ret (one_at_least v)

unfoldable pub preset_at : Reader ℕ
preset_at = do
  p ← here
  v ← field_at 3
  refuse_if 6 p (eqb v 7)
  ret v

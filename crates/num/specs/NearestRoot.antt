-- What "the binary32 nearest the true square root" means, said of whole numbers, and the claim that the definition of the root is that value.
-- Definitions only; proofs/NearestRoot.antt proves the claim.
use Rattle.std.specs.Prelude.{◌≡◌, ℕ, ◌+◌, ◌*◌, ◌^◌, ◌<◌, false, T, Float}
use Rattle.std.specs.Float.{binary32}
use Rattle.std.specs.Float.Ieee.{fits}
use Rattle.std.specs.Float.Ieee.Exact.{HasValue}
use Rattle.std.specs.Float.Ieee.Positive.{positive}
use Rattle.num.specs.Root.{root_of}

-- a is nearer than b to the root of n: the point halfway between them, (a + b) / 2, lies on b's side of the root
abbrev pub Nearer : ℕ → ℕ → ℕ → Type 0
Nearer n a b = (b < a → (a + b) * (a + b) < 4 * n) × (a < b → 4 * n < (a + b) * (a + b))

-- r is a binary32 value, and nearer to the root of x than any other that is not negative. In units of 2 ^ -149, x is N, r is a, and the square
-- of x's root is N * 2 ^ 149.
abbrev pub NearestRoot : Float → Float → Type 0
NearestRoot x r =
    (N : ℕ) × (a : ℕ) × HasValue x false N (2 ^ 149) × HasValue r false a (2 ^ 149) × T (fits binary32 r)
    × ((y : Float) (b : ℕ) → T (fits binary32 y) → HasValue y false b (2 ^ 149) → Nearer (N * 2 ^ 149) a b)

-- for every x that is finite and above 0: `root_of x` is that value, and no other is
abbrev pub RootIsNearest : Type 0
RootIsNearest =
    (x : Float) → T (fits binary32 x) → T (positive x) → NearestRoot x (root_of x) × ((r : Float) → NearestRoot x r → r ≡ root_of x)

-- The numbers of a pass, and all that it may do with them. Each pass is defined over an arithmetic A of this kind, so that
-- its text says nothing of a number but its steps: `lit c1_0 ⊖ strength` is 1.0 - strength, `red c` is c.r, and clamp,
-- round, root and cut are the number steps of document 01. In the product A is `plain`: binary32 with these steps.
--
-- Why it is left open: to say what no pass does. `Agrees` asks an arithmetic to do as `plain` does wherever document 01
-- defines a step and Rust's own does the same (docs/DIFFERENCES.md). Outside (a result that is not finite, a root of what
-- is below 0 or -0, a cut of what is not in 0..1023, a channel above 255, a place that is not in the frame) it may give
-- anything, and still every picture is the same (Laws/Inside.antt). Definitions only.
use Rattle.std.specs.Prelude.{◌≡◌, ℕ, ◌+◌, ◌*◌, ◌<◌, ◌≤◌, Bool, true, false, T, List, length, slice_index, Float}
use Rattle.std.specs.Float.Ieee as Ieee
use Rattle.std.specs.Float.Ieee.{lt, le}
use Rattle.std.specs.Float.Ieee.Scale.{finite}
use Rattle.num.specs.Const.{c0_0}
use Rattle.num.specs.F32 as F32
use Rattle.num.specs.Root.{root_of}
use Rattle.num.specs.Steps.{clamp_of, min_of, max_of, abs_of, cut_of, round_of}
use Rattle.num.specs.Ranges.{within, Signed}
use Rattle.passes.specs.declared.pixel.Rgb as Declared

-- F is a type of which nothing else is known: a pass has no other way to make a number, to test one, or to leave it
pub record Arith : Type 1 where
  pub F : Type 0
  -- a constant or a setting, and a whole number
  pub lit : Float → F
  pub whole : ℕ → F
  -- the four operations
  pub ◌⊕◌ : F → F → F
  pub ◌⊖◌ : F → F → F
  pub ◌⊗◌ : F → F → F
  pub ◌⊘◌ : F → F → F
  pub neg : F → F
  -- the number steps
  pub abs : F → F
  pub least : F → F → F
  pub most : F → F → F
  pub clamp : F → F → F → F
  pub round : F → F
  pub root : F → F
  pub cut : F → ℕ
  -- three channels
  pub Rgb : Type 0
  pub rgb : F → F → F → Rgb
  pub red : Rgb → F
  pub green : Rgb → F
  pub blue : Rgb → F
  -- comparisons
  pub below : F → F → Bool
  pub at_most : F → F → Bool
  -- a word of three channels; the word at column x and row y of a frame of width w
  pub word : ℕ → ℕ → ℕ → ℕ
  pub cell : ℕ → List ℕ → ℕ → ℕ → ℕ

-- binary32, the number steps of document 01 and the code's struct of three channels; `cut` is how a number is left, and
-- `word` how channels are joined
abbrev pub leaving : (cut : Float → ℕ) (word : ℕ → ℕ → ℕ → ℕ) → Arith
leaving cut word =
    record {
      F = Float;
      lit = λ x. x;
      whole = F32.whole;
      ◌⊕◌ = F32.◌⊕◌;
      ◌⊖◌ = F32.◌⊖◌;
      ◌⊗◌ = F32.◌⊗◌;
      ◌⊘◌ = F32.◌⊘◌;
      neg = Ieee.neg;
      abs = abs_of;
      least = min_of;
      most = max_of;
      clamp = clamp_of;
      round = round_of;
      root = root_of;
      cut = cut;
      Rgb = Declared.Rgb;
      rgb = λ x y z. record { r = x; g = y; b = z };
      red = λ c. c.r;
      green = λ c. c.g;
      blue = λ c. c.b;
      below = lt;
      at_most = le;
      word = word;
      cell = λ w frame x y. slice_index frame (y * w + x);
    }

-- the product's
abbrev pub plain : Arith
plain = leaving cut_of (λ r g b. r * 65536 + g * 256 + b)

-- `same a x`: the number a of the arithmetic stands for the finite binary32 value x. Each law says where the arithmetic
-- has to do as the number step does.
pub record Agrees (A : Arith) : Type 1 where
  pub same : A.F → Float → Type 0
  pub number : {a : A.F} {x : Float} → same a x → T (finite x)
  pub lit : (x : Float) → T (finite x) → same (A.lit x) x
  pub whole : (n : ℕ) → n ≤ 16777216 → same (A.whole n) (F32.whole n)
  -- where the result is finite: no NaN, no infinity, no division by 0
  pub plus : {a b : A.F} {x y : Float} → same a x → same b y → T (finite (F32.◌⊕◌ x y))
      → same (A.◌⊕◌ a b) (F32.◌⊕◌ x y)
  pub minus : {a b : A.F} {x y : Float} → same a x → same b y → T (finite (F32.◌⊖◌ x y))
      → same (A.◌⊖◌ a b) (F32.◌⊖◌ x y)
  pub times : {a b : A.F} {x y : Float} → same a x → same b y → T (finite (F32.◌⊗◌ x y))
      → same (A.◌⊗◌ a b) (F32.◌⊗◌ x y)
  pub over : {a b : A.F} {x y : Float} → same a x → same b y → T (finite (F32.◌⊘◌ x y))
      → same (A.◌⊘◌ a b) (F32.◌⊘◌ x y)
  pub round : {a : A.F} {x : Float} → same a x → T (finite (round_of x)) → same (A.round a) (round_of x)
  -- of finite values
  pub neg : {a : A.F} {x : Float} → same a x → same (A.neg a) (Ieee.neg x)
  pub abs : {a : A.F} {x : Float} → same a x → same (A.abs a) (abs_of x)
  pub below : {a b : A.F} {x y : Float} → same a x → same b y → A.below a b ≡ lt x y
  pub at_most : {a b : A.F} {x y : Float} → same a x → same b y → A.at_most a b ≡ le x y
  -- whose second is above 0 (of 0 and -0 Rust's minimum gives either), or whose ends are in order
  pub least : {a b : A.F} {x y : Float} → same a x → same b y → lt c0_0 y ≡ true → same (A.least a b) (min_of x y)
  pub most : {a b : A.F} {x y : Float} → same a x → same b y → lt c0_0 y ≡ true → same (A.most a b) (max_of x y)
  pub clamp : {a b c : A.F} {x y z : Float} → same a x → same b y → same c z → T (le y z)
      → same (A.clamp a b c) (clamp_of x y z)
  -- of 0 (not -0) and above
  pub root : {a : A.F} {x : Float} → same a x → Signed false x → T (finite (root_of x)) → same (A.root a) (root_of x)
  -- the channels of three channels
  pub red : (a b c : A.F) → A.red (A.rgb a b c) ≡ a
  pub green : (a b c : A.F) → A.green (A.rgb a b c) ≡ b
  pub blue : (a b c : A.F) → A.blue (A.rgb a b c) ≡ c
  -- from 0 to 1023
  pub cut : {a : A.F} {x : Float} → same a x → T (within 1023 x) → A.cut a ≡ cut_of x
  -- channels from 0 to 255
  pub word : (r g b : ℕ) → r ≤ 255 → g ≤ 255 → b ≤ 255 → A.word r g b ≡ r * 65536 + g * 256 + b
  -- a column within the width, and a word within the frame
  pub cell : (w : ℕ) (frame : List ℕ) (x y : ℕ) → x < w → y * w + x < length frame
      → A.cell w frame x y ≡ slice_index frame (y * w + x)

-- Two arithmetics beside binary32. `casts` leaves a number as Rust does: by `as u32`, and channels are joined by shifts and
-- `|`. `checked` has no number any more from a step outside its range on, which shows in the word or, where it is compared, as
-- another picture. Assumes nothing.
use Rattle.std.specs.Prelude.{ℕ, ◌+◌, ◌*◌, ◌%◌, Bool, true, false, cond, not, ◌&&◌, length, bit_or, nat_le, nat_lt, slice_index, Float}
use Rattle.std.specs.Float.Ieee as Ieee
use Rattle.std.specs.Float.{nan, inf, fin}
use Rattle.std.specs.Float.Ieee.{lt, le, to_unsigned}
use Rattle.std.specs.Float.Ieee.Scale.{finite}
use Rattle.num.specs.Const.{c0_0}
use Rattle.num.specs.F32 as F32
use Rattle.num.specs.Root.{root_of}
use Rattle.num.specs.Steps.{clamp_of, min_of, max_of, abs_of, cut_of, round_of}
use Rattle.num.specs.Ranges.{within}
use Rattle.passes.specs.Arith.{Arith, leaving}

-- ---- Rust's casts

-- (r << 16) | (g << 8) | b of a u32
abbrev pub joined : ℕ → ℕ → ℕ → ℕ
joined r g b = bit_or (bit_or (r * 65536 % 4294967296) (g * 256 % 4294967296)) b

abbrev pub casts : Arith
casts = leaving (to_unsigned 32) joined

-- ---- each step checked

pub data Checked : Type 0 where
  value : Float → Checked
  outside : Checked

-- three channels
pub record Colour : Type 0 where
  pub r : Checked
  pub g : Checked
  pub b : Checked

-- a value that is finite, where a test passes
abbrev pub keep : Bool → Float → Checked
keep true x = value x
keep false x = outside

abbrev pub one : (Float → Bool) → (Float → Float) → Checked → Checked
one test f (value x) = keep (test x && finite (f x)) (f x)
one test f outside = outside

abbrev pub two : (Float → Float → Bool) → (Float → Float → Float) → Checked → Checked → Checked
two test f outside b = outside
two test f (value x) outside = outside
two test f (value x) (value y) = keep (test x y && finite (f x y)) (f x y)

abbrev pub three : (Float → Float → Float → Bool) → (Float → Float → Float → Float) → Checked → Checked → Checked
    → Checked
three test f outside b c = outside
three test f (value x) outside c = outside
three test f (value x) (value y) outside = outside
three test f (value x) (value y) (value z) = keep (test x y z && finite (f x y z)) (f x y z)

abbrev pub compare : (Float → Float → Bool) → Checked → Checked → Bool
compare test outside b = false
compare test (value x) outside = false
compare test (value x) (value y) = test x y

abbrev pub plus_sign : Float → Bool
plus_sign nan = false
plus_sign (inf s) = not s
plus_sign (fin s m e) = not s

-- no word of a frame: what is no number from 0 to 1023 is cut to this
abbrev pub stop : ℕ
stop = 4294967296

abbrev pub cut_checked : Checked → ℕ
cut_checked outside = stop
cut_checked (value x) = cond (within 1023 x) (cut_of x) stop

abbrev pub checked : Arith
checked =
    record {
      F = Checked;
      lit = λ x. keep (finite x) x;
      whole = λ n. keep (nat_le n 16777216) (F32.whole n);
      ◌⊕◌ = two (λ x y. true) (λ x y. F32.◌⊕◌ x y);
      ◌⊖◌ = two (λ x y. true) (λ x y. F32.◌⊖◌ x y);
      ◌⊗◌ = two (λ x y. true) (λ x y. F32.◌⊗◌ x y);
      ◌⊘◌ = two (λ x y. true) (λ x y. F32.◌⊘◌ x y);
      neg = one (λ x. true) Ieee.neg;
      abs = one (λ x. true) abs_of;
      least = two (λ x y. lt c0_0 y) min_of;
      most = two (λ x y. lt c0_0 y) max_of;
      clamp = three (λ x y z. le y z) clamp_of;
      round = one (λ x. true) round_of;
      root = one plus_sign root_of;
      cut = cut_checked;
      Rgb = Colour;
      rgb = λ x y z. record { r = x; g = y; b = z };
      red = λ c. c.r;
      green = λ c. c.g;
      blue = λ c. c.b;
      below = compare lt;
      at_most = compare le;
      word = λ r g b. cond (nat_le r 255 && nat_le g 255 && nat_le b 255) (r * 65536 + g * 256 + b) stop;
      cell = λ w frame x y. cond (nat_lt x w && nat_lt (y * w + x) (length frame)) (slice_index frame (y * w + x)) stop;
    }

-- Laws of the settings: a binary32's bits are finite exactly where the exponent's field is not all ones. Assumes nothing.
use Prim.Native.Nat.{ℕ, zero, suc, ◌+◌, ◌*◌, ◌%◌, ◌/◌, ◌^◌}
use mathlib.Core.Path.{◌≡◌, refl, ap, sym, ◌∙◌}
use mathlib.Core.Bool.{Bool, true, false, cond, not}
use lib.Dec.{T, eqb, eqb→eq}
use lib.Pow.{pow_pos}
use lib.IntN.{pos, negsuc}
use native.Mathlib.Omega.{arith}
use borrow.Author.Tests.{eqb-true, eqb-false}
use lib.Ieee.Bits.{of_bits-to_bits}
use lib.Ieee.Compare.{nan_differs}
use Rattle.cards.specs.Normal.{neg_zero}
use lib.Ieee.{Float, nan, inf, fin, binary32, odd, of_fields, of_bits, to_bits, nan_bits, fits, is_nan, ne}
use lib.Ieee.Scale.{finite}

odd_finite : (d : ℕ) (s : Bool) (q k l : ℕ) → finite (odd d s q k l) ≡ true
unfolding odd
odd_finite d s zero k l = refl
odd_finite d s (suc q) k l = refl

fields_finite : (s : Bool) (x t : ℕ) → finite (of_fields binary32 s x t) ≡ not (eqb x 255)
unfolding of_fields
fields_finite s zero t = odd_finite 24 s t 0 149
fields_finite s (suc x) t = go (eqb (suc x) 255) (eqb t 0)
  where
    go : (b c : Bool) → finite (cond b (cond c (Float.inf s) Float.nan) (odd 24 s (2 ^ 23 + t) x 149)) ≡ not b
    go true true = refl
    go true false = refl
    go false c = odd_finite 24 s (2 ^ 23 + t) x 149

pub finite_bits : (b : ℕ) → finite (of_bits binary32 b) ≡ not (eqb (b % 0x8000_0000 / 0x80_0000) 255)
unfolding of_bits
finite_bits b = fields_finite _ (b % 0x8000_0000 / 0x80_0000) (b % 0x80_0000)

pub no_nan : (b : ℕ) → eqb (b % 0x8000_0000 / 0x80_0000) 255 ≡ false → T (not (nan_bits binary32 b))
unfolding nan_bits
no_nan b e = rw e tt

-- a value that equals itself is a number
pub is_number : (x : Float) → ne x x ≡ false → T (not (is_nan x))
unfolding is_nan
is_number nan e = let z : ◌≡◌ {A = ℕ} 0 1 = cc (nan_differs) in absurd (omega arith)
is_number (inf s) e = tt
is_number (fin s m d) e = tt

pub finite_of_bits : (x : Float) → T (fits binary32 x) → finite x ≡ not (eqb (to_bits binary32 x % 0x8000_0000 / 0x80_0000) 255)
finite_of_bits x h = ap finite (sym (of_bits-to_bits binary32 x h)) ∙ finite_bits (to_bits binary32 x)

neg-zero-is : (x : Float) → T (fits binary32 x) → neg_zero x ≡ true → x ≡ fin true 0 (pos 0)
unfolding fits
neg-zero-is nan h e = cc
neg-zero-is (inf s) h e = cc
neg-zero-is (fin s zero (pos zero)) h e = ap (λ (b : Bool). fin b 0 (pos 0)) e
neg-zero-is (fin s zero (pos (suc k))) h e = absurd (omega (arith, eqb→eq (2 ^ suc k * 1) 1 h, pow_pos k))
neg-zero-is (fin s zero (negsuc k)) h e = absurd (omega (arith, eqb→eq (1 * 2 ^ suc k) 1 h, pow_pos k))
neg-zero-is (fin s (suc m) d) h e = cc

is-neg : of_bits binary32 0x8000_0000 ≡ fin true 0 (pos 0)
unfolding of_bits
is-neg = refl

bits-neg : to_bits binary32 (fin true 0 (pos 0)) ≡ 0x8000_0000
unfolding to_bits
bits-neg = refl

-- negative zero by its bits
pub neg_bits : (x : Float) → T (fits binary32 x) → neg_zero x ≡ eqb (to_bits binary32 x) 0x8000_0000
neg_bits x h = go (neg_zero x) refl (eqb (to_bits binary32 x) 0x8000_0000) refl
  where
    go : (a : Bool) → neg_zero x ≡ a → (b : Bool) → eqb (to_bits binary32 x) 0x8000_0000 ≡ b → a ≡ b
    go true ea true eb = refl
    go false ea false eb = refl
    go true ea false eb = absurd (eqb-false _ _ eb (ap (to_bits binary32) (neg-zero-is x h ea) ∙ bits-neg))
    go false ea true eb =
        sym ea ∙ ap neg_zero (sym (of_bits-to_bits binary32 x h) ∙ ap (of_bits binary32) (eqb-true _ _ eb) ∙ is-neg)

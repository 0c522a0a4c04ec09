-- `num::whole::signed` meets its contract: the sign is the highest bit of the pattern. Assumes nothing.
use mathlib.Core.Path.{◌≡◌, refl, sym, ap, ◌∙◌, subst}
use Prim.Native.Nat.{ℕ, zero, suc, ◌+◌, ◌/◌, ◌%◌}
use mathlib.Core.Bool.{Bool, true, false, not, cond}
use borrow.Author.Tests.{le-leb, lt-leb}
use lib.Dec.{T, leb, eqb}
use lib.Ieee.{Float, nan, inf, binary32, odd, fits, is_nan, of_fields, of_bits, to_bits}
use lib.Ieee.Bits.{of_bits-to_bits}
use Rattle.num.specs.Private.{negative}
use Rattle.num.proofs.whole.signed.Goals as goal
use Rattle.num.proofs.whole.signed.Lts as lts
use Rattle.num.proofs.whole.signed.Reads as reads

odd_sign : (d : ℕ) (s : Bool) (q k l : ℕ) → negative (odd d s q k l) ≡ s
unfolding odd negative
odd_sign d s zero k l = refl
odd_sign d s (suc q) k l = refl

fields_sign : (s : Bool) (x t : ℕ) → T (not (is_nan (of_fields binary32 s x t))) → negative (of_fields binary32 s x t) ≡ s
unfolding of_fields negative is_nan
fields_sign s zero t h = odd_sign 24 s t 0 149
fields_sign s (suc x) t h = go (eqb (suc x) 255) (eqb t 0) h
  where
    go : (a b : Bool) → T (not (is_nan (cond a (cond b (inf s) nan) (odd 24 s (8388608 + t) x 149)))) → negative (cond a (cond b (inf s) nan) (odd 24 s (8388608 + t) x 149)) ≡ s
    go true true h = refl
    go true false h = absurd h
    go false b h = odd_sign 24 s (8388608 + t) x 149

pattern_sign : (x : Float) → T (fits binary32 x) → T (not (is_nan x)) → negative x ≡ leb 2147483648 (to_bits binary32 x)
unfolding of_bits
pattern_sign x f h =
    let b = to_bits binary32 x in
    let own : of_bits binary32 b ≡ x = of_bits-to_bits binary32 x f in
    ap negative (sym own) ∙ fields_sign (leb 2147483648 b) (b % 2147483648 / 8388608) (b % 8388608) (subst (λ (y : Float). T (not (is_nan y))) (sym own) h)

-- ---- the needs
sign : (c : lts.Start reads.Pre reads.Post) → negative c.args.x ≡ leb 2147483648 (to_bits binary32 c.args.x)
sign c = pattern_sign c.args.x (subst T (sym c.well_formed.1.0.1) tt) c.requires

pub returns-then-x-lt2147483648 : goal.returns-then-x-lt2147483648
returns-then-x-lt2147483648 c = rw (sign c.before, lt-leb 2147483648 (to_bits binary32 c.args.x) c.if-x-lt2147483648.true)

pub returns-else-x-lt2147483648 : goal.returns-else-x-lt2147483648
returns-else-x-lt2147483648 c = rw (sign c.before, le-leb 2147483648 (to_bits binary32 c.args.x) c.if-x-lt2147483648.false)

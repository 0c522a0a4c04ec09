-- The samples that a record's pass takes: at most those at 64; and those of the first records of a chain, one after the other. Assumes nothing.
use Prim.Native.Nat.{ℕ, ◌+◌, ◌*◌, ◌≤◌, ◌<◌, zero-le}
use native.Mathlib.Nat.{le_trans}
use native.Mathlib.Omega.{arith}
use mathlib.Core.Path.{◌≡◌, sym, ap, ◌∙◌, subst}
use mathlib.Core.Bool.{Bool, true, false, cond, ◌&&◌}
use mathlib.Core.List.{List}
use borrow.Author.Tests.{leb-true}
use lib.Dec.{leb, eqb}
use lib.Ieee.{Float}
use lib.ListN.{length, get_or}
use Rattle.num.specs.Const.{c0_0, c1_0}
use Rattle.num.specs.Laws.Bools.{both}
use Rattle.passes.specs.Samples.{samples, ntsc_samples, bloom_samples}
use Rattle.passes.specs.Laws.Fold.{Folded, none, more}
use Rattle.passes.specs.Laws.Samples.{lines-few, ntsc-most, bloom-most, ntsc-few, bloom-few}
use Rattle.cards.specs.Normal.{normal_pass, settled, counted}
use Rattle.cards.specs.Passes.{kind_of}
use Rattle.cards.specs.declared.station.Pass.{Pass}
use Rattle.cards.specs.declared.station.Pass.TheVariants.{Ntsc, Bloom, AutoGradient, Persistence, Lut, Curvature}
use Rattle.cards.specs.declared.station.Pass.TheVariants.{ColorCorrection, Crt, Vignette, Scanlines}
use Rattle.cards.specs.declared.station.Record.{Record}
use lib.Seq.{take_all}
use Rattle.chain.specs.Chain.{samples_of, record_samples, samples_in}

-- a counted setting, after one that is none
pub count-fine : (other : Bool) (most n : ℕ) → other && counted most n ≡ true → n ≤ most
count-fine other most n e = leb-true n most (both (leb 1 n) (leb n most) (both other (counted most n) e).1).1

-- so a normalised pass has a radius of at most 64
module _ (pass : Pass) (normal : normal_pass pass ≡ true) where
  pub bleed_few : (strength : Float) (bleed : ℕ) → pass ≡ Ntsc strength bleed → bleed ≤ 64
  unfolding normal_pass
  bleed_few strength bleed e = count-fine (settled c0_0 c1_0 strength) 64 bleed (ap normal_pass (sym e) ∙ normal)

  pub radius_few : (threshold : ℕ) (strength : Float) (radius : ℕ) → pass ≡ Bloom threshold strength radius → radius ≤ 64
  unfolding normal_pass
  radius_few threshold strength radius e = count-fine (settled c0_0 c1_0 strength) 64 radius (ap normal_pass (sym e) ∙ normal)

-- the samples of y lines, s for each
pub lines_fit : (y n r : ℕ) {s : ℕ} → s ≡ samples n r → y ≤ 1024 → n ≤ 1024 → r ≤ 64 → y * s ≤ 135266304
lines_fit y n r e h l m = subst (λ (k : ℕ). y * k ≤ 135266304) (sym e) (lines-few y n r h l m)

-- ## A record

-- what a pass of a kind takes at most
abbrev pub most : (w h : ℕ) → ℕ → ℕ
most w h kind = cond (eqb kind 1) (ntsc_samples w h 64) (cond (eqb kind 2) (bloom_samples w h 64) 0)

pass_most : (w h : ℕ) (p : Pass) → normal_pass p ≡ true → samples_of w h p ≤ most w h (kind_of p)
unfolding normal_pass
pass_most w h (Ntsc strength bleed) n = ntsc-most w h bleed (count-fine (settled c0_0 c1_0 strength) 64 bleed n)
pass_most w h (Bloom threshold strength radius) n = bloom-most w h radius (count-fine (settled c0_0 c1_0 strength) 64 radius n)
pass_most w h (AutoGradient strength vertical horizontal) n = zero-le
pass_most w h (Persistence amount depth) n = zero-le
pass_most w h (Lut preset strength) n = zero-le
pass_most w h (Curvature amount) n = zero-le
pass_most w h (ColorCorrection brightness contrast saturation gamma) n = zero-le
pass_most w h (Crt strength) n = zero-le
pass_most w h (Vignette strength) n = zero-le
pass_most w h (Scanlines strength) n = zero-le

pub record_most : (w h : ℕ) (r : Record) → normal_pass r.pass ≡ true → record_samples w h r ≤ most w h (kind_of r.pass)
unfolding record_samples
record_most w h r n = go r.on
  where
    go : (b : Bool) → cond b (samples_of w h r.pass) 0 ≤ most w h (kind_of r.pass)
    go true = pass_most w h r.pass n
    go false = zero-le

-- a number of 32 bits has room for those of twelve records and more
pub record_few : (w h : ℕ) (r : Record) → normal_pass r.pass ≡ true → w ≤ 1024 → h ≤ 1024 → record_samples w h r ≤ 270532608
record_few w h r n wide high = le_trans (record_most w h r n) (go (eqb (kind_of r.pass) 1) (eqb (kind_of r.pass) 2))
  where
    go : (a b : Bool) → cond a (ntsc_samples w h 64) (cond b (bloom_samples w h 64) 0) ≤ 270532608
    go true b = ntsc-few w h wide high
    go false true = bloom-few w h wide high
    go false false = zero-le

-- ## One record after the other

-- the first i of n records take `sum`
pub record Summed (w h i : ℕ) (rs : List Record) (sum : ℕ) : Type 0 where
  pub near : i ≤ length rs
  pub so_far : Folded i (λ n r. n + record_samples w h r) 0 rs sum
  pub few : sum ≤ 270532608 * i

pub summed_none : (w h : ℕ) (rs : List Record) → Summed w h 0 rs 0
summed_none w h rs = record { near = zero-le; so_far = none _ _ _; few = omega arith }

module _ {w h i : ℕ} {rs : List Record} {sum : ℕ} (t : Summed w h i rs sum) where
  -- the record at i takes `taken`
  module _ (d : Record) {taken : ℕ} (e : taken ≡ record_samples w h (get_or rs i d)) (normal : normal_pass (get_or rs i d).pass ≡ true) (wide : w ≤ 1024)
      (high : h ≤ 1024) (l : i < length rs) (k : length rs ≤ 12) where
    few-taken : taken ≤ 270532608
    few-taken = subst (λ (m : ℕ). m ≤ 270532608) (sym e) (record_few w h (get_or rs i d) normal wide high)

    -- which a number of 32 bits holds
    pub summed_fits : sum + taken ≤ 3246391296
    summed_fits = omega (arith, t.few, few-taken)

    pub summed_more : Summed w h (i + 1) rs (sum + taken)
    summed_more = record {
      near = omega arith;
      so_far = more t.so_far d (omega arith) (ap (λ (m : ℕ). sum + m) e);
      few = omega (arith, t.few, few-taken);
    }

  -- after the last one
  pub summed_all : length rs ≤ i → sum ≡ samples_in w h rs
  summed_all l = t.so_far.done ∙ ap (samples_in w h) (take_all i rs l)

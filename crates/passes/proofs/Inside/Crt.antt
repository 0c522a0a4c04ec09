-- CRT. The middle c is at most 1024, so the greater of c and 1 is at least 1, and an offset is in -2048..2048; the
-- squares are at most 2^22, their sum at most 2^23, and the edge is clamped to 0..1. Beam and phosphor are 1 less
-- something in 0..1. So a channel stays in 0..255, and what is rounded and cut is finite and in 0..255. Assumes
-- nothing.
use Rattle.std.specs.Prelude.{◌≡◌, ℕ, zero, suc, ◌-◌, ◌%◌, ◌<◌, ◌≤◌, T, List, Float}
use Rattle.std.proofs.Common.{arith, lit≤}
use Rattle.std.specs.Float.Ieee.{of_bits}
use Rattle.num.specs.Const.{c0_035, c0_12, c0_5, c1_0}
use Rattle.num.specs.Ranges.{within}
use Rattle.passes.specs.Arith.{Arith, Agrees, plain}
use Rattle.passes.specs.Crt as Crt
use Rattle.passes.proofs.Inside.Shared.{Tint⁺, tint⁺, unpacked, scaled_in, packed_nearest}
use Rattle.passes.specs.Laws.Range.{Has, Plus, signed, lit⁺, whole⁺, minus, times, plus⁺, times⁺, over⁺, square⁺}
use Rattle.passes.specs.Laws.Range.{most-one, one⁺, one_less, clamp_one}
use Rattle.passes.specs.Rows.{Frame}
use Rattle.passes.specs.Laws.Rows.{placed_ext}
use Rattle.passes.specs.declared.pixel.Rgb.{Rgb}

-- what the phosphor dims by
abbrev dim : (B : Arith) → B.F → B.F
dim B strength = B.◌⊖◌ (B.lit c1_0) (B.◌⊗◌ (B.lit c0_035) strength)

module _ {A : Arith} (G : Agrees A) where
  offset_in : (n k : ℕ) → n ≤ 1024 → k < n → Has G 2048 (Crt.offset A n k) (Crt.offset plain n k)
  unfolding Crt.offset within of_bits
  offset_in n k l m =
      let c = times⁺ (whole⁺ 1024 (n - 1) (omega arith) (lit≤ tt)) (lit⁺ 1 c0_5 tt) tt in
      times (minus (signed (whole⁺ 1024 k (omega arith) (lit≤ tt))) (signed c) tt)
      (signed (over⁺ one⁺ (most-one (signed c)) tt)) tt

  pub crt-inside : (w h : ℕ) (strength : Float) (frame : List ℕ) → Frame w h frame → T (within 1 strength)
      → Crt.crt A w h (A.lit strength) frame ≡ Crt.crt plain w h strength frame
  unfolding Crt.crt Crt.beam Crt.phosphor Crt.edge Crt.shade within of_bits
  crt-inside w h strength frame f s =
      placed_ext w h frame _ _ f.area (λ x y p l m.
      let factor = times⁺ (beam (y % 3)) (edge (offset_in w x f.wide l) (offset_in h y f.high m)) tt in
      packed_nearest (scaled_in (tinted (x % 3) (unpacked G p)) factor))
    where
      st : Plus G 1 (A.lit strength) strength
      st = lit⁺ 1 strength s

      beam : (n : ℕ) → Plus G 1 (Crt.beam A n (A.lit strength)) (Crt.beam plain n strength)
      beam zero = one_less (times⁺ (lit⁺ 1 c0_12 tt) st tt)
      beam (suc zero) = one⁺
      beam (suc (suc n)) = one_less (times⁺ (lit⁺ 1 c0_12 tt) st tt)

      edge : {a b : A.F} {x y : Float} → Has G 2048 a x → Has G 2048 b y
          → Plus G 1 (Crt.edge A (A.lit strength) a b) (Crt.edge plain strength x y)
      edge h g =
          clamp_one (minus (signed one⁺)
          (signed (times⁺ (times⁺ st (lit⁺ 1 c0_12 tt) tt) (plus⁺ (square⁺ h tt) (square⁺ g tt) tt) tt)) tt)

      dim_in : Plus G 1 (dim A (A.lit strength)) (dim plain strength)
      dim_in = one_less (times⁺ (lit⁺ 1 c0_035 tt) st tt)

      tinted : (n : ℕ) {c : A.Rgb} {d : Rgb} → Tint⁺ G 255 c d
          → Tint⁺ G 255 (Crt.phosphor A n (dim A (A.lit strength)) c) (Crt.phosphor plain n (dim plain strength) d)
      tinted zero h = tint⁺ h.red (times⁺ h.green dim_in tt) (times⁺ h.blue dim_in tt)
      tinted (suc zero) h = tint⁺ (times⁺ h.red dim_in tt) h.green (times⁺ h.blue dim_in tt)
      tinted (suc (suc n)) h = tint⁺ (times⁺ h.red dim_in tt) (times⁺ h.green dim_in tt) h.blue

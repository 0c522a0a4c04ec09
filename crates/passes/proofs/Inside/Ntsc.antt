-- NTSC, of a bleed up to 64. A chroma is in -765..765, blurred in -98685..98685, blended in -100215..100215, a colour
-- in -301410..301410: finite, then clamped to 0..255. The blur reads columns that are inside the row. Assumes nothing.
use Rattle.std.specs.Prelude.{◌≡◌, ℕ, zero, suc, ◌+◌, ◌*◌, ◌<◌, ◌≤◌, T, List, slice_index, Float}
use Rattle.std.proofs.Common.{lit≤}
use Rattle.std.specs.Float.Ieee.{of_bits}
use Rattle.num.specs.Const.{c0_10001, c0_14713, c0_28886, c0_39465, c0_436, c0_51499, c0_58060, c0_615, c1_13983}
use Rattle.num.specs.Const.{c2_03211}
use Rattle.num.specs.Ranges.{within}
use Rattle.passes.specs.Arith.{Arith, Agrees, plain}
use Rattle.passes.specs.Blur.{blur_at}
use Rattle.passes.proofs.Inside.Blur.{blur_in}
use Rattle.passes.proofs.Inside.Shared.{Tint, loose, unpacked, clamped_three, luma601_in, cell_same}
use Rattle.passes.specs.Ntsc as Ntsc
use Rattle.passes.specs.Laws.Painted.{placed_same}
use Rattle.passes.specs.Laws.Range.{Has, signed, lit, lit⁺, plus, minus, times, negated}
use Rattle.passes.specs.Rows.{Frame}
use Rattle.passes.specs.declared.pixel.Rgb.{Rgb}

module _ {A : Arith} (G : Agrees A) where
  chroma_in : (which : ℕ) {c : A.Rgb} {d : Rgb} → Tint G 255 c d
      → Has G 765 (Ntsc.chroma A which c) (Ntsc.chroma plain which d)
  unfolding Ntsc.chroma of_bits
  chroma_in zero h =
      plus (minus (times (negated (lit 1 c0_14713 tt)) h.red tt) (times (lit 1 c0_28886 tt) h.green tt) tt)
      (times (lit 1 c0_436 tt) h.blue tt) tt
  chroma_in (suc n) h =
      minus (minus (times (lit 1 c0_615 tt) h.red tt) (times (lit 1 c0_51499 tt) h.green tt) tt)
      (times (lit 1 c0_10001 tt) h.blue tt) tt

  pub ntsc-inside : (w h : ℕ) (strength : Float) (bleed : ℕ) (frame : List ℕ) → Frame w h frame → T (within 1 strength)
      → bleed ≤ 64
      → Ntsc.ntsc A w (A.lit strength) bleed frame ≡ Ntsc.ntsc plain w strength bleed frame
  unfolding Ntsc.ntsc Ntsc.pixel of_bits
  ntsc-inside w h strength bleed frame f s l =
      placed_same _ _ _ _ frame w h _ _ f.area (λ x y p i j.
      let c = unpacked G p in
      let luma = signed (luma601_in c) in
      let u = blend (chroma_in 0 (loose c)) (blurred 0 x y i j) in
      let v = blend (chroma_in 1 (loose c)) (blurred 1 x y i j) in
      clamped_three (plus luma (times (lit 2 c1_13983 tt) v tt) tt)
      (minus (minus luma (times (lit 1 c0_39465 tt) u tt) tt) (times (lit 1 c0_58060 tt) v tt) tt)
      (plus luma (times (lit 3 c2_03211 tt) u tt) tt))
    where
      blurred : (which x y : ℕ) → x < w → y < h
          → Has G 98685 (blur_at A (λ i. Ntsc.sample A which frame w i y) w bleed x)
          (blur_at plain (λ i. Ntsc.sample plain which frame w i y) w bleed x)
      blurred which x y i j =
          blur_in G 765 w bleed x (λ k. Ntsc.sample A which frame w k y) (λ k. Ntsc.sample plain which frame w k y)
          (lit≤ tt) l i
          (λ k m. rw (cell_same G f k y m j) (chroma_in which (loose (unpacked G (slice_index frame (y * w + k))))))

      blend : {a b : A.F} {x y : Float} → Has G 765 a x → Has G 98685 b y
          → Has G 100215 (Ntsc.blend A (A.lit strength) a b) (Ntsc.blend plain strength x y)
      blend a b = plus a (times (minus b a tt) (signed (lit⁺ 1 strength s)) tt) tt

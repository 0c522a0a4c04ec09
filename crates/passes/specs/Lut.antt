-- LUT: the preset number decides among seven colour treatments, blended with the original. Channels run from 0 to 1.
-- A is the arithmetic (Arith.antt): binary32 in the product. Definitions only.
use Rattle.std.specs.Prelude.{ℕ, zero, suc, List}
use Rattle.num.specs.Const.{c0_01, c0_015, c0_16, c0_35, c0_42, c0_5, c0_58, c0_72, c0_82, c0_88, c0_92, c0_94, c0_95}
use Rattle.num.specs.Const.{c0_96, c0_99}
use Rattle.num.specs.Const.{c1_0, c1_01, c1_03, c1_05, c1_06, c1_25, c3_0}
use Rattle.passes.specs.Arith.{Arith}
use Rattle.passes.specs.Painted.{Painted, from_unit}
use Rattle.passes.specs.Pixel.{luma601, channels, unit}

module _ (A : Arith) where
  open A use {F, lit, ◌⊕◌, ◌⊖◌, ◌⊗◌, ◌⊘◌, round, Rgb, rgb, red, green, blue}

  infixl 6 ◌⊕◌
  infixl 6 ◌⊖◌
  infixl 7 ◌⊗◌
  infixl 7 ◌⊘◌
  abbrev pub warm_crt : Rgb → Rgb
  warm_crt c = rgb (red c ⊗ lit c1_05 ⊕ lit c0_015) (green c ⊗ lit c1_01) (blue c ⊗ lit c0_92)

  abbrev pub cool_crt : Rgb → Rgb
  cool_crt c = rgb (red c ⊗ lit c0_94) (green c ⊗ lit c0_99) (blue c ⊗ lit c1_06 ⊕ lit c0_01)

  abbrev pub composite : Rgb → Rgb
  composite c =
      let y = luma601 A c in
      rgb ((y ⊕ (red c ⊖ y) ⊗ lit c0_82) ⊗ lit c1_03)
      ((y ⊕ (green c ⊖ y) ⊗ lit c0_88) ⊗ lit c1_0)
      ((y ⊕ (blue c ⊖ y) ⊗ lit c0_72) ⊗ lit c0_96)

  abbrev pub game_boy : Rgb → Rgb
  game_boy c =
      let level = round (luma601 A c ⊗ lit c3_0) ⊘ lit c3_0 in
      rgb (level ⊗ lit c0_35) (level ⊗ lit c0_72) (level ⊗ lit c0_42)

  abbrev pub amber : Rgb → Rgb
  amber c =
      let luminance = luma601 A c in
      rgb (luminance ⊗ lit c0_95) (luminance ⊗ lit c0_58) (luminance ⊗ lit c0_16)

  abbrev pub high_contrast : Rgb → Rgb
  high_contrast c = channels A (λ x. (x ⊖ lit c0_5) ⊗ lit c1_25 ⊕ lit c0_5) c

  -- Identity, WarmCrt, CoolCrt, Composite, GameBoy, Amber, HighContrast
  unfoldable pub transform : ℕ → Rgb → Rgb
  transform zero c = c
  transform (suc zero) c = warm_crt c
  transform (suc (suc zero)) c = cool_crt c
  transform (suc (suc (suc zero))) c = composite c
  transform (suc (suc (suc (suc zero)))) c = game_boy c
  transform (suc (suc (suc (suc (suc zero))))) c = amber c
  transform (suc (suc (suc (suc (suc (suc n)))))) c = high_contrast c

  -- a channel x blended with its treatment y
  abbrev pub blend : F → F → F → F
  blend x y strength = x ⊕ (y ⊖ x) ⊗ strength

  unfoldable pub colour : ℕ → F → ℕ → Rgb
  colour preset strength p =
      let c = unit A p in
      let t = transform preset c in
      rgb (blend (red c) (red t) strength) (blend (green c) (green t) strength) (blend (blue c) (blue t) strength)

  unfoldable pub lut : ℕ → F → List ℕ → Painted
  lut preset strength frame = from_unit A (λ i. colour preset strength) frame

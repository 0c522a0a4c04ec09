-- A preset that treats each channel alone gives every word what it gives the greys of the word's channels, marks too (`picked-is`). Assumes nothing.
use Rattle.std.proofs.Common.{◌≡◌, ℕ, zero, suc, ◌+◌, ◌*◌, ◌/◌, ◌%◌, ◌^◌, ◌<◌, ◌≤◌, List, get_or, sym, refl, ap, ◌∙◌, arith}
use lib.Ieee.{Float}
use Rattle.num.specs.Const.{c0_01, c0_015, c0_5, c0_92, c0_94, c0_99, c1_0, c1_01, c1_05, c1_06, c1_25, c255_0}
use Rattle.num.specs.F32.{◌⊕◌, ◌⊖◌, ◌⊗◌, ◌⊘◌, whole}
use Rattle.num.specs.Laws.Bounds.{unit-cut}
use Rattle.passes.specs as Text
use Rattle.passes.specs.declared.pixel.Rgb.{Rgb}
use Rattle.passes.specs.Arith.{plain}
use Rattle.passes.specs.Laws.Painted.{clip-few}
use Rattle.passes.specs.Plain.Pixel.{rgb, unit, clip}
use Rattle.passes.specs.Plain.Lut.{transform, blend, colour}
use Rattle.passes.specs.Private.{Greys, cut_unit, entry, mark_unit, picked}

-- what a preset makes of each channel, by the channel alone
pub record Alone (preset : ℕ) : Type 0 where
  pub red : Float → Float
  pub green : Float → Float
  pub blue : Float → Float
  pub so : (c : Rgb) → transform preset c ≡ rgb (red c.r) (green c.g) (blue c.b)

pub alone : (preset : ℕ) → (preset ≡ 3 → ⊥) → (preset ≡ 4 → ⊥) → (preset ≡ 5 → ⊥) → Alone preset
unfolding Text.Lut.transform
alone zero a b d = record { red = λ x. x; green = λ x. x; blue = λ x. x; so = λ c. refl }
alone (suc zero) a b d = record { red = λ x. x ⊗ c1_05 ⊕ c0_015; green = λ x. x ⊗ c1_01; blue = λ x. x ⊗ c0_92; so = λ c. refl }
alone (suc (suc zero)) a b d = record { red = λ x. x ⊗ c0_94; green = λ x. x ⊗ c0_99; blue = λ x. x ⊗ c1_06 ⊕ c0_01; so = λ c. refl }
alone (suc (suc (suc zero))) a b d = absurd (a refl)
alone (suc (suc (suc (suc zero)))) a b d = absurd (b refl)
alone (suc (suc (suc (suc (suc zero))))) a b d = absurd (d refl)
alone (suc (suc (suc (suc (suc (suc n)))))) a b d =
    record { red = λ x. (x ⊖ c0_5) ⊗ c1_25 ⊕ c0_5; green = λ x. (x ⊖ c0_5) ⊗ c1_25 ⊕ c0_5; blue = λ x. (x ⊖ c0_5) ⊗ c1_25 ⊕ c0_5; so = λ c. refl }

-- ---- the channels of a word

apart : (a b c p : ℕ) → a ≤ 255 → b ≤ 255 → c ≤ 255 → p ≡ a * 65536 + b * 256 + c → (p / 65536 % 256 ≡ a) × (p / 256 % 256 ≡ b) × (p % 256 ≡ c)
apart a b c p k l m e = (omega arith, omega arith, omega arith)

-- three entries add up to the marked word
adds : (a b c x y z : ℕ) → a ≤ 255 → b ≤ 255 → c ≤ 255 → x ≤ 1 → y ≤ 1 → z ≤ 1
    → ((a * 65536 + x * 16777216 + (b * 256 + y * 16777216)) % 2 ^ 32 + (c + z * 16777216)) % 2 ^ 32 ≡ a * 65536 + b * 256 + c + (x + y + z) * 16777216
adds a b c x y z k l m n o q = omega arith

-- ---- a grey's channels are all its own

abbrev level : ℕ → Float
level k = whole k ⊘ c255_0

grey : (k : ℕ) → k < 256 → unit (k * 65793) ≡ rgb (level k) (level k) (level k)
unfolding Text.Pixel.unit Text.Pixel.unpack
grey k h =
    let d = apart k k k (k * 65793) (omega arith) (omega arith) (omega arith) (omega arith) in
    rw d.0 (rw d.1 (rw d.2 refl))

module _ (preset : ℕ) (strength : Float) (a : Alone preset) where
  -- each channel, blended with its treatment
  abbrev red : Float → Float
  red x = blend x (a.red x) strength

  abbrev green : Float → Float
  green x = blend x (a.green x) strength

  abbrev blue : Float → Float
  blue x = blend x (a.blue x) strength

  colour-is : (p : ℕ) → colour preset strength p ≡ rgb (red (unit p).r) (green (unit p).g) (blue (unit p).b)
  unfolding Text.Lut.colour
  colour-is p = rw (a.so (unit p)) refl

  grey-is : (k : ℕ) → k < 256 → colour preset strength (k * 65793) ≡ rgb (red (level k)) (green (level k)) (blue (level k))
  grey-is k h = colour-is (k * 65793) ∙ ap (λ (c : Rgb). rgb (red c.r) (green c.g) (blue c.b)) (grey k h)

  packed : (p : ℕ) → let r = red (level (p / 65536 % 256)) in let g = green (level (p / 256 % 256)) in let b = blue (level (p % 256)) in
      mark_unit (colour preset strength p) ≡ cut_unit r * 65536 + cut_unit g * 256 + cut_unit b + (clip c1_0 r + clip c1_0 g + clip c1_0 b) * 16777216
  unfolding mark_unit Text.Pixel.pack_unit Text.Pixel.clips Text.Pixel.pack Text.Pixel.unit Text.Pixel.unpack
  packed p = ap mark_unit (colour-is p)

  pub picked-is : {reds greens blues : List ℕ} (p : ℕ) → Greys 0 preset strength reds → Greys 1 preset strength greens → Greys 2 preset strength blues
      → picked (λ k. get_or reds k 0) (λ k. get_or greens k 0) (λ k. get_or blues k 0) p ≡ mark_unit (colour preset strength p)
  unfolding picked entry
  picked-is p s t u =
      let h = below (p / 65536) in
      let i = below (p / 256) in
      let j = below p in
      rw (s.at _ h ∙ ap (entry 0) (grey-is _ h)) (rw (t.at _ i ∙ ap (entry 1) (grey-is _ i)) (rw (u.at _ j ∙ ap (entry 2) (grey-is _ j))
      (adds _ _ _ _ _ _ (unit-cut _) (unit-cut _) (unit-cut _) (clip-few plain _ _) (clip-few plain _ _) (clip-few plain _ _) ∙ sym (packed p))))
    where
      below : (k : ℕ) → k % 256 < 256
      below k = omega arith

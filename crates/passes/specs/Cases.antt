-- The cases of the passes: those that document 01 marks (●), one for each treatment that it leaves to the Rust, and those of requests.
-- Each list pairs what a definition gives with what it should give, and one proof by computation holds the whole list.
-- Assumes nothing.
use Rattle.std.specs.Prelude.{ℕ, zero, suc, ◌+◌, ◌*◌, Bool, true, false, List, [], ◌∷◌, refl, Float}
use Rattle.std.specs.Float.{nan, inf, binary32}
use Rattle.std.specs.Float.Ieee.{of_bits, of_int, add, sub, mul, div, neg, lt, le, eq, ne}
use Rattle.num.specs.Cases.{Hold}
use Rattle.num.specs.Const.{c0_0, c0_30, c0_5, c1_0, c2_0, c255_0}
use Rattle.num.specs.F32.{whole, ◌⊘◌}
use Rattle.num.specs.Held.{nothing, sized, same_held}
use Rattle.num.specs.Root.{root_of}
use Rattle.num.specs.Steps.{clamp_of, min_of, max_of, abs_of, cut_of, round_of}
use Rattle.passes.specs as Text
use Rattle.passes.specs.ColorCorrection.{in_unit, all_in_unit, good_curve}
use Rattle.passes.specs.Fold.{fold}
use Rattle.num.specs.Rewrite.{rewrite}
use Rattle.num.specs.Sums.{sum}
use Rattle.passes.specs.Painted.{Painted, painted, converted}
use Rattle.passes.specs.Samples.{samples, ntsc_samples, bloom_samples, pairs}
use Rattle.passes.specs.Flow.{Flow, flow}
use Rattle.passes.specs.Plain.Scanlines as Scanlines
use Rattle.passes.specs.Plain.Vignette as Vignette
use Rattle.passes.specs.Plain.Crt as Crt
use Rattle.passes.specs.Plain.Curvature as Curvature
use Rattle.passes.specs.Plain.AutoGradient as AutoGradient
use Rattle.passes.specs.Plain.Persistence as Persistence
use Rattle.passes.specs.Plain.ColorCorrection as ColorCorrection
use Rattle.passes.specs.Plain.Lut as Lut
use Rattle.passes.specs.Plain.Ntsc as Ntsc
use Rattle.passes.specs.Plain.Bloom as Bloom

abbrev grey : List ℕ
grey = 0xc8c8c8 ∷ 0xc8c8c8 ∷ 0xc8c8c8 ∷ 0xc8c8c8 ∷ 0xc8c8c8 ∷ 0xc8c8c8 ∷ 0xc8c8c8 ∷ 0xc8c8c8 ∷ 0xc8c8c8 ∷ []

abbrev numbered : List ℕ
numbered = 0xaa000001 ∷ 2 ∷ 3 ∷ 4 ∷ 0xbb000005 ∷ 6 ∷ 7 ∷ 8 ∷ 9 ∷ []

-- persistence 0.5, depth 1, from frame to frame; the history is longer than its one place
abbrev shown : Flow → ℕ → Flow
shown x p = Persistence.persistence c0_5 1 (sized 1 1) (flow (painted (p ∷ []) 0) x.held x.past)

abbrev first : Flow
first = shown (flow (painted [] 0) nothing (7 ∷ 8 ∷ [])) 0xffffff

abbrev second : Flow
second = shown first 0

abbrev third : Flow
third = shown second 0

-- ● Scanlines 1.0, 1 by 2. Vignette 1.0, 2 by 2: only the lower right pixel survives. CRT 1.0, 3 by 3 of C8C8C8: centre
-- C1C8C1. Curvature 0.5, 3 by 3: only the centre survives; amount 0 keeps all. Gradient 1, 1, 0 on one black pixel.
-- Persistence 0.5, depth 1: three frames, and the history after them. Colour 1, 1, 1, 1 on black.
abbrev pub marked : List (List ℕ × List ℕ)
marked =
    (Scanlines.scanlines 1 c1_0 (0xaa123456 ∷ 0xaa123456 ∷ []), 0xaa123456 ∷ 0 ∷ [])
    ∷ (Vignette.vignette 2 2 c1_0 (0xffffff ∷ 0xffffff ∷ 0xffffff ∷ 0xff123456 ∷ []), 0 ∷ 0 ∷ 0 ∷ 0x123456 ∷ [])
    ∷ (Crt.crt 3 3 c1_0 grey, 0x868181 ∷ 0x959b95 ∷ 0x818186 ∷ 0xb0aaaa ∷ 0xc1c8c1 ∷ 0xaaaab0 ∷ 0x868181 ∷ 0x959b95 ∷ 0x818186 ∷ [])
    ∷ (Curvature.curvature 3 3 c0_5 numbered, 0 ∷ 0 ∷ 0 ∷ 0 ∷ 0xbb000005 ∷ 0 ∷ 0 ∷ 0 ∷ 0 ∷ [])
    ∷ (Curvature.curvature 3 3 c0_0 numbered, numbered)
    ∷ ((AutoGradient.auto_gradient 1 1 c1_0 c1_0 c0_0 (0 ∷ [])).words, 0x120500 ∷ [])
    ∷ (first.frame.words, 0xffffff ∷ [])
    ∷ (second.frame.words, 0x555555 ∷ [])
    ∷ (third.frame.words, 0 ∷ [])
    ∷ (third.past, 0 ∷ 8 ∷ [])
    ∷ ((ColorCorrection.color_correction [] c1_0 c1_0 c1_0 c1_0 (0 ∷ [])).words, 0xffffff ∷ [])
    ∷ []

pub marked_hold : Hold marked
unfolding of_bits of_int add sub mul div neg lt le clamp_of min_of max_of abs_of cut_of round_of root_of rewrite fold
    Text.Pixel.unpack Text.Pixel.unit Text.Pixel.pack Text.Pixel.pack_nearest Text.Pixel.pack_clamped Text.Pixel.pack_unit
    Text.Pixel.dim Text.Pixel.luma709 Text.Position.position Text.Scanlines.scanlines Text.Scanlines.in_row
    Text.Vignette.vignette Text.Vignette.offset_squared Text.Vignette.factor Text.Crt.crt Text.Crt.beam Text.Crt.phosphor
    Text.Crt.offset Text.Crt.edge Text.Crt.shade Text.Curvature.curvature Text.Curvature.bend Text.Curvature.sample
    Text.Curvature.outside Text.AutoGradient.auto_gradient Text.AutoGradient.shaded Text.AutoGradient.adaptive
    Text.AutoGradient.add_luma Text.AutoGradient.warm Text.AutoGradient.fall Text.AutoGradient.brightness Text.AutoGradient.shade same_held
    Text.Persistence.persistence Text.Persistence.decay Text.Persistence.total Text.Persistence.add Text.Persistence.mix
    converted Text.Persistence.blend Persistence.copies Persistence.refilled
    Persistence.shifted Text.ColorCorrection.color_correction Text.ColorCorrection.curved Text.ColorCorrection.start
    Text.ColorCorrection.colour eq ne
marked_hold = refl

-- a word for each three channels: together, and with the last word, all 256 of them
unfoldable pub threes : ℕ → List ℕ
threes zero = 0xffffff ∷ []
threes (suc k) = (k * 3 * 65536 + (k * 3 + 1) * 256 + (k * 3 + 2)) ∷ threes k

-- equal frames at 0.5 (Still): at depth 1 every channel stays; at depth 2 red, green and blue of a word show one below
abbrev pub equals : List (List ℕ × List ℕ)
equals =
    ((Persistence.blend c0_5 1 (threes 85) (threes 85)).words, threes 85)
    ∷ ((Persistence.blend c0_5 2 (0x1f3e7c ∷ 0x1f3e7c ∷ []) (0x1f3e7c ∷ [])).words, 0x1e3d7b ∷ [])
    ∷ []

pub equals_hold : Hold equals
unfolding threes of_bits of_int add mul div lt clamp_of cut_of rewrite Text.Pixel.unpack Text.Pixel.pack
    Text.Pixel.pack_clamped Text.Persistence.decay Text.Persistence.total Text.Persistence.add Text.Persistence.mix converted
    Text.Persistence.blend
equals_hold = refl

-- clipped channels (request P5), beside the words: strictly below 0 or strictly above the top end
abbrev pub clipped : List (Painted × Painted)
clipped =
    -- colour, brightness 1: black comes to lie at 1 exactly, 010101 above it; brightness -1: white at 0 exactly, a green of FE below it
    (ColorCorrection.color_correction [] c1_0 c1_0 c1_0 c1_0 (0 ∷ 0x010101 ∷ []), painted (0xffffff ∷ 0xffffff ∷ []) 3)
    ∷ (ColorCorrection.color_correction [] (neg c1_0) c1_0 c1_0 c1_0 (0xffffff ∷ 0xfffeff ∷ []), painted (0 ∷ 0 ∷ []) 1)
    -- LUT, high contrast: red 10
    ∷ (Lut.lut 6 c1_0 (0xff102030 ∷ 0x406080 ∷ []), painted (0x00081c ∷ 0x305880 ∷ []) 1)
    -- gradient on one black pixel: blue
    ∷ (AutoGradient.auto_gradient 1 1 c1_0 c1_0 c0_0 (0 ∷ []), painted (0x120500 ∷ []) 1)
    -- bloom over white: with a glow, and with none
    ∷ (Bloom.bloom 2 1 254 c1_0 1 (0xffffff ∷ 0 ∷ []), painted (0xffffff ∷ 0x555555 ∷ []) 3)
    ∷ (Bloom.bloom 2 1 255 c1_0 1 (0xffffff ∷ 0 ∷ []), painted (0xffffff ∷ 0 ∷ []) 0)
    -- NTSC: red's blue, and blue's red
    ∷ (Ntsc.ntsc 3 c1_0 1 (0xff0000 ∷ 0x00ff00 ∷ 0x0000ff ∷ []), painted (0x913c00 ∷ 0x70b070 ∷ 0x002c81 ∷ []) 2)
    -- persistence, depth 1, white over white: at 0.5 it comes to lie at 255 exactly; at 0.3 the weights add up to more than 1. A refill
    -- clips nothing, and leaves what was clipped before
    ∷ (Persistence.blend c0_5 1 (0xffffff ∷ []) (0xffffff ∷ []), painted (0xffffff ∷ []) 0)
    ∷ (Persistence.blend c0_30 1 (0xffffff ∷ []) (0xffffff ∷ []), painted (0xffffff ∷ []) 3)
    ∷ ((Persistence.persistence c0_30 1 (sized 1 1) (flow (painted (0xffffff ∷ []) 5) (sized 1 1) (0xffffff ∷ []))).frame, painted (0xffffff ∷ []) 8)
    ∷ ((Persistence.persistence c0_30 1 (sized 1 1) (flow (painted (0xffffff ∷ []) 5) (sized 1 2) (0xffffff ∷ []))).frame, painted (0xffffff ∷ []) 5)
    ∷ []

pub clipped_hold : Hold clipped
unfolding of_bits of_int add sub mul div neg lt le clamp_of abs_of cut_of rewrite fold sum converted same_held
    Text.Pixel.unpack Text.Pixel.unit Text.Pixel.pack Text.Pixel.pack_clamped Text.Pixel.pack_unit Text.Pixel.clip Text.Pixel.clips
    Text.Pixel.channel Text.Pixel.luma601 Text.Pixel.luma709 Text.Position.position Text.ColorCorrection.color_correction
    Text.ColorCorrection.curved Text.ColorCorrection.start Text.ColorCorrection.colour eq ne
    Text.Lut.lut Text.Lut.colour Text.Lut.transform Text.AutoGradient.auto_gradient
    Text.AutoGradient.shaded Text.AutoGradient.adaptive Text.AutoGradient.add_luma Text.AutoGradient.warm Text.AutoGradient.fall
    Text.AutoGradient.brightness Text.AutoGradient.shade Text.Blur.weight Text.Blur.total Text.Bloom.bloom Text.Bloom.bright
    Text.Bloom.composite Text.Ntsc.ntsc Text.Ntsc.pixel Text.Ntsc.chroma Text.Persistence.persistence Text.Persistence.decay
    Text.Persistence.total Text.Persistence.add Text.Persistence.mix Text.Persistence.blend
    Persistence.copies Persistence.refilled Persistence.shifted
clipped_hold = refl

-- The curve (request P3). Word k of `falling` is (255 - k)/255.
unfoldable pub falling : ℕ → List Float
falling zero = []
falling (suc n) = (whole n ⊘ c255_0) ∷ falling n

-- that word n times, before others
unfoldable pub times : ℕ → Float → List Float → List Float
times zero x rest = rest
times (suc n) x rest = x ∷ times n x rest

-- red, green and blue each by its own word; the top byte is ignored. Black and white by curves of zeros and of ones. At gamma 1.0 the curve has no say
abbrev pub curves : List (Painted × Painted)
curves =
    (ColorCorrection.color_correction (falling 256) c0_0 c1_0 c1_0 c2_0 (0xff00407f ∷ 0x102030 ∷ []), painted (0xffbf80 ∷ 0xefdfcf ∷ []) 0)
    ∷ (ColorCorrection.color_correction (times 256 c0_0 []) c0_0 c1_0 c1_0 c2_0 (0xffffff ∷ []), painted (0 ∷ []) 0)
    ∷ (ColorCorrection.color_correction (times 256 c1_0 []) c0_0 c1_0 c1_0 c2_0 (0 ∷ []), painted (0xffffff ∷ []) 0)
    ∷ (ColorCorrection.color_correction (times 256 c0_0 []) c0_0 c1_0 c1_0 c1_0 (0xffffff ∷ []), painted (0xffffff ∷ []) 0)
    ∷ []

pub curves_hold : Hold curves
unfolding falling times of_bits of_int add sub mul div lt eq ne clamp_of cut_of rewrite sum converted Text.Pixel.pack Text.Pixel.pack_unit
    Text.Pixel.clip Text.Pixel.clips Text.Pixel.luma709 Text.ColorCorrection.color_correction Text.ColorCorrection.curved
    Text.ColorCorrection.start Text.ColorCorrection.colour
curves_hold = refl

-- Which can be read: 256 words and no fewer; 1, -0 and the smallest number above 0 as the last of them, and no number above 1 or below 0 by one
-- step, no infinity and no NaN; past them any word
abbrev pub readable : List (Bool × Bool)
readable =
    (good_curve [], false)
    ∷ (good_curve (times 255 c0_0 []), false)
    ∷ (good_curve (times 256 c0_0 []), true)
    ∷ (good_curve (times 255 c0_0 (c1_0 ∷ [])), true)
    ∷ (good_curve (times 255 c0_0 (neg c0_0 ∷ [])), true)
    ∷ (good_curve (times 255 c0_0 (of_bits binary32 1 ∷ [])), true)
    ∷ (good_curve (times 255 c0_0 (of_bits binary32 0x3f80_0001 ∷ [])), false)
    ∷ (good_curve (times 255 c0_0 (of_bits binary32 0x8000_0001 ∷ [])), false)
    ∷ (good_curve (times 255 c0_0 (inf false ∷ [])), false)
    ∷ (good_curve (times 255 c0_0 (inf true ∷ [])), false)
    ∷ (good_curve (times 255 c0_0 (nan ∷ [])), false)
    ∷ (good_curve (nan ∷ times 255 c0_0 []), false)
    ∷ (good_curve (times 256 c0_0 (nan ∷ [])), true)
    ∷ []

pub readable_hold : Hold readable
unfolding times good_curve all_in_unit in_unit le lt eq neg of_bits
readable_hold = refl

-- three colours under each preset at strength 1.0, the first with its top byte set: Identity's steps run too
abbrev colours : List ℕ
colours = 0xff102030 ∷ 0x406080 ∷ 0xc8a050 ∷ []

abbrev pub presets : List (List ℕ × List ℕ)
presets =
    ((Lut.lut 0 c1_0 colours).words, 0x102030 ∷ 0x406080 ∷ 0xc8a050 ∷ [])
    ∷ ((Lut.lut 1 c1_0 colours).words, 0x14202c ∷ 0x476075 ∷ 0xd5a149 ∷ [])
    ∷ ((Lut.lut 2 c1_0 colours).words, 0x0f1f35 ∷ 0x3c5f8a ∷ 0xbc9e57 ∷ [])
    ∷ ((Lut.lut 3 c1_0 colours).words, 0x121f28 ∷ 0x465f70 ∷ 0xc7a063 ∷ [])
    ∷ ((Lut.lut 4 c1_0 colours).words, 0 ∷ 0x1d3d23 ∷ 0x3b7a47 ∷ [])
    ∷ ((Lut.lut 5 c1_0 colours).words, 0x1b1004 ∷ 0x55340e ∷ 0x9a5e1a ∷ [])
    ∷ ((Lut.lut 6 c1_0 colours).words, 0x00081c ∷ 0x305880 ∷ 0xdaa844 ∷ [])
    ∷ []

pub presets_hold : Hold presets
unfolding of_bits of_int add sub mul div clamp_of cut_of round_of rewrite Text.Pixel.unpack Text.Pixel.unit Text.Pixel.pack
    Text.Pixel.pack_unit Text.Pixel.luma601 Text.Lut.lut Text.Lut.colour Text.Lut.transform converted
presets_hold = refl

-- NTSC, bleed 1, at strength 1.0 on three colours and at 0.0 on three greys, 3 by 1; bloom, strength 1.0, radius 1, 2
-- by 2, at thresholds 0, 254 and 255, the last with a word whose top byte is not 0
abbrev pub blurs : List (List ℕ × List ℕ)
blurs =
    ((Ntsc.ntsc 3 c1_0 1 (0xff0000 ∷ 0x00ff00 ∷ 0x0000ff ∷ [])).words, 0x913c00 ∷ 0x70b070 ∷ 0x002c81 ∷ [])
    ∷ ((Ntsc.ntsc 3 c0_0 1 (0x808080 ∷ 0x111111 ∷ 0xffffff ∷ [])).words, 0x807f80 ∷ 0x111011 ∷ 0xfffeff ∷ [])
    ∷ ((Bloom.bloom 2 2 0 c1_0 1 (0x102030 ∷ 0 ∷ 0 ∷ 0x400000 ∷ [])).words, 0x112132 ∷ 0x010001 ∷ 0x010001 ∷ 0x410000 ∷ [])
    ∷ ((Bloom.bloom 2 2 254 c1_0 1 (0xffffff ∷ 0 ∷ 0 ∷ 0 ∷ [])).words, 0xffffff ∷ 0x383838 ∷ 0x383838 ∷ 0x1c1c1c ∷ [])
    ∷ ((Bloom.bloom 2 2 255 c1_0 1 (0xffffff ∷ 0 ∷ 0 ∷ 0x0fffffff ∷ [])).words, 0xffffff ∷ 0 ∷ 0 ∷ 0xffffff ∷ [])
    ∷ []

pub blurs_hold : Hold blurs
unfolding of_bits of_int add sub mul div neg lt le clamp_of cut_of rewrite Text.Pixel.unpack Text.Pixel.pack
    Text.Pixel.pack_clamped Text.Pixel.channel Text.Pixel.luma601 Text.Pixel.luma709 Text.Blur.weight Text.Blur.total
    Text.Ntsc.ntsc Text.Ntsc.pixel Text.Ntsc.chroma Text.Bloom.bloom Text.Bloom.bright Text.Bloom.composite converted
blurs_hold = refl

-- S and what it counts (request P9): the radius below the side, at it and above it; a side of 1; the longest side at the largest radius. Two small
-- frames of each pass.
abbrev pub taken : List (ℕ × ℕ)
taken =
    (samples 3 1, 7)
    ∷ (pairs 3 1, 7)
    ∷ (samples 3 2, 9)
    ∷ (pairs 3 2, 9)
    ∷ (samples 3 3, 9)
    ∷ (pairs 3 3, 9)
    ∷ (samples 3 4, 9)
    ∷ (pairs 3 4, 9)
    ∷ (samples 1 64, 1)
    ∷ (pairs 1 2, 1)
    ∷ (samples 1024 64, 127936)
    ∷ (ntsc_samples 3 2 1, 14)
    ∷ (bloom_samples 3 2 1, 14 + 12)
    ∷ []

pub taken_hold : Hold taken
unfolding samples ntsc_samples bloom_samples sum
taken_hold = refl

-- What private functions of src/marks.rt, src/color_correction.rt, src/lut.rt, src/blur.rt, src/ntsc.rt, src/bloom.rt and
-- src/persistence.rt promise one another. No public contract of a pass cites these. Definitions only.
use Rattle.std.specs.Prelude.{◌≡◌, ℕ, zero, suc, ◌+◌, ◌*◌, ◌/◌, ◌%◌, ◌^◌, ◌<◌, false, T, List, length, get_or, slice_index, slice_index_or, Float}
use Rattle.std.specs.Float.{nan}
use Rattle.num.specs.Const.{c0_0, c1_0, c3_0, c255_0}
use Rattle.num.specs.F32.{◌⊕◌, ◌⊗◌, ◌⊘◌}
use Rattle.num.specs.Rewrite.{every}
use Rattle.num.specs.Steps.{clamp_of, cut_of, round_of}
use Rattle.num.specs.Sums.{sum}
use Rattle.num.specs.Ranges.{within, Signed}
use Rattle.passes.specs.declared.blur.Four.{Four}
use Rattle.passes.specs.declared.pixel.Rgb.{Rgb}
use Rattle.passes.specs.Painted.{Painted, painted}
use Rattle.passes.specs.Samples.{once}
use Rattle.passes.specs.Plain.Bloom as Bloom
use Rattle.passes.specs.Plain.AutoGradient.{warm, brightness, shade}
use Rattle.passes.specs.Plain.Blur.{distance, weight, step, weighted, quotient}
use Rattle.passes.specs.Plain.ColorCorrection.{level, saturate}
use Rattle.passes.specs.Plain.Lut.{colour}
use Rattle.passes.specs.Plain.Ntsc as Ntsc
use Rattle.passes.specs.Plain.Persistence.{mix}
use Rattle.passes.specs.Plain.Pixel.{channel, channels, unpack, pack_clamped, pack_unit, clip, clips, luma601}

-- ---- words that are marked: the number of its clipped channels stands above each, in its top byte

unfoldable pub mark_clamped : Rgb → ℕ
mark_clamped c = pack_clamped c + clips c255_0 c * 16777216

unfoldable pub mark_unit : Rgb → ℕ
mark_unit c = pack_unit c + clips c1_0 c * 16777216

-- each word of a frame from its colour
abbrev pub every_clamped : (ℕ → ℕ → Rgb) → List ℕ → List ℕ
every_clamped colour words = every (λ i p. mark_clamped (colour i p)) words

abbrev pub every_unit : (ℕ → ℕ → Rgb) → List ℕ → List ℕ
every_unit colour words = every (λ i p. mark_unit (colour i p)) words

-- the marks cleared, and added up
unfoldable pub unmarked : List ℕ → Painted
unmarked words = painted (every (λ i q. q % 16777216) words) (sum (length words) (λ i. slice_index words i / 16777216))

-- ---- colour correction

-- what becomes of a colour once its channels have started
abbrev pub toned : Float → Float → Float → Rgb → Rgb
toned brightness contrast saturation c = saturate saturation (channels (level brightness contrast) c)

-- ---- LUT

-- a word's channels as 0..1: none is negative, -0 neither
pub record Share (x : Float) : Type 0 where
  pub inside : T (within 1 x)
  pub sign : Signed false x

pub record OfWord (c : Rgb) : Type 0 where
  pub red : Share c.r
  pub green : Share c.g
  pub blue : Share c.b

-- Game Boy's level
abbrev pub third : Rgb → Float
third c = round_of (luma601 c ⊗ c3_0) ⊘ c3_0

-- by tables

-- a channel as it is converted; then marked, and at its place in a word
abbrev pub cut_unit : Float → ℕ
cut_unit x = cut_of (clamp_of x c0_0 c1_0 ⊗ c255_0)

unfoldable pub entry : ℕ → Rgb → ℕ
entry zero c = cut_unit c.r * 65536 + clip c1_0 c.r * 16777216
entry (suc zero) c = cut_unit c.g * 256 + clip c1_0 c.g * 16777216
entry (suc (suc n)) c = cut_unit c.b + clip c1_0 c.b * 16777216

-- a table of what that channel of the greys becomes
pub record Greys (which preset : ℕ) (strength : Float) (words : List ℕ) : Type 0 where
  pub room : ◌≡◌ {A = ℕ} 256 (length words)
  pub at : (k : ℕ) → k < 256 → slice_index words k ≡ entry which (colour preset strength (k * 65793))

-- the sum of the words that three tables have for a word's channels
unfoldable pub picked : (reds greens blues : ℕ → ℕ) → ℕ → ℕ
picked reds greens blues p = ((reds (p / 65536 % 256) + greens (p / 256 % 256)) % 2 ^ 32 + blues (p % 256)) % 2 ^ 32

-- ---- samples as they are stored

-- of a line, and of a plane of width w
abbrev pub at : List Float → ℕ → Float
at line i = slice_index_or line i nan

abbrev pub cell : List Float → ℕ → ℕ → ℕ → Float
cell plane w x y = at plane (y * w + x)

-- a line of that many places, which begins with n values of f
pub record Begins (places n : ℕ) (f : ℕ → Float) (line : List Float) : Type 0 where
  pub long : length line ≡ places
  pub value : (x : ℕ) → x < n → at line x ≡ f x

-- ---- the blur's offsets, four at a time

-- the weights of the offsets k to k + 3
abbrev pub four_weights : ℕ → ℕ → Four
four_weights radius k = record {
  a = weight radius (distance radius k);
  b = weight radius (distance radius (k + 1));
  c = weight radius (distance radius (k + 2));
  d = weight radius (distance radius (k + 3));
}

-- a sum and the samples of four lines at place i, each times its weight
abbrev pub four_added : List Float → List Float → List Float → List Float → Four → ℕ → Float → Float
four_added a b c d w i sum = sum ⊕ at a i ⊗ w.a ⊕ at b i ⊗ w.b ⊕ at c i ⊗ w.c ⊕ at d i ⊗ w.d

-- m offsets of x more, from offset k on
unfoldable pub onward : (ℕ → Float → Float) → ℕ → ℕ → ℕ → ℕ → ℕ → Float → Float
onward term n radius x k zero sum = sum
onward term n radius x k (suc m) sum = step term n radius x (k + m) (onward term n radius x k m sum)

-- how many of them are inside
abbrev pub insides : (n radius k m x : ℕ) → ℕ
insides n radius k m x = sum m (λ j. once n radius x (k + j))

-- the samples of a line
abbrev pub line_onward : List Float → (radius k m x : ℕ) → Float → Float
line_onward line radius k m x = onward (λ i w. at line i ⊗ w) (length line) radius x k m

-- the rows of a plane of width n and height h, around row y, at column x
abbrev pub rows_onward : List Float → (n h radius y k m x : ℕ) → Float → Float
rows_onward plane n h radius y k m x = onward (λ i w. cell plane n x i ⊗ w) h radius y k m

-- ---- the blur by sums of weights that are worked out before: `sums` gives that of each place

abbrev pub blur_by : (ℕ → Float) → (ℕ → Float) → ℕ → ℕ → ℕ → Float
blur_by sums sample n radius x = quotient (weighted sample n radius x) (sums x)

-- NTSC: a component of a row, and the colour at column x and row y
abbrev pub chroma_by : (ℕ → Float) → ℕ → List ℕ → ℕ → ℕ → Float
chroma_by sums which row bleed x = blur_by sums (λ i. Ntsc.chroma which (unpack (slice_index row i))) (length row) bleed x

abbrev pub ntsc_by : (ℕ → Float) → ℕ → Float → ℕ → List ℕ → ℕ → ℕ → ℕ → Rgb
ntsc_by sums w strength bleed frame x y =
    Ntsc.pixel strength (blur_by sums (λ i. Ntsc.sample 0 frame w i y) w bleed x)
    (blur_by sums (λ i. Ntsc.sample 1 frame w i y) w bleed x)

-- bloom: a channel of a row's bright part, and of the frame's
abbrev pub bright_by : (ℕ → Float) → List ℕ → Float → ℕ → ℕ → ℕ → Float
bright_by sums row threshold radius which x =
    blur_by sums (λ i. Bloom.bright_of threshold which (slice_index row i)) (length row) radius x

abbrev pub horizontal_by : (ℕ → Float) → ℕ → ℕ → Float → List ℕ → ℕ → ℕ → ℕ → Float
horizontal_by sums w radius threshold frame which x y =
    blur_by sums (λ i. Bloom.sample threshold frame w which i y) w radius x

-- its planes: row y has its red samples, then its green ones, then its blue ones
abbrev pub stored : List Float → ℕ → ℕ → ℕ → ℕ → Float
stored planes w which x y = cell planes (3 * w) (which * w + x) y

-- ---- the gradient with what each column keeps of its light, worked out once

abbrev pub gradient_by : ℕ → (ℕ → Float) → Float → Float → ℕ → ℕ → ℕ → Rgb
gradient_by h falls vertical a x y = let t = warm h y vertical a in shade t (brightness t (falls x))

-- ---- persistence by rows

-- the marked word of the picture at place i of a frame of n words
unfoldable pub blended_word : Float → (ℕ → Float) → ℕ → List ℕ → (n i p : ℕ) → ℕ
blended_word w ws k past n i p = mark_clamped (mix w ws past n i p k)

-- one channel of the mix at column x of a row that begins at word `start`
abbrev pub mixed_channel : Float → List Float → List ℕ → List ℕ → (n start which x : ℕ) → Float
mixed_channel w ws past row n start which x =
    channel which (mix w (λ j. get_or ws j nan) past n (start + x) (slice_index row x) (length ws))

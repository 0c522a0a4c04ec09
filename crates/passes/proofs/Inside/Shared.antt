-- What the arguments of several passes share: three channels with their bounds (`Tint`: each from -n to n, `Tint⁺`:
-- each from 0 to n), the ways to a word, lumas, positions along a side, and words that are in the frame. Assumes
-- nothing.
use Rattle.std.specs.Prelude.{◌≡◌, ℕ, zero, suc, ◌+◌, ◌-◌, ◌*◌, ◌/◌, ◌%◌, ◌<◌, ◌≤◌, max, Bool, cond, T, List, nat_le, slice_index, Float}
use Rattle.std.proofs.Common.{sym, subst, arith, lit≤}
use Rattle.std.proofs.Math.Path.{ap₂}
use Rattle.std.specs.Float.Ieee.{of_bits}
use Rattle.num.specs.Const.{c0_0, c0_0722, c0_114, c0_2126, c0_299, c0_587, c0_7152, c1_0, c2_0, c255_0}
use Rattle.num.specs.F32.{◌⊗◌, ◌⊘◌}
use Rattle.num.specs.Laws.Bounds.{widen, cut-within}
use Rattle.num.specs.Steps.{clamp_of, cut_of}
use Rattle.num.specs.Ranges.{within}
use Rattle.passes.specs.Arith.{Arith, Agrees, plain}
use Rattle.passes.specs.Pixel.{scaled, channel, pack, pack_nearest, pack_clamped, pack_unit, clip, clips, unpack, unit, dim}
use Rattle.passes.specs.Pixel.{luma601, luma709}
use Rattle.passes.specs.Position.{position}
use Rattle.passes.specs.Laws.Range.{Has, Plus, signed, lit, lit⁺, lit_big, whole⁺, share⁺, plus, minus, times, plus⁺}
use Rattle.passes.specs.Laws.Range.{times⁺, over⁺, round⁺, zero⁺, one⁺, top⁺}
use Rattle.passes.specs.Laws.Range.{clamp_one, clamp_top}
use Rattle.passes.specs.Rows.{Frame}
use Rattle.passes.specs.Laws.Rows.{row_ends}
use Rattle.passes.specs.declared.pixel.Rgb.{Rgb}

-- ---- three channels

pub record Tint {A : Arith} (G : Agrees A) (n : ℕ) (c : A.Rgb) (d : Rgb) : Type 0 where
  pub red : Has G n (A.red c) d.r
  pub green : Has G n (A.green c) d.g
  pub blue : Has G n (A.blue c) d.b

pub record Tint⁺ {A : Arith} (G : Agrees A) (n : ℕ) (c : A.Rgb) (d : Rgb) : Type 0 where
  pub red : Plus G n (A.red c) d.r
  pub green : Plus G n (A.green c) d.g
  pub blue : Plus G n (A.blue c) d.b

-- the final conversion from 0..255 makes the same of them: the word, and the number of clipped channels
abbrev pub Clamped : (A : Arith) → A.Rgb → Rgb → Type 0
Clamped A c d = (pack_clamped A c ≡ pack_clamped plain d) × (clips A c255_0 c ≡ clips plain c255_0 d)

module _ {A : Arith} {G : Agrees A} where
  moved : {n : ℕ} {a b : A.F} {x : Float} → b ≡ a → Has G n a x → Has G n b x
  moved {n} {a} {b} {x} e h = subst (λ (u : A.F). Has G n u x) (sym e) h

  moved⁺ : {n : ℕ} {a b : A.F} {x : Float} → b ≡ a → Plus G n a x → Plus G n b x
  moved⁺ {n} {a} {b} {x} e h = subst (λ (u : A.F). Plus G n u x) (sym e) h

  pub tint : {n : ℕ} {a b c : A.F} {x y z : Float} → Has G n a x → Has G n b y → Has G n c z
      → Tint G n (A.rgb a b c) (plain.rgb x y z)
  tint {n} {a} {b} {c} h g k =
      record { red = moved (G.red a b c) h; green = moved (G.green a b c) g; blue = moved (G.blue a b c) k }

  pub tint⁺ : {n : ℕ} {a b c : A.F} {x y z : Float} → Plus G n a x → Plus G n b y → Plus G n c z
      → Tint⁺ G n (A.rgb a b c) (plain.rgb x y z)
  tint⁺ {n} {a} {b} {c} h g k =
      record { red = moved⁺ (G.red a b c) h; green = moved⁺ (G.green a b c) g; blue = moved⁺ (G.blue a b c) k }

  pub loose : {n : ℕ} {c : A.Rgb} {d : Rgb} → Tint⁺ G n c d → Tint G n c d
  loose h = record { red = signed h.red; green = signed h.green; blue = signed h.blue }

  pub scaled_in : {c : A.Rgb} {d : Rgb} {f : A.F} {g : Float} → Tint⁺ G 255 c d → Plus G 1 f g
      → Tint⁺ G 255 (scaled A f c) (scaled plain g d)
  scaled_in h k = tint⁺ (times⁺ h.red k tt) (times⁺ h.green k tt) (times⁺ h.blue k tt)

  pub channel_in : (which : ℕ) {n : ℕ} {c : A.Rgb} {d : Rgb} → Tint G n c d
      → Has G n (channel A which c) (channel plain which d)
  unfolding channel
  channel_in zero h = h.red
  channel_in (suc zero) h = h.green
  channel_in (suc (suc n)) h = h.blue

  -- ---- to a word: each channel is cut within 0..1023 and gives at most 255

  joined : {a b c : A.F} {x y z : Float} → Plus G 255 a x → Plus G 255 b y → Plus G 255 c z
      → A.word (A.cut a) (A.cut b) (A.cut c) ≡ pack plain (plain.rgb x y z)
  unfolding pack
  joined {a} {b} {c} {x} {y} {z} h g k =
      rw (cut h, cut g, cut k)
      (G.word (cut_of x) (cut_of y) (cut_of z) (cut-within 255 x h.inside) (cut-within 255 y g.inside)
      (cut-within 255 z k.inside))
    where
      cut : {a : A.F} {x : Float} → Plus G 255 a x → A.cut a ≡ cut_of x
      cut {a} {x} h = G.cut h.is (widen 255 1023 x (lit≤ tt) h.inside)

  packed : {c : A.Rgb} {d : Rgb} → Tint⁺ G 255 c d → pack A c ≡ pack plain d
  unfolding pack
  packed h = joined h.red h.green h.blue

  pub packed_nearest : {c : A.Rgb} {d : Rgb} → Tint⁺ G 255 c d → pack_nearest A c ≡ pack_nearest plain d
  unfolding pack_nearest
  packed_nearest h = packed (tint⁺ (round⁺ h.red tt) (round⁺ h.green tt) (round⁺ h.blue tt))

  -- ---- the final conversions: the same word, and as many clipped channels

  clip_same : (k : ℕ) (top : Float) → Plus G k (A.lit top) top → {n : ℕ} {a : A.F} {x : Float} → Has G n a x
      → clip A top a ≡ clip plain top x
  unfolding clip
  clip_same k top t h =
      let z : Plus G 0 (A.lit c0_0) c0_0 = zero⁺ in
      ap₂ (λ (p q : Bool). cond p 1 (cond q 1 0)) (G.below h.is z.is) (G.below t.is h.is)

  clips_same : (k : ℕ) (top : Float) → Plus G k (A.lit top) top → {n m l : ℕ} {c : A.Rgb} {d : Rgb}
      → Has G n (A.red c) d.r → Has G m (A.green c) d.g → Has G l (A.blue c) d.b
      → clips A top c ≡ clips plain top d
  unfolding clips
  clips_same k top t r g b = ap₂ ◌+◌ (ap₂ ◌+◌ (clip_same k top t r) (clip_same k top t g)) (clip_same k top t b)

  -- channels of different bounds
  clamped : {n m l : ℕ} {c : A.Rgb} {d : Rgb}
      → Has G n (A.red c) d.r → Has G m (A.green c) d.g → Has G l (A.blue c) d.b → Clamped A c d
  unfolding pack_clamped
  clamped h g k = (packed (tint⁺ (clamp_top h) (clamp_top g) (clamp_top k)), clips_same 255 c255_0 top⁺ h g k)

  pub clamped_three : {n m l : ℕ} {a b c : A.F} {x y z : Float} → Has G n a x → Has G m b y → Has G l c z
      → Clamped A (A.rgb a b c) (plain.rgb x y z)
  clamped_three {n} {m} {l} {a} {b} {c} h g k =
      clamped (moved (G.red a b c) h) (moved (G.green a b c) g) (moved (G.blue a b c) k)

  pub clamped_same : {n : ℕ} {c : A.Rgb} {d : Rgb} → Tint G n c d → Clamped A c d
  clamped_same h = clamped h.red h.green h.blue

  pub unit_same : {n : ℕ} {c : A.Rgb} {d : Rgb} → Tint G n c d
      → (pack_unit A c ≡ pack_unit plain d) × (clips A c1_0 c ≡ clips plain c1_0 d)
  unfolding pack_unit
  unit_same h =
      (packed (tint⁺ (full h.red) (full h.green) (full h.blue)), clips_same 1 c1_0 one⁺ h.red h.green h.blue)
    where
      full : {n : ℕ} {a : A.F} {x : Float} → Has G n a x
          → Plus G 255 (A.◌⊗◌ (A.clamp a (A.lit c0_0) (A.lit c1_0)) (A.lit c255_0)) (clamp_of x c0_0 c1_0 ⊗ c255_0)
      full h = times⁺ (clamp_one h) top⁺ tt

  -- ---- lumas

  pub luma601_in : {c : A.Rgb} {d : Rgb} → Tint⁺ G 255 c d → Plus G 765 (luma601 A c) (luma601 plain d)
  unfolding luma601 within of_bits
  luma601_in h =
      plus⁺ (plus⁺ (times⁺ (lit⁺ 1 c0_299 tt) h.red tt) (times⁺ (lit⁺ 1 c0_587 tt) h.green tt) tt)
      (times⁺ (lit⁺ 1 c0_114 tt) h.blue tt) tt

  pub luma709_in : {n : ℕ} {c : A.Rgb} {d : Rgb} → Tint G n c d
      → T (nat_le (1 * n) 16777216) → T (nat_le (1 * n + 1 * n) 16777216) → T (nat_le (1 * n + 1 * n + 1 * n) 16777216)
      → Has G (1 * n + 1 * n + 1 * n) (luma709 A c) (luma709 plain d)
  unfolding luma709 of_bits
  luma709_in h t u v =
      plus (plus (times (lit 1 c0_2126 tt) h.red t) (times (lit 1 c0_7152 tt) h.green t) u)
      (times (lit 1 c0_0722 tt) h.blue t) v

module _ {A : Arith} (G : Agrees A) where
  -- ---- from a word

  pub unpacked : (p : ℕ) → Tint⁺ G 255 (unpack A p) (unpack plain p)
  unfolding unpack
  unpacked p = tint⁺ (byte (p / 65536)) (byte (p / 256)) (byte p)
    where
      byte : (q : ℕ) → Plus G 255 (A.whole (q % 256)) (plain.whole (q % 256))
      byte q = whole⁺ 255 (q % 256) (omega arith) (lit≤ tt)

  pub united : (p : ℕ) → Tint⁺ G 255 (unit A p) (unit plain p)
  unfolding unit of_bits
  united p =
      let c = unpacked p in
      tint⁺ (full c.red) (full c.green) (full c.blue)
    where
      full : {a : A.F} {x : Float} → Plus G 255 a x → Plus G 255 (A.◌⊘◌ a (A.lit c255_0)) (x ⊘ c255_0)
      full h = over⁺ h (lit_big c255_0 tt (lit≤ tt)) tt

  pub dimmed : {f : A.F} {g : Float} → Plus G 1 f g → (p : ℕ) → dim A f p ≡ dim plain g p
  unfolding dim
  dimmed h p = packed (scaled_in (unpacked p) h)

  -- ---- places

  pub position_in : (n k : ℕ) → n ≤ 1024 → k < n → Has G 3 (position A n k) (position plain n k)
  unfolding position of_bits
  position_in n k l m =
      minus (times (signed (share⁺ k (max (n - 1) 1) (omega arith) (omega arith) (omega arith))) (lit 2 c2_0 tt) tt)
      (signed one⁺) tt

  -- a word of the frame that is there
  pub cell_same : {w h : ℕ} {frame : List ℕ} (f : Frame w h frame) (x y : ℕ) → x < w → y < h
      → A.cell w frame x y ≡ slice_index frame (y * w + x)
  cell_same {w} {h} {frame} f x y l m =
      G.cell w frame x y l (let r = row_ends w h y m in let a = f.area in omega arith)

-- The mix of persistence by channels: one channel of it along a row, and all three at a place. Assumes nothing.
use Rattle.std.proofs.Common.{◌≡◌, ℕ, zero, suc, ◌+◌, ◌-◌, ◌*◌, ◌<◌, List, length, get_or, take, drop, refl, ap, ◌∙◌, arith}
use lib.Ieee.{Float}
use Rattle.num.specs.F32.{◌⊕◌, ◌⊗◌}
use Rattle.num.specs.Rewrite.{fill}
use Rattle.num.specs.Laws.Rewrite.{rewrite_ext}
use Rattle.passes.specs as Text
use Rattle.passes.specs.Plain.Persistence.{add, mix}
use Rattle.passes.specs.Plain.Pixel.{channel, rgb, scaled, unpack}
use Rattle.passes.specs.declared.pixel.Rgb.{Rgb}
use Rattle.passes.proofs.RowLoops.{lent-word}

channel-scaled : (which : ℕ) (w : Float) (c : Rgb) → channel which c ⊗ w ≡ channel which (scaled w c)
unfolding Text.Pixel.channel
channel-scaled zero w c = refl
channel-scaled (suc zero) w c = refl
channel-scaled (suc (suc n)) w c = refl

channel-add : (which : ℕ) (c : Rgb) (w : Float) (p : ℕ) → channel which c ⊕ channel which (unpack p) ⊗ w ≡ channel which (add c w p)
unfolding Text.Pixel.channel Text.Persistence.add
channel-add zero c w p = refl
channel-add (suc zero) c w p = refl
channel-add (suc (suc n)) c w p = refl

pub whole : (c : Rgb) {r g b : Float} → r ≡ channel 0 c → g ≡ channel 1 c → b ≡ channel 2 c → rgb r g b ≡ c
unfolding Text.Pixel.channel
whole c e f h = rw (e, f, h)

-- a row that begins at word `at` of a frame of n
module _ (w : Float) (ws : ℕ → Float) (past row : List ℕ) (n at which : ℕ) where
  -- the channel of its word x, mixed with j older frames
  abbrev pub mixed : ℕ → ℕ → Float
  mixed x j = channel which (mix w ws past n (at + x) (get_or row x 0) j)

  pub first : {acc : List Float} (entry : List Float) → acc ≡ fill (λ x. channel which (unpack (get_or row x 0)) ⊗ w) entry → acc ≡ fill (λ x. mixed x 0) entry
  unfolding Text.Persistence.mix
  first entry e = e ∙ rewrite_ext (length entry) _ _ entry (λ x v l. channel-scaled which w (unpack (get_or row x 0)))

  -- the m words of the older frame j that stand beside the row are lent from `start` on
  pub next : (j start m x : ℕ) → start ≡ j * n + at → x < m
      → mixed x j ⊕ channel which (unpack (get_or (take (start + m - start) (drop start past)) x 0)) ⊗ ws j ≡ mixed x (suc j)
  unfolding Text.Persistence.mix
  next j start m x e l =
      let place : start + x ≡ j * n + (at + x) = omega arith in
      ap (λ (q : ℕ). mixed x j ⊕ channel which (unpack q) ⊗ ws j) (lent-word start m past 0 x l ∙ ap (λ (i : ℕ). get_or past i 0) place)
      ∙ channel-add which (mix w ws past n (at + x) (get_or row x 0) j) (ws j) (get_or past (j * n + (at + x)) 0)

-- NTSC by rows. Assumes nothing.
use Rattle.std.proofs.Common.{◌≡◌, ℕ, ◌+◌, ◌-◌, ◌<◌, List, get_or, take, drop, ap, ◌∙◌}
use lib.Ieee.{Float}
use Rattle.passes.specs.Plain.Pixel.{unpack}
use Rattle.passes.specs.Plain.Ntsc.{chroma, pixel, sample}
use Rattle.passes.specs.Private.{blur_by, chroma_by}
use Rattle.passes.proofs.RowLoops.{Rowed, row_length, row_word}
use Rattle.passes.proofs.Offsets.{blur_same}

pub same_pixel : (s : Float) {a a' b b' : Float} (p : ℕ) → a ≡ a' → b ≡ b' → pixel s a b p ≡ pixel s a' b' p
same_pixel s p e f = cc

module _ {w h y k : ℕ} {f : ℕ → ℕ → ℕ → ℕ} {xs ys : List ℕ} (t : Rowed w h y k f xs ys) (l : y < h) where
  -- the row that is lent has the frame's own chroma
  pub chroma_across : (sums : ℕ → Float) (which bleed x : ℕ)
      → chroma_by sums which (take (k + w - k) (drop k ys)) bleed x ≡ blur_by sums (λ i. sample which xs w i y) w bleed x
  chroma_across sums which bleed x =
      let row = take (k + w - k) (drop k ys) in
      ap (λ (m : ℕ). blur_by sums (λ i. chroma which (unpack (get_or row i 0))) m bleed x) (row_length t l)
      ∙ blur_same sums (λ i. chroma which (unpack (get_or row i 0))) (λ i. sample which xs w i y) w bleed x
      (λ i q. ap (λ (p : ℕ). chroma which (unpack p)) (row_word t 0 i q))

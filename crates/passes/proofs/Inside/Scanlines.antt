-- Scanlines. With strength in 0..1 the factor 1 - strength is in 0..1, and a channel times it in 0..255. Assumes
-- nothing.
use Rattle.std.specs.Prelude.{◌≡◌, ℕ, zero, suc, ◌/◌, ◌%◌, T, List, length, Float}
use Rattle.std.proofs.Math.Path.{refl}
use Rattle.num.specs.Laws.Rewrite.{rewrite_ext}
use Rattle.num.specs.Ranges.{within}
use Rattle.passes.specs.Arith.{Arith, Agrees, plain}
use Rattle.passes.proofs.Inside.Shared.{dimmed}
use Rattle.passes.specs.Laws.Range.{lit⁺, one_less}
use Rattle.passes.specs.Scanlines.{in_row, scanlines}

module _ {A : Arith} (G : Agrees A) where
  pub scanlines-inside : (w : ℕ) (strength : Float) (frame : List ℕ) → T (within 1 strength)
      → scanlines A w (A.lit strength) frame ≡ scanlines plain w strength frame
  unfolding scanlines in_row
  scanlines-inside w strength frame s = rewrite_ext (length frame) _ _ frame (λ i p l. row (i / w % 2) p)
    where
      row : (n p : ℕ) → in_row A n (A.lit strength) p ≡ in_row plain n strength p
      row zero p = refl
      row (suc n) p = dimmed G (one_less (lit⁺ 1 strength s)) p

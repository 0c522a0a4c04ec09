-- Frames that the program takes are small, and one without fault is whole. Assumes nothing.
use Prim.Native.Nat.{ℕ, ◌+◌, ◌*◌, ◌≤◌}
use mathlib.Core.Path.{◌≡◌, refl}
use mathlib.Core.Bool.{Bool, true, false, ◌||◌, cond}
use mathlib.Core.List.{List}
use native.Mathlib.Nat.{mul-le-mul}
use native.Mathlib.Omega.{arith}
use borrow.Author.Tests.{ltb-false}
use lib.Dec.{eqb, ltb}
use lib.ListN.{length}
use Rattle.num.specs.Laws.Bools.{neither}
use Rattle.raster.specs.Pixels.{byte_at}
use Rattle.events.specs.Events.{head_wanted, width_in, height_in, count_in, outside, bad_size, frame_fault, Whole}

-- the length byte is wanted at least
pub some_wanted : (bytes : List ℕ) → 1 ≤ head_wanted bytes
unfolding head_wanted
some_wanted bytes = go (eqb (length bytes) 0)
  where
    go : (b : Bool) → 1 ≤ cond b 1 (1 + byte_at bytes 0)
    go true = omega arith
    go false = omega arith

inside : (side : ℕ) → outside side ≡ false → side ≤ 32
unfolding outside
inside side e = ltb-false 32 side (neither (eqb side 0) (ltb 32 side) e).1

pub small : (width height : ℕ) → (outside width || outside height) ≡ false → height * width ≤ 1024
small width height e =
    let n = neither (outside width) (outside height) e in
    mul-le-mul (inside height n.1) (inside width n.0)

pub whole : (bytes : List ℕ) → frame_fault bytes ≡ 0 → Whole bytes
unfolding frame_fault
whole bytes e = short (ltb (length bytes) 3) e
  where
    long : (b : Bool) → ltb (length bytes) (3 + 3 * count_in bytes) ≡ b → bad_size bytes ≡ false → ◌≡◌ {A = ℕ} (cond b 1 0) 0 → Whole bytes
    long true t s e = absurd (omega arith)
    long false t s e = record { long = ltb-false _ _ t; small = small (width_in bytes) (height_in bytes) s }

    bad : (b : Bool) → bad_size bytes ≡ b → ◌≡◌ {A = ℕ} (cond b 8 (cond (ltb (length bytes) (3 + 3 * count_in bytes)) 1 0)) 0 → Whole bytes
    bad true t e = absurd (omega arith)
    bad false t e = long (ltb (length bytes) (3 + 3 * count_in bytes)) refl t e

    short : (b : Bool) → ◌≡◌ {A = ℕ} (cond b 1 (cond (bad_size bytes) 8 (cond (ltb (length bytes) (3 + 3 * count_in bytes)) 1 0))) 0 → Whole bytes
    short true e = absurd (omega arith)
    short false e = bad (bad_size bytes) refl e

-- A loop over two slices up to the lesser length has made the step over both. Assumes nothing.
use mathlib.Core.Path.{◌≡◌, refl, sym, ap, ◌∙◌}
use mathlib.Core.List.{List}
use mathlib.Core.Bool.{Bool, true, false}
use borrow.Author.Tests.{ltb-true, ltb-false}
use Prim.Native.Nat.{ℕ, ◌≤◌, ◌<◌, min}
use native.Mathlib.Omega.{arith}
use lib.Dec.{ltb}
use lib.ListN.{length}
use lib.Ieee.{Float}
use Rattle.num.specs.Rewrite.{rewrite}
use Rattle.num.specs.Laws.Rewrite.{rewrite-past, Rewritten}
use Rattle.probe.specs.Over.{at, over}

module _ {A : Type 0} where
  -- a loop up to the lesser length is done
  pub over_all : (f : Float → A) (xs : List Float) {ys zs : List A} {i n : ℕ} → i ≤ n
      → n ≡ min (length xs) (length ys) → n ≤ i → Rewritten i (at f xs) ys zs
      → zs ≡ over f xs ys
  over_all f xs {ys} {zs} {i} {n} h m l t = t.done ∙ either (ltb (length ys) (length xs)) refl
    where
      either : (b : Bool) → ltb (length ys) (length xs) ≡ b → rewrite i (at f xs) ys ≡ over f xs ys
      either true e =
          let less : length ys < length xs = ltb-true (length ys) (length xs) e in
          let k : i ≡ length ys = omega arith in
          ap (λ (j : ℕ). rewrite j (at f xs) ys) k ∙ sym (rewrite-past (length xs) (at f xs) ys (omega arith))
      either false e =
          let less : length xs ≤ length ys = ltb-false (length ys) (length xs) e in
          let k : i ≡ length xs = omega arith in
          ap (λ (j : ℕ). rewrite j (at f xs) ys) k

-- `passes::blur::add_middle` meets its contract: each place's four samples are inside. Assumes nothing.
use Rattle.std.proofs.Common.{◌≡◌, ℕ, ◌+◌, ◌-◌, length, take, drop, refl, ap, ◌∙◌, arith}
use Rattle.num.specs.Laws.Sums.{sum_const}
use Rattle.passes.proofs.Counted.{all_inside}
use Rattle.passes.proofs.Offsets.{line-four}
use Rattle.passes.proofs.blur.add_middle.Goals as goal

pub returns : goal.returns
returns c = let a = c.args in
    let src = a.src.now in
    let m = length a.part.now in
    let from = a.start + a.k - a.radius in
    let front : (k j : ℕ) → k ≡ m → take k (drop j src) ≡ take m (drop j src) = λ k j e. ap (λ (n : ℕ). take n (drop j src)) e in
    let four = c.add_four.ensures in (
      four.0
          ∙ line-four src a.radius a.part.now a.start a.k from _ _ _ _ _ c.requires.2 c.requires.3 refl
          (front (from + m - from) from (omega arith)) (front (from + m + 1 - (from + 1)) (from + 1) (omega arith))
          (front (from + m + 2 - (from + 2)) (from + 2) (omega arith)) (front (from + m + 3 - (from + 3)) (from + 3) (omega arith)) c.requires.4,
      omega (arith, four.1, sum_const m 4 _ (λ i l. all_inside (length src) a.radius a.k 4 (a.start + i) (omega arith) (omega arith))),
    )

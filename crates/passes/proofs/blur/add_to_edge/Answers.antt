-- `passes::blur::add_to_edge` meets its contract: nothing is inside before the left edge; then the edge and the middle. Assumes nothing.
use Rattle.std.proofs.Common.{◌≡◌, ℕ, ◌+◌, ◌-◌, ◌<◌, ◌≤◌, List, ◌++◌, length, take, drop, sym, ap, ◌∙◌, zero-add, arith}
use lib.Ieee.{Float}
use Rattle.num.specs.F32.{◌⊗◌}
use Rattle.num.specs.Rewrite.{rewrite, every}
use Rattle.num.specs.Laws.Rewrite.{Rewritten}
use Rattle.num.specs.Sums.{sum}
use Rattle.passes.specs.Private.{at, onward, insides}
use Rattle.passes.proofs.Counted.{counted-on, left_none, line-few}
use Rattle.passes.proofs.Offsets.{fourfold_none}
use Rattle.num.specs.Laws.Rewrite.{further, further_long}
use Rattle.passes.proofs.blur.add_to_edge.Goals as goal

-- the middle ends where the last of the four offsets does
middle_in : (n radius k to less long : ℕ) → radius - k + (k + 3 - radius) < n → to ≡ radius - k → less ≡ k + 3 - radius → long ≡ n - less - to → to + long + k + 3 ≤ n + radius
middle_in n radius k to less long h et el l = omega arith

module _ (acc src : List Float) (radius k first to less : ℕ) (e : length acc ≡ length src) (some : radius - k + (k + 3 - radius) < length src)
    (ef : first ≡ radius - (k + 3)) (et : to ≡ radius - k) (el : less ≡ k + 3 - radius) (left : List Float) where
  abbrev four : ℕ → Float → Float
  four x = onward (λ i w. at src i ⊗ w) (length src) radius x k 4

  abbrev count : ℕ → ℕ
  count = insides (length src) radius k 4

  abbrev edged : List Float
  edged = take first acc ++ (left ++ drop (to - first) (drop first acc))

  none : Rewritten first four acc acc
  none = fourfold_none acc src radius k e first ef (omega arith)

  module _ (hl : left ≡ every (λ d. four (first + d)) (take (to - first) (drop first acc))) where
    begun : Rewritten to four acc edged
    begun = further to none (omega arith) left (omega arith) hl

    middle_long : length (take (length src - less - to) (drop to edged)) ≡ length src - less - to
    middle_long = further_long (length src - less) begun (omega arith)

    fits : to + length (take (length src - less - to) (drop to edged)) + k + 3 ≤ length src + radius
    fits = middle_in (length src) radius k to less _ some et el middle_long

    -- the edge counts `a`, the middle `b`
    done : (middle : List Float) {a b : ℕ} → middle ≡ every (λ d. four (to + d)) (take (length src - less - to) (drop to edged))
        → a ≡ sum (length (take (to - first) (drop first acc))) (λ d. count (first + d))
        → b ≡ sum (length (take (length src - less - to) (drop to edged))) (λ d. count (to + d))
        → (take to edged ++ (middle ++ drop (length src - less - to) (drop to edged)) ≡ rewrite (length src - (k + 3 - radius)) four acc)
        × (a + b ≡ sum (length src - (k + 3 - radius)) count)
    done middle {a} hm ha hb =
        let edge : a ≡ sum to count
        = sym (zero-add a) ∙ counted-on first to _ count (omega arith) (further_long to none (omega arith)) (left_none (length src) radius k first ef) ha in (
          (further (length src - less) begun (omega arith) middle (omega arith) hm).done ∙ ap (λ (x : ℕ). rewrite (length src - x) four acc) el,
          counted-on to (length src - less) _ count (omega arith) middle_long edge hb ∙ ap (λ (x : ℕ). sum (length src - x) count) el,
        )

-- no place counts more than four
pub overflow_add-result : goal.overflow_add-result
overflow_add-result c = let a = c.args in
    let n = length a.src.now in
    omega (arith, line-few n a.radius a.k (n - (a.k + 3 - a.radius)) (omega arith) ((let a = c.args in let edge = c.add_edge-edge in let middle = c.add_middle in done a.acc.now a.src.now a.radius a.k c.saturating_sub-first.result c.saturating_sub-to.result c.saturating_sub.result c.requires.0 c.requires.3 c.saturating_sub-first.ensures c.saturating_sub-to.ensures c.saturating_sub.ensures edge.new.part edge.ensures.0 middle.new.part middle.ensures.0 edge.ensures.1 middle.ensures.1)).1)

pub returns : goal.returns
returns c = let a = c.args in
    let edge = c.add_edge-edge in
    let middle = c.add_middle in
    done a.acc.now a.src.now a.radius a.k c.saturating_sub-first.result c.saturating_sub-to.result c.saturating_sub.result c.requires.0 c.requires.3 c.saturating_sub-first.ensures c.saturating_sub-to.ensures c.saturating_sub.ensures
    edge.new.part edge.ensures.0 middle.new.part middle.ensures.0 edge.ensures.1 middle.ensures.1

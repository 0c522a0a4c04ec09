-- `passes::blur::add_four_offsets` meets its contract: the right edge, and nothing is inside after it. Assumes nothing.
use Rattle.std.proofs.Common.{◌≡◌, ℕ, ◌+◌, ◌-◌, ◌<◌, ◌≤◌, List, ◌++◌, length, take, drop, sym, ap, ◌∙◌, arith}
use lib.Ieee.{Float}
use Rattle.num.specs.F32.{◌⊗◌}
use Rattle.num.specs.Rewrite.{rewrite, every}
use Rattle.num.specs.Laws.Rewrite.{Rewritten, length-rewrite}
use Rattle.num.specs.Sums.{sum}
use Rattle.passes.specs.Private.{at, onward, insides}
use Rattle.passes.proofs.Counted.{counted-on, right_none, line-few}
use Rattle.passes.proofs.Offsets.{fourfold_all}
use Rattle.num.specs.Laws.Rewrite.{further, further_long}
use Rattle.passes.proofs.blur.add_four_offsets.Goals as goal

-- the edge ends within the line
edge_in : (n less more long : ℕ) → less ≤ more → more ≤ n → long ≡ n - less - (n - more) → n - more + long ≤ n
edge_in n less more long h l e = omega arith

module _ (acc src : List Float) (radius k more less : ℕ) (e : length acc ≡ length src) (some : radius - k + (k + 3 - radius) < length src)
    (em : more ≡ k + 3 - radius) (el : less ≡ k - radius) (ys : List Float) where
  abbrev four : ℕ → Float → Float
  four x = onward (λ i w. at src i ⊗ w) (length src) radius x k 4

  abbrev count : ℕ → ℕ
  count = insides (length src) radius k 4

  module _ (h : ys ≡ rewrite (length src - (k + 3 - radius)) four acc) where
    most : Rewritten (length src - more) four acc ys
    most = record {
      within = omega arith;
      kept = ap length h ∙ length-rewrite (length src - (k + 3 - radius)) four acc;
      done = h ∙ ap (λ (x : ℕ). rewrite (length src - x) four acc) (sym em);
    }

    edge_long : length (take (length src - less - (length src - more)) (drop (length src - more) ys)) ≡ length src - less - (length src - more)
    edge_long = further_long (length src - less) most (omega arith)

    fits : length src - more + length (take (length src - less - (length src - more)) (drop (length src - more) ys)) ≤ length src
    fits = edge_in (length src) less more _ (omega arith) (omega arith) edge_long

    -- up to the edge `a` are counted, and at it `b`
    done : (right : List Float) {a b : ℕ}
        → right ≡ every (λ d. four (length src - more + d)) (take (length src - less - (length src - more)) (drop (length src - more) ys))
        → a ≡ sum (length src - (k + 3 - radius)) count
        → b ≡ sum (length (take (length src - less - (length src - more)) (drop (length src - more) ys))) (λ d. count (length src - more + d))
        → (take (length src - more) ys ++ (right ++ drop (length src - less - (length src - more)) (drop (length src - more) ys)) ≡ every four acc)
        × (a + b ≡ sum (length src) count)
    done right hr ha hb = (
      fourfold_all acc src radius k e (length src - less) (ap (λ (x : ℕ). length src - x) el) (further (length src - less) most (omega arith) right (omega arith) hr),
      counted-on (length src - more) (length src - less) _ count (omega arith) edge_long (ha ∙ ap (λ (x : ℕ). sum (length src - x) count) (sym em)) hb
          ∙ right_none (length src) radius k (length src - less) (ap (λ (x : ℕ). length src - x) el) (omega arith),
    )

-- no place counts more than four
pub overflow_add-result : goal.overflow_add-result
overflow_add-result c = let a = c.args in
    omega (arith, line-few (length a.src.now) a.radius a.k (length a.src.now) (omega arith) ((let a = c.args in let most = c.add_to_edge-before in let edge = c.add_edge in done a.acc.now a.src.now a.radius a.k c.saturating_sub.result c.saturating_sub-2.result c.requires.0 c.requires.3 c.saturating_sub.ensures c.saturating_sub-2.ensures most.new.acc most.ensures.0 edge.new.part edge.ensures.0 most.ensures.1 edge.ensures.1)).1)

pub returns : goal.returns
returns c = let a = c.args in
    let most = c.add_to_edge-before in
    let edge = c.add_edge in
    done a.acc.now a.src.now a.radius a.k c.saturating_sub.result c.saturating_sub-2.result c.requires.0 c.requires.3 c.saturating_sub.ensures c.saturating_sub-2.ensures
    most.new.acc most.ensures.0 edge.new.part edge.ensures.0 most.ensures.1 edge.ensures.1

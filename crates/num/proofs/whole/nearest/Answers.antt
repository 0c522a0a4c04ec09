-- `num::whole::nearest` meets its contract: the two calls' own. Assumes nothing.
use mathlib.Core.Path.{sym, ◌∙◌, subst}
use Prim.Native.Nat.{ℕ, ◌≤◌}
use lib.Dec.{lit≤}
use Rattle.num.specs.Steps.{round_of}
use Rattle.num.specs.Laws.Bounds.{cut-le}
use Rattle.num.proofs.NearWhole.{under_more}
use Rattle.num.proofs.whole.nearest.Goals as goal

pub half_up-requires : goal.half_up-requires
half_up-requires c = under_more 1024 8388608 c.below_1023_5.result (lit≤ tt) c.below_1023_5.ensures.0

pub returns : goal.returns
returns c = let is = c.half_up.ensures ∙ c.below_1023_5.ensures.1 in
    record { value = is; upper_bound = subst (λ (n : ℕ). n ≤ 1023) (sym is) (cut-le (round_of c.args.x)) }

-- `areas::block::running` meets its contract: column after column. Assumes nothing.
use Prim.Native.Nat.{ℕ, ◌+◌, ◌*◌}
use mathlib.Core.Path.{◌≡◌, subst}
use native.Mathlib.Omega.{arith}
use Rattle.areas.specs.Private.{Line, running_at}
use Rattle.areas.proofs.Blocks.{none_run, next_column}
use Rattle.areas.proofs.block.running.Goals as goal

pub loop-t-init : goal.loop-t-init
loop-t-init c = none_run _ _ c.args.sums.now (omega arith) c.requires.3

pub loop-t-preserved : goal.loop-t-preserved
loop-t-preserved c = next_column c.loop-t.invariant (omega arith) (omega arith) (omega arith)

pub returns : goal.returns
returns c = let last : c.loop-t.t ≡ c.args.to = omega arith in
    subst (λ (k : ℕ). Line 3075 (3 * c.args.from) (3 * k + 3) (running_at c.args.columns.now c.args.from) c.loop-t.sums) last c.loop-t.invariant.line

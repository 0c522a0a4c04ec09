-- `chain::samples::line` meets its contract: the formula's two cases. Assumes nothing.
use native.Mathlib.Nat.{mul-le-mul}
use native.Mathlib.Omega.{arith}
use Prim.Native.Nat.{◌+◌, ◌*◌, ◌≤◌}
use borrow.Author.Tests.{lt-ltb, le-ltb}
use Rattle.passes.specs.Samples.{samples}
use Rattle.chain.proofs.samples.line.Goals as goal
use Rattle.chain.proofs.samples.line.Lts as lts
use Rattle.chain.proofs.samples.line.Reads as reads

-- what the formula takes away it has
less : (c : lts.Then1 reads.Pre reads.Post) → let a = c.args in a.r * (a.r + 1) ≤ a.n * (2 * a.r + 1)
less c = mul-le-mul (omega arith) (omega arith)

wide : (c : lts.Then1 reads.Pre reads.Post) → let a = c.args in a.n * (2 * a.r + 1) ≤ 1024 * 129
wide c = let most : 2 * c.args.r + 1 ≤ 129 = omega arith in mul-le-mul c.requires.0 most

all : (c : lts.Else1 reads.Pre reads.Post) → let a = c.args in a.n * a.n ≤ 1024 * 1024
all c = mul-le-mul c.requires.0 c.requires.0

pub overflow_mul-result-then-r-n : goal.overflow_mul-result-then-r-n
overflow_mul-result-then-r-n c = omega (arith, wide c)

pub overflow_mul-result-then-r-n-2 : goal.overflow_mul-result-then-r-n-2
overflow_mul-result-then-r-n-2 c = omega (arith, less c, wide c)

-- what the formula takes away it has
pub overflow_sub-result : goal.overflow_sub-result
overflow_sub-result c = mul-le-mul (omega arith) (omega arith)

pub returns-then-r-n : goal.returns-then-r-n
unfolding samples
returns-then-r-n c = simp (lt-ltb _ _ c.if-r-n.true)

pub overflow_mul-result-2 : goal.overflow_mul-result-2
overflow_mul-result-2 c = omega (arith, all c)

pub returns : goal.returns
unfolding samples
returns c = simp (le-ltb _ _ c.if-r-n.false)

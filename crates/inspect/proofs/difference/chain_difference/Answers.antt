-- `inspect::difference::chain_difference` meets its contract: record by record, until one chain ends. Assumes nothing.
use Prim.Native.Nat.{ℕ}
use native.Mathlib.Omega.{arith}
use mathlib.Core.Path.{◌≡◌, ap, sym, ◌∙◌}
use lib.ListN.{length}
use Rattle.std.specs.Prelude.{Some}
use Rattle.inspect.specs.declared.difference.Difference.TheVariants.{Length}
use Rattle.inspect.proofs.Compared.{walked_none, walked_more, walked_found, walked_first, walked_second, walked_all}
use Rattle.inspect.proofs.difference.chain_difference.Goals as goal

pub loop-i-init : goal.loop-i-init
loop-i-init c = walked_none _ _

pub returns-then-b-i : goal.returns-then-b-i
returns-then-b-i c = sym (walked_first c.loop-i.invariant c.loop-i-test.true c.if-b-i.true)

pub returns-in-Some : goal.returns-in-Some
returns-in-Some c = sym (walked_found c.loop-i.invariant _ c.loop-i-test.true c.if-b-i.false (sym c.record_difference.ensures ∙ c.in-Some.is))

pub loop-i-preserved : goal.loop-i-preserved
loop-i-preserved c = walked_more c.loop-i.invariant c.loop-i-test.true c.if-b-i.false (sym c.record_difference.ensures ∙ c.in_default.is)

-- the loop has gone through the first chain
pub returns-then-a-b : goal.returns-then-a-b
returns-then-a-b c =
    let all : c.loop-i.i ≡ length c.args.a.now = omega (arith, c.loop-i-test.false, c.loop-i.auto.i-end) in
    ap (λ (n : ℕ). Some (Length n)) (sym all) ∙ sym (walked_second c.loop-i.invariant c.loop-i-test.false (omega (arith, all, c.if-a-b.true)))

pub returns-else-a-b : goal.returns-else-a-b
returns-else-a-b c =
    let all : c.loop-i.i ≡ length c.args.a.now = omega (arith, c.loop-i-test.false, c.loop-i.auto.i-end) in
    sym (walked_all c.loop-i.invariant c.loop-i-test.false (omega (arith, all, c.if-a-b.false)))

-- `inspect::decimal::scale` meets its contract: each turn makes one factor of the power. Assumes nothing.
use Prim.Native.Nat.{ℕ, ◌*◌, ◌^◌}
use mathlib.Core.Path.{◌≡◌, sym, ap, ◌∙◌}
use native.Mathlib.Nat.{add-zero, pow-zero, mul-one}
use native.Mathlib.Omega.{arith}
use Rattle.inspect.specs.Decimal.{number}
use Rattle.inspect.proofs.Digits.{kept}
use Rattle.inspect.proofs.Powers.{room, more}
use Rattle.inspect.proofs.decimal.scale.Goals as goal

pub loop-init : goal.loop-init
loop-init c = let n = number c.args.digits.now in
    (c.requires.0, sym (mul-one n) ∙ ap (λ (k : ℕ). n * k) (sym (pow-zero c.args.by)))

pub times-requires : goal.times-requires
times-requires c = (c.loop.invariant.0, c.requires.2, omega (arith, c.requires.1))

pub loop-preserved : goal.loop-preserved
loop-preserved c = let same = ap (λ (k : ℕ). k * c.args.by) c.loop.invariant.1 in
    let small = room _ c.args.by c.loop.counter c.args.again _ c.loop-test.true c.requires.1 c.requires.3 in
    let times = kept c.times.ensures (omega (arith, same, small)) in
    (c.times.ensures.digits, times ∙ add-zero _ ∙ same ∙ more _ _ _)

pub returns : goal.returns
returns c = let i = c.loop.invariant in
    let done : c.loop.counter ≡ c.args.again = omega (arith, c.loop-test.false, c.loop.auto.counter-end) in
    (i.0, i.1 ∙ ap (λ (k : ℕ). number c.args.digits.now * c.args.by ^ k) done)

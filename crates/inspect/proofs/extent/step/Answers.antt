-- `inspect::extent::step` meets its contract: a decimal digit, the `x`, or another byte. Assumes nothing.
use Prim.Native.Nat.{ℕ, ◌<◌}
use native.Mathlib.Omega.{arith}
use mathlib.Core.Bool.{false, cond}
use mathlib.Core.Path.{◌≡◌, ap, sym, subst, ◌∙◌}
use borrow.Author.Tests.{lt-ltb, eq-eqb, ne_eqb}
use lib.Dec.{eqb, ltb}
use Rattle.std.specs.Prelude.{Option, Some, None}
use Rattle.inspect.specs.Hexadecimal.{digit_of}
use Rattle.inspect.specs.Extent.{with_digit, crossed, step_of}
use Rattle.inspect.specs.declared.extent.Reading.{Reading}
use Rattle.inspect.proofs.Ranges.{figure, no_figure}
use Rattle.inspect.proofs.extent.step.Goals as goal

module _ (r : Reading) (b : ℕ) where
  by : ℕ → Option Reading
  by d = cond (ltb d 10) (Some (with_digit r d)) (cond (eqb b 120) (crossed r) None)

  of_digit : (d : ℕ) → digit_of b ≡ d → d < 10 → Some (with_digit r d) ≡ step_of r b
  unfolding step_of by
  of_digit d e l = subst (λ (n : ℕ). Some (with_digit r d) ≡ by n) (sym e) (rw (lt-ltb d 10 l))

  other : ltb (digit_of b) 10 ≡ false → step_of r b ≡ cond (eqb b 120) (crossed r) None
  unfolding step_of
  other e = rw e

pub returns-in-48-to-57 : goal.returns-in-48-to-57
returns-in-48-to-57 c = (ap Some c.with_digit.ensures.0 ∙ of_digit _ c.args.b _ (figure c.args.b (omega arith) (omega arith)) (omega arith), c.with_digit.ensures.1)

pub returns-in-120 : goal.returns-in-120
returns-in-120 c =
    (c.crossed.ensures.0 ∙ sym (other _ c.args.b (no_figure c.args.b (λ x y. omega (arith, c.in-120.is))) ∙ rw (eq-eqb c.args.b 120 c.in-120.is)), c.crossed.ensures.1)

pub returns-in_default : goal.returns-in_default
returns-in_default c = (sym (other _ c.args.b (no_figure c.args.b (λ x y. omega arith)) ∙ rw (ne_eqb c.args.b 120 (λ e. omega arith))), tt)

pub returns-in_default-2 : goal.returns-in_default-2
returns-in_default-2 c = (sym (other _ c.args.b (no_figure c.args.b (λ x y. omega arith)) ∙ rw (ne_eqb c.args.b 120 (λ e. omega arith))), tt)

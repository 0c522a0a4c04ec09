-- `inspect::hexadecimal::count` meets its contract: the bytes that are read are counted. Assumes nothing.
use native.Mathlib.Omega.{arith}
use mathlib.Core.List.{[], ◌∷◌}
use mathlib.Core.Path.{refl, ap, sym, ◌∙◌}
use lib.ListN.{length-append}
use Rattle.inspect.specs.Private.{count_of}
use Rattle.std.specs.Prelude.{Some}
use Rattle.inspect.proofs.Tokens.{read_none, read-space, read_pair, read-other, read_all}
use Rattle.inspect.proofs.hexadecimal.count.Goals as goal

pub loop-at-init : goal.loop-at-init
loop-at-init c = record { done = _; read = read_none _; many = refl; less = omega arith }

pub loop-at-preserved-in-Space : goal.loop-at-preserved-in-Space
loop-at-preserved-in-Space c = let i = c.loop-at.invariant in
    record {
      done = i.done;
      read = read-space i.read c.loop-at-test.true (ap Some (sym c.in-Space.is) ∙ sym c.in_ok-token_at.was ∙ c.token_at.ensures);
      many = i.many;
      less = omega (arith, i.less);
    }

pub overflow_add-n : goal.overflow_add-n
overflow_add-n c = omega (arith, c.loop-at.invariant.less)

pub loop-at-preserved : goal.loop-at-preserved
loop-at-preserved c = let i = c.loop-at.invariant in
    record {
      done = _;
      read = read_pair i.read c.loop-at-test.true _ (ap Some (sym c.in-Pair.is) ∙ sym c.in_ok-token_at.was ∙ c.token_at.ensures);
      many = omega (arith, i.many, length-append i.done (c.in-Pair.field-0 ∷ []));
      less = omega (arith, i.less);
    }

pub returns : goal.returns
returns c = let i = c.loop-at.invariant in
    sym (ap count_of (read_all i.read c.loop-at-test.false) ∙ ap Some i.many)

pub returns-in_err-token_at : goal.returns-in_err-token_at
returns-in_err-token_at c = c.from_residual.ensures ∙ sym (ap count_of (read-other c.loop-at.invariant.read c.loop-at-test.true (sym c.in_err-token_at.was ∙ c.token_at.ensures)))

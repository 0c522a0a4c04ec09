-- `chain::pipeline::reset` meets its contract: where persistence is found, all records are forgotten. Assumes nothing.
use Rattle.std.specs.Prelude.{◌≡◌}
use Rattle.std.proofs.Common.{Err, rules, refl}
use Rattle.num.specs.Laws.Refusals.{number-some, refuses, accepts}
use Rattle.chain.proofs.pipeline.reset.Goals as goal

pub returns-in_err-place : goal.returns-in_err-place
returns-in_err-place c =
    let s : c.from_residual.result ≡ Err c.in_err-place.field-0.0 = search rules in
    rw s (refuses _ _ _ c.in_err-place.ensures.refusal (number-some c.in_err-place.field-0.0))

pub slice_bounds-forget-end : goal.slice_bounds-forget-end
slice_bounds-forget-end c = c.in_ok-place.ensures.place.few

pub returns : goal.returns
returns c = rw c.forget.ensures (accepts _ _ _ c.in_ok-place.ensures.refusal refl)

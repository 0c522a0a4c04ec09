-- `chain::pipeline::ask` meets its contract: 13, 12, 17, else the switch is recorded. Assumes nothing.
use Rattle.std.specs.Prelude.{◌≡◌}
use Rattle.std.proofs.Common.{Err, rules}
use Rattle.num.specs.Laws.Refusals.{number-some}
use Rattle.chain.proofs.Replies.{ask_refused, ask_waits, asks}
use Rattle.chain.proofs.pipeline.ask.Goals as goal

pub returns-in_err-place : goal.returns-in_err-place
returns-in_err-place c =
    let s : c.from_residual.result ≡ Err c.in_err-place.field-0.0 = search rules in
    rw s (ask_refused _ _ _ _ c.in_err-place.ensures.refusal (number-some c.in_err-place.field-0.0))

pub returns-in-Switch : goal.returns-in-Switch
returns-in-Switch c = ask_waits _ _ _ c.in_ok-place.ensures.refusal c.in-Switch.is

pub returns : goal.returns
returns c = asks _ _ _ c.in_ok-place.ensures.refusal c.in_default.is

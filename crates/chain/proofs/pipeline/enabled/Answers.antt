-- `chain::pipeline::enabled` meets its contract: the record is found, and asked. Assumes nothing.
use Rattle.std.specs.Prelude.{◌≡◌}
use Rattle.std.proofs.Common.{Err, rules, sym, refl}
use Rattle.num.specs.Laws.Refusals.{number-some, refuses}
use Rattle.chain.specs.Calls.{switch_of}
use Rattle.chain.proofs.Replies.{tells}
use Rattle.chain.proofs.pipeline.enabled.Goals as goal

pub returns-in_err-at : goal.returns-in_err-at
returns-in_err-at c =
    let s : c.from_residual.result ≡ Err c.in_err-at.field-0.0 = search rules in
    rw s (refuses _ _ _ c.in_err-at.ensures.refusal (number-some c.in_err-at.field-0.0))

pub returns : goal.returns
returns c = let at = c.in_ok-at.ensures in tells c.args.kind c.args.station.now c.in_ok-at.at at.place (sym at.refusal) switch_of refl

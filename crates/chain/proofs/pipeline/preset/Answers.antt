-- `chain::pipeline::preset` meets its contract: the LUT is found, and asked. Assumes nothing.
use Rattle.std.specs.Prelude.{◌≡◌}
use Rattle.std.proofs.Common.{Err, rules, sym}
use Rattle.num.specs.Laws.Refusals.{number-some, refuses}
use Rattle.chain.specs.Calls.{preset_of}
use Rattle.chain.proofs.Replies.{tells}
use Rattle.chain.proofs.pipeline.preset.Goals as goal

pub returns-in_err-at : goal.returns-in_err-at
returns-in_err-at c =
    let s : c.from_residual.result ≡ Err c.in_err-at.field-0.0 = search rules in
    rw s (refuses _ _ _ c.in_err-at.ensures.refusal (number-some c.in_err-at.field-0.0))

pub returns : goal.returns
returns c =
    let at = c.in_ok-at.ensures in
    tells 5 c.args.station.now c.in_ok-at.at at.place (sym at.refusal) (λ r. preset_of r.pass) (sym c.preset_of.ensures)

-- `chain::pipeline::set_enabled` meets its contract: the record is found, and changed in its place. Assumes nothing.
use Rattle.std.specs.Prelude.{◌≡◌}
use Rattle.std.proofs.Common.{Err, rules, sym}
use Rattle.num.specs.Laws.Refusals.{number-some, refuses}
use Rattle.chain.proofs.Replies.{switches}
use Rattle.chain.proofs.pipeline.set_enabled.Goals as goal

pub returns-in_err-at : goal.returns-in_err-at
returns-in_err-at c =
    let s : c.from_residual.result ≡ Err c.in_err-at.field-0.0 = search rules in
    rw s (refuses _ _ _ c.in_err-at.ensures.refusal (number-some c.in_err-at.field-0.0))

pub returns : goal.returns
returns c = switches c.args.kind c.args.station.now c.in_ok-at.at c.in_ok-at.ensures.place (sym c.in_ok-at.ensures.refusal) c.args.on c.switched.ensures

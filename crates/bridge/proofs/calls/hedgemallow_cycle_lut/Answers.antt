-- `bridge::calls::hedgemallow_cycle_lut` meets its contract: no state, a new preset, or a refusal. Assumes nothing.
use Rattle.chain.specs.Answers.{cycled}
use Rattle.bridge.proofs.Replies.{read, unread, on_none, on-station, steps, no_step}
use Rattle.bridge.proofs.calls.hedgemallow_cycle_lut.Goals as goal

pub returns-in_default : goal.returns-in_default
returns-in_default c = on_none _ _ _ (unread _ c.decode.result c.decode.ensures _ c.in_default.is) c.refusal.ensures

pub returns-in-Ok-cycle_lut : goal.returns-in-Ok-cycle_lut
returns-in-Ok-cycle_lut c = on-station _ _ _ (cycled c.cycle_lut.result c.cycle_lut.new.station) _ (read _ c.decode.result c.decode.ensures _ c.in-Ok.is) c.cycle_lut.ensures
    (steps _ _ c.cycle_lut.result _ _ c.in-Ok-cycle_lut.is c.encode.ensures)

pub returns-in-Err : goal.returns-in-Err
returns-in-Err c = on-station _ _ _ (cycled c.cycle_lut.result c.cycle_lut.new.station) _ (read _ c.decode.result c.decode.ensures _ c.in-Ok.is) c.cycle_lut.ensures
    (no_step _ c.cycle_lut.result _ _ _ c.in-Err.is c.refusal-in-Err.ensures)

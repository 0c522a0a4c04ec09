-- `events::play::call` meets its contract: a call by its letter. Assumes nothing.
use native.Mathlib.Omega.{arith}
use Rattle.events.proofs.Cases.{frame_whole, switch_whole, on_frame, on_reset, on_switch, on_step}
use Rattle.events.proofs.play.call.Goals as goal

pub frame-requires-clause-whole : goal.frame-requires-clause-whole
frame-requires-clause-whole c = frame_whole _ c.in-70.is c.requires.fine

pub bounds-bytes-1 : goal.bounds-bytes-1
bounds-bytes-1 c = omega (arith, switch_whole c.args.bytes.now c.in-83.is c.requires.fine)

pub bounds-bytes-2 : goal.bounds-bytes-2
bounds-bytes-2 c = omega (arith, switch_whole c.args.bytes.now c.in-83.is c.requires.fine)

pub returns-in-70 : goal.returns-in-70
returns-in-70 c = on_frame _ _ _ _ _ _ _ _ _ _ _ _ _ _ c.in-70.is c.frame.ensures

pub returns-in-82 : goal.returns-in-82
returns-in-82 c = on_reset _ _ _ _ _ _ _ _ _ _ _ c.in-82.is c.reset.ensures c.answer_line.ensures

pub returns-in-83 : goal.returns-in-83
returns-in-83 c = on_switch _ _ _ _ _ _ _ _ _ _ _ c.in-83.is c.set_enabled.ensures c.answer_line-in-83.ensures

pub returns-in_default : goal.returns-in_default
returns-in_default c =
    on_step _ _ _ _ _ _ _ _ _ _ _ c.in_default.in_default-own.rest.0.0.1 c.in_default.in_default-own.rest.0.1 c.in_default.in_default-own.rest.1 c.cycle_lut.ensures c.step_line.ensures

-- `bridge::state::encode` meets its contract: the card is written into the zeros, or not at all. Assumes nothing.
use native.Mathlib.Omega.{arith}
use Rattle.bridge.proofs.Laid.{unwritten, laid-card, laid-down}
use Rattle.bridge.proofs.state.encode.Goals as goal

pub returns-in_default : goal.returns-in_default
returns-in_default c = unwritten _ c.write.result _ c.write.ensures.0 c.write.ensures.1 _ c.in_default.is

pub overflow_cast-state : goal.overflow_cast-state
overflow_cast-state c = record { fits = omega (arith, (laid-card _ c.write.result _ c.write.ensures.0 c.write.ensures.1 _ c.in-Ok.is).short) }

pub returns : goal.returns
returns c =
    laid-down _ _ _ (laid-card _ c.write.result _ c.write.ensures.0 c.write.ensures.1 _ c.in-Ok.is) c.put_sizes.ensures.twelve c.put_sizes.ensures.bytes c.kind_byte.ensures
    c.position_byte.ensures

-- `events::play::frame` meets its contract: the words past the frame's stay. Assumes nothing.
use native.Mathlib.Omega.{arith}
use lib.ListN.{length-drop}
use lib.Seq.{take_all}
use Rattle.events.proofs.Spoken.{in_front}
use Rattle.events.proofs.play.frame.Goals as goal

-- what is lent of the bytes is all that follows the head
pub returns : goal.returns
returns c = let bytes = c.args.bytes.now in
    in_front bytes c.args.station.now c.args.framebuffer.now c.args.history.now c.at-width.result c.at-height.result _ _ _ _ _ _ _ _ _ _ _
    c.at-width.ensures.0 c.at-height.ensures.0 (take_all _ _ (simp length-drop (omega arith))) c.show.ensures

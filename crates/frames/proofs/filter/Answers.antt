-- `frames::filter` meets its contract: of a frame that is taken, the picture stands in the file, and its words in the framebuffer. Assumes nothing.
use Rattle.frames.proofs.Parts.{shown_in, pixels}
use Rattle.frames.proofs.filter.Goals as goal

pub returns : goal.returns
returns c = shown_in _ _ _ _ _ _ _ _ _ _ _ _ _ _ _ _ _ _ c.in_ok-width.ensures (pixels _ _ c.in_ok-width.ensures) c.show.ensures

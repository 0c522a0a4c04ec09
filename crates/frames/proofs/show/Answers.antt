-- `frames::show` meets its contract: the words of the pixels, the call, which refuses no frame that `stops` let go by, the pixels of the words.
-- Assumes nothing.
use native.Mathlib.Omega.{arith}
use Rattle.frames.proofs.Parts.{shows, takes}
use Rattle.frames.proofs.show.Goals as goal

pub returns-in_err-counts : goal.returns-in_err-counts
returns-in_err-counts c = absurd (takes _ _ _ _ _ _ _ _ _ c.requires.words_room c.in_ok-stops.ensures c.unpack.ensures c.in_err-counts.ensures)

pub returns : goal.returns
returns c =
    shows _ _ _ _ _ _ _ _ _ c.requires.words_room c.in_ok-stops.ensures c.unpack.ensures c.in_ok-counts.ensures c.pack.ensures
    (omega (arith, c.apply.auto.framebuffer, c.unpack.auto.words, c.requires.words_room, c.requires.pixels_room))

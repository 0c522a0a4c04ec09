-- `sheet::picture::pixels` is safe: the buffer has three bytes for each of so many words. Assumes nothing.
use borrow.Author.Rules.{rules}
use mathlib.Core.Path.{sym}
use lib.Seq.{length-take-le}
use Rattle.sheet.proofs.picture.pixels.Goals as goal

pub slice_bounds-end-end : goal.slice_bounds-end-end
slice_bounds-end-end c = sym (length-take-le _ _ (search rules))

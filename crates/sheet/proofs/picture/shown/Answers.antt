-- `sheet::picture::shown` is safe: the framebuffer has so many words. Assumes nothing.
use borrow.Author.Rules.{rules}
use mathlib.Core.Path.{sym}
use native.Mathlib.Omega.{arith}
use lib.Seq.{length-take-le}
use Rattle.sheet.proofs.picture.shown.Goals as goal

pub slice_bounds-pixels-end : goal.slice_bounds-pixels-end
slice_bounds-pixels-end c = sym (length-take-le _ _ (search rules))

pub pixels-requires : goal.pixels-requires
pixels-requires c = omega (arith, length-take-le c.area-count.result c.args.words.now c.if-words-count.false)

-- `texts::print::Page::put` meets its contract: the text is copied. Assumes nothing.
use native.Mathlib.Omega.{arith}
use mathlib.Core.Path.{refl}
use Rattle.texts.proofs.Printing.{puts_copy}
use Rattle.texts.proofs.print.Page.put.Goals as goal

pub returns : goal.returns
returns c =
    let s = c.args.self.now in
    (puts_copy c.args.text.now s.out.now _ s.at _ c.requires (omega arith) c.copy_from_slice.ensures.after, refl)

-- `texts::print::print` meets its contract: two refusals, or the chain as text. Assumes nothing.
use borrow.Author.Rules.{rules}
use mathlib.Core.Path.{sym, ap, ◌∙◌}
use lib.Dec.{lit≤}
use Rattle.texts.specs.Print.{text_of}
use Rattle.texts.proofs.Printed.{unprinted, no_room, printed}
use Rattle.texts.proofs.Printing.{puts_as}
use Rattle.texts.proofs.print.print.Goals as goal

pub returns-then-not-is_good : goal.returns-then-not-is_good
returns-then-not-is_good c = unprinted _ _ (sym c.is_good.ensures ∙ c.if-not-is_good.true)

pub returns-then-out-lt8192 : goal.returns-then-out-lt8192
returns-then-out-lt8192 c = no_room _ _ (sym c.is_good.ensures ∙ c.if-not-is_good.false) c.if-out-lt8192.true

pub returns : goal.returns
returns c =
    let done = printed c.args.station.now _ _ _ _ (sym c.is_good.ensures ∙ c.if-not-is_good.false) c.if-out-lt8192.false (puts_as _ 8192 c.put_text.ensures.0 (ap text_of c.chain.ensures.chain) (lit≤ tt)) in
    search rules

-- `texts::print::Page::put_setting` meets its contract: a label and the value, or nothing. Assumes nothing.
use mathlib.Core.Path.{sym, ◌∙◌}
use Rattle.texts.proofs.Printed.{some_setting, no_setting}
use Rattle.texts.proofs.print.Page.put_setting.Goals as goal

pub returns-then-is_some : goal.returns-then-is_some
returns-then-is_some c = some_setting _ _ _ c.args.self.now c.put_label.new.self c.put_value.new.self (sym c.is_some.ensures ∙ c.if-is_some.true) c.put_label.ensures c.put_value.ensures

pub returns-else-is_some : goal.returns-else-is_some
returns-else-is_some c = no_setting _ _ _ c.args.self.now c.requires (sym c.is_some.ensures ∙ c.if-is_some.false)

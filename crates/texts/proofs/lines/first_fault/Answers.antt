-- `texts::lines::first_fault` meets its contract: setting after setting. Assumes nothing.
use mathlib.Core.Path.{sym, ◌∙◌}
use Rattle.texts.proofs.Lining.{unfaulted_none, unfaulted_more, is_fault, unfaulted_all}
use Rattle.texts.proofs.lines.first_fault.Goals as goal

pub loop-j-init : goal.loop-j-init
loop-j-init c = unfaulted_none _ _

pub returns-in-Err : goal.returns-in-Err
returns-in-Err c = is_fault c.loop-j.invariant _ _ _ c.loop-j-test.true (sym c.in-Err.is ∙ c.setting_in.ensures) c.word_of.ensures c.faulty.ensures

pub loop-j-preserved : goal.loop-j-preserved
loop-j-preserved c = unfaulted_more c.loop-j.invariant _ c.loop-j-test.true (sym c.in_default.is ∙ c.setting_in.ensures)

pub returns : goal.returns
returns c = unfaulted_all c.loop-j.invariant c.loop-j-test.false

-- `cards::check::held_by` meets its contract: a record that holds frames decides, any other leaves it to those after it. Assumes nothing.
use Rattle.std.proofs.Common.{arith, sym, ◌∙◌}
use Rattle.cards.specs.Normal.{held_by}
use Rattle.cards.specs.Laws.Scans.{scanned_none, scanned_next, scanned_more, scanned_all}
use Rattle.cards.proofs.check.held_by.Goals as goal

pub loop-r-init : goal.loop-r-init
loop-r-init c = scanned_none _ _

pub returns-then-not-is_idle : goal.returns-then-not-is_idle
unfolding held_by
returns-then-not-is_idle c = sym (scanned_next c.loop-r.invariant c.loop-r-test.true ∙ simp (sym c.is_idle.ensures ∙ c.if-not-is_idle.true))

pub loop-r-preserved : goal.loop-r-preserved
unfolding held_by
loop-r-preserved c = scanned_more c.loop-r.invariant c.loop-r-test.true (simp (sym c.is_idle.ensures ∙ c.if-not-is_idle.false))

pub returns : goal.returns
unfolding held_by
returns c = sym (scanned_all c.loop-r.invariant (omega arith))

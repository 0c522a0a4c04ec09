-- `events::play::play` meets its contract: no byte, a fault, or a call. Assumes nothing.
use mathlib.Core.Path.{sym, ◌∙◌}
use Rattle.events.proofs.Cases.{over, fault, good}
use Rattle.events.proofs.play.play.Goals as goal

pub returns-then-is_empty-clause-outcome : goal.returns-then-is_empty-clause-outcome
returns-then-is_empty-clause-outcome c = over _ _ _ _ _ _ _ (sym c.is_empty.ensures ∙ c.if-is_empty.true)

pub returns-in-Err-clause-outcome : goal.returns-in-Err-clause-outcome
returns-in-Err-clause-outcome c = fault _ _ _ _ _ _ c.in-Err.refusal _ _ _ (sym c.is_empty.ensures ∙ c.if-is_empty.false) c.in-Err.ensures c.refusal_line-length.ensures

pub returns-clause-outcome : goal.returns-clause-outcome
returns-clause-outcome c = rw (good _ _ _ _ (sym c.is_empty.ensures ∙ c.if-is_empty.false) (sym c.in_default.ensures)) c.call-length.ensures

-- `chain::pipeline::commit` meets its contract: the switch that is asked for is there, and `set_enabled` makes it. Assumes nothing.
use Rattle.std.proofs.Common.{sym, ◌∙◌}
use Rattle.chain.proofs.Replies.{bad_committed, none_committed, commits, commits_always}
use Rattle.chain.proofs.pipeline.commit.Goals as goal

pub returns-then-not-is_good : goal.returns-then-not-is_good
returns-then-not-is_good c = bad_committed _ (sym c.is_good.ensures ∙ c.if-not-is_good.true)

pub returns-in_default : goal.returns-in_default
returns-in_default c = none_committed _ (sym c.is_good.ensures ∙ c.if-not-is_good.false) c.in_default.is

pub returns-in_err-set_enabled : goal.returns-in_err-set_enabled
returns-in_err-set_enabled c = absurd (commits_always _ (sym c.is_good.ensures ∙ c.if-not-is_good.false) c.in-Switch.is c.in_err-set_enabled.ensures)

pub returns : goal.returns
returns c = commits _ (sym c.is_good.ensures ∙ c.if-not-is_good.false) c.in-Switch.is c.in_ok-set_enabled.ensures

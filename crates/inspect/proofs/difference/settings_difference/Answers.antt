-- `inspect::difference::settings_difference` meets its contract: place by place, and past the fourth there is none. Assumes nothing.
use native.Mathlib.Omega.{arith}
use mathlib.Core.Path.{◌≡◌, ap₂, sym, ◌∙◌}
use Rattle.inspect.specs.Settings.{setting_of}
use Rattle.inspect.specs.Private.{same_place}
use Rattle.inspect.proofs.Arms.{few}
use Rattle.inspect.proofs.Compared.{compared_none, compared_more, compared_found, compared_all}
use Rattle.inspect.proofs.difference.settings_difference.Goals as goal
use Rattle.inspect.proofs.difference.settings_difference.Lts as lts
use Rattle.inspect.proofs.difference.settings_difference.Reads as reads
use Rattle.inspect.proofs.difference.settings_difference.Tie as tie

-- the answer of `is_same` is that of the settings at the place
asked : (c : lts.After-is_same tie.the-claims reads.Pre reads.Post goal.the-invariant-loop-j goal.the-decreases-loop-j) → let a = c.args in
    same_place (setting_of a.p c.loop-j.j) (setting_of a.q c.loop-j.j) ≡ c.is_same.result
asked c = sym (c.is_same.ensures ∙ ap₂ same_place c.setting_at.ensures c.setting_at-in-loop-j.ensures)

pub loop-j-init : goal.loop-j-init
loop-j-init c = compared_none _ _ _

pub returns-then-not-is_same : goal.returns-then-not-is_same
returns-then-not-is_same c = sym (compared_found c.loop-j.invariant (asked c.before ∙ c.if-not-is_same.true))

pub loop-j-preserved : goal.loop-j-preserved
loop-j-preserved c = compared_more c.loop-j.invariant (asked c.before ∙ c.if-not-is_same.false)

pub returns : goal.returns
returns c = sym (compared_all c.loop-j.invariant (omega (arith, few c.args.p)) (omega (arith, few c.args.q)))

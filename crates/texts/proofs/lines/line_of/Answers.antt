-- `texts::lines::line_of` meets its contract: nothing, a pass, or that there is none. Assumes nothing.
use mathlib.Core.Path.{ap, ◌∙◌}
use Rattle.texts.specs.Lines.{kind_in}
use Rattle.texts.proofs.Lining.{blank, unknown, passed, many, bare}
use Rattle.texts.proofs.lines.line_of.Goals as goal

pub returns-then-ended : goal.returns-then-ended
returns-then-ended c = blank _ c.ended.ensures c.if-ended.true

pub returns-in_default : goal.returns-in_default
returns-in_default c = unknown _ c.ended.ensures c.if-ended.false (c.kind_in.ensures ∙ ap kind_in c.word.ensures) _ c.in_default.is c.faulty.ensures

pub returns-then-kind-ne0 : goal.returns-then-kind-ne0
returns-then-kind-ne0 c =
    passed _ c.ended.ensures c.if-ended.false (c.kind_in.ensures ∙ ap kind_in c.word.ensures) _ c.in-Some.is c.if-kind-ne0.true c.pass_line.ensures

pub returns-then-not-ended : goal.returns-then-not-ended
returns-then-not-ended c =
    many _ c.ended.ensures c.if-ended.false (c.kind_in.ensures ∙ ap kind_in c.word.ensures) _ c.in-Some.is c.if-kind-ne0.false c.ended-2.ensures _
    c.if-not-ended.true c.faulty-then-not-ended.ensures

pub returns : goal.returns
returns c =
    bare _ c.ended.ensures c.if-ended.false (c.kind_in.ensures ∙ ap kind_in c.word.ensures) _ c.in-Some.is c.if-kind-ne0.false c.ended-2.ensures
    c.if-not-ended.false

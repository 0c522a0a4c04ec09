-- `texts::lines::pass_line` meets its contract: its switch, its settings, its end. Assumes nothing.
use Prim.Native.Nat.{ℕ, ◌+◌, ◌*◌}
use mathlib.Core.Path.{ap, ◌∙◌}
use Rattle.texts.specs.Lines.{ended, faulty, switch_in}
use Rattle.texts.specs.declared.mistake.Mistake.TheVariants.{SpareWord}
use Rattle.texts.proofs.Lining.{no_switch, wrong_setting, too_many, is_pass}
use Rattle.texts.proofs.lines.pass_line.Goals as goal

pub returns-in_default : goal.returns-in_default
returns-in_default c = no_switch _ _ (c.switch_in.ensures ∙ ap switch_in c.word.ensures) _ c.in_default.is c.faulty.ensures

pub returns-in-Some-first_fault : goal.returns-in-Some-first_fault
returns-in-Some-first_fault c =
    wrong_setting _ _ (c.switch_in.ensures ∙ ap switch_in c.word.ensures) _ c.in-Some.is c.first_fault.ensures _ c.in-Some-first_fault.is

pub returns-then-not-ended : goal.returns-then-not-ended
returns-then-not-ended c =
    let spare = ap (λ (n : ℕ). 2 + 2 * n) c.arity.ensures.0 in
    too_many _ _ (c.switch_in.ensures ∙ ap switch_in c.word.ensures) _ c.in-Some.is c.first_fault.ensures c.in_default-first_fault.is
    (c.ended.ensures ∙ ap (ended c.args.line.now) spare) _ c.if-not-ended.true (c.faulty-then-not-ended.ensures ∙ ap (λ (n : ℕ). faulty SpareWord n c.args.kind 0) spare)

pub returns : goal.returns
returns c =
    let spare = ap (λ (n : ℕ). 2 + 2 * n) c.arity.ensures.0 in
    is_pass _ _ (c.switch_in.ensures ∙ ap switch_in c.word.ensures) _ c.in-Some.is c.first_fault.ensures c.in_default-first_fault.is
    (c.ended.ensures ∙ ap (ended c.args.line.now) spare) _ c.if-not-ended.false c.carded.ensures

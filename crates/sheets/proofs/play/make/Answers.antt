-- `sheets::play::make` meets its contract: each event is the call of its name. Assumes nothing.
use Rattle.std.proofs.Common.{rules, ◌≡◌, Ok, Err}
use mathlib.Core.Path.{refl, sym, ap, ◌∙◌}
use Rattle.std.specs.Result.{is_ok}
use Rattle.num.specs.Refusals.{code}
use Rattle.chain.specs.Machine.{call}
use Rattle.sheets.specs.Events.{reset, switch, step, ask, commit}
use Rattle.sheets.specs.Promises.{told}
use Rattle.sheets.proofs.Turning.{made, is_ok_of, code_of}
use Rattle.sheets.proofs.play.make.Goals as goal

pub returns-in-Reset : goal.returns-in-Reset
unfolding call
returns-in-Reset c =
    made (reset) _ _ _ _ _ _ _ c.reset.result _ _ (ap (told c.args.sheet.now) c.in-Reset.is) c.reset.ensures refl
    (is_ok_of _ c.reset.result)
    (code_of _ c.reset.result)

pub returns-in-Switch : goal.returns-in-Switch
unfolding call
returns-in-Switch c =
    made (switch _ _) _ _ _ _ _ _ _ c.set_enabled.result _ _ (ap (told c.args.sheet.now) c.in-Switch.is) c.set_enabled.ensures refl
    (is_ok_of _ c.set_enabled.result)
    (code_of _ c.set_enabled.result)

pub returns-in_err-cycle_lut-in-Step : goal.returns-in_err-cycle_lut-in-Step
unfolding call
returns-in_err-cycle_lut-in-Step c =
    let s : c.from_residual.result ≡ Err c.in_err-cycle_lut-in-Step.field-0.0 = search rules in
    rw s (made (step) _ _ _ _ _ _ _ (Err c.in_err-cycle_lut-in-Step.field-0.0) _ _ (ap (told c.args.sheet.now) c.in-Step.is) c.cycle_lut.ensures refl
    (ap is_ok (sym c.in_err-cycle_lut-in-Step.was) ∙ is_ok_of _ c.cycle_lut.result)
    (ap code (sym c.in_err-cycle_lut-in-Step.was) ∙ code_of _ c.cycle_lut.result))

pub returns-in_ok-cycle_lut-in-Step : goal.returns-in_ok-cycle_lut-in-Step
unfolding call
returns-in_ok-cycle_lut-in-Step c =
    made (step) _ _ _ _ _ _ _ (Ok tt) _ _ (ap (told c.args.sheet.now) c.in-Step.is) c.cycle_lut.ensures refl
    (ap is_ok (sym c.in_ok-cycle_lut-in-Step.was) ∙ is_ok_of _ c.cycle_lut.result)
    (ap code (sym c.in_ok-cycle_lut-in-Step.was) ∙ code_of _ c.cycle_lut.result)

pub returns-in-Ask : goal.returns-in-Ask
unfolding call
returns-in-Ask c =
    made (ask _ _) _ _ _ _ _ _ _ c.ask.result _ _ (ap (told c.args.sheet.now) c.in-Ask.is) c.ask.ensures refl
    (is_ok_of _ c.ask.result)
    (code_of _ c.ask.result)

pub returns-in-Commit : goal.returns-in-Commit
unfolding call
returns-in-Commit c =
    made (commit) _ _ _ _ _ _ _ c.commit.result _ _ (ap (told c.args.sheet.now) c.in-Commit.is) c.commit.ensures refl
    (is_ok_of _ c.commit.result)
    (code_of _ c.commit.result)

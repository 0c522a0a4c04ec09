-- `texts::settings::setting_in` meets its contract: its name, and its value. Assumes nothing.
use Prim.Native.Nat.{ℕ}
use mathlib.Core.List.{List}
use mathlib.Core.Path.{◌≡◌, sym, ap, ◌∙◌}
use borrow.Author.Rules.{rules}
use Rattle.std.specs.Prelude.{Err}
use Rattle.texts.specs.Names.{setting_name}
use Rattle.texts.specs.Settings.{value_of}
use Rattle.texts.specs.Words.{is}
use Rattle.texts.proofs.Valuing.{setting_none, setting_misnamed, setting_valued}
use Rattle.texts.proofs.settings.setting_in.Goals as goal

pub returns-in_default : goal.returns-in_default
returns-in_default c = setting_none _ _ _ c.slot_of.ensures c.in_default.is

pub returns-then-not-is_setting : goal.returns-then-not-is_setting
returns-then-not-is_setting c =
    let name = ap (λ (w : List ℕ). is w (setting_name c.args.kind c.args.j)) (sym c.word.ensures) ∙ sym c.is_setting.ensures in
    setting_misnamed _ _ _ c.slot_of.ensures _ c.in-Some.is (name ∙ c.if-not-is_setting.true)

pub returns-in_err-value : goal.returns-in_err-value
returns-in_err-value c =
    let name = ap (λ (w : List ℕ). is w (setting_name c.args.kind c.args.j)) (sym c.word.ensures) ∙ sym c.is_setting.ensures in
    let value = sym c.in_err-value.was ∙ c.value_of.ensures ∙ ap (value_of c.in-Some.slot) c.word-2.ensures in
    let answer : c.from_residual.result ≡ Err c.in_err-value.field-0.0 = search rules in
    answer ∙ setting_valued _ _ _ c.slot_of.ensures _ c.in-Some.is _ (name ∙ c.if-not-is_setting.false) value

pub returns : goal.returns
returns c =
    let name = ap (λ (w : List ℕ). is w (setting_name c.args.kind c.args.j)) (sym c.word.ensures) ∙ sym c.is_setting.ensures in
    let value = sym c.in_ok-value.was ∙ c.value_of.ensures ∙ ap (value_of c.in-Some.slot) c.word-2.ensures in
    setting_valued _ _ _ c.slot_of.ensures _ c.in-Some.is _ (name ∙ c.if-not-is_setting.false) value

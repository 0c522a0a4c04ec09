-- `sheets::event::switch` meets its contract: a kind and a position, made or asked for. Assumes nothing.
use Rattle.std.proofs.Common.{◌≡◌, ℕ, Bool, true, false, cond, List, Bor, None}
use mathlib.Core.Path.{sym, ap, ◌∙◌}
use native.Mathlib.Omega.{arith}
use lib.Dec.{eqb}
use Rattle.cards.specs.Bits.{field_at}
use Rattle.cards.specs.Step.{took}
use Rattle.sheets.specs.Events.{switch, ask}
use Rattle.sheets.specs.Promises.{is_taken}
use Rattle.sheets.proofs.Reading.{answer_took, answer_not, no_kind, no_position, whole_switch, next}
use Rattle.sheets.proofs.event.switch.Goals as goal

pub returns-in_err-kind-clause-value : goal.returns-in_err-kind-clause-value
returns-in_err-kind-clause-value c = let s : c.from_residual.result ≡ None = c.from_residual.ensures in
    rw s (no_kind _ _ _ (answer_not _ _ _ c.byte.ensures.value (sym c.ok.ensures.value ∙ c.in_err-kind.was)))

pub returns-in_err-on-clause-value : goal.returns-in_err-on-clause-value
returns-in_err-on-clause-value c = let s : c.from_residual-in_err-on.result ≡ None = c.from_residual-in_err-on.ensures in
    let kind = answer_took _ _ _ _ c.byte.ensures.value (sym c.ok.ensures.value ∙ c.in_ok-kind.was) in
    let same = ap (λ (b : Bor (List ℕ)). b.now) c.byte.ensures.place.0 in
    rw s (no_position _ _ _ kind (ap (λ (b : List ℕ). is_taken (field_at 1 b c.byte.new.self.at)) (sym same) ∙ answer_not _ _ _ c.byte-2.ensures.value (sym c.ok-2.ensures.value ∙ c.in_err-on.was)))

pub returns-then-ask-clause-value : goal.returns-then-ask-clause-value
returns-then-ask-clause-value c =
    let kind = answer_took _ _ _ _ c.byte.ensures.value (sym c.ok.ensures.value ∙ c.in_ok-kind.was) in
    let same = ap (λ (b : Bor (List ℕ)). b.now) c.byte.ensures.place.0 in
    let position = ap (λ (b : List ℕ). field_at 1 b c.byte.new.self.at) (sym same) ∙ answer_took _ _ _ _ c.byte-2.ensures.value (sym c.ok-2.ensures.value ∙ c.in_ok-on.was) in (
      whole_switch _ _ _ kind position ∙ ap (λ (b : Bool). took (cond b ask switch c.in_ok-kind.kind (eqb c.in_ok-on.field-0 1)) c.byte-2.new.self.at) c.if-ask.true,
      tt,
      omega (arith, next _ 4 _ kind, next _ 1 _ position),
    )

pub returns-else-ask-clause-value : goal.returns-else-ask-clause-value
returns-else-ask-clause-value c =
    let kind = answer_took _ _ _ _ c.byte.ensures.value (sym c.ok.ensures.value ∙ c.in_ok-kind.was) in
    let same = ap (λ (b : Bor (List ℕ)). b.now) c.byte.ensures.place.0 in
    let position = ap (λ (b : List ℕ). field_at 1 b c.byte.new.self.at) (sym same) ∙ answer_took _ _ _ _ c.byte-2.ensures.value (sym c.ok-2.ensures.value ∙ c.in_ok-on.was) in (
      whole_switch _ _ _ kind position ∙ ap (λ (b : Bool). took (cond b ask switch c.in_ok-kind.kind (eqb c.in_ok-on.field-0 1)) c.byte-2.new.self.at) c.if-ask.false,
      tt,
      omega (arith, next _ 4 _ kind, next _ 1 _ position),
    )

-- `sheets::event::frame` meets its contract: two sides, and as many words as they say. Assumes nothing.
use Rattle.std.proofs.Common.{◌≡◌, ℕ, List, Bor, None}
use mathlib.Core.Path.{sym, ap, ◌∙◌}
use native.Mathlib.Omega.{arith}
use lib.ListN.{length}
use Rattle.cards.specs.Bits.{field_at}
use Rattle.sheets.specs.Promises.{is_taken}
use Rattle.sheets.proofs.Reading.{answer_took, answer_not, no_width, no_height, no_words, whole_frame, count, behind}
use Rattle.sheets.proofs.event.frame.Goals as goal

pub returns-in_err-width-clause-value : goal.returns-in_err-width-clause-value
returns-in_err-width-clause-value c = let s : c.from_residual.result ≡ None = c.from_residual.ensures in
    rw s (no_width _ _ (answer_not _ _ _ c.field.ensures.value (sym c.ok.ensures.value ∙ c.in_err-width.was)))

pub returns-in_err-height-clause-value : goal.returns-in_err-height-clause-value
returns-in_err-height-clause-value c = let s : c.from_residual-in_err-height.result ≡ None = c.from_residual-in_err-height.ensures in
    let wide = answer_took _ _ _ _ c.field.ensures.value (sym c.ok.ensures.value ∙ c.in_ok-width.was) in
    let same = ap (λ (b : Bor (List ℕ)). b.now) c.field.ensures.place.0 in
    rw s (no_height _ _ wide (ap (λ (b : List ℕ). is_taken (field_at 11 b c.field.new.self.at)) (sym same) ∙ answer_not _ _ _ c.field-2.ensures.value (sym c.ok-2.ensures.value ∙ c.in_err-height.was)))

pub overflow_mul-end-2 : goal.overflow_mul-end-2
overflow_mul-end-2 c =
    let wide = answer_took _ _ _ _ c.field.ensures.value (sym c.ok.ensures.value ∙ c.in_ok-width.was) in
    let same = ap (λ (b : Bor (List ℕ)). b.now) c.field.ensures.place.0 in
    let high = ap (λ (b : List ℕ). field_at 11 b c.field.new.self.at) (sym same) ∙ answer_took _ _ _ _ c.field-2.ensures.value (sym c.ok-2.ensures.value ∙ c.in_ok-height.was) in
    omega (arith, count _ _ wide high, behind _ _ wide high, c.requires)

pub overflow_add-end : goal.overflow_add-end
overflow_add-end c =
    let wide = answer_took _ _ _ _ c.field.ensures.value (sym c.ok.ensures.value ∙ c.in_ok-width.was) in
    let same = ap (λ (b : Bor (List ℕ)). b.now) c.field.ensures.place.0 in
    let high = ap (λ (b : List ℕ). field_at 11 b c.field.new.self.at) (sym same) ∙ answer_took _ _ _ _ c.field-2.ensures.value (sym c.ok-2.ensures.value ∙ c.in_ok-height.was) in
    omega (arith, count _ _ wide high, behind _ _ wide high, c.requires)

pub overflow_add-end-2 : goal.overflow_add-end-2
overflow_add-end-2 c =
    let wide = answer_took _ _ _ _ c.field.ensures.value (sym c.ok.ensures.value ∙ c.in_ok-width.was) in
    let same = ap (λ (b : Bor (List ℕ)). b.now) c.field.ensures.place.0 in
    let high = ap (λ (b : List ℕ). field_at 11 b c.field.new.self.at) (sym same) ∙ answer_took _ _ _ _ c.field-2.ensures.value (sym c.ok-2.ensures.value ∙ c.in_ok-height.was) in
    omega (arith, count _ _ wide high, behind _ _ wide high, c.requires)

pub returns-then-sheet-end-clause-value : goal.returns-then-sheet-end-clause-value
returns-then-sheet-end-clause-value c =
    let wide = answer_took _ _ _ _ c.field.ensures.value (sym c.ok.ensures.value ∙ c.in_ok-width.was) in
    let same = ap (λ (b : Bor (List ℕ)). b.now) c.field.ensures.place.0 in
    let high = ap (λ (b : List ℕ). field_at 11 b c.field.new.self.at) (sym same) ∙ answer_took _ _ _ _ c.field-2.ensures.value (sym c.ok-2.ensures.value ∙ c.in_ok-height.was) in
    no_words _ _ wide high (omega (arith, c.if-sheet-end.true, ap length same, ap (λ (b : Bor (List ℕ)). length b.now) c.field-2.ensures.place.0))

pub returns-clause-value : goal.returns-clause-value
returns-clause-value c =
    let wide = answer_took _ _ _ _ c.field.ensures.value (sym c.ok.ensures.value ∙ c.in_ok-width.was) in
    let same = ap (λ (b : Bor (List ℕ)). b.now) c.field.ensures.place.0 in
    let high = ap (λ (b : List ℕ). field_at 11 b c.field.new.self.at) (sym same) ∙ answer_took _ _ _ _ c.field-2.ensures.value (sym c.ok-2.ensures.value ∙ c.in_ok-height.was) in (
      whole_frame _ _ wide high (omega (arith, c.if-sheet-end.false, ap length same, ap (λ (b : Bor (List ℕ)). length b.now) c.field-2.ensures.place.0)),
      (omega (arith, behind _ _ wide high), omega (arith, c.if-sheet-end.false, ap length same, ap (λ (b : Bor (List ℕ)). length b.now) c.field-2.ensures.place.0), omega (arith, behind _ _ wide high, c.requires)),
      omega (arith, count _ _ wide high, behind _ _ wide high),
    )

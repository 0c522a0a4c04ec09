-- `sheets::event::is_whole` meets its contract: after each event the rest of the sheet tells as much as all of it. Assumes nothing.
use Rattle.std.proofs.Common.{ℕ, ◌+◌, ◌-◌, Bor, List, not}
use mathlib.Core.Path.{sym, ap, ◌∙◌}
use native.Mathlib.Omega.{arith}
use Rattle.std.specs.Result.{result_ok}
use Rattle.sheets.specs.Events.{rest_at}
use Rattle.sheets.specs.Promises.{is_taken}
use Rattle.sheets.proofs.Events.{one_more, none_left, last_event, no_count, counted}
use Rattle.sheets.proofs.Reading.{answer_took, answer_not, small}
use Rattle.sheets.proofs.event.is_whole.Goals as goal

pub returns-in_default : goal.returns-in_default
returns-in_default c = sym (no_count _ (answer_not c.field.result _ _ c.field.ensures.value (ap result_ok c.in_default.is)))

pub loop-init : goal.loop-init
loop-init c = let count = answer_took c.field.result _ _ _ c.field.ensures.value (ap result_ok c.in-Ok.is) in
    let same = ap (λ (b : Bor (List ℕ)). b.now) c.field.ensures.place.0 in (
      small _ 16 0 count,
      c.field.ensures.place.1,
      ap is_taken (counted _ count ∙ ap (λ (b : List ℕ). rest_at c.in-Ok.n b c.field.new.self.at) (sym same) ∙ ap (λ (k : ℕ). rest_at k c.field.new.self.bytes.now c.field.new.self.at) (omega arith)),
    )

pub read-requires : goal.read-requires
read-requires c = omega (arith, c.loop.invariant.0, c.loop.invariant.1, c.loop-test.true)

pub returns-then-is_none : goal.returns-then-is_none
returns-then-is_none c =
    sym (
    c.loop.invariant.2 ∙ ap (λ (k : ℕ). is_taken (rest_at k c.loop.cursor.bytes.now c.loop.cursor.at)) (omega (arith, c.loop-test.true))
    ∙ none_left c.loop.cursor.bytes.now (c.in-Ok.n - (c.loop.counter + 1)) c.loop.cursor.at _ _ c.read.result (c.is_none.ensures ∙ ap not c.if-is_none.true) c.read.ensures.value
    )

pub loop-preserved : goal.loop-preserved
loop-preserved c =
    let more = one_more c.loop.cursor.bytes.now (c.in-Ok.n - (c.loop.counter + 1)) c.loop.cursor.at _ _ c.read.result (c.is_none.ensures ∙ ap not c.if-is_none.false) c.read.ensures.value in
    let same = ap (λ (b : Bor (List ℕ)). b.now) c.read.ensures.bytes in (
      c.loop.invariant.0,
      omega (arith, more.1, c.loop.invariant.1),
      c.loop.invariant.2 ∙ ap (λ (k : ℕ). is_taken (rest_at k c.loop.cursor.bytes.now c.loop.cursor.at)) (omega (arith, c.loop-test.true)) ∙ more.0
          ∙ ap (λ (b : List ℕ). is_taken (rest_at (c.in-Ok.n - (c.loop.counter + 1)) b c.read.new.sheet.at)) (sym same),
    )

pub is_at_end-requires : goal.is_at_end-requires
is_at_end-requires c = omega (arith, c.loop.invariant.0, c.loop.invariant.1, c.loop.auto.counter-end)

pub returns : goal.returns
returns c =
    c.is_at_end.ensures
    ∙ sym (
    c.loop.invariant.2 ∙ ap (λ (k : ℕ). is_taken (rest_at k c.loop.cursor.bytes.now c.loop.cursor.at)) (omega (arith, c.loop.auto.counter-end, c.loop-test.false))
    ∙ last_event c.loop.cursor.bytes.now c.loop.cursor.at
    )

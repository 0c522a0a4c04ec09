-- `cards::fields::Cursor::station` meets its contract: each exit cites a law of `Opening`; the loop's invariant is `Done`. Assumes nothing.
use Rattle.std.specs.Prelude.{◌≡◌, not}
use Rattle.std.proofs.Common.{rules, sym, ap, ◌∙◌}
use borrow.Author.Tests.{not-true, not-false}
use Rattle.num.specs.Refusals.{number_of}
use Rattle.cards.specs.Step.{Refusal, took, refused, stop, step, refuse_if}
use Rattle.cards.specs.declared.fields.Stop.{Stop}
use Rattle.cards.specs.declared.station.Station.{Station}
use Rattle.cards.proofs.Opening.{test_refused, test_passed, no_header, no_record, no_end, opens, done_none, done_refused, done_more, done_all, done_end}
use Rattle.cards.proofs.fields.Cursor.station.Goals as goal

-- the refusal as the definition has it
abbrev told : Stop → Refusal
told k = stop (number_of k.refusal) k.at

pub returns-in_err-n : goal.returns-in_err-n
returns-in_err-n c =
    let k = told c.in_err-n.field-0.0 in
    let s : step c.from_residual.result c.header.new.self.at ≡ refused k = search rules in
    s ∙ sym (no_header _ k (rw c.requires at (sym c.in_err-n.ensures.value)))

pub loop-i-init : goal.loop-i-init
loop-i-init c = (
  rw c.filler-records.ensures (done_none _ _ _ (rw c.requires at (sym c.in_ok-n.ensures.value)) c.header.ensures.place.1),
  c.header.ensures.place.0,
)

pub returns-in_err-records : goal.returns-in_err-records
returns-in_err-records c =
    let k = told c.in_err-records.field-0.0 in
    let s : step c.from_residual-in_err-records.result c.record.new.self.at ≡ refused k = search rules in
    s ∙ sym (no_record _ _ _ (rw c.requires at (sym c.in_ok-n.ensures.value)) _ (done_refused _ _ _ _ _ _ c.loop-i.invariant.0 c.loop-i-test.true _ (rw c.loop-i.invariant.1 at (sym c.in_err-records.ensures.value))))

pub loop-i-preserved : goal.loop-i-preserved
loop-i-preserved c = (
  done_more _ _ _ _ _ _ c.loop-i.invariant.0 c.loop-i-test.true _ _ (rw c.loop-i.invariant.1 at (sym c.in_ok-records.ensures.value)) c.record.ensures.place.1,
  c.record.ensures.place.0 ∙ c.loop-i.invariant.1,
)

pub returns-in_err-refuse_if : goal.returns-in_err-refuse_if
returns-in_err-refuse_if c =
    let k = told c.in_err-refuse_if.field-0.0 in
    let at = c.loop-i.self.at in
    let card = c.args.self.now.bytes.now in
    let s : step c.from_residual-in_err-refuse_if.result at ≡ refused k = search rules in
    let e : refused k ≡ refuse_if 7 at (not c.is_at_end.result) card at = rw c.in_err-refuse_if.was at (c.refuse_if.ensures card at) in
    let test = test_refused k 7 at _ card at e in
    let all = done_all _ _ _ _ _ (done_end _ _ _ _ _ _ c.loop-i.invariant.0 c.loop-i-test.false) in
    s ∙ ap refused test.1
    ∙ sym (no_end _ _ _ (rw c.requires at (sym c.in_ok-n.ensures.value)) _ _ all.0 (rw c.loop-i.invariant.1 at (sym c.is_at_end.ensures) ∙ not-true _ test.0))

pub returns : goal.returns
returns c =
    let at = c.loop-i.self.at in
    let card = c.args.self.now.bytes.now in
    let e : took tt at ≡ refuse_if 7 at (not c.is_at_end.result) card at = rw c.in_ok-refuse_if.was at (c.refuse_if.ensures card at) in
    let test = test_passed tt at 7 at _ card at e in
    let all = done_all _ _ _ _ _ (done_end _ _ _ _ _ _ c.loop-i.invariant.0 c.loop-i-test.false) in
    ap (λ (s : Station). took s at) (sym all.1)
    ∙ sym (opens _ _ _ (rw c.requires at (sym c.in_ok-n.ensures.value)) _ _ all.0 (rw c.loop-i.invariant.1 at (sym c.is_at_end.ensures) ∙ not-false _ test))

-- `sheets::play::play` meets its contract: the station and the whole sheet are looked at before the first event. Assumes nothing.
use Rattle.std.proofs.Common.{ℕ, List, Bor}
use mathlib.Core.Path.{sym, ap, ◌∙◌}
use Rattle.std.specs.Result.{result_ok}
use Rattle.chain.specs.Agree.{opened}
use Rattle.sheets.specs.Events.{rest_at}
use Rattle.sheets.specs.Play.{begun, played_of}
use Rattle.sheets.specs.Promises.{is_taken, lent_of}
use Rattle.sheets.proofs.Events.{count_read, counted}
use Rattle.sheets.proofs.Reading.{answer_took, small}
use Rattle.sheets.proofs.Playing.{bad_station, bad_sheet, good_sheet, same_outcome}
use Rattle.sheets.proofs.play.play.Goals as goal

pub returns-then-not-is_good : goal.returns-then-not-is_good
returns-then-not-is_good c = bad_station _ _ _ _ _ _ _ (sym c.is_good.ensures ∙ c.if-not-is_good.true)

pub returns-then-not-is_whole : goal.returns-then-not-is_whole
returns-then-not-is_whole c = bad_sheet _ _ _ _ _ _ _ (sym c.is_good.ensures ∙ c.if-not-is_good.false) (sym c.is_whole.ensures ∙ c.if-not-is_whole.true)

pub unwrap-n-requires : goal.unwrap-n-requires
unwrap-n-requires c = count_read _ c.field.result _ c.field.ensures.value (sym c.is_whole.ensures ∙ c.if-not-is_whole.false)

pub play_all-requires : goal.play_all-requires
play_all-requires c =
    let count = answer_took c.field.result _ _ _ c.field.ensures.value (ap result_ok c.unwrap-n.ensures) in
    let same = ap (λ (b : Bor (List ℕ)). b.now) c.field.ensures.place.0 in (
      small _ 16 0 count,
      c.field.ensures.place.1,
      ap (λ (b : List ℕ). is_taken (rest_at c.unwrap-n.result b c.field.new.self.at)) same ∙ sym (ap is_taken (counted _ count)) ∙ sym c.is_whole.ensures ∙ c.if-not-is_whole.false,
    )

pub returns : goal.returns
returns c =
    let count = answer_took c.field.result _ _ _ c.field.ensures.value (ap result_ok c.unwrap-n.ensures) in
    let same = ap (λ (b : Bor (List ℕ)). b.now) c.field.ensures.place.0 in
    let good = sym c.is_good.ensures ∙ c.if-not-is_good.false in
    let a = c.args in
    let lent = lent_of a.history.now a.floats.now a.ints.now a.curve.now in
    let told = good_sheet lent a.sheet.now a.station.now a.framebuffer.now a.history.now a.floats.now a.ints.now good c.unwrap-n.result c.field.new.self.at (counted _ count) in
    same_outcome
    (told ∙ ap (λ (b : List ℕ). played_of lent (rest_at c.unwrap-n.result b c.field.new.self.at) (begun (opened a.station.now a.history.now) a.framebuffer.now)) (sym same))
    c.play_all.ensures

-- `texts::numbers::digits_end` meets its contract. Assumes nothing.
use Rattle.std.proofs.Common.{rules, tests, ℕ, ◌-◌, not, length, take, drop, sym}
use Rattle.std.proofs.Math.Bool.{not-not}
use Rattle.std.proofs.lemmas.Iterator.{YieldsList-from_slice}
use Rattle.std.proofs.lemmas.Iterator.Search.{position_from_yields_List}
use Rattle.texts.specs.Numbers.{is_digit}
use Rattle.texts.proofs.Fronts.{ends_from}
use Rattle.texts.proofs.numbers.digits_end.Goals as goal

pub returns : goal.returns
returns c =
    let stops = λ (b : ℕ). not (is_digit b) in
    let first = position_from_yields_List stops _ _ c.position.result c.position.ensures.ran (YieldsList-from_slice (take (length c.args.word.now - c.args.from) (drop c.args.from c.args.word.now)) cc) (λ x b q k. search (rules, tests)) in
    ends_from is_digit stops (λ b. sym (not-not (is_digit b))) c.args.word.now c.args.from c.requires first c.unwrap_or.ensures

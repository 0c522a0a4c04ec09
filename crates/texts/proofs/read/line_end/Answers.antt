-- `texts::read::line_end` meets its contract. Assumes nothing.
use Rattle.std.proofs.Common.{rules, tests, ℕ, ◌-◌, length, take, drop, refl, eqb}
use Rattle.std.proofs.lemmas.Iterator.{YieldsList-from_slice}
use Rattle.std.proofs.lemmas.Iterator.Search.{position_from_yields_List}
use Rattle.texts.proofs.Reading.{in_line}
use Rattle.texts.proofs.Fronts.{ends_from}
use Rattle.texts.proofs.read.line_end.Goals as goal

pub returns : goal.returns
returns c =
    let stops = λ (b : ℕ). eqb b 10 in
    let first = position_from_yields_List stops _ _ c.position.result c.position.ensures.ran (YieldsList-from_slice (take (length c.args.text.now - c.args.at) (drop c.args.at c.args.text.now)) cc) (λ x b q k. search (rules, tests)) in
    ends_from in_line stops (λ b. refl) c.args.text.now c.args.at c.requires first c.unwrap_or.ensures

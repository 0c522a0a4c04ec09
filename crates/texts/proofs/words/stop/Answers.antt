-- `texts::words::stop` meets its contract. Assumes nothing.
use Rattle.std.proofs.Common.{rules, tests, ℕ, ◌-◌, length, take, drop, refl}
use Rattle.std.proofs.lemmas.Iterator.{YieldsList-from_slice}
use Rattle.std.proofs.lemmas.Iterator.Search.{position_from_yields_List}
use Rattle.texts.specs.Words.{is_blank, is_letter}
use Rattle.texts.proofs.Fronts.{ends_from}
use Rattle.texts.proofs.words.stop.Goals as goal

pub returns : goal.returns
returns c =
    let stops = λ (b : ℕ). is_blank b in
    let first = position_from_yields_List stops _ _ c.position.result c.position.ensures.ran (YieldsList-from_slice (take (length c.args.line.now - c.args.at) (drop c.args.at c.args.line.now)) cc) (λ x b q k. search (rules, tests)) in
    ends_from is_letter stops (λ b. refl) c.args.line.now c.args.at c.requires first c.unwrap_or.ensures

-- `texts::words::skip` meets its contract. Assumes nothing.
use Rattle.std.proofs.Common.{rules, tests, ℕ, ◌-◌, not, length, take, drop, sym}
use Rattle.std.proofs.Math.Bool.{not-not}
use Rattle.std.proofs.lemmas.Iterator.{YieldsList-from_slice}
use Rattle.std.proofs.lemmas.Iterator.Search.{position_from_yields_List}
use Rattle.texts.specs.Words.{is_blank}
use Rattle.texts.proofs.Fronts.{ends_from}
use Rattle.texts.proofs.words.skip.Goals as goal

pub returns : goal.returns
returns c =
    let stops = λ (b : ℕ). not (is_blank b) in
    let first = position_from_yields_List stops _ _ c.position.result c.position.ensures.ran (YieldsList-from_slice (take (length c.args.line.now - c.args.at) (drop c.args.at c.args.line.now)) cc) (λ x b q k. search (rules, tests)) in
    ends_from is_blank stops (λ b. sym (not-not (is_blank b))) c.args.line.now c.args.at c.requires first c.unwrap_or.ensures

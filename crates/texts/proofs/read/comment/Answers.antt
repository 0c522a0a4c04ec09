-- `texts::read::comment` meets its contract. Assumes nothing.
use Rattle.std.proofs.Common.{rules, tests, ℕ, refl, eqb}
use Rattle.std.proofs.lemmas.Iterator.{YieldsList-from_slice}
use Rattle.std.proofs.lemmas.Iterator.Search.{position_from_yields_List}
use Rattle.texts.specs.Read.{in_text}
use Rattle.texts.proofs.Fronts.{ends}
use Rattle.texts.proofs.read.comment.Goals as goal

pub returns : goal.returns
returns c =
    let stops = λ (b : ℕ). eqb b 35 in
    let first = position_from_yields_List stops _ _ c.position.result c.position.ensures.ran (YieldsList-from_slice c.args.line.now cc) (λ x b q k. search (rules, tests)) in
    ends in_text stops (λ b. refl) c.args.line.now first c.unwrap_or.ensures

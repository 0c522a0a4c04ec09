-- `texts::names::find_kind` meets its contract: name after name. Assumes nothing.
use Rattle.std.proofs.Common.{rules, tests, ℕ, refl}
use Rattle.std.proofs.lemmas.Iterator.{YieldsList-from_range}
use Rattle.std.proofs.lemmas.Iterator.Search.{find_from_yields_List}
use Rattle.texts.specs.Names.{kind_names, kind_name}
use Rattle.texts.specs.Words.{is}
use Rattle.texts.proofs.Naming.{looked}
use Rattle.texts.proofs.names.find_kind.Goals as goal

pub returns : goal.returns
returns c =
    let word = c.args.word.now in
    let first = find_from_yields_List (λ (k : ℕ). is word (kind_name k)) _ _ c.find.result c.find.ensures.ran (YieldsList-from_range 0 11 11 refl refl) (λ x b q k. search (rules, tests)) in
    looked kind_name word kind_names c.find.result (λ j l. refl) first

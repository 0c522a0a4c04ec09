-- `texts::names::find_preset` meets its contract: name after name. Assumes nothing.
use Rattle.std.proofs.Common.{rules, tests, ℕ, refl}
use Rattle.std.proofs.lemmas.Iterator.{YieldsList-from_range}
use Rattle.std.proofs.lemmas.Iterator.Search.{find_from_yields_List}
use Rattle.texts.specs.Names.{preset_names, preset_name}
use Rattle.texts.specs.Words.{is}
use Rattle.texts.proofs.Naming.{looked}
use Rattle.texts.proofs.names.find_preset.Goals as goal

pub returns : goal.returns
returns c =
    let word = c.args.word.now in
    let first = find_from_yields_List (λ (k : ℕ). is word (preset_name k)) _ _ c.find.result c.find.ensures.ran (YieldsList-from_range 0 7 7 refl refl) (λ x b q k. search (rules, tests)) in
    looked preset_name word preset_names c.find.result (λ j l. refl) first

-- `texts::settings::preset_of` meets its contract: a name, or else a number. Assumes nothing.
use mathlib.Core.Path.{ap, ◌∙◌}
use Rattle.texts.specs.Settings.{whole_of}
use Rattle.texts.proofs.Valuing.{preset-named, preset-numbered}
use Rattle.texts.proofs.settings.preset_of.Goals as goal

pub returns-in-Some : goal.returns-in-Some
returns-in-Some c = preset-named c.args.word.now c.find_preset.ensures _ c.in-Some.is

pub returns-in-None : goal.returns-in-None
returns-in-None c = preset-numbered c.args.word.now c.find_preset.ensures c.in-None.is _ (c.whole_of.ensures ∙ ap (whole_of 0 6) c.number_of.ensures)

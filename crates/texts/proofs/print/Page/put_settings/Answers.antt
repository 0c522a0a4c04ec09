-- `texts::print::Page::put_settings` meets its contract: place after place. Assumes nothing.
use Rattle.texts.specs.Print.{settings_text}
use Rattle.texts.proofs.Printing.{lays_then}
use Rattle.texts.proofs.print.Page.put_settings.Goals as goal

pub returns : goal.returns
unfolding settings_text
returns c = lays_then (lays_then (lays_then c.put_place.ensures c.put_place-2.ensures) c.put_place-3.ensures) c.put_place-4.ensures

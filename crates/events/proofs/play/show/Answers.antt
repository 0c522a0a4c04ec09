-- `events::play::show` meets its contract: the station's refusal, or the pixels, the call, the line. Assumes nothing.
use mathlib.Core.Path.{refl}
use Rattle.num.specs.Laws.Refusals.{number-some}
use Rattle.events.proofs.Spoken.{unshown, shows}
use Rattle.events.proofs.play.show.Goals as goal

pub returns-in-Err : goal.returns-in-Err
returns-in-Err c = let a = c.args in
    unshown a.width a.height a.station.now a.pixels.now a.words.now a.history.now a.floats.now a.ints.now a.out.now
    _ c.in-Err.ensures c.requires.words_room c.requires.floats_room c.requires.ints_room _ _ (number-some c.in-Err.refusal) c.refusal_line.ensures

pub returns : goal.returns
returns c = let a = c.args in
    shows a.width a.height a.station.now a.pixels.now a.words.now a.history.now a.floats.now a.ints.now a.out.now
    _ c.in_default.ensures c.requires.words_room c.requires.floats_room c.requires.ints_room _ _ c.apply-answer.result _ _ _ _ _ _ refl
    c.unpack.ensures c.apply-answer.ensures c.picture_line.ensures

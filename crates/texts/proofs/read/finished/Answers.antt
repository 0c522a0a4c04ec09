-- `texts::read::finished` meets its contract: each test went as the definition's. Assumes nothing.
use borrow.Author.Tests.{not-true, not-false}
use Rattle.texts.proofs.Reading.{has_pass, has_none, has_nothing}
use Rattle.texts.proofs.read.finished.Goals.{else-d-eq0-via-then-d-eq0+else-not-d, else-d-eq0-via-else-d-eq0}
use Rattle.texts.proofs.read.finished.Goals as goal

pub returns-then-not-d : goal.returns-then-not-d
returns-then-not-d c = has_nothing _ _ _ c.if-d-eq0.true (not-true _ c.if-not-d.true) c.faulty.ensures

pub returns : goal.returns
returns c =
    elim c.else-d-eq0.branch [
      | else-d-eq0-via-then-d-eq0+else-not-d w ↦ has_none _ _ (not-false _ w.if-not-d.false)
      | else-d-eq0-via-else-d-eq0 w ↦ has_pass _ _ w.if-d-eq0.false
    ]

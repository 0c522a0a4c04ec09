-- `texts::words::is` meets its contract. Assumes nothing.
use Rattle.texts.proofs.Spans.{is_by_letters}
use Rattle.texts.proofs.words.is.Goals as goal

pub returns : goal.returns
returns c = is_by_letters _ c.args.word.now c.args.name.now c.eq_ignore_ascii_case.ensures.test

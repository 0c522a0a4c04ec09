-- `texts::read::with_text` meets its contract: what stands before the comment is read. Assumes nothing.
use mathlib.Core.Path.{◌≡◌, ap, sym, ◌∙◌}
use borrow.Author.Rules.{rules}
use Rattle.std.specs.Prelude.{Err}
use Rattle.texts.specs.Read.{with_line}
use Rattle.texts.proofs.Reading.{before_comment}
use Rattle.texts.proofs.read.with_text.Goals as goal

pub returns-in_err-said : goal.returns-in_err-said
returns-in_err-said c =
    let d = c.args.d in
    let answer : c.from_residual.result ≡ Err c.in_err-said.field-0.0 = search rules in
    answer ∙ ap (with_line d) (sym c.in_err-said.was ∙ c.line_of.ensures) ∙ before_comment d _ _ c.comment.ensures.0

pub returns : goal.returns
returns c = let d = c.args.d in
    c.with_line.ensures ∙ ap (with_line d) (sym c.in_ok-said.was ∙ c.line_of.ensures) ∙ before_comment d _ _ c.comment.ensures.0

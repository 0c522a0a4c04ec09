-- `cards::fields::Cursor::is_at_end` meets its contract: the padding is one field. Assumes nothing.
use Rattle.std.proofs.Common.{sym, ◌∙◌}
use Rattle.cards.proofs.Padding.{padding, ends_by}
use Rattle.cards.proofs.fields.Cursor.is_at_end.Goals as goal

pub returns-then-self-bytes : goal.returns-then-self-bytes
returns-then-self-bytes c =
    let r = c.args.self.now in
    let all = padding r.bytes.now r.at c.if-self-bytes.true c.field.result _ c.field.ensures.value in
    rw all at c.eq.ensures ∙ sym (ends_by r.bytes.now r.at c.if-self-bytes.true)

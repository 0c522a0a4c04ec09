-- `cards::writer::write` meets its contract: 13, then 14, else the bytes of the laid bits. Assumes nothing.
use Rattle.std.specs.Prelude.{ℕ}
use Rattle.std.proofs.Common.{arith, ap, sym, ◌∙◌}
use Rattle.cards.specs.Written.{pack}
use Rattle.std.proofs.lemmas.List.{length-take-le}
use Rattle.cards.specs.Write.{write_reply, write_into}
use Rattle.cards.proofs.Writing.{bits_fit, bits_are, written_short, written_whole}
use Rattle.cards.proofs.writer.write.Goals as goal

pub returns-then-not-is_good : goal.returns-then-not-is_good
unfolding write_reply write_into
returns-then-not-is_good c = let bad = sym c.is_good.ensures ∙ c.if-not-is_good.true in
    (simp bad, simp bad)

pub overflow_add-bytes : goal.overflow_add-bytes
overflow_add-bytes c = omega (arith, bits_fit _ _ _ (sym c.is_good.ensures ∙ c.if-not-is_good.false) c.chain.ensures.chain c.chain-sheet.ensures)

pub returns-then-buf-bytes : goal.returns-then-buf-bytes
returns-then-buf-bytes c =
    written_short _ _ _ (sym c.is_good.ensures ∙ c.if-not-is_good.false) c.chain.ensures.chain c.chain-sheet.ensures _ c.if-buf-bytes.true

pub pack-requires : goal.pack-requires
pack-requires c =
    let ok = sym c.is_good.ensures ∙ c.if-not-is_good.false in (
      omega (arith, bits_fit _ _ _ ok c.chain.ensures.chain c.chain-sheet.ensures, length-take-le _ _ c.if-buf-bytes.false),
      bits_are _ _ _ ok c.chain.ensures.chain c.chain-sheet.ensures,
    )

pub returns : goal.returns
returns c =
    written_whole _ _ _ (sym c.is_good.ensures ∙ c.if-not-is_good.false) c.chain.ensures.chain c.chain-sheet.ensures _ c.if-buf-bytes.false _
    (c.pack.ensures ∙ ap (λ (n : ℕ). pack n c.chain-sheet.result.bits) (length-take-le _ _ c.if-buf-bytes.false))

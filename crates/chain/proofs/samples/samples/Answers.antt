-- `chain::samples::samples` meets its contract. Assumes nothing.
use Rattle.std.proofs.Common.{sym, ◌∙◌}
use Rattle.num.specs.Laws.Refusals.{side_fine}
use Rattle.chain.proofs.samples.samples.Goals as goal

pub of_chain-requires : goal.of_chain-requires
of_chain-requires c = (
  sym c.is_good.ensures ∙ c.if-not-is_good.false,
  (side_fine _ (sym c.bad_side.ensures ∙ c.if-bad_side.false)).1,
  (side_fine _ (sym c.bad_side-else-bad_side.ensures ∙ c.if-bad_side-2.false)).1,
)

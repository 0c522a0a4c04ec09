-- `passes::color_correction::by_share` meets its contract. Assumes nothing.
use Rattle.num.specs.Laws.Rewrite.{Rewritten}
use Rattle.passes.specs.Private.{mark_unit}
use Rattle.passes.specs.Plain.ColorCorrection.{colour, share}
use Rattle.passes.proofs.color_correction.by_share.Given as goal

abbrev pub invariant-loop-word : goal.invariant-loop-word
invariant-loop-word l = Rewritten l.word-index (λ _ p. mark_unit (colour share l.brightness l.contrast l.saturation p)) l.initial.frame l.frame

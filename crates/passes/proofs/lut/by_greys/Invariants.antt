-- `passes::lut::by_greys` meets its contract. Assumes nothing.
use Rattle.std.proofs.Common.{get_or}
use Rattle.num.specs.Laws.Rewrite.{Rewritten}
use Rattle.passes.specs.Private.{picked}
use Rattle.passes.proofs.lut.by_greys.Given as goal

abbrev pub invariant-loop-word : goal.invariant-loop-word
invariant-loop-word l = Rewritten l.word-index (λ _. picked (λ k. get_or l.reds k 0) (λ k. get_or l.greens k 0) (λ k. get_or l.blues k 0)) l.initial.frame l.frame

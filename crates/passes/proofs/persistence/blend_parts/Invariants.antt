-- `passes::persistence::blend_parts` meets its contract: part by part. Assumes nothing.
use Rattle.std.proofs.Common.{length, get_or}
use lib.Ieee.{nan}
use Rattle.num.specs.Laws.Rewrite.{Rewritten}
use Rattle.passes.specs.Private.{blended_word}
use Rattle.passes.proofs.persistence.blend_parts.Given as goal

abbrev pub invariant-loop-at : goal.invariant-loop-at
invariant-loop-at l = Rewritten l.at (blended_word l.w (λ j. get_or l.ws j nan) (length l.ws) l.history (length l.initial.frame)) l.initial.frame l.frame

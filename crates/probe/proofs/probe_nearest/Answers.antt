-- `probe::probe_nearest` meets its contract: word after word, up to the lesser length. Assumes nothing.
use native.Mathlib.Omega.{arith}
use Rattle.num.specs.Laws.Rewrite.{none, more}
use Rattle.num.specs.Steps.{cut_of, round_of}
use Rattle.probe.proofs.Over.{over_all}
use Rattle.probe.proofs.probe_nearest.Goals as goal

pub loop-i-init : goal.loop-i-init
loop-i-init c = (omega arith, none _ _)

pub loop-i-preserved : goal.loop-i-preserved
loop-i-preserved c = (omega arith, more c.loop-i.invariant.1 0 (omega arith) c.nearest.ensures.value)

pub returns : goal.returns
returns c = over_all (λ x. cut_of (round_of x)) c.args.xs.now c.loop-i.invariant.0 c.shorter-n.ensures (omega arith) c.loop-i.invariant.1

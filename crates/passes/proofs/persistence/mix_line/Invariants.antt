-- `passes::persistence::mix_line` meets its contract: at turn j each place has its channel of the mix with the j newest older frames. Assumes nothing.
use Rattle.std.proofs.Common.{length, get_or}
use lib.Ieee.{nan}
use Rattle.passes.proofs.Mixes.{mixed}
use Rattle.passes.proofs.Sums.{Summed}
use Rattle.passes.proofs.persistence.mix_line.Given as goal

abbrev pub invariant-loop-j : goal.invariant-loop-j
invariant-loop-j l = Summed (mixed l.w (λ k. get_or l.ws k nan) l.history l.part l.n l.at l.which) (length l.ws) l.j l.initial.acc l.acc

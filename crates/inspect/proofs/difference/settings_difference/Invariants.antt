-- `inspect::difference::settings_difference` meets its contract: place by place, and past the fourth there is none. Assumes nothing.
use Rattle.inspect.specs.Settings.{settings_of}
use Rattle.inspect.proofs.Compared.{Compared}
use Rattle.inspect.proofs.difference.settings_difference.Given as goal

abbrev pub invariant-loop-j : goal.invariant-loop-j
invariant-loop-j l = Compared l.i (settings_of l.p) (settings_of l.q) l.j

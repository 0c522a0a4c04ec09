-- `cards::check::is_chain` meets its contract: a record that is not normalised, or of a kind that may not come once more or below the last, decides;
-- any other leaves it to those after it. Assumes nothing.
use Rattle.std.specs.Prelude.{ℕ, Bool, List, take}
use Rattle.cards.specs.Normal.{normal_chain}
use Rattle.cards.specs.Records.{kinds}
use Rattle.cards.specs.declared.station.Record.{Record}
use Rattle.cards.specs.Laws.Scans.{Scanned}
use Rattle.cards.proofs.check.is_chain.Given as goal

-- the records from i on, after those before it
abbrev pub rule : List Record → ℕ → List Record → Bool
rule all i rs = normal_chain (kinds (take i all)) rs

abbrev pub invariant-loop-i : goal.invariant-loop-i
invariant-loop-i l = Scanned (rule l.records) l.records l.i

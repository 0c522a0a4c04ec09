-- `inspect::decimal::exact` meets its contract: its bits say whether x is finite, and how many units it has. Assumes nothing.
use borrow.Author.Rules.{rules}
use mathlib.Core.Path.{sym, subst}
use lib.Dec.{T}
use lib.Ieee.{binary32, fits}
use Rattle.inspect.proofs.Values.{valued, told-zero, told_units}
use Rattle.inspect.proofs.decimal.exact.Goals as goal
use Rattle.inspect.proofs.decimal.exact.Lts as lts
use Rattle.inspect.proofs.decimal.exact.Reads as reads
use Rattle.inspect.proofs.decimal.exact.Tie as tie

-- what owning an `f32` tells: the format holds it
held : (c : lts.Start tie.the-claims reads.Pre reads.Post tie.handed_clauses) → T (fits binary32 c.args.x)
held c = subst T (sym c.well_formed.0.1) tt

pub returns-then-b-ge2139095040 : goal.returns-then-b-ge2139095040
returns-then-b-ge2139095040 c =
    let h = held c.before.before.before.before in
    let e = told-zero _ h _ c.real_bits-bits.ensures c.if-b-ge2139095040.true c.spell.ensures.0 c.spell.ensures.1 in
    record { value = valued _ h _ _ e; point = e.0; digits = e.1 }

pub units-places-requires : goal.units-places-requires
units-places-requires c = (search rules, c.decode-m.ensures.0, c.decode-m.ensures.1)

pub returns : goal.returns
returns c =
    let h = held c.before.before.before.before.before in
    let e = told_units _ h _ c.real_bits-bits.ensures _ _ c.decode-m.ensures.2 c.units-places.ensures in
    record { value = valued _ h _ _ e; point = e.0; digits = e.1 }

-- `cards::station::last_kind` meets its contract. Assumes nothing.
use Prim.Native.Nat.{◌-◌}
use Rattle.std.proofs.Common.{arith, ap, sym, ◌∙◌, length}
use Rattle.cards.specs.Passes.{kind_of}
use Rattle.cards.specs.declared.station.Record.{Record}
use Rattle.cards.proofs.Listed.{last_at}
use Rattle.cards.proofs.station.last_kind.Goals as goal

pub returns-in-Some : goal.returns-in-Some
returns-in-Some c =
    let rs = c.args.records.now in
    c.kind.ensures ∙ ap (λ (r : Record). kind_of r.pass) c.in-Some.ensures.item.1 ∙ sym (last_at 0 rs (length rs - 1) c.in-Some.r.now (grind (arith, c.in-Some.ensures.item.0)))

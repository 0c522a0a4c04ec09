-- `probe::card::remember` meets its contract: past the twelfth place there is no record to change. Assumes nothing.
use native.Mathlib.Omega.{arith}
use mathlib.Core.List.{List}
use mathlib.Core.Path.{◌≡◌, ap, sym}
use borrow.Author.Rules.{rules}
use lib.ListN.{length}
use lib.Seq.{set_out}
use Rattle.cards.specs.Laws.Twelve.{unmapped}
use Rattle.cards.specs.declared.station.Record.{Record}
use Rattle.probe.proofs.card.remember.Goals as goal

pub returns-else-at-lt12 : goal.returns-else-at-lt12
returns-else-at-lt12 c =
    let s = c.args.station in
    let long : length s.records ≡ 12 = search (unmapped, rules) in
    ap (λ (rs : List Record). record { records = rs; n = s.n; pending = s.pending }) (sym (set_out s.records c.args.«at» _ (omega (arith, long, c.if-at-lt12.false))))

-- `cards::check::is_chain` meets its contract: a record that is not normalised, or of a kind that may not come once more or below the last, decides;
-- any other leaves it to those after it. Assumes nothing.
use Rattle.std.specs.Prelude.{ℕ, suc, ◌<◌, ◌≡◌, ◌&&◌, not, List, ◌∷◌, [], length, take, get_or, ltb}
use Rattle.std.proofs.Common.{arith, ap, sym, ◌∙◌}
use mathlib.Core.Path.{ap₂}
use borrow.Author.Tests.{lt-ltb, le-ltb}
use Rattle.std.proofs.lemmas.List.{map-append}
use lib.Seq.{take-suc}
use Rattle.cards.specs.Normal.{normal_pass, normal_chain}
use Rattle.cards.specs.Passes.{kind_of}
use Rattle.cards.specs.Records.{kinds, last_of, full}
use Rattle.cards.specs.declared.station.Record.{Record}
use Rattle.cards.specs.Laws.Scans.{past, scanned_none, scanned_next, scanned_more, scanned_all}
use Rattle.cards.proofs.check.is_chain.Invariants.{rule}
use Rattle.cards.proofs.check.is_chain.Goals as goal
use Rattle.cards.proofs.check.is_chain.Goals.{then-not-is_normal-via-then-not-is_normal, then-not-is_normal-via-else-not-is_normal+then-is_full}
use Rattle.cards.proofs.check.is_chain.Goals.{then-not-is_normal-via-else-not-is_normal+else-is_full+then-kind-last_kind}

-- one more record is looked at
step : (all rest : List Record) (i : ℕ) → i < length all → let r = get_or all i past in
    let k = kind_of r.pass in
    let seen = kinds (take i all) in
    rule all i (r ∷ rest) ≡ (normal_pass r.pass && not (full k seen) && not (ltb k (last_of 0 seen)) && rule all (suc i) rest)
unfolding normal_chain
step all rest i l =
    let r = get_or all i past in
    let k = kind_of r.pass in
    let seen = kinds (take i all) in
    ap (λ (ks : List ℕ). normal_pass r.pass && not (full k seen) && not (ltb k (last_of 0 seen)) && normal_chain ks rest)
    (sym (ap kinds (take-suc all i past l) ∙ map-append (λ (r : Record). kind_of r.pass) (take i all) (r ∷ [])))

pub loop-i-init : goal.loop-i-init
loop-i-init c = scanned_none _ _

pub returns-then-not-is_normal : goal.returns-then-not-is_normal
returns-then-not-is_normal c =
    let kind = sym c.kind-kind.ensures in
    let normal = sym c.is_normal.ensures in
    sym (scanned_next c.loop-i.invariant c.loop-i-test.true ∙ step c.args.records.now _ c.loop-i.i c.loop-i-test.true
    ∙ elim c.then-not-is_normal.branch [
      | then-not-is_normal-via-then-not-is_normal w ↦ simp (normal ∙ w.if-not-is_normal.true)
      | then-not-is_normal-via-else-not-is_normal+then-is_full w ↦ simp (
        normal ∙ w.if-not-is_normal.false,
        ap (λ (k : ℕ). full k (kinds (take c.loop-i.i c.args.records.now))) kind ∙ sym w.is_full.ensures ∙ w.if-is_full.true,
      )
      | then-not-is_normal-via-else-not-is_normal+else-is_full+then-kind-last_kind w ↦ simp (
        normal ∙ w.if-not-is_normal.false,
        ap (λ (k : ℕ). full k (kinds (take c.loop-i.i c.args.records.now))) kind ∙ sym w.is_full.ensures ∙ w.if-is_full.false,
        ap₂ ltb kind (sym w.last_kind.ensures) ∙ lt-ltb _ _ w.if-kind-last_kind.true,
      )
    ])

pub loop-i-preserved : goal.loop-i-preserved
loop-i-preserved c =
    let kind = sym c.kind-kind.ensures in
    scanned_more c.loop-i.invariant c.loop-i-test.true
    (step c.args.records.now _ c.loop-i.i c.loop-i-test.true
    ∙ simp (
      sym c.is_normal.ensures ∙ c.if-not-is_normal.false,
      ap (λ (k : ℕ). full k (kinds (take c.loop-i.i c.args.records.now))) kind ∙ sym c.is_full.ensures ∙ c.if-is_full.false,
      ap₂ ltb kind (sym c.last_kind.ensures) ∙ le-ltb _ _ c.if-kind-last_kind.false,
    ))

pub returns : goal.returns
unfolding normal_chain
returns c = sym (scanned_all c.loop-i.invariant (omega arith))

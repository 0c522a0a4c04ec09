-- `chain::samples::of_chain` meets its contract: none at first, one record's more with each turn, and all in the end. Assumes nothing.
use Rattle.std.specs.Prelude.{ℕ, ◌≡◌, ◌<◌, true, List, [], length, get_or}
use Rattle.std.proofs.Common.{arith, ap, ◌∙◌}
use Rattle.cards.specs.Alike.{chain_of}
use Rattle.cards.specs.Laws.Good.{good}
use Rattle.cards.specs.Laws.Scans.{past}
use Rattle.cards.specs.Normal.{normal_pass, good_station}
use Rattle.cards.specs.declared.station.Record.{Record}
use Rattle.cards.specs.declared.station.Station.{Station}
use Rattle.chain.specs.Chain.{samples_in}
use Rattle.chain.proofs.Depths.{normal_at}
use Rattle.chain.proofs.Taken.{summed_none, summed_fits, summed_more, summed_all}
use Rattle.chain.proofs.samples.of_chain.Goals as goal

-- each record of a good station's chain is normalised
normal : (s : Station) (rs : List Record) → good_station s ≡ true → rs ≡ chain_of s → (i : ℕ) → i < length rs → normal_pass (get_or rs i past).pass ≡ true
normal s rs g e i l = rw e (normal_at [] (chain_of s) (good s g).normal i past (rw e at l))

pub loop-rec-init : goal.loop-rec-init
loop-rec-init c = summed_none _ _ _

pub of_record-sum-requires : goal.of_record-sum-requires
of_record-sum-requires c = (normal _ _ c.requires.0 c.chain-records.ensures.chain _ c.loop-rec-test.true, c.requires.1, c.requires.2)

pub overflow_add-sum : goal.overflow_add-sum
overflow_add-sum c =
    let each = normal _ _ c.requires.0 c.chain-records.ensures.chain _ c.loop-rec-test.true in
    omega (arith, summed_fits c.loop-rec.invariant past c.of_record-sum.ensures each c.requires.1 c.requires.2 c.loop-rec-test.true c.chain-records.ensures.few.0)

pub loop-rec-preserved : goal.loop-rec-preserved
loop-rec-preserved c =
    let each = normal _ _ c.requires.0 c.chain-records.ensures.chain _ c.loop-rec-test.true in
    summed_more c.loop-rec.invariant past c.of_record-sum.ensures each c.requires.1 c.requires.2 c.loop-rec-test.true c.chain-records.ensures.few.0

pub returns : goal.returns
returns c =
    let inv = c.loop-rec.invariant in (
      summed_all inv c.loop-rec-test.false ∙ ap (samples_in c.args.width c.args.height) c.chain-records.ensures.chain,
      omega (arith, inv.near, inv.few, c.chain-records.ensures.few.0),
    )

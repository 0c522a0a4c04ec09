-- `chain::run::run_record` meets its contract: nothing is done where the record is off; persistence by its own promise, any other pass by `paint`'s. Assumes nothing.
use Rattle.std.proofs.Common.{arith, refl}
use Rattle.passes.specs.Laws.Rows.{frame_small}
use Rattle.chain.proofs.Lending.{turn_on, turn_off, samples-on, samples_off, depth-fine, depth_room, ready_without, persisted, washed, samples-by}
use Rattle.chain.proofs.run.run_record.Goals as goal

pub returns-then-not-rec-clause-run : goal.returns-then-not-rec-clause-run
returns-then-not-rec-clause-run c = rw (c.clipped.ensures.0, c.clipped.ensures.1) (search (turn_off, samples_off))

pub paint-requires-clause-ready : goal.paint-requires-clause-ready
paint-requires-clause-ready c = search ready_without

pub returns-in_default : goal.returns-in_default
returns-in_default c = record { run = search (turn_on, washed, samples-on); rest = refl }

pub apply-kept-requires : goal.apply-kept-requires
apply-kept-requires c = search (depth-fine, depth_room, frame_small, arith)

pub returns-clause-run : goal.returns-clause-run
returns-clause-run c = rw (c.clipped-2.ensures.0, c.clipped-2.ensures.1) (search (turn_on, persisted, samples-on, samples-by))

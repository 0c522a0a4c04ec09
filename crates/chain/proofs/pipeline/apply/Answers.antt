-- `chain::pipeline::apply` meets its contract. A refused frame touches nothing. Past the refusals the buffers are long enough, so that the chain runs on
-- the first words of each, its promise is the reply, and the words behind them stay. Assumes nothing.
use Rattle.std.specs.Prelude.{◌≡◌}
use Rattle.std.proofs.Common.{Err, rules, arith, sym, refl}
use Rattle.std.proofs.lemmas.List.{length-take-le}
use Rattle.num.specs.Laws.Refusals.{number-some, area-fine}
use Rattle.chain.proofs.Goes.{goes, lends, chain_long, stays, refused_frame, shown_frame}
use Rattle.chain.proofs.pipeline.apply.Goals as goal

pub returns-in_err-stops : goal.returns-in_err-stops
returns-in_err-stops c =
    let s : c.from_residual.result ≡ Err c.in_err-stops.field-0.0 = search rules in
    rw s (record { replies = refused_frame _ _ _ _ _ _ _ _ _ c.in_err-stops.ensures (number-some c.in_err-stops.field-0.0); floats_stay = refl; ints_stay = refl })

pub overflow_mul-count : goal.overflow_mul-count
overflow_mul-count c = let g = goes _ _ _ _ _ _ _ _ (sym c.in_ok-stops.ensures) in omega (arith, area-fine g.wide.1 g.high.1)

pub overflow_mul-room : goal.overflow_mul-room
overflow_mul-room c = let g = goes _ _ _ _ _ _ _ _ (sym c.in_ok-stops.ensures) in omega (arith, area-fine g.wide.1 g.high.1)

pub overflow_mul-room-2 : goal.overflow_mul-room-2
overflow_mul-room-2 c = let g = goes _ _ _ _ _ _ _ _ (sym c.in_ok-stops.ensures) in omega (arith, g.wide.1)

pub overflow_add-room : goal.overflow_add-room
overflow_add-room c = let g = goes _ _ _ _ _ _ _ _ (sym c.in_ok-stops.ensures) in omega (arith, area-fine g.wide.1 g.high.1, g.wide.1)

pub overflow_cast-size : goal.overflow_cast-size
overflow_cast-size c = let g = goes _ _ _ _ _ _ _ _ (sym c.in_ok-stops.ensures) in omega (arith, g.wide.1)

pub overflow_cast-size-2 : goal.overflow_cast-size-2
overflow_cast-size-2 c = let g = goes _ _ _ _ _ _ _ _ (sym c.in_ok-stops.ensures) in omega (arith, g.high.1)

pub slice_bounds-run_chain-end-3 : goal.slice_bounds-run_chain-end-3
slice_bounds-run_chain-end-3 c = (goes _ _ _ _ _ _ _ _ (sym c.in_ok-stops.ensures)).frame_room

pub slice_bounds-run_chain-end-4 : goal.slice_bounds-run_chain-end-4
slice_bounds-run_chain-end-4 c = sym (length-take-le _ _ (goes _ _ _ _ _ _ _ _ (sym c.in_ok-stops.ensures)).frame_room)

pub slice_bounds-run_chain-end-5 : goal.slice_bounds-run_chain-end-5
slice_bounds-run_chain-end-5 c = (goes _ _ _ _ _ _ _ _ (sym c.in_ok-stops.ensures)).floats_room

pub slice_bounds-run_chain-end-6 : goal.slice_bounds-run_chain-end-6
slice_bounds-run_chain-end-6 c = sym (length-take-le _ _ (goes _ _ _ _ _ _ _ _ (sym c.in_ok-stops.ensures)).floats_room)

pub slice_bounds-run_chain-end-7 : goal.slice_bounds-run_chain-end-7
slice_bounds-run_chain-end-7 c = (goes _ _ _ _ _ _ _ _ (sym c.in_ok-stops.ensures)).ints_room

pub slice_bounds-run_chain-end-8 : goal.slice_bounds-run_chain-end-8
slice_bounds-run_chain-end-8 c = sym (length-take-le _ _ (goes _ _ _ _ _ _ _ _ (sym c.in_ok-stops.ensures)).ints_room)

pub run_chain-requires-clause-lent : goal.run_chain-requires-clause-lent
run_chain-requires-clause-lent c = let a = c.args in
    (lends a.station.now a.width a.height a.framebuffer.now a.history.now a.floats.now a.ints.now a.curve.now (goes _ _ _ _ _ _ _ _ (sym c.in_ok-stops.ensures))).0

pub run_chain-requires-clause-ready : goal.run_chain-requires-clause-ready
run_chain-requires-clause-ready c = let a = c.args in
    let g = goes _ _ _ _ _ _ _ _ (sym c.in_ok-stops.ensures) in
    rw (chain_long a.station.now _ g.good c.chain-n.ensures.few.1 c.chain-n.ensures.chain)
    (lends a.station.now a.width a.height a.framebuffer.now a.history.now a.floats.now a.ints.now a.curve.now g).1

pub returns : goal.returns
returns c = let a = c.args in
    let g = goes _ _ _ _ _ _ _ _ (sym c.in_ok-stops.ensures) in
    let n = chain_long a.station.now _ g.good c.chain-n.ensures.few.1 c.chain-n.ensures.chain in
    let left = c.run_chain.new in
    let kept = c.run_chain.auto in
    record {
      replies = rw n
          (shown_frame 0 a.width a.height a.station.now a.framebuffer.now a.history.now _ _ a.curve.now c.in_ok-stops.ensures refl
          (rw n at c.run_chain.ensures.0) (rw n at c.run_chain.ensures.1));
      floats_stay = stays _ left.floats a.floats.now g.floats_room kept.floats;
      ints_stay = stays _ left.ints a.ints.now g.ints_room kept.ints;
    }

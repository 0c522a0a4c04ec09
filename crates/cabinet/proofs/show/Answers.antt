-- `cabinet::show` meets its contract: the source's refusal, the station's, or the enlarged frame under the chain. Assumes nothing.
use Rattle.std.proofs.Common.{rules, ◌≡◌, ◌*◌, ◌≤◌, Err}
use mathlib.Core.Path.{sym}
use native.Mathlib.Nat.{mul-le-mul}
use native.Mathlib.Omega.{arith}
use lib.Seq.{length-take-le}
use Rattle.chain.proofs.Goes.{goes}
use Rattle.cabinet.proofs.Sources.{fine}
use Rattle.cabinet.proofs.Shown.{bad_source_lem, refused, shown, written}
use Rattle.cabinet.proofs.show.Goals as goal

pub returns-in_err-source_stops : goal.returns-in_err-source_stops
returns-in_err-source_stops c =
    let s : c.from_residual.result ≡ Err c.in_err-source_stops.field-0.0 = search rules in
    rw s (bad_source_lem _ _ _ _ _ _ _ _ _ _ c.in_err-source_stops.field-0.0 c.in_err-source_stops.ensures)

pub overflow_mul-wide : goal.overflow_mul-wide
overflow_mul-wide c = omega (arith, (fine _ _ _ _ (sym c.in_ok-source_stops.ensures)).wide)

pub overflow_mul-high : goal.overflow_mul-high
overflow_mul-high c = omega (arith, (fine _ _ _ _ (sym c.in_ok-source_stops.ensures)).high)

pub returns-in_err-stops : goal.returns-in_err-stops
returns-in_err-stops c =
    let s : c.from_residual-in_err-stops.result ≡ Err c.in_err-stops.field-0.0 = search rules in
    rw s (refused _ _ _ _ _ _ _ _ _ _ c.in_ok-source_stops.ensures c.in_err-stops.field-0.0 c.in_err-stops.ensures)

pub overflow_mul-count : goal.overflow_mul-count
overflow_mul-count c = let f = fine _ _ _ _ (sym c.in_ok-source_stops.ensures) in
    let high : 3 * c.args.height ≤ 1023 = omega (arith, f.high) in
    let wide : 3 * c.args.width ≤ 1023 = omega (arith, f.wide) in
    omega (arith, mul-le-mul high wide)

pub slice_bounds-enlarge-end : goal.slice_bounds-enlarge-end
slice_bounds-enlarge-end c = (goes _ _ _ _ _ _ _ _ (sym c.in_ok-stops.ensures)).frame_room

pub slice_bounds-enlarge-end-2 : goal.slice_bounds-enlarge-end-2
slice_bounds-enlarge-end-2 c = sym (length-take-le (3 * c.args.height * (3 * c.args.width)) c.args.framebuffer.now (goes _ _ _ _ _ _ _ _ (sym c.in_ok-stops.ensures)).frame_room)

pub enlarge-requires : goal.enlarge-requires
enlarge-requires c = let f = fine _ _ _ _ (sym c.in_ok-source_stops.ensures) in
    let enough = (goes _ _ _ _ _ _ _ _ (sym c.in_ok-stops.ensures)).frame_room in
    record {
      some = f.some;
      wide = f.wide;
      high = f.high;
      numbers = f.numbers_room;
      shades = f.shades;
      room = length-take-le (3 * c.args.height * (3 * c.args.width)) c.args.framebuffer.now enough;
    }

pub returns : goal.returns
returns c = let a = c.args in
    shown a.width a.height a.picture.now a.colours.now a.station.now a.framebuffer.now a.history.now a.floats.now a.ints.now a.curve.now
    c.in_ok-source_stops.ensures c.in_ok-stops.ensures _
    (written a.width a.height a.picture.now a.colours.now a.station.now a.framebuffer.now a.history.now a.floats.now a.ints.now a.curve.now _
    c.enlarge.ensures) c.apply.result _ _ _ _ _ c.apply.ensures

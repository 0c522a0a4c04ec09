-- `sheets::play::show` meets its contract: the station's refusal, or the words and the call. Assumes nothing.
use Rattle.std.proofs.Common.{rules, ◌≡◌, ◌*◌, Ok, Err}
use native.Mathlib.Omega.{arith}
use mathlib.Core.Path.{refl, sym, ap}
use lib.Seq.{length-take-le}
use Rattle.std.specs.Result.{is_ok}
use Rattle.num.specs.Refusals.{code}
use Rattle.num.specs.Laws.Refusals.{number-some}
use Rattle.chain.proofs.Goes.{goes}
use Rattle.sheets.specs.Promises.{values_at}
use Rattle.sheets.proofs.Turning.{unshown, shows, values_length, laid_by}
use Rattle.sheets.proofs.play.show.Goals as goal

pub returns-in_err-stops : goal.returns-in_err-stops
returns-in_err-stops c =
    let s : c.from_residual.result ≡ Err c.in_err-stops.field-0.0 = search rules in
    rw s (unshown _ _ _ _ _ _ _ _ _ _ c.in_err-stops.ensures c.in_err-stops.field-0.0 refl (number-some c.in_err-stops.field-0.0))

pub slice_bounds-unpack-end : goal.slice_bounds-unpack-end
slice_bounds-unpack-end c = (goes _ _ _ _ _ _ _ _ (sym c.in_ok-stops.ensures)).frame_room

pub slice_bounds-unpack-end-2 : goal.slice_bounds-unpack-end-2
slice_bounds-unpack-end-2 c = sym (length-take-le (c.args.height * c.args.width) c.args.framebuffer.now (goes _ _ _ _ _ _ _ _ (sym c.in_ok-stops.ensures)).frame_room)

pub unpack-requires : goal.unpack-requires
unpack-requires c = let enough = (goes _ _ _ _ _ _ _ _ (sym c.in_ok-stops.ensures)).frame_room in
    (c.requires.0, omega (arith, c.requires.1, length-take-le (c.args.height * c.args.width) c.args.framebuffer.now enough), c.requires.2)

pub returns-in_err-apply : goal.returns-in_err-apply
returns-in_err-apply c =
    let s : c.from_residual-in_err-apply.result ≡ Err c.in_err-apply.field-0.0 = search rules in
    let enough = (goes _ _ _ _ _ _ _ _ (sym c.in_ok-stops.ensures)).frame_room in
    let count = c.args.height * c.args.width in
    let written = laid_by count c.args.at c.args.sheet.now c.args.framebuffer.now c.unpack.new.words enough c.unpack.ensures in
    rw s (shows _ _ _ (values_at count c.args.sheet.now c.args.at) _ _ _ _ _ _ c.in_ok-stops.ensures refl c.apply.result _ _ _ _ _ (values_length count c.args.sheet.now c.args.at) _ written c.apply.ensures c.apply.auto.framebuffer (Err c.in_err-apply.field-0.0) (ap is_ok (sym c.in_err-apply.was)) (ap code (sym c.in_err-apply.was)))

pub returns : goal.returns
returns c =
    let enough = (goes _ _ _ _ _ _ _ _ (sym c.in_ok-stops.ensures)).frame_room in
    let count = c.args.height * c.args.width in
    let written = laid_by count c.args.at c.args.sheet.now c.args.framebuffer.now c.unpack.new.words enough c.unpack.ensures in
    shows _ _ _ (values_at count c.args.sheet.now c.args.at) _ _ _ _ _ _ c.in_ok-stops.ensures refl c.apply.result _ _ _ _ _ (values_length count c.args.sheet.now c.args.at) _ written c.apply.ensures c.apply.auto.framebuffer (Ok tt) (ap is_ok (sym c.in_ok-apply.was)) (ap code (sym c.in_ok-apply.was))

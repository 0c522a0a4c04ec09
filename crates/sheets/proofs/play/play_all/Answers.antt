-- `sheets::play::play_all` meets its contract: event after event, while the rest of the sheet tells what all of it does. Assumes nothing.
use Rattle.std.proofs.Common.{◌≡◌, ℕ, suc, ◌+◌, ◌-◌, ◌<◌, List, Bor, Bool, cond}
use mathlib.Core.Path.{refl, sym, ap, ◌∙◌, subst}
use native.Mathlib.Omega.{arith}
use Rattle.sheets.specs.Events.{event_at}
use Rattle.sheets.specs.Promises.{Reads, lent_of}
use Rattle.sheets.proofs.Reading.{read_took}
use Rattle.sheets.proofs.Playing.{going, recount, as_number, at_most, is_there, goes_on, lent_alike, few, ended}
use Rattle.sheets.proofs.play.play_all.Goals as goal

pub loop-init : goal.loop-init
loop-init c = let a = c.args in
    let g = going (lent_of a.history.now a.floats.now a.ints.now a.curve.now) a.sheet.now.bytes.now a.n a.sheet.now.at a.station.now a.framebuffer.now
    a.history.now a.floats.now a.ints.now c.requires.2 in
    (c.requires.1, refl, recount refl (omega arith) refl g)

pub read-requires : goal.read-requires
read-requires c = omega (arith, c.loop.invariant.0, c.loop-test.true, c.requires.0)

-- one event more is left than after it
one_less : (n i : ℕ) → i < n → n - i ≡ suc (n - (i + 1))
one_less n i l = omega (arith, l)

pub unwrap-event-requires : goal.unwrap-event-requires
unwrap-event-requires c =
    let here = subst (λ (b : List ℕ). Reads b (c.loop.sheet.at + 100565041) (event_at b c.loop.sheet.at) c.read.result c.read.new.sheet.at) c.loop.invariant.1 c.read.ensures.value in
    is_there (recount refl (one_less c.args.n c.loop.counter c.loop-test.true) refl c.loop.invariant.2) _ _ c.read.result here

pub make-made-requires : goal.make-made-requires
make-made-requires c =
    let here = subst (λ (b : List ℕ). Reads b (c.loop.sheet.at + 100565041) (event_at b c.loop.sheet.at) c.read.result c.read.new.sheet.at) c.loop.invariant.1 c.read.ensures.value in
    (read_took c.args.sheet.now.bytes.now _ _ c.read.result _ _ c.unwrap-event.ensures here).1

pub overflow_add-accepted : goal.overflow_add-accepted
overflow_add-accepted c = omega (arith, as_number c.is_ok.result, at_most c.is_ok.result, few c.loop.invariant.2, c.loop-test.true, c.requires.0)

pub loop-preserved : goal.loop-preserved
loop-preserved c =
    let here = subst (λ (b : List ℕ). Reads b (c.loop.sheet.at + 100565041) (event_at b c.loop.sheet.at) c.read.result c.read.new.sheet.at) c.loop.invariant.1 c.read.ensures.value in
    let got = read_took c.args.sheet.now.bytes.now _ _ c.read.result _ _ c.unwrap-event.ensures here in
    let a = c.args in
    let alike = lent_alike c.loop.history a.history.now c.loop.floats a.floats.now c.loop.ints a.ints.now a.curve.now c.loop.auto.history c.loop.auto.floats c.loop.auto.ints in (
      omega (arith, got.2, c.loop.invariant.0),
      ap (λ (b : Bor (List ℕ)). b.now) c.read.ensures.bytes ∙ c.loop.invariant.1,
      recount refl refl (ap (λ (x : ℕ). c.loop.accepted + x) (ap (λ (b : Bool). cond b 1 0) (sym c.is_ok.ensures.value) ∙ sym (as_number c.is_ok.result)))
          (goes_on (recount refl (one_less a.n c.loop.counter c.loop-test.true) refl c.loop.invariant.2) _ _ _ c.make-made.result _ _ _ _ _ got.0 alike c.make-made.ensures),
    )

pub overflow_sub-result : goal.overflow_sub-result
overflow_sub-result c = omega (arith, few c.loop.invariant.2, c.loop.auto.counter-end)

pub returns : goal.returns
returns c = ended (recount (omega (arith, c.loop.auto.counter-end, c.loop-test.false)) (omega (arith, c.loop.auto.counter-end, c.loop-test.false)) refl c.loop.invariant.2)

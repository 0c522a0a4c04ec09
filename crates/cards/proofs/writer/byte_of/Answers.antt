-- `cards::writer::byte_of` meets its contract: the value is what the first i bits of the byte write. Assumes nothing.
use mathlib.Core.List.{List}
use Prim.Native.Nat.{ℕ, suc, ◌+◌, ◌*◌, ◌^◌, ◌≤◌, ◌<◌}
use native.Mathlib.Omega.{arith}
use native.Mathlib.Numerals.{add-one}
use mathlib.Core.Path.{◌≡◌, refl, ap, ◌∙◌}
use lib.ListN.{drop, get_or}
use lib.Seq.{get_or-drop}
use lib.Pow.{pow_mono}
use Rattle.cards.specs.Written.{value_of}
use Rattle.cards.proofs.Packed.{value_of_lt, dropped_bits}
use Rattle.cards.proofs.writer.byte_of.Goals as goal

-- in a turn twice the value and one more fits a byte
below :
    (bits : List ℕ) (j i value : ℕ)
    → ((k : ℕ) → get_or bits k 0 < 2)
    → i < 8
    → value ≡ value_of (drop (8 * j) bits) i
    → value * 2 + 2 ≤ 2 ^ 8
below bits j i value h l e = omega (arith, value_of_lt (drop (8 * j) bits) (dropped_bits bits (8 * j) h) i, e, pow_mono {i = suc i} {j = 8} (omega arith))

pub loop-i-init : goal.loop-i-init
unfolding value_of
loop-i-init c = (omega arith, refl)

pub overflow_mul-value : goal.overflow_mul-value
overflow_mul-value c = omega (arith, below c.args.bits.now c.args.j c.loop-i.i c.loop-i.value c.requires.1 (omega arith) c.loop-i.invariant.1)

pub overflow_add-value-in-loop-i : goal.overflow_add-value-in-loop-i
overflow_add-value-in-loop-i c = let a = c.args in
    omega (arith, below a.bits.now a.j c.loop-i.i c.loop-i.value c.requires.1 (omega arith) c.loop-i.invariant.1, c.requires.1 (8 * a.j + c.loop-i.i))

pub loop-i-preserved : goal.loop-i-preserved
unfolding value_of
loop-i-preserved c = let a = c.args in
    let i = c.loop-i.i in (
      omega arith,
      rw add-one (omega (arith, c.loop-i.invariant.1, get_or-drop (8 * a.j) a.bits.now i 0)),
    )

pub returns : goal.returns
returns c = let a = c.args in
    let done : c.loop-i.i ≡ 8 = omega arith in
    c.loop-i.invariant.1 ∙ ap (value_of (drop (8 * a.j) a.bits.now)) done

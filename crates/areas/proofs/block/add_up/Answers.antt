-- `areas::block::add_up` meets its contract: row after row. Assumes nothing.
use Prim.Native.Nat.{ℕ, ◌-◌, ◌*◌, ◌≤◌}
use mathlib.Core.Path.{◌≡◌, subst}
use native.Mathlib.Omega.{arith}
use Rattle.num.specs.Laws.Refusals.{area-fine}
use Rattle.areas.proofs.Blocks.{Rowing, no_rows, readable, next_row, columns_are}
use Rattle.areas.proofs.block.add_up.Goals as goal

pub loop-j-init : goal.loop-j-init
loop-j-init c = no_rows _ _ c.requires.1 c.clear.ensures

pub read-words-requires : goal.read-words-requires
read-words-requires c = readable c.loop-j.invariant c.requires.0 c.loop-j-test.true

pub overflow_add-words : goal.overflow_add-words
overflow_add-words c = let j = c.loop-j.j in
    let n = c.args.to - c.args.from in
    let few : j * n ≤ 1048576 = area-fine {w = n} {h = j} (omega arith) (omega arith) in
    omega (arith, c.loop-j.invariant.counted, c.read-words.ensures.counted)

pub loop-j-preserved : goal.loop-j-preserved
loop-j-preserved c = next_row c.loop-j.invariant c.read-words.ensures

pub returns : goal.returns
returns c = let a = c.args in
    let done : c.loop-j.j ≡ a.b.rows = omega arith in
    let at = c.loop-j in
    columns_are c.clear.ensures (subst (λ (j : ℕ). Rowing a.picture.now a.b a.from a.to j at.words c.clear.new.line at.columns) done at.invariant)

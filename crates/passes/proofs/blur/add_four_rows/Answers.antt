-- `passes::blur::add_four_rows` meets its contract: the four rows lie within the plane. Assumes nothing.
use Rattle.std.proofs.Common.{◌≡◌, ℕ, ◌+◌, ◌-◌, ◌*◌, ◌<◌, List, length, take, drop, sym, refl, ap, ◌∙◌, arith, length-drop, length-take-le}
use lib.Ieee.{Float}
use Rattle.passes.proofs.Offsets.{four_added_lem}
use Rattle.passes.specs.Laws.Rows.{row_ends}
use Rattle.passes.proofs.blur.add_four_rows.Goals as goal

-- a row of the plane is as long as the line
row_long : (plane row : List Float) (n h i : ℕ) → length plane ≡ h * n → i < h → row ≡ take n (drop (i * n) plane) → n ≡ length row
row_long plane row n h i e l er = sym (ap length er ∙ length-take-le n (drop (i * n) plane) (rw length-drop (omega (arith, row_ends n h i l, e))))

pub add_four-requires : goal.add_four-requires
add_four-requires c = let a = c.args in
    let n = length a.acc.now in
    let i = a.y + a.k - a.radius in
    let long = row_long a.plane.now in (
      long _ n a.height i c.requires.5 (omega arith) c.row_of.ensures,
      long _ n a.height (i + 1) c.requires.5 (omega arith) c.row_of-2.ensures,
      long _ n a.height (i + 2) c.requires.5 (omega arith) c.row_of-3.ensures,
      long _ n a.height (i + 3) c.requires.5 (omega arith) c.row_of-4.ensures,
    )

pub returns : goal.returns
returns c = let a = c.args in
    c.add_four.ensures.0
    ∙ four_added_lem a.acc.now a.plane.now a.height a.radius a.y a.k (a.y + a.k - a.radius) _ _ _ _ _ c.requires.2 c.requires.3 refl
    c.row_of.ensures c.row_of-2.ensures c.row_of-3.ensures c.row_of-4.ensures c.four_weights.ensures

-- What no refusal tells. Assumes nothing.
use Prim.Native.Nat.{ℕ, ◌+◌, ◌*◌, ◌%◌}
use mathlib.Core.Path.{◌≡◌}
use mathlib.Core.Bool.{Bool, false, not, ◌||◌}
use mathlib.Core.List.{List}
use native.Mathlib.Omega.{arith}
use borrow.Author.Tests.{ltb-false}
use lib.Dec.{ltb, eqb}
use lib.ListN.{length}
use Rattle.num.specs.Refusals.{bad_side}
use Rattle.num.specs.Laws.Bools.{neither}
use Rattle.num.specs.Laws.Refusals.{by, side_fine}
use Rattle.areas.specs.Areas.{count, area_at, bad_area, bad_areas, bad_list, refusal_of}
use Rattle.areas.specs.Private.{Inside, Placed, Framed}
use Rattle.areas.specs.declared.area.Area.{Area}
use Rattle.areas.proofs.OneOf.{none_at}

in_frame : (w h : ℕ) (a : Area) → bad_area w h a ≡ false → Inside w h a
unfolding bad_area
in_frame w h a e =
    let d = neither (ltb w (a.left + a.wide)) (ltb h (a.top + a.high)) e in
    record { across = ltb-false w (a.left + a.wide) d.0; down = ltb-false h (a.top + a.high) d.1 }

all_in : (w h : ℕ) (areas : List ℕ) → bad_areas w h areas ≡ false → Placed w h areas
unfolding bad_areas
all_in w h areas e = record { each = λ k l. in_frame w h (area_at areas k) (none_at (count areas) (λ j. bad_area w h (area_at areas j)) e k l) }

pub fine : (picture : List ℕ) (w h : ℕ) (areas result : List ℕ) → refusal_of (length picture) w h areas (length result) ≡ 0 → Framed picture w h areas result
unfolding refusal_of bad_list
fine picture w h areas result e =
    let a = by (bad_side w || bad_side h) 8 _ (omega arith) e in
    let b = by (ltb (length picture) (h * w)) 9 _ (omega arith) a.1 in
    let c = by (bad_list w h areas (length result)) 19 0 (omega arith) b.1 in
    let sides = neither (bad_side w) (bad_side h) a.0 in
    let room : Bool = ltb (length result) (3 * count areas) || bad_areas w h areas in
    let whole : Bool = not (eqb (length areas % 4) 0) in
    let many = neither (ltb 64 (count areas)) (whole || room) c.0 in
    let rest = neither (ltb (length result) (3 * count areas)) (bad_areas w h areas) (neither whole room many.1).1 in
    record {
      narrow = (side_fine w sides.0).1;
      low = (side_fine h sides.1).1;
      full = ltb-false (length picture) (h * w) b.0;
      placed = all_in w h areas rest.1;
      room = ltb-false (length result) (3 * count areas) rest.0;
    }

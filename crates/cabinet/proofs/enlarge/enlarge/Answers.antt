-- `cabinet::enlarge::enlarge` meets its contract: block by block, each from its row of the picture. Assumes nothing.
use Prim.Native.Nat.{ℕ, ◌+◌, ◌-◌, ◌*◌, ◌/◌, ◌%◌, ◌<◌, ◌≤◌}
use native.Mathlib.Nat.{mul-le-mul, mod-lt}
use mathlib.Core.List.{List}
use mathlib.Core.Path.{◌≡◌, ap, ap₂, ◌∙◌}
use native.Mathlib.Omega.{arith}
use lib.ListN.{length, get_or, take, drop}
use Rattle.num.specs.Laws.Rewrite.{rewrite_ext}
use Rattle.passes.specs.Rows.{placed}
use Rattle.passes.specs.Laws.Rows.{row_ends}
use Rattle.passes.proofs.RowLoops.{no_rows, row_in, row_length, row_by, rows_all, lent_length, lent-word}
use Rattle.cabinet.specs.Source.{shown_by, enlarged_at}
use Rattle.cabinet.proofs.Sources.{blocks, column_in, line_in}
use Rattle.cabinet.proofs.enlarge.enlarge.Invariants.{block_at}
use Rattle.cabinet.proofs.enlarge.enlarge.Goals as goal
use Rattle.cabinet.proofs.enlarge.enlarge.Lts as lts
use Rattle.cabinet.proofs.enlarge.enlarge.Reads as reads
use Rattle.cabinet.proofs.enlarge.enlarge.Tie as tie

-- the block lies within the frame, and its row within the picture
module _ (c : lts.In-loop tie.the-claims reads.Pre reads.Post goal.the-invariant-loop-y goal.the-decreases-loop-y) where
  abbrev start : lts.Start tie.the-claims reads.Pre reads.Post goal.the-invariant-loop-y goal.the-decreases-loop-y
  start = c.before.before.before.before.before

  abbrev first : ℕ
  first = c.loop-y.y * start.args.width

  fits : c.loop-y.at + 3 * (3 * start.args.width) ≤ length start.args.out.now
  fits = row_in c.loop-y.invariant c.loop-y-test.true

  inside : first + start.args.width ≤ length start.args.picture.now
  inside = omega (arith, row_ends start.args.width start.args.height c.loop-y.y c.loop-y-test.true, start.requires.numbers)

  small : start.args.height * start.args.width ≤ 116281
  small =
      let high = start.requires.high in
      let wide = start.requires.wide in
      mul-le-mul high wide

  ends : first + start.args.width ≤ 116281
  ends = omega (arith, row_ends start.args.width start.args.height c.loop-y.y c.loop-y-test.true, small)

-- a word of the block, from its row as it is lent
word : (w k x : ℕ) (picture colours row : List ℕ) → 0 < w → length row ≡ w → ((j : ℕ) → j < w → get_or row j 0 ≡ get_or picture (k + j) 0)
    → shown_by colours (get_or row (x % (3 * length row) / 3) 0) ≡ shown_by colours (get_or picture (k + x % (3 * w) / 3) 0)
word w k x picture colours row some e is =
    let within : x % (3 * w) < 3 * w = mod-lt x (omega (arith, some)) in
    ap (shown_by colours) (ap (λ (n : ℕ). get_or row (x % (3 * n) / 3) 0) e ∙ is (x % (3 * w) / 3) (omega (arith, within)))

-- a place of the frame, by blocks and by lines
place : (w i : ℕ) (picture colours : List ℕ) → placed (3 * (3 * w)) (block_at w picture colours) i 0 ≡ enlarged_at w picture colours (i % (3 * w)) (i / (3 * w))
place w i picture colours =
    ap₂ (λ (r x : ℕ). shown_by colours (get_or picture (r * w + x / 3) 0)) (line_in w i) (column_in w i)

pub overflow_mul-nine : goal.overflow_mul-nine
overflow_mul-nine c = omega (arith, c.requires.wide)

pub overflow_mul-nine-2 : goal.overflow_mul-nine-2
overflow_mul-nine-2 c = omega (arith, c.requires.wide)

pub loop-y-init : goal.loop-y-init
loop-y-init c = no_rows _ (c.requires.room ∙ blocks c.args.width c.args.height)

pub overflow_add-end : goal.overflow_add-end
overflow_add-end c = omega (arith, fits c.before)

pub overflow_mul-first : goal.overflow_mul-first
overflow_mul-first c = omega (arith, ends c.before)

pub overflow_add-last : goal.overflow_add-last
overflow_add-last c = omega (arith, ends c.before)

pub offset_bounds-out-at : goal.offset_bounds-out-at
offset_bounds-out-at c = omega (arith, fits c.before)

pub slice_bounds-block-start : goal.slice_bounds-block-start
slice_bounds-block-start c = omega (arith, fits c.before)

pub slice_bounds-block-end : goal.slice_bounds-block-end
slice_bounds-block-end c = omega (arith, fits c.before, c.loop-y.invariant.so_far.kept)

pub slice_bounds-block-start-in-loop-y : goal.slice_bounds-block-start-in-loop-y
slice_bounds-block-start-in-loop-y c = omega (arith, inside c.before.before)

pub slice_bounds-block-end-in-loop-y : goal.slice_bounds-block-end-in-loop-y
slice_bounds-block-end-in-loop-y c = omega (arith, inside c.before.before)

pub block-requires : goal.block-requires
block-requires c = let row = lent_length (first c.before.before.before) c.args.width c.args.picture.now (inside c.before.before.before) in (
  omega (arith, row_length c.loop-y.invariant c.loop-y-test.true, row),
  omega (arith, row, c.requires.some),
  omega (arith, row, c.requires.wide),
  c.requires.shades,
)

pub loop-y-preserved : goal.loop-y-preserved
loop-y-preserved c = row_by c.loop-y.invariant _ _ c.loop-y-test.true
    (λ x p h. word c.args.width (first c.before.before.before.before.before.before) x c.args.picture.now c.args.colours.now
    (take (first c.before.before.before.before.before.before + c.args.width - first c.before.before.before.before.before.before) (drop (first c.before.before.before.before.before.before) c.args.picture.now)) c.requires.some
    (lent_length (first c.before.before.before.before.before.before) c.args.width c.args.picture.now (inside c.before.before.before.before.before.before))
    (λ j m. lent-word (first c.before.before.before.before.before.before) c.args.width c.args.picture.now 0 j m))
    c.block.ensures

pub shape_of-out : goal.shape_of-out
shape_of-out c = c.loop-y.invariant.so_far.kept

pub returns : goal.returns
returns c = let picture = c.args.picture.now in
    let colours = c.args.colours.now in
    rows_all c.loop-y.invariant c.loop-y-test.false
    ∙ rewrite_ext (length c.args.out.now) _ _ c.args.out.now (λ i p m. place c.args.width i picture colours)

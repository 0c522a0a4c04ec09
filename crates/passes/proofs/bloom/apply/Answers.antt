-- `passes::bloom::apply` meets its contract: the planes at the start of the scratch, then the frame. Assumes nothing.
use Rattle.std.proofs.Common.{◌≡◌, ℕ, ◌+◌, ◌*◌, ◌<◌, ◌≤◌, List, ◌++◌, length, take, drop, sym, ap, ◌∙◌, ap₂, mul_assoc, mul_comm, arith, length-take-le, take_at, drop_at}
use lib.Ieee.{Float}
use Rattle.num.specs.F32.{whole}
use Rattle.passes.specs as Text
use Rattle.passes.specs.Rows.{placed}
use Rattle.passes.specs.Laws.Rows.{placed_ext}
use Rattle.passes.specs.Plain.Blur.{weight_sum, down}
use Rattle.passes.specs.Plain.Bloom.{composite, vertical, sample, horizontal}
use Rattle.passes.proofs.Offsets.{front, weight-at, blur_by_lem, blur_same}
use Rattle.passes.specs.Private.{at, stored, horizontal_by, mark_clamped}
use Rattle.passes.specs.declared.pixel.Rgb.{Rgb}
use Rattle.passes.proofs.Planes.{same_composite, down_is}
use Rattle.passes.proofs.Collected.{collected_clamped}
use Rattle.passes.proofs.Counted.{rows_few}
use Rattle.passes.proofs.bloom.apply.Goals as goal
use Rattle.passes.proofs.bloom.apply.Lts as lts
use Rattle.passes.proofs.bloom.apply.Reads as reads
use Rattle.passes.proofs.bloom.apply.Tie as tie

three-wide : (n h w : ℕ) → n ≡ h * w → 3 * n ≡ h * (3 * w)
three-wide n h w e = ap (λ (m : ℕ). 3 * m) e ∙ sym (mul_assoc 3 h w) ∙ ap (λ (m : ℕ). m * w) (mul_comm 3 h) ∙ mul_assoc h 3 w

-- once the lines are made: what is lent of them and of the scratch
module _ (c : lts.After-line2 tie.the-claims reads.Pre reads.Post tie.handed_clauses) where
  abbrev start : lts.Start tie.the-claims reads.Pre reads.Post tie.handed_clauses
  start = c.before.before.before.before.before

  abbrev words : ℕ
  words = 3 * length start.args.frame.now

  planes_long : length (take words start.args.scratch.now) ≡ words
  planes_long = length-take-le words start.args.scratch.now start.requires.fact_2.1

  planes_sized : words ≡ start.args.height * (3 * start.args.width)
  planes_sized = three-wide _ _ _ start.requires.fact_1.area

  abbrev row_long : (line : List Float) → length line ≡ 1024 → length (take start.args.width line) ≡ start.args.width
  row_long line e = front line 1024 start.args.width e start.requires.fact_1.wide

  sums_long : length (take (3 * start.args.width) c.line-sums.result) ≡ 3 * start.args.width
  sums_long = front c.line-sums.result 3072 (3 * start.args.width) c.line-sums.ensures (omega (arith, start.requires.fact_1.wide))

-- once the planes are written
module _ (c : lts.After-horizontal tie.the-claims reads.Pre reads.Post tie.handed_clauses) where
  abbrev lines : lts.After-line2 tie.the-claims reads.Pre reads.Post tie.handed_clauses
  lines = c.before.before.before.before.before

  written : length c.horizontal-across.new.planes ≡ words lines
  written = c.horizontal-across.auto.planes ∙ planes_long lines

  abbrev lent : List Float
  lent = take (words lines) (c.horizontal-across.new.planes ++ drop (words lines) lines.args.scratch.now)

  shared : lent ≡ c.horizontal-across.new.planes
  shared = take_at _ _ _ written

  -- a sample of the planes, blurred along its column, is the definition's
  glows : (which x y : ℕ) → which < 3 → x < lines.args.width
      → let a = lines.args in
      down a.height a.radius (stored lent a.width which) x y
      ≡ down a.height a.radius (horizontal a.width a.radius (whole a.threshold) a.frame.now which) x y
  glows which x y i l =
      let a = lines.args in
      let line = lines.weight_line-w in
      let sums : ℕ → Float = at (take a.width line.result) in
      let t : Float = whole a.threshold in
      ap (λ (z : List Float). down a.height a.radius (stored z a.width which) x y) shared
      ∙ down_is a.width a.height a.radius (horizontal_by sums a.width a.radius t a.frame.now) (take (words lines) a.scratch.now) c.horizontal-across.new.planes
      (planes_long lines ∙ planes_sized lines) c.horizontal-across.ensures.0 which x y i l
      ∙ blur_same (weight_sum a.height a.radius) (λ n. horizontal_by sums a.width a.radius t a.frame.now which x n)
      (λ n. horizontal a.width a.radius t a.frame.now which x n) a.height a.radius y
      (λ n m. blur_by_lem sums (λ k. sample t a.frame.now a.width which k n) a.width a.radius x (weight-at line.result a.width a.radius x line.ensures l))

-- what both directions take
module _ (c : lts.After-slice_known5 tie.the-claims reads.Pre reads.Post tie.handed_clauses) where
  abbrev downed : lts.After-composite_rows tie.the-claims reads.Pre reads.Post tie.handed_clauses
  downed = c.before.before.before.before.before.before.before

  abbrev crossed : lts.After-horizontal tie.the-claims reads.Pre reads.Post tie.handed_clauses
  crossed = downed.before.before.before.before.before.before

  few : crossed.horizontal-across.result + downed.composite_rows-down.result ≤ 270532608
  few =
      let s = start (lines crossed) in
      omega (
        arith,
        rows_few s.args.height s.args.width s.args.radius s.requires.fact_1.high s.requires.fact_1.wide s.requires.fact_2.0 crossed.horizontal-across.ensures.1,
        rows_few s.args.width s.args.height s.args.radius s.requires.fact_1.wide s.requires.fact_1.high s.requires.fact_2.0 downed.composite_rows-down.ensures.1,
      )

pub overflow_add-result : goal.overflow_add-result
overflow_add-result c = omega (arith, few c.before)

pub overflow_cast-result : goal.overflow_cast-result
overflow_cast-result c = omega (arith, few c.before)

pub returns : goal.returns
unfolding Text.Bloom.bloom Text.Samples.bloom_samples
returns c = let s = c in
    let a = s.args in
    let glowing : ℕ → ℕ → ℕ → Rgb = λ x y. composite a.strength (vertical a.height a.radius (horizontal a.width a.radius (whole a.threshold) a.frame.now) x y) in (
      collected_clamped (placed a.width glowing) _ _
          (c.composite_rows-down.ensures.0
          ∙ placed_ext a.width a.height a.frame.now (λ x y p. mark_clamped (composite a.strength (vertical a.height a.radius (stored (lent c.before.before.before.before.before.before.before.before.before.before.before.before.before.before) a.width) x y) p))
          (λ x y p. mark_clamped (glowing x y p)) s.requires.fact_1.area
          (λ x y p l m. ap mark_clamped (same_composite a.strength p (glows c.before.before.before.before.before.before.before.before.before.before.before.before.before.before 0 x y (omega arith) l) (glows c.before.before.before.before.before.before.before.before.before.before.before.before.before.before 1 x y (omega arith) l) (glows c.before.before.before.before.before.before.before.before.before.before.before.before.before.before 2 x y (omega arith) l))))
          c.collect-clipped.ensures,
      ap₂ (λ (across down : ℕ). across + down) c.horizontal-across.ensures.1 c.composite_rows-down.ensures.1,
      drop_at c.horizontal-across.new.planes (drop (words (lines c.before.before.before.before.before.before.before.before.before.before.before.before.before.before)) a.scratch.now) (words (lines c.before.before.before.before.before.before.before.before.before.before.before.before.before.before)) (written c.before.before.before.before.before.before.before.before.before.before.before.before.before.before),
    )

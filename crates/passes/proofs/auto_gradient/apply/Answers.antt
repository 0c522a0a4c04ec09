-- `passes::auto_gradient::apply` meets its contract: what the columns keep stands at the front of a local line. Assumes nothing.
use Rattle.std.proofs.Common.{◌≡◌, ℕ, ◌<◌, List, ◌++◌, length, take, drop, ap, ◌∙◌, arith, take_at}
use lib.Ieee.{Float, nan}
use Rattle.num.specs.Const.{c0_0}
use Rattle.num.specs.Laws.Rewrite.{get_d_fill}
use Rattle.passes.specs as Text
use Rattle.passes.specs.Fold.{fold}
use Rattle.passes.specs.Rows.{placed}
use Rattle.passes.specs.Laws.Rows.{placed_ext}
use Rattle.passes.specs.Plain.AutoGradient.{add_luma, adaptive, warm, fall, brightness, shade, colour_at, shaded}
use Rattle.passes.specs.Private.{at, mark_clamped}
use Rattle.passes.proofs.Collected.{collected_clamped}
use Rattle.passes.proofs.Offsets.{front}
use Rattle.passes.proofs.auto_gradient.apply.Goals as goal
use Rattle.passes.proofs.auto_gradient.apply.Lts as lts
use Rattle.passes.proofs.auto_gradient.apply.Reads as reads
use Rattle.passes.proofs.auto_gradient.apply.Tie as tie

-- the part of the line that is lent
module _ (c : lts.After-line tie.the-claims reads.Pre reads.Post) where
  abbrev start : lts.Start tie.the-claims reads.Pre reads.Post
  start = c.before.before.before.before

  abbrev width : ℕ
  width = start.args.width

  part : length (take width c.line-line.result) ≡ width
  part = front c.line-line.result 1024 width c.line-line.ensures start.requires.wide

-- what it holds then
module _ (c : lts.After-falls tie.the-claims reads.Pre reads.Post) where
  abbrev lines : lts.After-line tie.the-claims reads.Pre reads.Post
  lines = c.before.before

  abbrev kept : List Float
  kept = take (width lines) (c.falls.new.line ++ drop (width lines) lines.line-line.result)

  begins : kept ≡ c.falls.new.line
  begins = take_at c.falls.new.line _ _ (c.falls.auto.line ∙ part lines)

  many : length kept ≡ width lines
  many = ap length begins ∙ c.falls.auto.line ∙ part lines

  keeps : (x : ℕ) → x < width lines → at kept x ≡ fall (width lines) lines.args.horizontal lines.adaptive-a.result x
  keeps x l =
      let line = take (width lines) lines.line-line.result in
      let horizontal = lines.args.horizontal in
      let a = lines.adaptive-a.result in
      ap (λ (z : List Float). at z x) (begins ∙ c.falls.ensures)
      ∙ get_d_fill (fall (length line) horizontal a) line x nan (omega (arith, part lines))
      ∙ ap (λ (n : ℕ). fall n horizontal a x) (part lines)

pub returns : goal.returns
unfolding Text.AutoGradient.auto_gradient Text.AutoGradient.shaded
returns c = let a = c.args in
    let scene = c.adaptive-a.result in
    let same : scene ≡ adaptive a.strength (length a.frame.now) (fold add_luma c0_0 a.frame.now) = cc in
    collected_clamped (placed a.width (colour_at a.width a.height a.vertical a.horizontal scene)) _ _
    (c.rows.ensures
    ∙ placed_ext a.width a.height a.frame.now _ _ c.requires.area
    (λ x y p l m.
    let t = warm a.height y a.vertical scene in
    ap (λ (z : Float). mark_clamped (shade t (brightness t z) p)) (keeps c.before.before.before.before.before.before.before.before.before.before.before x l)))
    c.collect.ensures
    ∙ ap (λ (z : Float). shaded a.width a.height a.vertical a.horizontal z a.frame.now) same

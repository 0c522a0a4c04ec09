-- `sheets::write::frame` meets its contract: its number, its sides and its words. Assumes nothing.
use Prim.Native.Nat.{◌+◌, ◌*◌, ◌≤◌}
use mathlib.Core.Path.{◌≡◌}
use native.Mathlib.Omega.{arith}
use Rattle.sheets.proofs.Reading.{few}
use Rattle.sheets.proofs.Writing.{whole_frame}
use Rattle.sheets.proofs.write.frame.Goals as goal
use Rattle.sheets.proofs.write.frame.Lts as lts
use Rattle.sheets.proofs.write.frame.Reads as reads
use Rattle.sheets.proofs.write.frame.Tie as tie

-- a frame is no larger than its sides' 11 bits let it be
small : (s : lts.Start tie.the-claims reads.Pre reads.Post) → s.args.height * s.args.width ≤ 4190209
small s = few s.args.sheet.now s.args.width s.args.height s.requires.0 s.requires.1

-- after the two sides
module _ (c : lts.After-put3 tie.the-claims reads.Pre reads.Post) where
  abbrev second : lts.After-put2 tie.the-claims reads.Pre reads.Post
  second = c.before.before.before.before

  abbrev first : lts.After-put tie.the-claims reads.Pre reads.Post
  first = second.before.before.before.before

  abbrev start : lts.Start tie.the-claims reads.Pre reads.Post
  start = first.before.before.before.before

  behind : c.put-p3.result ≡ start.args.p + 25
  behind = omega (arith, first.put-p1.ensures.1, second.put-p2.ensures.1, c.put-p3.ensures.1)

pub overflow_mul-height : goal.overflow_mul-height
overflow_mul-height c = omega (arith, small (start c.before.before.before.before))

pub put_words-requires : goal.put_words-requires
put_words-requires c = let p = c.requires in
    (p.2, omega (arith, p.3, behind c.before.before.before.before, c.put-p3.auto.sheet, c.put-p2.auto.sheet, c.put-p1.auto.sheet), omega (arith, p.4, behind c.before.before.before.before, small (start c.before.before.before.before)))

pub returns : goal.returns
returns c = let p = c.requires in
    let end : c.put_words.result ≡ c.args.p + 25 + 24 * (c.args.height * c.args.width) = omega (arith, behind c.before.before.before.before.before.before.before, c.put_words.ensures.1) in (
      whole_frame c.put-p2.ensures.1 c.put-p3.ensures.1 (omega (arith, c.put_words.ensures.1))
          (omega (arith, p.3, end, c.put_words.auto.sheet, c.put-p3.auto.sheet, c.put-p2.auto.sheet, c.put-p1.auto.sheet)) c.put-p1.ensures.0
          c.put-p2.ensures.0 c.put-p3.ensures.0 c.put_words.ensures.0,
      end,
    )

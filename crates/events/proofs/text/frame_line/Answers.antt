-- `events::text::frame_line` meets its contract: pixel after pixel, each in seven bytes that are lent. Assumes nothing.
use native.Mathlib.Omega.{arith}
use Rattle.events.proofs.Lines.{no_pixel, next-pixel, line-ends}
use Rattle.events.proofs.text.frame_line.Goals as goal

pub loop-i-init : goal.loop-i-init
loop-i-init c = no_pixel c.args.frame.now c.args.out.now (omega arith)

pub loop-i-preserved : goal.loop-i-preserved
loop-i-preserved c = next-pixel _ _ _ _ _ c.loop-i.invariant c.loop-i-test.true c.requires.1 c.put_pixel.ensures

pub returns : goal.returns
returns c = line-ends _ _ _ _ c.loop-i.invariant c.loop-i-test.false c.requires.1

-- `sheets::write::switch` meets its contract: its number, its kind and its position. Assumes nothing.
use Prim.Native.Nat.{◌+◌}
use mathlib.Core.Path.{◌≡◌}
use native.Mathlib.Omega.{arith}
use Rattle.sheets.proofs.Writing.{whole_switch}
use Rattle.sheets.proofs.write.switch.Goals as goal

pub returns : goal.returns
returns c = let end : c.put.result ≡ c.args.p + 8 = omega (arith, c.put-p1.ensures.1, c.put-p2.ensures.1, c.put.ensures.1) in (
  whole_switch c.bit.ensures.1 c.put-p1.ensures.1 c.put-p2.ensures.1 c.put.ensures.1
      (omega (arith, c.requires, end, c.put-p1.auto.sheet, c.put-p2.auto.sheet, c.put.auto.sheet)) c.put-p1.ensures.0 c.put-p2.ensures.0
      c.put.ensures.0,
  end,
)

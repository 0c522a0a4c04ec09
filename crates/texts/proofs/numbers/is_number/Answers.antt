-- `texts::numbers::is_number` meets its contract: each test went as the definition's. Assumes nothing.
use Prim.Native.Nat.{◌-◌}
use mathlib.Core.Path.{refl}
use borrow.Author.Tests.{eq-eqb, ne_eqb, le-leb, lt-leb}
use Rattle.texts.specs.Numbers.{is_number}
use Rattle.texts.proofs.numbers.is_number.Goals.{then-s-long-via-then-s-long, then-s-long-via-else-s-long+then-before-gt7, then-s-long-via-else-s-long+else-before-gt7+then-after-gt150}
use Rattle.texts.proofs.numbers.is_number.Goals as goal

pub returns-then-s-long : goal.returns-then-s-long
unfolding is_number
returns-then-s-long c =
    let s = c.args.s in
    elim c.then-s-long.branch [
      | then-s-long-via-then-s-long w ↦ rw (ne_eqb s.end c.args.long w.if-s-long.true) refl
      | then-s-long-via-else-s-long+then-before-gt7 w ↦ rw (eq-eqb s.end c.args.long w.if-s-long.false, lt-leb (s.point - s.start) 7 w.if-before-gt7.true) refl
      | then-s-long-via-else-s-long+else-before-gt7+then-after-gt150 w ↦ rw (
        eq-eqb s.end c.args.long w.if-s-long.false,
        le-leb (s.point - s.start) 7 w.if-before-gt7.false,
        lt-leb (s.end - s.behind) 150 w.if-after-gt150.true,
      ) refl
    ]

pub returns : goal.returns
unfolding is_number
returns c =
    let s = c.args.s in
    rw (
      eq-eqb s.end c.args.long c.if-s-long.false,
      le-leb (s.point - s.start) 7 c.if-before-gt7.false,
      le-leb (s.end - s.behind) 150 c.if-after-gt150.false,
    ) refl

-- `num::root::turn` meets its contract, by `FoundDigits.antt`. Assumes nothing.
use mathlib.Core.Path.{◌≡◌, sym, ap, ◌∙◌, subst₂}
use mathlib.Core.Bool.{Bool, true, false}
use Prim.Native.Nat.{ℕ, ◌+◌, ◌-◌, ◌^◌, ◌≤◌, ◌<◌}
use native.Mathlib.Omega.{arith}
use lib.Dec.{leb}
use lib.IntN.{ℤ, pos}
use lib.Signed.{le_z}
use mir.Syntax.{w32}
use mir.Val.{to_z}
use mir.ValLaws.{to_z_pos}
use borrow.Author.Tests.{leb-true, leb-false}
use Rattle.num.specs.Private.{Digits}
use Rattle.num.proofs.FoundDigits.{skip, take}
use Rattle.num.proofs.root.turn.Goals as goal
use Rattle.num.proofs.root.turn.Goals.{then-trial-f, else-trial-f}
use Rattle.num.proofs.root.turn.Lts as lts
use Rattle.num.proofs.root.turn.Reads as reads

-- the comparison as `i32` is that of the numbers
signed_le : (a b : ℕ) → a < 2 ^ 31 → b < 2 ^ 31 → le_z (to_z w32 a) (to_z w32 b) ≡ leb a b
signed_le a b h k = ap (λ (z : ℤ). le_z z (to_z w32 b)) (to_z_pos w32 a h) ∙ ap (le_z (pos a)) (to_z_pos w32 b k)

module _ (s : lts.Start reads.Pre reads.Post) where
  abbrev trial : ℕ
  trial = s.args.f.twice + s.args.place

  abbrev flag : Bool
  flag = le_z (to_z w32 trial) (to_z w32 s.args.f.rest)

  same : flag ≡ leb trial s.args.f.rest
  same = let g = s.requires.1 in signed_le trial s.args.f.rest (omega arith) (omega arith)

  taken : flag ≡ true → trial ≤ s.args.f.rest
  taken h = leb-true _ _ (sym same ∙ h)

  left : flag ≡ false → s.args.f.rest < trial
  left h = leb-false _ _ (sym same ∙ h)

  -- what the function returns, by what it took and the digit that it set
  abbrev Next : ℕ → ℕ → ℕ → Type 0
  Next a t d = Digits a (s.args.f.rest - t + (s.args.f.rest - t)) (s.args.f.twice + d) s.args.place

pub overflow_sub-rest : goal.overflow_sub-rest
overflow_sub-rest c =
    elim c.if-trial-f.branch [ then-trial-f w ↦ omega (arith, taken c.before.before.before.before.before.before w.if-trial-f.true) | else-trial-f w ↦ omega arith ]

pub overflow_add-result-2 : goal.overflow_add-result-2
overflow_add-result-2 c = elim c.if-trial-f.branch [ then-trial-f w ↦ omega arith | else-trial-f w ↦ omega arith ]

pub returns : goal.returns
returns c a g =
    let s = c.before.before.before.before.before.before.before in
    elim c.if-trial-f.branch [
      | then-trial-f w ↦ subst₂ (Next s a) (sym w.taken-is) (sym w.digit-is) (take c.args.place g (taken s w.if-trial-f.true))
      | else-trial-f w ↦ subst₂ (Next s a) (sym w.taken-is) (sym w.digit-is) (skip c.args.place g (left s w.if-trial-f.false))
    ]

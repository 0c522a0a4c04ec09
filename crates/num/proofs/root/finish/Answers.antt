-- `num::root::finish` meets its contract: each turn has put one root more together. Assumes nothing.
use mathlib.Core.Path.{◌≡◌, sym, ap, ◌∙◌, subst}
use Prim.Native.Nat.{ℕ, ◌/◌}
use native.Mathlib.Nat.{le_refl}
use native.Mathlib.Omega.{arith}
use mathlib.Core.List.{List}
use lib.ListN.{get_or}
use lib.Ieee.{Float, nan}
use Rattle.num.specs.Laws.Rewrite.{Rewritten, none, more, get_d_rewrite-rest}
use Rattle.num.specs.Private.{Answers}
use Rattle.num.proofs.root.finish.Goals as goal

-- the value at i is still as it was
still : {i : ℕ} {f : ℕ → Float → Float} {xs ys : List Float} → Rewritten i f xs ys → get_or ys i nan ≡ get_or xs i nan
still {i} {f} {xs} t = ap (λ (l : List Float). get_or l i nan) t.done ∙ get_d_rewrite-rest i f xs i nan (le_refl i)

pub loop-i-init : goal.loop-i-init
loop-i-init c = none _ _

pub put-requires : goal.put-requires
put-requires c = let v = c.loop-i in
    subst
    (λ (x : Float). Answers x (get_or c.args.twice.now v.i 0 / 2) (get_or c.args.power.now v.i 0))
    (sym (still v.invariant))
    (c.requires.2 v.i c.loop-i-test.true)

pub loop-i-preserved : goal.loop-i-preserved
loop-i-preserved c = more c.loop-i.invariant nan (omega (arith, c.loop-i.invariant.kept, c.loop-i-test.true)) c.put.ensures

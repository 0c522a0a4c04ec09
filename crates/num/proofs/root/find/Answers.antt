-- `num::root::find` meets its contract: the whole roots are those of what was begun with. Assumes nothing.
use mathlib.Core.Path.{◌≡◌, sym, ◌∙◌, subst}
use Prim.Native.Nat.{ℕ}
use native.Mathlib.Omega.{arith}
use mathlib.Core.List.{List}
use lib.ListN.{length, get_or}
use lib.Ieee.{Float, nan}
use Rattle.num.specs.Private.{Answers, AllReadied, WholeRoots, Wholes, AllAnswer}
use Rattle.num.proofs.root.find.Goals as goal

wholes : (xs : List Float) (rest power twice : List ℕ) → AllReadied xs rest power → length twice ≡ length xs → Wholes rest twice
wholes xs rest power twice r l = (l ∙ sym r.0, λ k m. (r.2 k (omega (arith, r.0))).0)

answers : (xs : List Float) (rest power twice : List ℕ) → AllReadied xs rest power → WholeRoots rest twice → AllAnswer xs twice power
answers xs rest power twice r w = (
  w.0 ∙ r.0,
  r.1,
  λ k l. subst (λ (q : ℕ). Answers (get_or xs k nan) q (get_or power k 0)) (sym (w.1 k (omega (arith, r.0)))) (r.2 k l).1,
)

pub whole_roots-requires : goal.whole_roots-requires
whole_roots-requires c = wholes c.args.xs.now c.begin.new.rest c.begin.new.power c.args.twice.now c.begin.ensures c.requires.1

pub finish-requires : goal.finish-requires
finish-requires c = answers c.args.xs.now c.begin.new.rest c.begin.new.power c.whole_roots.new.twice c.begin.ensures c.whole_roots.ensures

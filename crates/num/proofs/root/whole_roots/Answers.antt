-- `num::root::whole_roots` meets its contract: each turn has two digits of every root more, and after the last the place is 1. Assumes nothing.
use mathlib.Core.Path.{◌≡◌, refl, sym, ap, ◌∙◌, subst}
use Rattle.num.specs.Rewrite.{fill}
use Rattle.num.specs.Laws.Rewrite.{get_d_fill, length-rewrite}
use Prim.Native.Nat.{ℕ, zero, suc, ◌+◌, ◌-◌, ◌*◌, ◌/◌, ◌^◌, ◌≤◌, ◌<◌}
use native.Mathlib.Numerals.{sub-one}
use native.Mathlib.Nat.{pow-succ'}
use native.Mathlib.Omega.{arith}
use mathlib.Core.List.{List}
use lib.Arith.{le-zero}
use lib.ListN.{length, get_or}
use Rattle.num.specs.Private.{Digits, AllDigits, MoreDigits, Wholes, WholeRoots}
use Rattle.num.proofs.FoundDigits.{last}
use Rattle.num.proofs.root.whole_roots.Invariants.{Found}
use Rattle.num.proofs.root.whole_roots.Goals as goal

-- no digit is found, and m * 2 ^ 25 is left
none : (m : ℕ) → m < 2 ^ 25 → Digits (m * 2 ^ 25) m 0 (2 ^ 26)
none m h = record { sum = omega arith; below = omega arith; room = omega arith; even = refl }

starts : (ms twice : List ℕ) → Wholes ms twice → Found ms (2 ^ 26) ms (fill (λ i. 0) twice)
starts ms twice w = record {
  first = refl;
  second = length-rewrite (length twice) (λ i x. 0) twice ∙ w.0;
  digits = λ k l.
      subst (λ (t : ℕ). Digits (get_or ms k 0 * 2 ^ 25) (get_or ms k 0) t (2 ^ 26)) (sym (get_d_fill (λ i. 0) twice k 0 (omega (arith, w.0)))) (none (get_or ms k 0) (w.1 k l));
}

quarter : (l : ℕ) → 0 < l → 4 ^ l ≡ 4 * 4 ^ (l - 1)
quarter zero h = absurd (omega arith)
quarter (suc l) h = rw sub-one (pow-succ' 4 l)

-- a turn: the place is four times the next
module _ {ms rest twice : List ℕ} {place : ℕ} (left : ℕ) (some : 0 < left) (e : place ≡ 4 ^ left) (f : Found ms place rest twice) where
  four : place ≡ 4 * (place / 4)
  four = let q = quarter left some in omega arith

  below : place / 4 ≡ 4 ^ (left - 1)
  below = let q = quarter left some in omega arith

  asks : AllDigits (4 * (place / 4)) rest twice
  asks = (
    f.second ∙ sym f.first,
    λ k l. (get_or ms k 0 * 2 ^ 25, subst (Digits (get_or ms k 0 * 2 ^ 25) (get_or rest k 0) (get_or twice k 0)) four (f.digits k (omega (arith, f.first)))),
  )

  goes_on : (rest' twice' : List ℕ) → MoreDigits (place / 4) rest twice rest' twice' → Found ms (place / 4) rest' twice'
  goes_on rest' twice' m = record {
    first = m.0 ∙ f.first;
    second = m.1 ∙ f.second;
    digits = λ k l.
        m.2 k (omega (arith, f.first)) (get_or ms k 0 * 2 ^ 25) (subst (Digits (get_or ms k 0 * 2 ^ 25) (get_or rest k 0) (get_or twice k 0)) four (f.digits k l));
  }

ends : (ms rest twice : List ℕ) (place left : ℕ) → left ≤ 0 → place ≡ 4 ^ left → Found ms place rest twice → WholeRoots ms twice
ends ms rest twice place left z e f =
    let one : place ≡ 1 = e ∙ ap (λ (k : ℕ). 4 ^ k) (le-zero z) in
    (f.second, λ k l. last (subst (Digits (get_or ms k 0 * 2 ^ 25) (get_or rest k 0) (get_or twice k 0)) one (f.digits k l)))

pub loop-pass-init : goal.loop-pass-init
loop-pass-init c = (refl, subst (Found c.args.rest.now (2 ^ 26) c.args.rest.now) (sym c.clear.ensures) (starts c.args.rest.now c.args.twice.now c.requires))

pub digits-requires : goal.digits-requires
digits-requires c = let v = c.loop-pass in asks (13 - v._pass) (omega arith) v.invariant.0 v.invariant.1

pub loop-pass-preserved : goal.loop-pass-preserved
loop-pass-preserved c = let v = c.loop-pass in
    let next : 13 - v._pass - 1 ≡ 13 - (v._pass + 1) = omega arith in (
      below (13 - v._pass) (omega arith) v.invariant.0 v.invariant.1 ∙ ap (λ (k : ℕ). 4 ^ k) next,
      goes_on (13 - v._pass) (omega arith) v.invariant.0 v.invariant.1 _ _ c.digits.ensures,
    )

pub returns : goal.returns
returns c = let v = c.loop-pass in ends _ _ _ v.place (13 - v._pass) (omega arith) v.invariant.0 v.invariant.1

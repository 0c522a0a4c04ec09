-- `num::root::digits` meets its contract: each turn has two digits of one root more. Assumes nothing.
use mathlib.Core.Path.{◌≡◌, sym, subst, subst₂, ◌∙◌}
use Prim.Native.Nat.{ℕ, ◌+◌, ◌*◌, ◌<◌}
use native.Mathlib.Nat.{le_refl}
use native.Mathlib.Omega.{arith}
use mathlib.Core.List.{List}
use lib.ListN.{length, get_or}
use Rattle.num.specs.Private.{Digits, HasDigits, Further, AllDigits}
use Rattle.num.proofs.PairedLines.{Paired, next}
use Rattle.num.proofs.root.digits.Invariants.{Done, Still}
use Rattle.num.proofs.root.digits.Goals as goal

four : (p : ℕ) → 4 * p ≡ 2 * (p + p)
four p = omega arith

two : (p : ℕ) → p + p ≡ 2 * p
two p = omega arith

-- what stands at the loop's place is still as it was, and has digits to go on from
module _ (place : ℕ) (rests twices : List ℕ) (asked : AllDigits (4 * place) rests twices) {i : ℕ} (l : i < length rests)
    {rest twice : List ℕ} (t : Paired (length rests) i (Done place rests twices) (Still rests twices) rest twice) where
  still : Still rests twices i (get_or rest i 0) (get_or twice i 0)
  still = t.ahead i (le_refl i) l

  first-asks : HasDigits (get_or rest i 0) (get_or twice i 0) (2 * (place + place))
  first-asks =
      subst (HasDigits (get_or rest i 0) (get_or twice i 0)) (four place)
      (subst₂ (λ (r u : ℕ). HasDigits r u (4 * place)) (sym still.0) (sym still.1) (asked.1 i l))

  second-asks : {r u : ℕ} → Further (get_or rest i 0) (get_or twice i 0) (2 * (place + place)) r u (place + place) → HasDigits r u (2 * place)
  second-asks {r} {u} f = let h = first-asks in (h.0, subst (Digits h.0 r u) (two place) (f h.0 h.1))

  both : {r u r' u' : ℕ} → Further (get_or rest i 0) (get_or twice i 0) (2 * (place + place)) r u (place + place) → Further r u (2 * place) r' u' place
      → Done place rests twices i r' u'
  both {r} {u} f g a d =
      let moved : Digits a (get_or rest i 0) (get_or twice i 0) (4 * place) = subst₂ (λ (x y : ℕ). Digits a x y (4 * place)) (sym still.0) (sym still.1) d in
      g a (subst (Digits a r u) (two place) (f a (subst (Digits a (get_or rest i 0) (get_or twice i 0)) (four place) moved)))

pub turn-requires : goal.turn-requires
turn-requires c = first-asks _ _ _ c.requires c.loop-i-test.true c.loop-i.invariant

pub turn-found-requires : goal.turn-found-requires
turn-found-requires c = second-asks _ _ _ c.requires c.loop-i-test.true c.loop-i.invariant c.turn.ensures

pub loop-i-preserved : goal.loop-i-preserved
loop-i-preserved c = next c.loop-i.invariant c.loop-i-test.true (both _ _ _ c.requires c.loop-i-test.true c.loop-i.invariant c.turn.ensures c.turn-found.ensures)

pub returns : goal.returns
returns c = let t = c.loop-i.invariant in (t.first, t.second ∙ sym c.requires.0, λ k l. t.done k (omega arith))

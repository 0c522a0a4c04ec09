-- Laws of the card's bits: a bit is below 2, and k bits write a number below 2 ^ k. Assumes nothing.
use Prim.Native.Nat.{ℕ, zero, suc, ◌+◌, ◌*◌, ◌^◌, ◌<◌, ◌≤◌}
use native.Mathlib.Omega.{arith}
use mathlib.Core.List.{List}
use mathlib.Core.Path.{◌≡◌}
use mathlib.Core.Bool.{Bool, true, false, cond}
use lib.ListN.{length}
use lib.Dec.{leb}
use borrow.Author.Tests.{le-leb}
use Rattle.cards.specs.Step.{Refusal, took, refused, stop}
use Rattle.cards.specs.Bits.{bit_at, value_at, field_at}

pub bit_at_lt : (card : List ℕ) (p : ℕ) → bit_at card p < 2
bit_at_lt card p = omega arith

pub value_at_lt : (card : List ℕ) (p k : ℕ) → value_at card p k < 2 ^ k
unfolding value_at
value_at_lt card p zero = omega arith
value_at_lt card p (suc k) = omega (arith, value_at_lt card p k, bit_at_lt card (p + k))

-- a field is refused only as torn
pub torn : (k : ℕ) (card : List ℕ) (p : ℕ) (j : Refusal) → field_at k card p ≡ refused j → j ≡ stop 1 p
unfolding field_at
torn k card p j e = go (leb (p + k) (8 * length card)) e
  where
    go : (b : Bool) → cond b (took (value_at card p k) (p + k)) (refused (stop 1 p)) ≡ refused j → j ≡ stop 1 p
    go true e = cc
    go false e = cc

-- what a field that is taken says of its value and the next place
pub taken : (k : ℕ) (card : List ℕ) (p v n : ℕ) → field_at k card p ≡ took v n → (v ≡ value_at card p k) × (n ≡ p + k)
unfolding field_at
taken k card p v n e = go (leb (p + k) (8 * length card)) e
  where
    go : (b : Bool) → cond b (took (value_at card p k) (p + k)) (refused (stop 1 p)) ≡ took v n → (v ≡ value_at card p k) × (n ≡ p + k)
    go true e = (cc, cc)
    go false e = (cc, cc)

-- a field whose bits are all there is taken
pub whole : (k : ℕ) (card : List ℕ) (p : ℕ) → p + k ≤ 8 * length card → field_at k card p ≡ took (value_at card p k) (p + k)
unfolding field_at
whole k card p h = simp (le-leb (p + k) (8 * length card) h)

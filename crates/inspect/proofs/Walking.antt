-- The walk over the records of a card, for `layout::field_at`: what is still to be walked gives the field. Assumes nothing.
use Prim.Native.Nat.{ℕ, suc, ◌+◌, ◌-◌, ◌*◌, ◌≤◌, ◌<◌}
use mathlib.Core.Bool.{cond}
use mathlib.Core.List.{List}
use mathlib.Core.Path.{◌≡◌, ap, sym, ◌∙◌}
use native.Mathlib.Omega.{arith}
use borrow.Author.Tests.{lt-ltb, le-ltb}
use lib.Dec.{ltb}
use Rattle.inspect.specs.Layout.{nibble_at, end_of, in_record, field_from}
use Rattle.inspect.specs.declared.layout.Field.TheVariants.{Rest}

-- i of n records are walked, and the next begins at p
pub record Walked (card : List ℕ) (at n i p : ℕ) : Type 0 where
  pub some : i ≤ n
  pub near : p ≤ 8 + 133 * i
  pub past : p ≤ at
  pub same : field_from (n - i) card at i p ≡ field_from n card at 0 8

pub walked_none : (card : List ℕ) (at n : ℕ) → 8 ≤ at → Walked card at n 0 8
walked_none card at n l =
    let e : n - 0 ≡ n = omega arith in
    record { some = omega arith; near = omega arith; past = l; same = ap (λ m. field_from m card at 0 8) e }

-- one record more, which has this kind and this end
step :
    (card : List ℕ) (at n i p kind end : ℕ) → i < n → kind ≡ nibble_at card p → end ≡ end_of p kind
    → field_from (n - i) card at i p ≡ cond (ltb at end) (in_record i kind p at) (field_from (n - (i + 1)) card at (i + 1) end)
unfolding field_from
step card at n i p kind end l k e =
    let m : n - i ≡ suc (n - (i + 1)) = omega arith in
    rw (e ∙ ap (end_of p) k, k) (ap (λ m. field_from m card at i p) m)

-- the field is one of that record
pub walked_found : {card : List ℕ} {at n i p : ℕ} (kind end : ℕ) → Walked card at n i p → i < n
    → kind ≡ nibble_at card p → end ≡ end_of p kind → at < end → in_record i kind p at ≡ field_from n card at 0 8
walked_found {card} {at} {n} {i} {p} kind end w l k e h =
    sym (simp (lt-ltb _ _ h) at (step card at n i p kind end l k e)) ∙ w.same

pub walked_more : {card : List ℕ} {at n i p : ℕ} (kind end : ℕ) → Walked card at n i p → i < n
    → kind ≡ nibble_at card p → end ≡ end_of p kind → end ≤ p + 133 → end ≤ at → Walked card at n (i + 1) end
walked_more {card} {at} {n} {i} {p} kind end w l k e near h =
    record {
      some = omega arith;
      near = omega (arith, w.near);
      past = h;
      same = sym (simp (le-ltb _ _ h) at (step card at n i p kind end l k e)) ∙ w.same;
    }

pub walked_all : {card : List ℕ} {at n i p : ℕ} → Walked card at n i p → n ≤ i → Rest ≡ field_from n card at 0 8
unfolding field_from
walked_all {card} {at} {n} {i} {p} w l =
    let e : 0 ≡ n - i = omega arith in
    ap (λ m. field_from m card at i p) e ∙ w.same

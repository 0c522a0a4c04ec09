-- What adding 2 ^ 22 - 1/4 does to a value v from 1/4 to below 1024: the sum is rounded to halves. Of these there are, past 2 ^ 22, as many as are
-- nearest to 2 v - 1/2. They are at most 2 v; and at least 2 k for every whole k up to v, since at k itself the sum lies between 2 k - 1 and 2 k,
-- and goes to the even one. So half of them, cut, is the whole part of v. Assumes nothing.
use mathlib.Core.Path.{◌≡◌, refl, sym, ap, ◌∙◌, subst}
use Prim.Native.Nat.{ℕ, ◌+◌, ◌-◌, ◌*◌, ◌/◌, ◌%◌, ◌^◌, ◌≤◌, ◌<◌}
use native.Mathlib.Nat.{le_trans, le_of_eq, mul_assoc, mul-pos, lt_of_mul-lt-mul_right, div-add-mod', mod-lt, div-eq_of_lt}
use native.Mathlib.Omega.{arith}
use mathlib.Core.Bool.{Bool, true, false, not, cond}
use borrow.Author.Tests.{ltb-true, ltb-false}
use lib.Dec.{T, ltb→lt, lit<, lit≤}
use lib.Pow.{pow-add}
use lib.Ieee.{Float, nan, inf, fin, binary32, up, down, add, is_nan, lt, of_bits, to_bits}
use lib.Ieee.Fits.{down_pos}
use lib.Ieee.Nearest.{closest, closest_mono}
use Rattle.num.specs.Const.{c0_25, c4194303_75}
use Rattle.num.specs.Private.{under, floor_of}
use Rattle.num.specs.Steps.{max_of}
use Rattle.num.proofs.NearWhole.{closest_near, at_least, at_most, rounded-bits, past}

-- ---- how many halves there are past 2 ^ 22, for the value A / C

-- at a whole k
between : (k : ℕ) → closest (4 * k + 16777215) 2 ≡ 2 * k + 8388608
between k =
    let q : (4 * k + 16777215) / 2 ≡ 2 * k + 8388607 = omega arith in
    let r : (4 * k + 16777215) % 2 ≡ 1 = omega arith in
    rw (q, r) (omega arith)

module _ (A C : ℕ) (p : 0 < C) (quarter : C ≤ A * 4) (small : A < 1024 * C) where
  abbrev sum : ℕ
  sum = A * 4 + 16777215 * C

  abbrev over : ℕ
  over = C * 4

  pub halves : (n : ℕ) → n ≡ closest (sum * 2) over - 8388608 → 8388608 ≤ closest (sum * 2) over → n / 2 ≡ A / C
  halves n e l =
      let k = A / C in
      let N = closest (sum * 2) over in
      let q : 0 < over = omega arith in
      let whole : k * C + A % C ≡ A = div-add-mod' A C in
      let rest : A % C < C = mod-lt A p in
      let most : N * C ≤ 2 * A + 8388608 * C = omega (arith, (closest_near (sum * 2) over q).1) in
      let least : 2 * k + 8388608 ≤ N =
      le_trans (le_of_eq (sym (between k))) (closest_mono (4 * k + 16777215) 2 (sum * 2) over (lit< tt) q (omega arith)) in
      let is : N ≡ n + 8388608 = omega arith in
      let less : n < 2 * k + 2 = lt_of_mul-lt-mul_right C (few n N k A (A % C) is most whole rest) in
      omega arith
    where
      few : (n N k A r : ℕ) → N ≡ n + 8388608 → N * C ≤ 2 * A + 8388608 * C → k * C + r ≡ A → r < C → n * C < (2 * k + 2) * C
      few n N k A r e m w l = let s : N * C ≡ n * C + 8388608 * C = rw e (omega arith) in omega arith

-- ---- the sum

-- halves are 2 ^ 148 of the units of which there are 2 ^ 149 to 1
halved : (a : ℕ) → a * 2 ^ 149 ≡ a * 2 * 2 ^ 148
halved a = ap (λ (x : ℕ). a * x) (pow-add 2 1 148) ∙ sym (mul_assoc a 2 (2 ^ 148))

-- v, and 1/4 where it is less
abbrev raised : Float → Float
raised v = max_of v c0_25

abbrev pub sum_of : Float → Float
sum_of v = add binary32 (raised v) c4194303_75

-- n halves, past 2 ^ 22, are the sum's pattern, and half of them, cut, the whole part
abbrev Halves : Float → Float → Type 0
Halves v s = (n : ℕ) × (s ≡ of_bits binary32 (1249902592 + n)) × (n / 2 ≡ floor_of v) × (n ≤ 8388608)

abbrev Quarter : Float → Type 0
Quarter nan = ⊥
Quarter (inf s) = ⊥
Quarter (fin s m e) = down e ≤ m * up e * 4

from_quarter : (v : Float) → T (under 1024 v) → Quarter v → Halves v (add binary32 v c4194303_75)
unfolding under add floor_of of_bits
from_quarter nan h q = elim h [ ]
from_quarter (inf _) h q = elim h [ ]
from_quarter (fin true m e) h q = elim h [ ]
from_quarter (fin false m e) h q =
    let A = m * up e in
    let C = down e in
    let a = A * 4 + 16777215 * C in
    let c = C * 4 in
    let l : A < 1024 * C = ltb→lt A (1024 * C) h in
    let p : 0 < c = mul-pos (down_pos e) (lit< tt) in
    let lo : 8388608 * c ≤ a * 2 = omega arith in
    let hi : a * 2 < 16777216 * c = omega arith in
    let N = closest (a * 2) c in
    let n = N - 8388608 in
    let more : 8388608 ≤ N = at_least 148 a (a * 2) c (halved a) (lit≤ tt) p lo hi in
    let most : N ≤ 16777216 = at_most 148 a (a * 2) c (halved a) (lit≤ tt) p lo hi in
    let bits : N + 1241513984 ≡ 1249902592 + n = omega arith in
    (n, rounded-bits 148 a (a * 2) c (halved a) (lit≤ tt) p lo hi ∙ ap (of_bits binary32) bits, halves A C (down_pos e) q l n refl more, omega arith)

at_quarter : Halves c0_25 (add binary32 c0_25 c4194303_75)
unfolding under of_bits
at_quarter = from_quarter c0_25 tt (lit≤ tt)

summed : (v : Float) → T (under 1024 v) → Halves v (sum_of v)
unfolding under max_of lt floor_of of_bits
summed nan h = elim h [ ]
summed (inf _) h = elim h [ ]
summed (fin true m e) h = elim h [ ]
summed (fin false m e) h = go (lt c0_25 (fin false m e)) refl
  where
    go : (b : Bool) → lt c0_25 (fin false m e) ≡ b → Halves (fin false m e) (add binary32 (cond b (fin false m e) c0_25) c4194303_75)
    go true t = let l = ltb-true (1 * down e) (m * up e * 4) t in from_quarter (fin false m e) h (omega arith)
    go false t =
        let z = at_quarter in
        let l = ltb-false (1 * down e) (m * up e * 4) t in
        let none : m * up e / down e ≡ 0 = div-eq_of_lt (omega (arith, down_pos e)) in
        (z.0, z.1, z.2 ∙ sym none, z.3)

pub sum-bits : (v : Float) → T (under 1024 v) → T (not (is_nan (sum_of v))) × (1249902592 ≤ to_bits binary32 (sum_of v)) × ((to_bits binary32 (sum_of v) - 1249902592) / 2 ≡ floor_of v)
sum-bits v h =
    let s = summed v h in
    let p = past (sum_of v) 1249902592 s.0 s.1 (omega (arith, s.3)) in
    (p.0, p.1, subst (λ (k : ℕ). k / 2 ≡ floor_of v) (sym p.2) s.2)

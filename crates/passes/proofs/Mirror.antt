-- The vignette's square is the same at k and at n - k, to the bit, so it need be worked out only at the nearer of the two.
-- k - n/2 has one size at both, |2k - n| / 2, however that is rounded; a quotient changes its sign with it, and a square drops the sign.
-- Assumes nothing.
use lib.Ieee.{nan, inf}
use Rattle.std.proofs.Common.{◌≡◌, ℕ, ◌+◌, ◌-◌, ◌*◌, ◌<◌, ◌≤◌, min, Bool, true, false, cond, ltb, pos, sym, refl, ap, ◌∙◌, subst, true≢false, mul_assoc, mul_comm, add-mul, mul-pos, mul-one, mul_right_comm, arith, lit<, ltb-false, ltb-true}
use native.Mathlib.Nat.{mul-sub}
use lib.Ieee.{Float, fin, binary32, up, down, round, sum, add, sub, div, neg, of_bits}
use lib.Ieee.Exact.{HasValue}
use lib.Ieee.Fits.{down_pos}
use lib.Ieee.Scale.{round_same}
use Rattle.num.specs.Const.{c2_0}
use Rattle.num.specs.F32.{◌⊖◌, ◌⊗◌, ◌⊘◌, whole}
use Rattle.num.specs.Laws.Signs.{round-neg, square_neg, div-neg}
use Rattle.num.specs.Laws.Values.{whole_value, half_value}
use Rattle.passes.specs as Text
use Rattle.passes.specs.Plain.Vignette.{offset_squared}

-- a quotient squared drops the sign of what is divided
abbrev ratio : Float → Float → Float
ratio c x = (x ⊘ c) ⊗ (x ⊘ c)

ratio_sign : (c : Float) (s : Bool) (a b : ℕ) → ratio c (round binary32 s a b) ≡ ratio c (round binary32 false a b)
ratio_sign c false a b = refl
ratio_sign c true a b =
    ap (ratio c) (round-neg binary32 a b)
    ∙ ap (λ (z : Float). z ⊗ z) (div-neg binary32 (round binary32 false a b) c)
    ∙ square_neg binary32 (round binary32 false a b ⊘ c)

-- ---- the size of k - n/2

-- |2k - n|
abbrev gap : ℕ → ℕ → ℕ
gap n k = (n - 2 * k) + (2 * k - n)

sub-mul : (m n k : ℕ) → (m - n) * k ≡ m * k - n * k
sub-mul m n k = mul_comm (m - n) k ∙ mul-sub k m n ∙ ap (λ (z : ℕ). z - k * n) (mul_comm k m) ∙ ap (λ (z : ℕ). m * k - z) (mul_comm k n)

-- A is k over C, and B is n/2 over C
gap-scaled : (A B C k n : ℕ) → A ≡ k * C → B * 2 ≡ n * C → gap n k * C ≡ (B * 2 - A * 2) + (A * 2 - B * 2)
gap-scaled A B C k n a b =
    let two : 2 * k * C ≡ A * 2 = mul_assoc 2 k C ∙ mul_comm 2 (k * C) ∙ ap (λ (z : ℕ). z * 2) (sym a) in
    add-mul (n - 2 * k) (2 * k - n) C
    ∙ ap (λ (z : ℕ). z + (2 * k - n) * C) (sub-mul n (2 * k) C)
    ∙ ap (λ (z : ℕ). (n * C - 2 * k * C) + z) (sub-mul (2 * k) n C)
    ∙ ap (λ (z : ℕ). (n * C - z) + (z - n * C)) two
    ∙ ap (λ (z : ℕ). (z - A * 2) + (A * 2 - z)) (sym b)

-- the two arms of a difference, by which of A and B is less
pick : (A B C k n : ℕ) → 0 < C → A ≡ k * C → B * 2 ≡ n * C → (b : Bool) → ltb A B ≡ b
    → (s : Bool) × (cond b (round binary32 true (B - A) C) (round binary32 false (A - B) C) ≡ round binary32 s (gap n k) 2)
pick A B C k n p a b true t =
    let l : A < B = ltb-true A B t in
    (true, round_same binary32 true (B - A) C (gap n k) 2 p (lit< tt) (omega (arith, gap-scaled A B C k n a b)))
pick A B C k n p a b false t =
    let l : B ≤ A = ltb-false A B t in
    (false, round_same binary32 false (A - B) C (gap n k) 2 p (lit< tt) (omega (arith, gap-scaled A B C k n a b)))

-- k - n/2 is |2k - n| / 2, rounded, with a sign
difference : (x c : Float) (n k : ℕ) → HasValue x false k 1 → HasValue c false n 2 → (s : Bool) × (x ⊖ c ≡ round binary32 s (gap n k) 2)
unfolding sub add neg sum
difference nan c n k v u = elim v [ ]
difference (inf _) c n k v u = elim v [ ]
difference (fin false m e) nan n k v u = elim u [ ]
difference (fin false m e) (inf _) n k v u = elim u [ ]
difference (fin true m e) c n k v u = absurd (true≢false v.0)
difference (fin false m e) (fin true i d) n k v u = absurd (true≢false u.0)
difference (fin false m e) (fin false i d) n k v u =
    pick (m * up e * down d) (i * up d * down e) (down e * down d) k n (mul-pos (down_pos e) (down_pos d))
    (ap (λ (z : ℕ). z * down d) (sym (mul-one (m * up e)) ∙ v.1) ∙ mul_assoc k (down e) (down d))
    (mul_right_comm (i * up d) (down e) 2 ∙ ap (λ (z : ℕ). z * down e) u.1 ∙ mul_assoc n (down d) (down e) ∙ ap (λ (z : ℕ). n * z) (mul_comm (down d) (down e)))
    (ltb (m * up e * down d) (i * up d * down e)) refl

-- ---- the middle, n/2, is exact

two_is : c2_0 ≡ fin false 1 (pos 1)
unfolding of_bits
two_is = refl

half_is : (x : Float) (n : ℕ) → HasValue x false n 1 → x ⊘ fin false 1 (pos 1) ≡ round binary32 false n 2
unfolding div
half_is nan n v = elim v [ ]
half_is (inf _) n v = elim v [ ]
half_is (fin true m e) n v = absurd (true≢false v.0)
half_is (fin false m e) n v =
    round_same binary32 false (m * up e * 1) (2 * down e) n 2 (mul-pos (lit< tt) (down_pos e)) (lit< tt)
    (ap (λ (z : ℕ). z * 2) v.1 ∙ mul_assoc n (down e) 2 ∙ ap (λ (z : ℕ). n * z) (mul_comm (down e) 2))

middle : (n : ℕ) → n ≤ 1024 → HasValue (whole n ⊘ c2_0) false n 2
middle n l =
    subst (λ (x : Float). HasValue x false n 2)
    (sym (ap (λ (z : Float). whole n ⊘ z) two_is ∙ half_is (whole n) n (whole_value n (omega arith)))) (half_value n (omega arith))

-- ---- the law

square_is : (n k : ℕ) → n ≤ 1024 → k ≤ 1024 → offset_squared n k ≡ ratio (whole n ⊘ c2_0) (round binary32 false (gap n k) 2)
unfolding Text.Vignette.offset_squared
square_is n k l m =
    let d = difference (whole k) (whole n ⊘ c2_0) n k (whole_value k (omega arith)) (middle n l) in
    ap (ratio (whole n ⊘ c2_0)) d.1 ∙ ratio_sign (whole n ⊘ c2_0) d.0 (gap n k) 2

-- the nearer to 0 of k and n - k
abbrev pub nearer : ℕ → ℕ → ℕ
nearer n k = min k (n - k)

pub square_nearer : (n k : ℕ) → n ≤ 1024 → k ≤ n → offset_squared n (nearer n k) ≡ offset_squared n k
square_nearer n k l m =
    let same : gap n (nearer n k) ≡ gap n k = omega arith in
    square_is n (nearer n k) l (omega arith) ∙ ap (λ (g : ℕ). ratio (whole n ⊘ c2_0) (round binary32 false g 2)) same ∙ sym (square_is n k l (omega arith))

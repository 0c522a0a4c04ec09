-- A binary32 is told by its sign and its size, and so it is the nearest to its own size; and what its digits and its point say is that size. Assumes nothing.
use Rattle.std.specs.Prelude.{ℕ, zero, suc, ◌+◌, ◌-◌, ◌*◌, ◌/◌, ◌%◌, ◌^◌, ◌≤◌, ◌<◌, ◌≡◌, refl, Bool, true, ◌&&◌, cond, T, leb, ltb, eqb, ℤ, pos, negsuc, Float}
use Rattle.std.proofs.Common.{sym, ap, ◌∙◌, subst, zero-mul, mul-one, mul_comm, mul_assoc, mul_right_comm, mul-lt-mul_of_pos_right}
use Rattle.std.proofs.Common.{lt_of_mul-lt-mul_right, lt_of_not-le, le_of_suc-le-suc, lt_irrefl, lt_of_lt_of_le, arith, ltb→lt, leb→le, eqb→eq, lit≤}
use Rattle.std.proofs.Common.{pow-add, pow_pos}
use Rattle.std.proofs.lemmas.Bool.{false≢true}
use Rattle.std.proofs.Math.Nat.{eq_of_mul-eq-mul_right}
use Rattle.std.specs.Float.{nan, inf, fin, Format, binary32}
use Rattle.std.specs.Float.Ieee.{prec, emax, low, up, down, size, hid, top, of_bits, to_bits, fits, round}
use Rattle.std.specs.Float.Ieee.Bits.{of_bits-to_bits}
use Rattle.std.specs.Float.Ieee.Exact.{HasValue, round_exact}
use Rattle.std.specs.Float.Ieee.Fits.{and_l, and_r, down_pos, round-fits}
use Rattle.std.specs.Float.Ieee.Nearest.{div_same}
use Rattle.std.specs.Float.Ieee.Scale.{finite}
use Rattle.std.proofs.Math.Pow.{pow-lt}
use Rattle.inspect.specs.Decimal.{number, spelled, whole_of, places_of, negative_of, digits_of, point_of, Exactly}
use Rattle.inspect.specs.Laws.Digits.{spelled-number, spelled-digits, ten, fives_room}

-- ## What it is for a format to hold a finite value

reached : (a l : ℕ) → 2 ^ suc a ≤ 2 ^ l → suc a ≤ l
reached a l h = le_of_suc-le-suc (lt_of_not-le (λ (g : suc l ≤ suc a). lt_irrefl (2 ^ l) (lt_of_lt_of_le (pow-lt g) h)))

record Held (f : Format) (m : ℕ) (e : ℤ) : Type 0 where
  small : m < 2 ^ prec f
  near : down e ≤ 2 ^ low f
  far : m * up e < 2 ^ suc (emax f) * down e

held : (f : Format) (t : Bool) (m : ℕ) (e : ℤ) → T (fits f (fin t m e)) → Held f m e
unfolding fits
held f t zero (pos k) h =
    let room : 0 < 2 ^ suc (emax f) * 1 = subst (λ (z : ℕ). 0 < z) (sym (mul-one (2 ^ suc (emax f)))) (pow_pos (suc (emax f))) in
    record { small = pow_pos (prec f); near = pow_pos (low f); far = subst (λ (z : ℕ). z < 2 ^ suc (emax f) * 1) (sym (zero-mul (2 ^ k))) room }
held f t zero (negsuc k) h = absurd (omega (arith, eqb→eq (1 * 2 ^ suc k) 1 h, pow_pos k))
held f t (suc m) e h =
    let A = eqb (suc m % 2) 1 in
    let B = ltb (suc m) (2 ^ prec f) in
    let C = leb (down e) (2 ^ low f) in
    let D = ltb (suc m * up e) (2 ^ suc (emax f) * down e) in
    record {
      small = ltb→lt (suc m) (2 ^ prec f) (and_r A B (and_l (A && B) C (and_l (A && B && C) D h)));
      near = leb→le (down e) (2 ^ low f) (and_r (A && B) C (and_l (A && B && C) D h));
      far = ltb→lt (suc m * up e) (2 ^ suc (emax f) * down e) (and_r (A && B && C) D h);
    }

-- below one, its significand is odd
pub held_odd : (f : Format) (t : Bool) (m k : ℕ) → T (fits f (fin t m (negsuc k))) → m % 2 ≡ 1
unfolding fits
held_odd f t zero k h = absurd (omega (arith, eqb→eq (1 * 2 ^ suc k) 1 h, pow_pos k))
held_odd f t (suc m) k h =
    let A = eqb (suc m % 2) 1 in
    let B = ltb (suc m) (2 ^ prec f) in
    let C = leb (2 ^ suc k) (2 ^ low f) in
    let D = ltb (suc m * 1) (2 ^ suc (emax f) * 2 ^ suc k) in
    eqb→eq (suc m % 2) 1 (and_l A B (and_l (A && B) C (and_l (A && B && C) D h)))

-- ## One value of a sign and a size: its bits follow from them

abbrev bits_for : Format → Bool → ℕ → ℕ
bits_for f s n = cond s (top f) 0 + (size n - prec f) * hid f + n / 2 ^ (size n - prec f)

bits_are : (f : Format) (x : Float) (s : Bool) (n d : ℕ) → 0 < d → HasValue x s n d → to_bits f x ≡ bits_for f s (n * 2 ^ low f / d)
unfolding to_bits
bits_are f nan s n d p v = elim v [ ]
bits_are f (inf _) s n d p v = elim v [ ]
bits_are f (fin t m e) s n d p v =
    let l = 2 ^ low f in
    let cross : m * up e * l * d ≡ n * l * down e = mul_right_comm (m * up e) l d ∙ ap (λ (z : ℕ). z * l) v.1 ∙ mul_right_comm n (down e) l in
    ap (λ (a : ℕ). bits_for f t a) (div_same (m * up e * l) (down e) (n * l) d (down_pos e) p cross)
    ∙ ap (λ (b : Bool). bits_for f b (n * l / d)) v.0

pub unique : (f : Format) (x y : Float) (s : Bool) (n d : ℕ) → T (fits f x) → T (fits f y) → 0 < d → HasValue x s n d → HasValue y s n d → x ≡ y
unique f x y s n d h k p v w =
    sym (of_bits-to_bits f x h) ∙ ap (of_bits f) (bits_are f x s n d p v ∙ sym (bits_are f y s n d p w)) ∙ of_bits-to_bits f y k

-- ## The nearest to an exact value is that value

-- in units of the format's smallest value, m * 2 ^ e is m * 2 ^ j
module _ (l : ℕ) where
  abbrev Placed : ℤ → Type 0
  Placed e = (j : ℕ) × ((m : ℕ) → m * up e * 2 ^ l ≡ m * 2 ^ j * down e)

  joined : (a : ℕ) → suc a ≤ l → l - suc a + suc a ≡ l
  joined a h = omega arith

  placed : (e : ℤ) → down e ≤ 2 ^ l → Placed e
  placed (pos a) h =
      (a + l, λ m. mul_assoc m (2 ^ a) (2 ^ l) ∙ ap (λ (z : ℕ). m * z) (sym (pow-add 2 a l)) ∙ sym (mul-one (m * 2 ^ (a + l))))
  placed (negsuc a) h =
      let j = l - suc a in
      let split : 2 ^ l ≡ 2 ^ j * 2 ^ suc a = ap (λ (z : ℕ). 2 ^ z) (sym (joined a (reached a l h))) ∙ pow-add 2 j (suc a) in
      (j, λ m. ap (λ (z : ℕ). z * 2 ^ l) (mul-one m) ∙ ap (λ (z : ℕ). m * z) split ∙ sym (mul_assoc m (2 ^ j) (2 ^ suc a)))

round_has : (f : Format) (x : Float) (s : Bool) (n d : ℕ) → T (fits f x) → 0 < d → HasValue x s n d → HasValue (round f s n d) s n d
round_has f nan s n d h p v = elim v [ ]
round_has f (inf _) s n d h p v = elim v [ ]
round_has f (fin t m e) s n d h p v =
    let l = low f in
    let hold = held f t m e h in
    let at = placed l e hold.near in
    let q = m * 2 ^ at.0 in
    let most = 2 ^ suc (emax f) in
    let apart : most * down e * 2 ^ l ≡ 2 ^ (l + suc (emax f)) * down e =
    mul_right_comm most (down e) (2 ^ l) ∙ ap (λ (z : ℕ). z * down e) (mul_comm most (2 ^ l) ∙ sym (pow-add 2 l (suc (emax f)))) in
    let scaled : q * down e < most * down e * 2 ^ l =
    subst (λ (z : ℕ). z < most * down e * 2 ^ l) (at.1 m) (mul-lt-mul_of_pos_right hold.far (pow_pos l)) in
    let below : q < 2 ^ (l + suc (emax f)) = lt_of_mul-lt-mul_right (down e) (subst (λ (z : ℕ). q * down e < z) apart scaled) in
    let same : n * 2 ^ l ≡ q * d =
    eq_of_mul-eq-mul_right (down e) (down_pos e) (n * 2 ^ l) (q * d)
    (mul_right_comm n (2 ^ l) (down e) ∙ ap (λ (z : ℕ). z * 2 ^ l) (sym v.1) ∙ mul_right_comm (m * up e) d (2 ^ l)
    ∙ ap (λ (z : ℕ). z * d) (at.1 m) ∙ mul_right_comm q (down e) d) in
    round_exact f s n d m at.0 p hold.small below same

pub back : (x : Float) (s : Bool) (n d : ℕ) → T (fits binary32 x) → 0 < d → HasValue x s n d → round binary32 s n d ≡ x
back x s n d h p v = unique binary32 (round binary32 s n d) x s n d (round-fits binary32 s n d) h p (round_has binary32 x s n d h p v) v

-- ## The digits and the point

few_places : (x : Float) → T (fits binary32 x) → places_of x ≤ 149
unfolding places_of
few_places nan h = omega arith
few_places (inf s) h = omega arith
few_places (fin s m (pos k)) h = omega arith
few_places (fin s m (negsuc k)) h = reached k 149 (held binary32 s m (negsuc k) h).near

-- the digits have room for the number
room : (x : Float) → T (fits binary32 x) → whole_of x < 10 ^ 150
unfolding whole_of
room nan h = lit≤ tt
room (inf s) h = lit≤ tt
room (fin s m (pos k)) h = lt_of_lt_of_le (held binary32 s m (pos k) h).far (lit≤ tt)
room (fin s m (negsuc k)) h =
    let hold = held binary32 s m (negsuc k) h in
    fives_room m (suc k) hold.small (reached k 149 hold.near)

worth : (x : Float) (n : ℕ) → n ≡ whole_of x → finite x ≡ true → HasValue x (negative_of x) n (10 ^ places_of x)
unfolding whole_of places_of negative_of
worth nan n e fine = absurd (false≢true fine)
worth (inf s) n e fine = absurd (false≢true fine)
worth (fin s m (pos k)) n e fine = (refl, ap (λ (z : ℕ). z * 1) (sym e))
worth (fin s m (negsuc k)) n e fine =
    let p = suc k in (
      refl,
      ap (λ (z : ℕ). z * 10 ^ p) (mul-one m) ∙ ap (λ (z : ℕ). m * z) (ten p) ∙ sym (mul_assoc m (2 ^ p) (5 ^ p)) ∙ mul_right_comm m (2 ^ p) (5 ^ p)
          ∙ ap (λ (z : ℕ). z * 2 ^ p) (sym e),
    )

pub exactly : (x : Float) → T (fits binary32 x) → Exactly x (point_of x) (digits_of x)
exactly x h = record {
  digits = spelled-digits (whole_of x);
  few = few_places x h;
  value = worth x (number (spelled 150 (whole_of x))) (spelled-number 150 (whole_of x) (room x h));
}

-- A setting that is a number, as it is printed, is read back. The argument: the digits that are printed, one before the point and all behind it, are worth
-- what all digits of the number are, since a setting is at most 4 in size; the word is a sign and those digits; so what is read is the binary32 nearest to
-- the number itself, which is that number; and a setting in its range is left as it is. Assumes nothing.
use Prim.Native.Nat.{ℕ, zero, suc, ◌+◌, ◌-◌, ◌*◌, ◌^◌, ◌≤◌, ◌<◌}
use mathlib.Core.Bool.{Bool, true, false, ◌&&◌}
use mathlib.Core.List.{List, [], ◌∷◌, ◌++◌}
use mathlib.Core.Path.{◌≡◌, refl, sym, ap, ap₂, subst, ◌∙◌}
use native.Mathlib.Nat.{add-mul, mul_assoc, mul_comm, mul_right_comm, mul-le-mul_right, mul-suc, pow-suc, pow-le-pow_right, le_trans, zero-mul}
use native.Mathlib.Omega.{arith}
use borrow.Author.Tests.{eq-eqb, ne_eqb, le-leb, lt-ltb, ltb-false, eqb-true, eqb-false}
use lib.Dec.{T, eqb, leb, ltb, lit<, lit≤}
use lib.IntN.{ℤ}
use lib.Ieee.{Float, nan, inf, fin, binary32, of_bits, fits, round, lt, neg, up, down}
use lib.Ieee.Exact.{HasValue}
use lib.Ieee.Fits.{down_pos}
use lib.ListN.{length, get_or, take, drop}
use lib.Seq.{take-length, take-nil}
use Rattle.cards.proofs.Back.{Settled, limit_kept}
use Rattle.std.specs.Prelude.{Some, Ok}
use Rattle.inspect.specs.Decimal.{number, digits_of, places_of, negative_of}
use Rattle.inspect.specs.Laws.Decimal.{back, exactly}
use Rattle.inspect.specs.declared.settings.Setting.TheVariants as S
use Rattle.num.specs.Const.{c0_0, c0_01, c0_5, c0_95, c1_0, c4_0}
use Rattle.num.specs.Laws.Bools.{false_true}
use Rattle.num.specs.Laws.Order.{none_left}
use Rattle.num.specs.Laws.Within.{cross}
use Rattle.texts.specs.Claims.{each}
use Rattle.texts.specs.Numbers.{is_digit, digit as value, worth, shape_of, is_number, is_plain, between, value_in, decimal_of}
use Rattle.texts.specs.Print.{digit, pointed, sign_text, real_text}
use Rattle.texts.specs.Print.{down as printed}
use Rattle.texts.specs.Settings.{real_of}
use Rattle.texts.specs.Words.{front}
use Rattle.texts.specs.declared.numbers.Shape.{Shape}
use Rattle.texts.specs.declared.numbers.Decimal.{Decimal}
use Rattle.texts.proofs.CountBack.{below-is}
use Rattle.texts.proofs.Lexing.{front_all, lettered, Word}
use Rattle.texts.proofs.Printed.{point_none, point-some, down-length}

-- ## What digits are worth

value_back : (d : ℕ) → d < 10 → value (digit d) ≡ d
value_back d l = let same : 48 + d - 48 ≡ d = omega arith in rw (le-leb 48 (48 + d) (omega arith), le-leb (48 + d) 57 (omega (arith, l))) same

-- one digit more
take-number : (ds : List ℕ) (p : ℕ) → number (take (suc p) ds) ≡ number (take p ds) + 10 ^ p * get_or ds p 0
unfolding number
take-number [] p = rw (take-nil {A = ℕ} p) (omega arith)
take-number (d ∷ ds) zero = omega arith
take-number (d ∷ ds) (suc p) =
    let P = 10 ^ p in
    let g = get_or ds p 0 in
    let ten : 10 ^ suc p ≡ P * 10 = pow-suc 10 p in
    rw ten (omega (arith, take-number ds p, mul_right_comm P 10 g))

split_number : (ds : List ℕ) (p : ℕ) → number ds ≡ number (take p ds) + 10 ^ p * number (drop p ds)
unfolding number
split_number ds zero = omega arith
split_number [] (suc p) = omega arith
split_number (d ∷ ds) (suc p) =
    let P = 10 ^ p in
    let g = number (drop p ds) in
    let ten : 10 ^ suc p ≡ P * 10 = pow-suc 10 p in
    rw ten (omega (arith, split_number ds p, mul_right_comm P 10 g))

worth-printed : (p v : ℕ) (ds : List ℕ) → ((i : ℕ) → get_or ds i 0 < 10) → worth v (printed p ds) ≡ v * 10 ^ p + number (take p ds)
unfolding worth printed number
worth-printed zero v ds each = omega arith
worth-printed (suc p) v ds each =
    let P = 10 ^ p in
    let g = get_or ds p 0 in
    let ten : 10 ^ suc p ≡ P * 10 = pow-suc 10 p in
    let one : (v * 10 + g) * P ≡ v * 10 * P + g * P = add-mul (v * 10) g P in
    let same : v * 10 * P ≡ v * (P * 10) = mul_right_comm v 10 P ∙ mul_assoc v P 10 in
    ap (λ (k : ℕ). worth (v * 10 + k) (printed p ds)) (value_back g (each p))
    ∙ worth-printed p (v * 10 + g) ds each
    ∙ rw ten (omega (arith, one, same, mul_comm g P, take-number ds p))

few-left : (P M n r : ℕ) → n ≡ r + P * M → n < P → n ≡ r
few-left P zero n r e l = omega (arith, e)
few-left P (suc M) n r e l = absurd (omega (arith, e, l, mul-suc P M))

-- the printed digits of a number below ten times ten to its places are worth as much as all
printed_all : (p : ℕ) (ds : List ℕ) → ((i : ℕ) → get_or ds i 0 < 10) → number ds < 10 ^ suc p → worth 0 (printed (suc p) ds) ≡ number ds
printed_all p ds each l =
    let P = 10 ^ suc p in
    worth-printed (suc p) 0 ds each
    ∙ omega (arith, few-left P (number (drop (suc p) ds)) (number ds) (number (take (suc p) ds)) (split_number ds (suc p)) l, zero-mul P)

-- ## The shape of the word

number_is : (s : Shape) (long : ℕ) → s.end ≡ long → s.point - s.start ≤ 7 → s.end - s.behind ≤ 150
    → 0 < s.point - s.start + (s.end - s.behind) → is_number s long ≡ true
unfolding is_number
number_is s long a b c d =
    let before = s.point - s.start in
    let after = s.end - s.behind in
    rw (eq-eqb s.end long a, le-leb before 7 b, le-leb after 150 c, lt-ltb 0 (before + after) d) refl

decimal-is : (word : List ℕ) (s : Shape) → shape_of word ≡ s → is_number s (length word) ≡ true
    → (d : Decimal) × (decimal_of word ≡ Some d) × (d.nearest ≡ value_in s word)
unfolding decimal_of
decimal-is word s e n =
    (record { plain = is_plain s (length word); whole = worth 0 (between s.start s.point word); nearest = value_in s word }, rw (e, n) refl, refl)

-- what is read is a sign and a number over ten to its places
record Reads (word : List ℕ) (s : Bool) (n places : ℕ) : Type 0 where
  found : Decimal
  is : decimal_of word ≡ Some found
  near : found.nearest ≡ round binary32 s n (10 ^ places)

-- a byte that is a digit, and so no sign
record Digit (b : ℕ) : Type 0 where
  least : leb 48 b ≡ true
  most : leb b 57 ≡ true
  plus : eqb b 43 ≡ false
  minus : eqb b 45 ≡ false

digit-is : (d : ℕ) → d < 10 → Digit (digit d)
digit-is d l = record {
  least = le-leb 48 (48 + d) (omega arith);
  most = le-leb (48 + d) 57 (omega (arith, l));
  plus = ne_eqb (48 + d) 43 (λ e. omega arith);
  minus = ne_eqb (48 + d) 45 (λ e. omega arith);
}

abbrev shape : (start point behind end : ℕ) → Shape
shape start point behind end = record { start = start; point = point; behind = behind; end = end }

module _ (b : ℕ) (t : Digit b) where
  -- one digit
  shape_one : shape_of (b ∷ []) ≡ shape 0 1 1 1
  unfolding shape_of front
  shape_one = rw (t.plus, t.minus, t.least, t.most) refl

  shape_minus_one : shape_of (45 ∷ b ∷ []) ≡ shape 1 2 2 2
  unfolding shape_of front
  shape_minus_one = rw (t.least, t.most) refl

  reads-one : Reads (b ∷ []) false (worth 0 (b ∷ [])) 0
  reads-one =
      let h = decimal-is (b ∷ []) (shape 0 1 1 1) shape_one (number_is (shape 0 1 1 1) 1 refl (omega arith) (omega arith) (omega arith)) in
      record { found = h.0; is = h.1; near = h.2 ∙ ap (λ (s : Bool). round binary32 s (worth 0 (b ∷ [])) 1) t.minus }

  reads_minus_one : Reads (45 ∷ b ∷ []) true (worth 0 (b ∷ [])) 0
  reads_minus_one =
      let h = decimal-is (45 ∷ b ∷ []) (shape 1 2 2 2) shape_minus_one (number_is (shape 1 2 2 2) 2 refl (omega arith) (omega arith) (omega arith)) in
      record { found = h.0; is = h.1; near = h.2 }

  -- and those behind a point
  module _ (ds : List ℕ) (e : each is_digit ds ≡ true) (few : length ds ≤ 150) where
    shape_more : shape_of (b ∷ 46 ∷ ds) ≡ shape 0 1 2 (2 + length ds)
    unfolding shape_of front
    shape_more = rw (t.plus, t.minus, t.least, t.most, front_all is_digit ds e) refl

    shape_minus_more : shape_of (45 ∷ b ∷ 46 ∷ ds) ≡ shape 1 2 3 (3 + length ds)
    unfolding shape_of front
    shape_minus_more = rw (t.least, t.most, front_all is_digit ds e) refl

    value_more : value_in (shape 0 1 2 (2 + length ds)) (b ∷ 46 ∷ ds) ≡ round binary32 false (worth 0 (b ∷ ds)) (10 ^ length ds)
    value_more =
        let same : 2 + length ds - 2 ≡ length ds = omega arith in
        rw (same, take-length ds, t.minus) refl

    value_minus_more : value_in (shape 1 2 3 (3 + length ds)) (45 ∷ b ∷ 46 ∷ ds) ≡ round binary32 true (worth 0 (b ∷ ds)) (10 ^ length ds)
    value_minus_more =
        let same : 3 + length ds - 3 ≡ length ds = omega arith in
        rw (same, take-length ds) refl

    reads_more : Reads (b ∷ 46 ∷ ds) false (worth 0 (b ∷ ds)) (length ds)
    reads_more =
        let s = shape 0 1 2 (2 + length ds) in
        let fine = number_is s (length (b ∷ 46 ∷ ds)) (omega arith) (omega arith) (omega arith) (omega arith) in
        let h = decimal-is (b ∷ 46 ∷ ds) s shape_more fine in
        record { found = h.0; is = h.1; near = h.2 ∙ value_more }

    reads_minus_more : Reads (45 ∷ b ∷ 46 ∷ ds) true (worth 0 (b ∷ ds)) (length ds)
    reads_minus_more =
        let s = shape 1 2 3 (3 + length ds) in
        let fine = number_is s (length (45 ∷ b ∷ 46 ∷ ds)) (omega arith) (omega arith) (omega arith) (omega arith) in
        let h = decimal-is (45 ∷ b ∷ 46 ∷ ds) s shape_minus_more fine in
        record { found = h.0; is = h.1; near = h.2 ∙ value_minus_more }

-- ## The word of a number

reads_as : {word other : List ℕ} {s : Bool} {n m p q : ℕ} → Reads word s n p → word ≡ other → n ≡ m → p ≡ q → Reads other s m q
reads_as {word} {other} {s} {n} {m} {p} {q} r e f g =
    subst (λ (w : List ℕ). Reads w s m q) e (subst (λ (k : ℕ). Reads word s k q) f (subst (λ (k : ℕ). Reads word s n k) g r))

digits-lettered : (d : ℕ) → d < 10 → lettered (digit d) ≡ true
digits-lettered = below-is 10 (λ d. lettered (digit d)) refl

module _ (ds : List ℕ) (tens : (i : ℕ) → get_or ds i 0 < 10) where
  printed-digits : (p : ℕ) → each is_digit (printed p ds) ≡ true
  unfolding printed
  printed-digits zero = refl
  printed-digits (suc p) = let t = digit-is (get_or ds p 0) (tens p) in rw (t.least, t.most, printed-digits p) refl

  printed_letters : (p : ℕ) → each lettered (printed p ds) ≡ true
  unfolding printed
  printed_letters zero = refl
  printed_letters (suc p) = ap₂ (λ (a b : Bool). a && b) (digits-lettered (get_or ds p 0) (tens p)) (printed_letters p)

  pointed_word : (p : ℕ) → Word (pointed p ds)
  unfolding pointed
  pointed_word zero = record { letters = ap (λ (a : Bool). a && true) (digits-lettered (get_or ds 0 0) (tens 0)); full = refl }
  pointed_word (suc p) =
      subst Word (point-some (suc p) ds (λ e. omega (arith, e)))
      (record { letters = ap₂ (λ (a b : Bool). a && b) (digits-lettered (get_or ds (suc p) 0) (tens (suc p))) (printed_letters (suc p)); full = refl })

  signed_word : (s : Bool) (p : ℕ) → Word (sign_text s ++ pointed p ds)
  signed_word true p = record { letters = (pointed_word p).letters; full = refl }
  signed_word false p = pointed_word p

  module _ (p : ℕ) (few : p ≤ 149) (low : number ds < 10 ^ suc p) where
    all_worth : worth 0 (digit (get_or ds p 0) ∷ printed p ds) ≡ number ds
    unfolding printed
    all_worth = printed_all p ds tens low

    t : Digit (digit (get_or ds p 0))
    t = digit-is (get_or ds p 0) (tens p)

    none_behind : p ≡ 0 → worth 0 (digit (get_or ds p 0) ∷ []) ≡ number ds
    unfolding printed
    none_behind e = rw e (printed_all 0 ds tens (subst (λ (k : ℕ). number ds < 10 ^ suc k) e low))

    few-behind : length (printed p ds) ≤ 150
    few-behind = omega (arith, down-length p ds)

    signed_reads : (s : Bool) (a : Bool) → eqb p 0 ≡ a → Reads (sign_text s ++ pointed p ds) s (number ds) p
    signed_reads true true e =
        let z : p ≡ 0 = eqb-true p 0 e in
        reads_as (reads_minus_one (digit (get_or ds p 0)) t) (ap (λ (w : List ℕ). 45 ∷ w) (point_none p ds z)) (none_behind z) (sym z)
    signed_reads false true e =
        let z : p ≡ 0 = eqb-true p 0 e in
        reads_as (reads-one (digit (get_or ds p 0)) t) (point_none p ds z) (none_behind z) (sym z)
    signed_reads true false e =
        reads_as (reads_minus_more (digit (get_or ds p 0)) t (printed p ds) (printed-digits p) few-behind)
        (ap (λ (w : List ℕ). 45 ∷ w) (point-some p ds (eqb-false p 0 e))) all_worth (down-length p ds)
    signed_reads false false e =
        reads_as (reads_more (digit (get_or ds p 0)) t (printed p ds) (printed-digits p) few-behind)
        (point-some p ds (eqb-false p 0 e)) all_worth (down-length p ds)

-- ## Settings are small

-- finite, and at most 4 in size
abbrev pub Small : Float → Type 0
Small nan = ⊥
Small (inf s) = ⊥
Small (fin s m e) = m * up e ≤ 4 * down e

less : (m : ℕ) (e : ℤ) (n : ℕ) (d : ℤ) → n * up d ≤ 4 * down d → m * up e * down d ≤ n * up d * down e → m * up e ≤ 4 * down e
less m e n d h l =
    cross (m * up e) (4 * down d) (down e) (down d) 4 (down_pos d) refl
    (le_trans l (mul-le-mul_right (down e) h))

nothing_left : (m : ℕ) (e d : ℤ) (k : ℕ) → ltb 0 k ≡ false → m * up e * down d ≤ k → m * up e ≤ 4 * down e
nothing_left m e d k z l =
    let none : m * up e ≡ 0 = none_left (m * up e) (down d) (down_pos d) (omega (arith, ltb-false 0 k z, l)) in
    omega (arith, none)

settled-small : (low high x : Float) → Small low → Small high → Settled low high x → Small x
unfolding lt
settled-small low high nan a b t = false_true t.number
settled-small low high (inf s) a b t = false_true t.number
settled-small low nan (fin false m e) a b t = absurd b
settled-small low (inf u) (fin false m e) a b t = absurd b
settled-small low (fin false n d) (fin false m e) a b t = less m e n d b (ltb-false (n * up d * down e) (m * up e * down d) t.below)
settled-small low (fin true n d) (fin false m e) a b t = nothing_left m e d (n * up d * down e + m * up e * down d) t.below (omega arith)
settled-small nan high (fin true m e) a b t = absurd a
settled-small (inf u) high (fin true m e) a b t = absurd a
settled-small (fin true n d) high (fin true m e) a b t = less m e n d a (ltb-false (n * up d * down e) (m * up e * down d) t.above)
settled-small (fin false n d) high (fin true m e) a b t = nothing_left m e d (m * up e * down d + n * up d * down e) t.above (omega arith)

value_small : (x : Float) (s : Bool) (n c : ℕ) → Small x → HasValue x s n c → n ≤ 4 * c
value_small nan s n c a v = absurd a
value_small (inf t) s n c a v = absurd a
value_small (fin t m e) s n c a v =
    cross n (4 * down e) c (down e) 4 (down_pos e) refl
    (subst (λ (k : ℕ). k ≤ 4 * down e * c) v.1 (mul-le-mul_right c a))

-- ## Read back

pub real-word : (x : Float) → T (fits binary32 x) → Word (real_text x)
unfolding real_text
real-word x h = signed_word (digits_of x) (exactly x h).digits.each (negative_of x) (places_of x)

pub real_back : (low high x : Float) → Small low → Small high → Settled low high x → real_of low high (decimal_of (real_text x)) ≡ Ok (S.Real x)
unfolding real_of real_text
real_back low high x a b t =
    let ds = digits_of x in
    let p = places_of x in
    let n = number ds in
    let q = exactly x t.held in
    let v = q.value t.number in
    let small : n ≤ 4 * 10 ^ p = value_small x (negative_of x) n (10 ^ p) (settled-small low high x a b t) v in
    let some : 0 < 10 ^ p = pow-le-pow_right {n = 10} (lit< tt) {i = 0} {j = p} (omega arith) in
    let fits_one : n < 10 ^ suc p = subst (λ (k : ℕ). n < k) (sym (pow-suc 10 p)) (omega (arith, small, some)) in
    let r = signed_reads ds q.digits.each p q.few fits_one (negative_of x) (eqb p 0) refl in
    let same : r.found.nearest ≡ x = r.near ∙ back x (negative_of x) n (10 ^ p) t.held some v in
    rw (r.is, same, t.above, t.below, limit_kept low high x t) refl

-- ## The ends of the ranges

pub zero-small : Small c0_0
unfolding of_bits
zero-small = lit≤ tt

pub hundredth_small : Small c0_01
unfolding of_bits
hundredth_small = lit≤ tt

pub half-small : Small c0_5
unfolding of_bits
half-small = lit≤ tt

pub most-small : Small c0_95
unfolding of_bits
most-small = lit≤ tt

pub one-small : Small c1_0
unfolding of_bits
one-small = lit≤ tt

pub minus_small : Small (neg c1_0)
unfolding of_bits neg
minus_small = lit≤ tt

pub four-small : Small c4_0
unfolding of_bits
four-small = lit≤ tt

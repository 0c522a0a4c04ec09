-- Decimal digits, one after another from the last: those of a number, and those of a number times a small one, with a carry. Assumes nothing.
use Prim.Native.Nat.{ℕ, zero, suc, ◌+◌, ◌-◌, ◌*◌, ◌/◌, ◌%◌, ◌^◌, ◌≤◌, ◌<◌}
use mathlib.Core.Path.{◌≡◌, refl, sym, ap, ◌∙◌, subst}
use mathlib.Core.List.{List, [], ◌∷◌, ◌++◌, append-nil}
use native.Mathlib.Nat.{zero-mul, suc-mul, add-mul, mul_assoc, mul-le-mul_right}
use native.Mathlib.Numerals.{add-one, unary_clauses}
use native.Mathlib.Omega.{arith}
use lib.ListN.{length, get_or, set, take, drop, length-set, drop_of_length-le}
use lib.Seq.{take_all, append_snoc, drop-cons, take-suc-set, drop-set-lt, drop-drop}
use Rattle.inspect.specs.Decimal.{number, Digits, spelled}
use Rattle.inspect.specs.Laws.Digits.{spelled-number, spelled-digits}
use Rattle.inspect.specs.Private.{Times}

-- ## The digits of a number

-- i digits are stored
pub record Spelled (m : ℕ) (i rest : ℕ) (out : List ℕ) : Type 0 where
  pub within : i ≤ 150
  pub long : length out ≡ 150
  pub same : spelled 150 m ≡ take i out ++ spelled (150 - i) rest

pub unspelled : (m : ℕ) (out : List ℕ) → length out ≡ 150 → Spelled m 0 m out
unspelled m out l = record { within = omega arith; long = l; same = refl }

module _ {m i rest : ℕ} {out : List ℕ} (s : Spelled m i rest out) where
  pub spell_more : i < 150 → Spelled m (i + 1) (rest / 10) (set out i (rest % 10))
  unfolding spelled
  spell_more l =
      let left : 150 - i ≡ suc (150 - suc i) = omega arith in
      record {
        within = omega arith;
        long = length-set out i (rest % 10) ∙ s.long;
        same = rw add-one (s.same ∙ ap (λ (k : ℕ). take i out ++ spelled k rest) left ∙ sym (append_snoc (take i out) (rest % 10) (spelled (150 - suc i) (rest / 10)))
            ∙ ap (λ (xs : List ℕ). xs ++ spelled (150 - suc i) (rest / 10)) (sym (take-suc-set out i (rest % 10) (omega (arith, s.long)))));
      }

  pub spelled_all : 150 ≤ i → m < 10 ^ 150 → Digits out × (number out ≡ m)
  unfolding spelled
  spelled_all l small =
      let none_left : 150 - i ≡ 0 = omega arith in
      let all : spelled 150 m ≡ out = s.same ∙ ap (λ (k : ℕ). take i out ++ spelled k rest) none_left ∙ append-nil (take i out) ∙ take_all i out (omega (arith, s.long)) in
      (subst Digits all (spelled-digits m), ap number (sym all) ∙ spelled-number 150 m small)

-- ## Times a small number

-- the digits, and the carry that is left
unfoldable pub times_of : ℕ → ℕ → List ℕ → List ℕ
times_of by carry [] = []
times_of by carry (d ∷ ds) = (d * by + carry) % 10 ∷ times_of by ((d * by + carry) / 10) ds

unfoldable pub last_of : ℕ → ℕ → List ℕ → ℕ
last_of by carry [] = carry
last_of by carry (d ∷ ds) = last_of by ((d * by + carry) / 10) ds

-- what they write
times-number : (by carry : ℕ) (ds : List ℕ) → number (times_of by carry ds) + last_of by carry ds * 10 ^ length ds ≡ number ds * by + carry
unfolding times_of last_of number
times-number by carry [] = omega arith
times-number by carry (d ∷ ds) =
    let v = d * by + carry in
    let l = last_of by (v / 10) ds in
    let p = 10 ^ length ds in
    let rest : number (times_of by (v / 10) ds) + l * p ≡ number ds * by + v / 10 = times-number by (v / 10) ds in
    let spread : (d + 10 * number ds) * by ≡ d * by + 10 * (number ds * by) = add-mul d (10 * number ds) by ∙ ap (λ (n : ℕ). d * by + n) (mul_assoc 10 (number ds) by) in
    let ten : l * 10 ^ suc (length ds) ≡ l * p * 10 = simp unary_clauses (sym (mul_assoc l p 10)) in
    step v (number (times_of by (v / 10) ds)) (l * p) (l * 10 ^ suc (length ds)) ((d + 10 * number ds) * by) (number ds * by) carry (d * by) rest spread ten refl
  where
    step : (v n lp last all some c db : ℕ) → n + lp ≡ some + v / 10 → all ≡ db + 10 * some → last ≡ lp * 10 → v ≡ db + c → v % 10 + 10 * n + last ≡ all + c
    step v n lp last all some c db a b e f = omega arith

-- ## The loop: i digits are done

pub record Multiplied (by more : ℕ) (ds : List ℕ) (i carry : ℕ) (out : List ℕ) : Type 0 where
  pub within : i ≤ 150
  pub digits : Digits out
  pub small : carry < by
  pub rest : drop i out ≡ drop i ds
  pub same : times_of by more ds ≡ take i out ++ times_of by carry (drop i ds)
  pub last : last_of by more ds ≡ last_of by carry (drop i ds)

pub none : (by more : ℕ) (ds : List ℕ) → Digits ds → more < by → Multiplied by more ds 0 more ds
none by more ds d l = record { within = omega arith; digits = d; small = l; rest = refl; same = refl; last = refl }

nine : (d : ℕ) → d < 10 → d ≤ 9
nine d h = omega arith

-- a digit times at most 5, with a carry, stays below 50, and its carry below `by`
pub little : (d by carry : ℕ) → d < 10 → by ≤ 5 → carry < by → d * by + carry < 50
little d by carry h k l = omega (arith, mul-le-mul_right by (nine d h))

carried : (d by carry : ℕ) → d < 10 → carry < by → (d * by + carry) / 10 < by
carried d by carry h l = omega (arith, mul-le-mul_right by (nine d h))

set_below : (ds : List ℕ) (i d : ℕ) → ((j : ℕ) → get_or ds j 0 < 10) → d < 10 → (j : ℕ) → get_or (set ds i d) j 0 < 10
set_below [] i d h l j = h j
set_below (x ∷ ds) zero d h l zero = l
set_below (x ∷ ds) zero d h l (suc j) = h (suc j)
set_below (x ∷ ds) (suc i) d h l zero = h 0
set_below (x ∷ ds) (suc i) d h l (suc j) = set_below ds i d (λ k. h (suc k)) l j

module _ {by more : ℕ} {ds : List ℕ} {i carry : ℕ} {out : List ℕ} (m : Multiplied by more ds i carry out) (l : i < 150) where
  abbrev d : ℕ
  d = get_or out i 0

  abbrev v : ℕ
  v = d * by + carry

  inside : i < length out
  inside = omega (arith, m.digits.long)

  front : drop i ds ≡ d ∷ drop (suc i) ds
  front =
      sym m.rest ∙ drop-cons out i 0 inside
      ∙ ap (λ (xs : List ℕ). d ∷ xs) (ap (λ (k : ℕ). drop k out) (sym (add-one i)) ∙ sym (drop-drop 1 i out) ∙ ap (drop 1) m.rest ∙ drop-drop 1 i ds ∙ ap (λ (k : ℕ). drop k ds) (add-one i))

  pub turn : Multiplied by more ds (i + 1) (v / 10) (set out i (v % 10))
  unfolding times_of last_of
  turn = record {
    within = omega arith;
    digits = record { long = length-set out i (v % 10) ∙ m.digits.long; each = set_below out i (v % 10) m.digits.each (omega arith) };
    small = carried d by carry (m.digits.each i) m.small;
    rest = drop-set-lt (i + 1) out i (v % 10) (omega arith) ∙ sym (drop-drop 1 i out) ∙ ap (drop 1) m.rest ∙ drop-drop 1 i ds;
    same = rw add-one (m.same ∙ ap (λ (xs : List ℕ). take i out ++ times_of by carry xs) front ∙ sym (append_snoc (take i out) (v % 10) (times_of by (v / 10) (drop (suc i) ds)))
        ∙ ap (λ (xs : List ℕ). xs ++ times_of by (v / 10) (drop (suc i) ds)) (sym (take-suc-set out i (v % 10) inside)));
    last = rw add-one (m.last ∙ ap (last_of by carry) front);
  }

-- all digits are done
pub done : {by more : ℕ} {ds : List ℕ} {i carry : ℕ} {out : List ℕ} → Multiplied by more ds i carry out → Digits ds → 150 ≤ i → Times by more ds carry out
unfolding times_of last_of
done {by} {more} {ds} {i} {carry} {out} m h l =
    let none_left : drop i ds ≡ [] = drop_of_length-le ds {i = i} (omega (arith, h.long)) in
    let all : times_of by more ds ≡ out =
    m.same ∙ ap (λ (xs : List ℕ). take i out ++ times_of by carry xs) none_left ∙ append-nil (take i out) ∙ take_all i out (omega (arith, m.digits.long)) in
    let left : last_of by more ds ≡ carry = m.last ∙ ap (last_of by carry) none_left in
    record {
      digits = m.digits;
      small = m.small;
      whole = ap (λ (c : ℕ). number out + c * 10 ^ 150) (sym left) ∙ ap (λ (k : ℕ). number out + last_of by more ds * 10 ^ k) (sym h.long)
          ∙ ap (λ (xs : List ℕ). number xs + last_of by more ds * 10 ^ length ds) (sym all) ∙ times-number by more ds;
    }

-- no carry is left where the product has no more digits
pub kept : {by more : ℕ} {ds : List ℕ} {carry : ℕ} {out : List ℕ} → Times by more ds carry out → number ds * by + more < 10 ^ 150 → number out ≡ number ds * by + more
kept {by} {more} {ds} {carry} {out} t = go (10 ^ 150) carry (number out) (number ds * by + more) t.whole
  where
    go : (p c n w : ℕ) → n + c * p ≡ w → w < p → n ≡ w
    go p zero n w e l = omega (arith, zero-mul p)
    go p (suc c) n w e l = absurd (omega (arith, suc-mul c p))

-- `casts` and `checked` agree with the number steps where these are defined. Assumes nothing.
use Rattle.std.specs.Prelude.{◌≡◌, ℕ, ◌+◌, ◌*◌, ◌/◌, ◌%◌, ◌≤◌, min, Bool, true, false, cond, not, ◌&&◌, T, length, bit_or, nat_le, refl, Float}
use Rattle.std.proofs.Common.{sym, ap, ap₂, ◌∙◌, subst, mul_comm, arith, le-leb, lt-ltb, le→leb}
use Rattle.std.proofs.Math.Nat.{div-le_of_le-mul}
use Rattle.std.proofs.lemmas.Nat.{or_shifted}
use Rattle.std.specs.Float.Ieee.Fits.{and_i}
use Rattle.std.specs.Float.Ieee as Ieee
use Rattle.std.specs.Float.{nan, inf, fin}
use Rattle.std.specs.Float.Ieee.{up, down, lt, le, to_unsigned}
use Rattle.std.specs.Float.Ieee.Scale.{finite}
use Rattle.num.specs.Const.{c0_0}
use Rattle.num.specs.F32 as F32
use Rattle.num.specs.Root.{root_of}
use Rattle.num.specs.Steps.{clamp_of, min_of, max_of, abs_of, cut_of, round_of}
use Rattle.num.specs.Ranges.{within, Signed}
use Rattle.num.specs.Laws.Within.{size-le}
use Rattle.num.specs.Laws.Bounds.{int_within}
use Rattle.num.specs.Laws.Bools.{is_true}
use Rattle.passes.specs.Arith.{Agrees}
use Rattle.num.specs.Laws.Sized.{sized_finite, within-sized}
use Rattle.passes.specs.Casts.{joined, casts, Checked, value, keep, one, two, three, compare, plus_sign, stop, cut_checked, checked}

-- ---- what is finite stays finite

neg_finite : (x : Float) → T (finite x) → T (finite (Ieee.neg x))
unfolding Ieee.neg
neg_finite nan t = t
neg_finite (inf s) t = t
neg_finite (fin s m e) t = tt

abs_finite : (x : Float) → T (finite x) → T (finite (abs_of x))
unfolding abs_of
abs_finite nan t = t
abs_finite (inf s) t = t
abs_finite (fin s m e) t = tt

pick_finite : (b : Bool) (x y : Float) → T (finite x) → T (finite y) → T (finite (cond b x y))
pick_finite true x y s t = s
pick_finite false x y s t = t

module _ (x y z : Float) (r : T (finite x)) (s : T (finite y)) where
  min_finite : T (finite (min_of x y))
  unfolding min_of
  min_finite = pick_finite (lt x y) x y r s

  max_finite : T (finite (max_of x y))
  unfolding max_of
  max_finite = pick_finite (lt y x) x y r s

  clamp_finite : T (finite z) → T (finite (clamp_of x y z))
  unfolding clamp_of
  clamp_finite t = pick_finite (lt x y) y (cond (lt z x) z x) s (pick_finite (lt z x) z x t r)

whole_finite : (n : ℕ) → n ≤ 16777216 → T (finite (F32.whole n))
whole_finite n l = sized_finite n (F32.whole n) (within-sized n (F32.whole n) (int_within n l))

-- ---- Rust's casts

cast_same : (x : Float) → T (within 1023 x) → to_unsigned 32 x ≡ cut_of x
unfolding within to_unsigned cut_of
cast_same nan h = absurd h
cast_same (inf s) h = absurd h
cast_same (fin true m e) h = refl
cast_same (fin false m e) h =
    let l = size-le 1023 false m e h in
    let q : m * up e / down e ≤ 1023 =
    div-le_of_le-mul (down e) (subst (λ (x : ℕ). m * up e ≤ x) (mul_comm 1023 (down e)) l) in
    rw (le-leb (m * up e) (1023 * down e) l) (small (m * up e / down e) q)
  where
    small : (n : ℕ) → n ≤ 1023 → min n 4294967295 ≡ n
    small n l = omega arith

joined_same : (r g b : ℕ) → r ≤ 255 → g ≤ 255 → b ≤ 255 → joined r g b ≡ r * 65536 + g * 256 + b
joined_same r g b R H B =
    let p : r * 65536 % 4294967296 ≡ r * 65536 = omega arith in
    let q : g * 256 % 4294967296 ≡ g * 256 = omega arith in
    let e : bit_or (r * 65536) (g * 256) ≡ r * 65536 + g * 256 = or_shifted r 16 (g * 256) (omega arith) in
    let f : r * 65536 + g * 256 ≡ (r * 256 + g) * 256 = omega arith in
    rw (p, q, e, f) (or_shifted (r * 256 + g) 8 b (omega arith))

pub casts_agree : Agrees casts
casts_agree =
    record {
      same = λ a x. (a ≡ x) × T (finite x);
      number = λ h. h.1;
      lit = λ x t. (refl, t);
      whole = λ n l. (refl, whole_finite n l);
      plus = λ h g t. (ap₂ (λ (x y : Float). F32.◌⊕◌ x y) h.0 g.0, t);
      minus = λ h g t. (ap₂ (λ (x y : Float). F32.◌⊖◌ x y) h.0 g.0, t);
      times = λ h g t. (ap₂ (λ (x y : Float). F32.◌⊗◌ x y) h.0 g.0, t);
      over = λ h g t. (ap₂ (λ (x y : Float). F32.◌⊘◌ x y) h.0 g.0, t);
      round = λ h t. (ap round_of h.0, t);
      neg = λ {a} {x} h. (ap Ieee.neg h.0, neg_finite x h.1);
      abs = λ {a} {x} h. (ap abs_of h.0, abs_finite x h.1);
      below = λ h g. ap₂ lt h.0 g.0;
      at_most = λ h g. ap₂ le h.0 g.0;
      least = λ {a} {b} {x} {y} h g t. (ap₂ min_of h.0 g.0, min_finite x y x h.1 g.1);
      most = λ {a} {b} {x} {y} h g t. (ap₂ max_of h.0 g.0, max_finite x y x h.1 g.1);
      clamp =
          λ {a} {b} {c} {x} {y} {z} h g k t. (
            ap₂ (λ (u v : Float). clamp_of u v c) h.0 g.0 ∙ ap (λ (u : Float). clamp_of x y u)
                k.0,
            clamp_finite x y z h.1 g.1 k.1,
          );
      root = λ h p t. (ap root_of h.0, t);
      cut = λ {a} {x} h t. ap (to_unsigned 32) h.0 ∙ cast_same x t;
      red = λ a b c. refl;
      green = λ a b c. refl;
      blue = λ a b c. refl;
      word = joined_same;
      cell = λ w frame x y l m. refl;
    }

-- ---- each step checked

kept : (b : Bool) (x : Float) → T b → keep b x ≡ value x
kept b x t = ap (λ (q : Bool). keep q x) (is_true b t)

abbrev Is : Checked → Float → Type 0
Is a x = (a ≡ value x) × T (finite x)

by_one : (test : Float → Bool) (f : Float → Float) {a : Checked} {x : Float} → Is a x → T (test x) → T (finite (f x))
    → Is (one test f a) (f x)
by_one test f {a} {x} h p t =
    (ap (one test f) h.0 ∙ kept (test x && finite (f x)) (f x) (and_i (test x) (finite (f x)) p t), t)

by_two : (test : Float → Float → Bool) (f : Float → Float → Float) {a b : Checked} {x y : Float} → Is a x → Is b y
    → T (test x y) → T (finite (f x y))
    → Is (two test f a b) (f x y)
by_two test f {a} {b} {x} {y} h g p t = (
  ap₂ (two test f) h.0 g.0 ∙ kept (test x y && finite (f x y)) (f x y)
      (and_i (test x y) (finite (f x y)) p t),
  t,
)

plus_sign_lem : (x : Float) → Signed false x → T (plus_sign x)
plus_sign_lem nan h = absurd h
plus_sign_lem (inf s) h = subst (λ (b : Bool). T (not b)) (sym h) tt
plus_sign_lem (fin s m e) h = subst (λ (b : Bool). T (not b)) (sym h) tt

pub checked_agree : Agrees checked
checked_agree =
    record {
      same = Is;
      number = λ h. h.1;
      lit = λ x t. (kept (finite x) x t, t);
      whole = λ n l. (kept (nat_le n 16777216) (F32.whole n) (le→leb n 16777216 l), whole_finite n l);
      plus = λ h g t. by_two (λ x y. true) (λ x y. F32.◌⊕◌ x y) h g tt t;
      minus = λ h g t. by_two (λ x y. true) (λ x y. F32.◌⊖◌ x y) h g tt t;
      times = λ h g t. by_two (λ x y. true) (λ x y. F32.◌⊗◌ x y) h g tt t;
      over = λ h g t. by_two (λ x y. true) (λ x y. F32.◌⊘◌ x y) h g tt t;
      round = λ h t. by_one (λ x. true) round_of h tt t;
      neg = λ {a} {x} h. by_one (λ x. true) Ieee.neg h tt (neg_finite x h.1);
      abs = λ {a} {x} h. by_one (λ x. true) abs_of h tt (abs_finite x h.1);
      below = λ h g. ap₂ (compare lt) h.0 g.0;
      at_most = λ h g. ap₂ (compare le) h.0 g.0;
      least =
          λ {a} {b} {x} {y} h g t. by_two (λ x y. lt c0_0 y) min_of h g (subst T (sym t) tt)
          (min_finite x y x h.1 g.1);
      most =
          λ {a} {b} {x} {y} h g t. by_two (λ x y. lt c0_0 y) max_of h g (subst T (sym t) tt)
          (max_finite x y x h.1 g.1);
      clamp = λ {a} {b} {c} {x} {y} {z} h g k t.
          let s = clamp_finite x y z h.1 g.1 k.1 in (
            ap₂ (λ (u v : Checked). three (λ x y z. le y z) clamp_of u v c) h.0 g.0
                ∙ ap (λ (u : Checked). three (λ x y z. le y z) clamp_of (value x) (value y) u) k.0
                ∙ kept (le y z && finite (clamp_of x y z)) (clamp_of x y z) (and_i (le y z) (finite (clamp_of x y z)) t s),
            s,
          );
      red = λ a b c. refl;
      green = λ a b c. refl;
      blue = λ a b c. refl;
      root = λ {a} {x} h p t. by_one plus_sign root_of h (plus_sign_lem x p) t;
      cut = λ {a} {x} h t. ap cut_checked h.0 ∙ ap (λ (b : Bool). cond b (cut_of x) stop) (is_true (within 1023 x) t);
      word = λ r g b R H B. rw (le-leb r 255 R, le-leb g 255 H, le-leb b 255 B);
      cell = λ w frame x y l m. rw (lt-ltb x w l, lt-ltb (y * w + x) (length frame) m);
    }

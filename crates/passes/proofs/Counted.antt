-- What the blur's loops count: of m offsets from k on, those that are inside at each place, over the parts of a line and over more offsets.
-- Assumes nothing.
use Rattle.std.proofs.Common.{◌≡◌, ℕ, ◌+◌, ◌-◌, ◌*◌, ◌≤◌, sym, refl, ap, ◌∙◌, subst, add-zero, add-mul, one-mul, mul-one, arith}
use Rattle.num.specs.Sums.{sum}
use Rattle.num.specs.Laws.Sums.{sum_ext, sum-zero, sum_more, sum_split, sum_none, sum-stop, sum_const, sum-add, sum_bound}
use Rattle.passes.specs.Blur.{distance}
use Rattle.passes.specs.Samples.{samples, once}
use Rattle.passes.specs.Laws.Samples.{once_yes, once-left, once_right, once-few, places_inside, samples-counted, lines-few}
use Rattle.passes.specs.Private.{insides}

-- ## At one place

module _ (n r k m x : ℕ) where
  pub none_left : x + k + m ≤ r → insides n r k m x ≡ 0
  none_left h = sum_none m _ (λ j l. once-left n r x (k + j) (omega arith))

  pub none_right : n ≤ x + k - r → insides n r k m x ≡ 0
  none_right h = sum_none m _ (λ j l. once_right n r x (k + j) (omega arith))

  pub all_inside : r ≤ x + k → x + k + m ≤ n + r → insides n r k m x ≡ m
  all_inside h l = sum_const m 1 _ (λ j i. once_yes n r x (k + j) (omega arith) (omega arith)) ∙ mul-one m

  pub insides-few : insides n r k m x ≤ m
  insides-few = omega (arith, sum_bound m 1 (λ j. once n r x (k + j)) (λ j. once-few n r x (k + j)), mul-one m)

-- one offset, and four one after another
pub insides-one : (n r k x : ℕ) → insides n r k 1 x ≡ once n r x k
insides-one n r k x =
    omega (arith, sum_more 0 (λ j. once n r x (k + j)), sum-zero (λ j. once n r x (k + j))) ∙ ap (once n r x) (add-zero k)

pub insides-four : (n r k x : ℕ) {one two three four : ℕ} → one ≡ 0 + once n r x k → two ≡ one + once n r x (k + 1)
    → three ≡ two + once n r x (k + 2) → four ≡ three + once n r x (k + 3) → four ≡ insides n r k 4 x
insides-four n r k x a b c d =
    let f : ℕ → ℕ = λ j. once n r x (k + j) in
    let first : f 0 ≡ once n r x k = ap (once n r x) (add-zero k) in
    omega (arith, sum_more 3 f, sum_more 2 f, sum_more 1 f, sum_more 0 f, sum-zero f, first)

-- ## Over a line

-- the places before i were counted, and those from there to j
pub counted-on : (i j m : ℕ) {before more : ℕ} (f : ℕ → ℕ) → i ≤ j → m ≡ j - i → before ≡ sum i f → more ≡ sum m (λ d. f (i + d)) → before + more ≡ sum j f
counted-on i j m f h e b c =
    let whole : i + m ≡ j = omega arith in
    omega (arith, b, c, sum_split i m f) ∙ ap (λ (k : ℕ). sum k f) whole

-- four offsets: none is inside left of the edge and right of the other, and no place takes more than four
module _ (n r k : ℕ) where
  pub left_none : (first : ℕ) → first ≡ r - (k + 3) → 0 ≡ sum first (insides n r k 4)
  left_none first e = sym (sum_none first _ (λ x l. none_left n r k 4 x (omega arith)))

  pub right_none : (last : ℕ) → last ≡ n - (k - r) → last ≤ n → sum last (insides n r k 4) ≡ sum n (insides n r k 4)
  right_none last e h =
      let whole : last + (n - last) ≡ n = omega arith in
      sym (sum-stop last (n - last) _ (λ x l. none_right n r k 4 (last + x) (omega arith))) ∙ ap (λ (i : ℕ). sum i (insides n r k 4)) whole

  pub line-few : (i : ℕ) {c : ℕ} → i ≤ n → c ≡ sum i (insides n r k 4) → c ≤ 4 * n
  line-few i h e = omega (arith, sum_bound i 4 _ (insides-few n r k 4))

-- offset k, at every place where it is inside
pub line-one : (n r k : ℕ) → n - distance r k ≡ sum n (insides n r k 1)
line-one n r k = sym (places_inside n r k) ∙ sum_ext n _ _ (λ x l. sym (insides-one n r k x))

-- ## More offsets

-- the first k offsets of each place
abbrev pub upto : (n r k : ℕ) → ℕ
upto n r k = sum n (λ x. sum k (once n r x))

pub upto-on : (n r k m : ℕ) → upto n r k + sum n (insides n r k m) ≡ upto n r (k + m)
upto-on n r k m =
    sym (sum-add n (λ x. sum k (once n r x)) (insides n r k m)) ∙ sum_ext n _ _ (λ x l. sym (sum_split k m (once n r x)))

-- of one place
pub place-on : (n r x k m : ℕ) {before more : ℕ} → before ≡ sum k (once n r x) → more ≡ insides n r k m x → before + more ≡ sum (k + m) (once n r x)
place-on n r x k m b e = omega (arith, b, e, sum_split k m (once n r x))

pub place-few : (n r x k : ℕ) {c : ℕ} → c ≡ sum k (once n r x) → c ≤ k
place-few n r x k e = omega (arith, sum_bound k 1 (once n r x) (once-few n r x))

pub upto_none : (n r : ℕ) → upto n r 0 ≡ 0
upto_none n r = sum_none n _ (λ x l. sum-zero (once n r x))

pub upto_all : (n r k : ℕ) → k ≡ 2 * r + 1 → upto n r k ≡ samples n r
upto_all n r k e = ap (upto n r) e ∙ sym (samples-counted n r)

pub upto-small : (n r k : ℕ) → n ≤ 1024 → k ≤ 129 → upto n r k ≤ 132096
upto-small n r k l h =
    omega (arith, sum_bound n 129 (λ x. sum k (once n r x)) (λ x. omega (arith, place-few n r x k refl)))

-- ## Over a frame

-- a row takes as many as the one before it
pub rows_on : (y s : ℕ) {before more : ℕ} → before ≡ y * s → more ≡ s → before + more ≡ (y + 1) * s
rows_on y s b e = omega (arith, b, e, add-mul y 1 s, one-mul s)

pub rows_few : (y n r : ℕ) {c : ℕ} → y ≤ 1024 → n ≤ 1024 → r ≤ 64 → c ≡ y * samples n r → c ≤ 135266304
rows_few y n r h l m e = subst (λ (i : ℕ). i ≤ 135266304) (sym e) (lines-few y n r h l m)

-- the rows above row y, along columns of n
abbrev pub above : (n r y : ℕ) → ℕ
above n r y = sum y (λ x. sum (2 * r + 1) (once n r x))

pub above_on : (n r y : ℕ) {before more : ℕ} → before ≡ above n r y → more ≡ sum (2 * r + 1) (once n r y) → before + more ≡ above n r (y + 1)
above_on n r y b e = omega (arith, b, e, sum_more y (λ x. sum (2 * r + 1) (once n r x)))

pub above-few : (n r y : ℕ) {c : ℕ} → y ≤ 1024 → r ≤ 64 → c ≡ above n r y → c ≤ 132096
above-few n r y h l e = omega (arith, sum_bound y 129 (λ x. sum (2 * r + 1) (once n r x)) (λ x. omega (arith, place-few n r x (2 * r + 1) refl)))

pub above_all : (n r y : ℕ) {c : ℕ} → y ≡ n → c ≡ above n r y → c ≡ samples n r
above_all n r y e h = h ∙ ap (above n r) e ∙ sym (samples-counted n r)

-- Laws of sums over the numbers below n. Assumes nothing.
use Rattle.std.specs.Prelude.{ℕ, zero, suc, ◌+◌, ◌*◌, ◌≤◌, ◌<◌, ◌≡◌, refl}
use Rattle.std.proofs.Common.{zero-le, sym, ap, ap₂, ◌∙◌, add-zero, add-suc, add-one, arith}
use Rattle.num.specs.Sums.{sum}

pub sum_ext : (n : ℕ) (f g : ℕ → ℕ) → ((i : ℕ) → i < n → f i ≡ g i) → sum n f ≡ sum n g
unfolding sum
sum_ext zero f g h = refl
sum_ext (suc n) f g h = ap₂ (λ (a b : ℕ). a + b) (sum_ext n f g (λ i l. h i (omega arith))) (h n (omega arith))

-- the first, and one more
pub sum-zero : (f : ℕ → ℕ) → sum 0 f ≡ 0
unfolding sum
sum-zero f = refl

pub sum_more : (n : ℕ) (f : ℕ → ℕ) → sum (n + 1) f ≡ sum n f + f n
unfolding sum
sum_more n f = ap (λ (k : ℕ). sum k f) (add-one n)

pub sum_bound : (n b : ℕ) (f : ℕ → ℕ) → ((i : ℕ) → f i ≤ b) → sum n f ≤ n * b
unfolding sum
sum_bound zero b f h = zero-le
sum_bound (suc n) b f h = omega (arith, sum_bound n b f h, h n)

pub sum_split : (m n : ℕ) (f : ℕ → ℕ) → sum (m + n) f ≡ sum m f + sum n (λ i. f (m + i))
unfolding sum
sum_split m zero f = ap (λ (k : ℕ). sum k f) (add-zero m) ∙ sym (add-zero (sum m f))
sum_split m (suc n) f = ap (λ (k : ℕ). sum k f) (add-suc m n) ∙ omega (arith, sum_split m n f)

-- nothing from m on
pub sum_none : (n : ℕ) (f : ℕ → ℕ) → ((i : ℕ) → i < n → f i ≡ 0) → sum n f ≡ 0
unfolding sum
sum_none zero f h = refl
sum_none (suc n) f h = omega (arith, sum_none n f (λ i l. h i (omega arith)), h n (omega arith))

pub sum-stop : (m n : ℕ) (f : ℕ → ℕ) → ((i : ℕ) → i < n → f (m + i) ≡ 0) → sum (m + n) f ≡ sum m f
sum-stop m n f h = omega (arith, sum_split m n f, sum_none n (λ i. f (m + i)) h)

pub sum_const : (n c : ℕ) (f : ℕ → ℕ) → ((i : ℕ) → i < n → f i ≡ c) → sum n f ≡ n * c
unfolding sum
sum_const zero c f h = omega arith
sum_const (suc n) c f h = omega (arith, sum_const n c f (λ i l. h i (omega arith)), h n (omega arith))

-- of two functions, and over two numbers in either order
pub sum-add : (n : ℕ) (f g : ℕ → ℕ) → sum n (λ i. f i + g i) ≡ sum n f + sum n g
unfolding sum
sum-add zero f g = refl
sum-add (suc n) f g = omega (arith, sum-add n f g)

pub sum_swap : (n m : ℕ) (f : ℕ → ℕ → ℕ) → sum n (λ i. sum m (λ j. f i j)) ≡ sum m (λ j. sum n (λ i. f i j))
unfolding sum
sum_swap zero m f = sym (sum_none m (λ j. 0) (λ j l. refl))
sum_swap (suc n) m f =
    ap (λ (k : ℕ). k + sum m (λ j. f n j)) (sum_swap n m f) ∙ sym (sum-add m (λ j. sum n (λ i. f i j)) (λ j. f n j))

-- Laws of a frame by rows: the column and the row of a word, and what stands there. Assumes nothing.
use Rattle.std.specs.Prelude.{◌≡◌, ℕ, zero, suc, ◌+◌, ◌*◌, ◌/◌, ◌%◌, ◌<◌, ◌≤◌, List, length, slice_index_or}
use Rattle.std.proofs.Common.{sym, ap, ◌∙◌, subst, zero-le, suc-le-suc, not-suc-le-zero, mul-zero, mod-lt, div-lt_iff_lt-mul, mod-eq_of_lt, add-zero}
use Rattle.std.proofs.Common.{suc-mul, mul-le-mul_right, mul-le-mul, arith}
use Rattle.std.proofs.Math.Nat.{mul-add-div_right, mul-add-mod_self_right, div-eq_of_lt}
use Rattle.num.specs.Rewrite.{every}
use Rattle.num.specs.Laws.Rewrite.{rewrite_ext, get_d_fill}
use Rattle.passes.specs.Rows.{Frame, placed, sampled}

-- the column of y * w + x, and its row
pub column : (w x y : ℕ) → x < w → (y * w + x) % w ≡ x
column w x y h = mul-add-mod_self_right y w x ∙ mod-eq_of_lt h

pub row : (w x y : ℕ) → x < w → (y * w + x) / w ≡ y
row w x y h = mul-add-div_right (omega arith) y x ∙ ap (λ (k : ℕ). y + k) (div-eq_of_lt h) ∙ add-zero y

-- a row that is there ends within the frame
pub row_ends : (w h y : ℕ) → y < h → y * w + w ≤ h * w
row_ends w h y l = subst (λ (n : ℕ). n ≤ h * w) (suc-mul y w) (mul-le-mul_right w l)

-- a word of a frame has a column and a row of it
pub some : (w h i : ℕ) → i < h * w → 0 < w
some zero h i l = absurd (not-suc-le-zero (subst (λ (n : ℕ). i < n) (mul-zero h) l))
some (suc w) h i l = suc-le-suc zero-le

pub place_in : (w h i : ℕ) → i < h * w → (i % w < w) × (i / w < h)
place_in w h i l = let s = some w h i l in (mod-lt i s, (div-lt_iff_lt-mul s).1 l)

pub frame_small : {A : Type 0} {w h : ℕ} {xs : List A} → Frame w h xs → length xs ≤ 1048576
frame_small {A} {w} {h} {xs} s = subst (λ (n : ℕ). n ≤ 1048576) (sym s.area) (mul-le-mul s.high s.wide)

module _ {A : Type 0} where
  -- rules that agree within the frame
  pub placed_ext : (w h : ℕ) (xs : List A) (f g : ℕ → ℕ → A → A) → length xs ≡ h * w → ((x y : ℕ) (p : A) → x < w → y < h → f x y p ≡ g x y p)
      → every (placed w f) xs ≡ every (placed w g) xs
  placed_ext w h xs f g s same =
      rewrite_ext (length xs) (placed w f) (placed w g) xs (λ i p l.
      let q = place_in w h i (omega arith) in same (i % w) (i / w) p q.0 q.1)

  -- what stands at column x and row y
  pub get_d_sampled : (w h : ℕ) (xs : List A) (f : ℕ → ℕ → A) (x y : ℕ) (d : A) → length xs ≡ h * w → x < w → y < h
      → slice_index_or (sampled w f xs) (y * w + x) d ≡ f x y
  get_d_sampled w h xs f x y d s l m =
      get_d_fill (λ i. f (i % w) (i / w)) xs (y * w + x) d (omega (arith, row_ends w h y m)) ∙ rw (column w x y l, row w x y l)

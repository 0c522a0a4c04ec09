-- What a source that is not refused has, and what its enlarging writes. Assumes nothing.
use Prim.Native.Nat.{ℕ, zero, suc, ◌+◌, ◌-◌, ◌*◌, ◌/◌, ◌%◌, ◌<◌, ◌≤◌}
use native.Mathlib.Omega.{arith}
use native.Mathlib.Nat.{mul-le-mul, mul_assoc, mul_comm, add-mod_right, mod-eq_of_lt, mod-lt, mod-mod_of_dvd, dvd-mul_left, div-div-eq-div-mul, suc_inj}
use mathlib.Core.Bool.{Bool, true, false, ◌||◌, cond}
use mathlib.Core.List.{List, [], ◌∷◌, ◌++◌}
use mathlib.Core.Path.{◌≡◌, refl, sym, ap, ◌∙◌, subst}
use lib.Dec.{eqb, ltb}
use lib.ListN.{length, get_or, set, take, drop, length-set, length-append, length-drop, get_or-append}
use lib.Seq.{length-take-le}
use borrow.Author.Tests.{ltb-false, eqb-false}
use Rattle.num.specs.Rewrite.{rewrite, fill}
use Rattle.num.specs.Laws.Rewrite.{Rewritten, more, rewrite_ext, length-rewrite, get_d_rewrite, get_d_fill}
use Rattle.cabinet.specs.Source.{bad_source_side, source_stops}

-- neither of two tests holds
neither : (a b : Bool) → (a || b) ≡ false → (a ≡ false) × (b ≡ false)
neither true b e = let z : ◌≡◌ {A = ℕ} 1 0 = ap (λ (c : Bool). cond c 1 0) e in absurd (omega arith)
neither false b e = (refl, e)

pub fine_side : (x : ℕ) → bad_source_side x ≡ false → x ≤ 341
unfolding bad_source_side
fine_side x e = ltb-false 341 x (neither (eqb x 0) (ltb 341 x) e).1

some_side : (x : ℕ) → bad_source_side x ≡ false → 0 < x
unfolding bad_source_side
some_side x e = let not_None = eqb-false x 0 (neither (eqb x 0) (ltb 341 x) e).0 in omega (arith, not_None)

-- a product of two sides
pub small : (w h : ℕ) → bad_source_side w ≡ false → bad_source_side h ≡ false → h * w ≤ 116281
small w h e f =
    let wide = fine_side w e in
    let high = fine_side h f in
    mul-le-mul high wide

-- what no refusal tells
pub record Fine (w h numbers colours : ℕ) : Type 0 where
  pub some : 0 < w
  pub wide : w ≤ 341
  pub high : h ≤ 341
  pub numbers_room : h * w ≤ numbers
  pub shades : 64 ≤ colours

pub fine : (w h numbers colours : ℕ) → source_stops w h numbers colours ≡ 0 → Fine w h numbers colours
unfolding source_stops
fine w h numbers colours e =
    let none = picked (bad_source_side w || bad_source_side h || ltb numbers (h * w) || ltb colours 64) e in
    let a = neither (bad_source_side w || bad_source_side h || ltb numbers (h * w)) (ltb colours 64) none in
    let b = neither (bad_source_side w || bad_source_side h) (ltb numbers (h * w)) a.0 in
    let c = neither (bad_source_side w) (bad_source_side h) b.0 in
    record { some = some_side w c.0; wide = fine_side w c.0; high = fine_side h c.1; numbers_room = ltb-false numbers (h * w) b.1; shades = ltb-false colours 64 a.1 }
  where
    picked : (b : Bool) → ◌≡◌ {A = ℕ} (cond b 21 0) 0 → b ≡ false
    picked true e = absurd (omega (arith, e))
    picked false e = refl

-- ## One pixel more of a line

-- v stands in three places more
pub tripled : (f : ℕ → ℕ → ℕ) (xs ys : List ℕ) (x v : ℕ) → Rewritten (3 * x) f xs ys → 3 * x + 2 < length ys → ((k w : ℕ) → k < 3 → v ≡ f (3 * x + k) w)
    → Rewritten (3 * (x + 1)) f xs (set (set (set ys (3 * x) v) (3 * x + 1) v) (3 * x + 2) v)
tripled f xs ys x v t room is =
    let l1 = length-set ys (3 * x) v in
    let l2 = length-set (set ys (3 * x) v) (3 * x + 1) v in
    let t1 = more t 0 {v = v} (omega (arith, room)) (is 0 (get_or ys (3 * x) 0) (omega arith) ∙ ap (λ (i : ℕ). f i (get_or ys (3 * x) 0)) (omega arith)) in
    let t2 = more t1 0 {v = v} (omega (arith, room, l1)) (is 1 _ (omega arith)) in
    let t3 = more (moved (omega arith) t2) 0 {v = v} (omega (arith, room, l1, l2)) (is 2 _ (omega arith)) in
    moved (omega arith) t3
  where
    moved : {i j : ℕ} {zs : List ℕ} → i ≡ j → Rewritten i f xs zs → Rewritten j f xs zs
    moved {i} {j} {zs} e r = subst (λ (k : ℕ). Rewritten k f xs zs) e r

-- ## One line more of a block

-- words of their own places
own : (n : ℕ) (xs : List ℕ) → rewrite n (λ i x. get_or xs i 0) xs ≡ xs
unfolding rewrite
own zero xs = refl
own (suc n) [] = refl
own (suc n) (x ∷ xs) = ap (λ (l : List ℕ). x ∷ l) (own n xs)

-- the rule by which each line is the first one
abbrev pub repeated : ℕ → List ℕ → ℕ → ℕ → ℕ
repeated w xs k x = get_or xs (k % w) 0

pub first-line : (w : ℕ) (xs : List ℕ) → w ≤ length xs → Rewritten w (repeated w xs) xs xs
first-line w xs l = record {
  within = l;
  kept = refl;
  done = sym (own w xs) ∙ rewrite_ext w (λ i x. get_or xs i 0) (repeated w xs) xs (λ i x m. ap (λ (k : ℕ). get_or xs k 0) (sym (mod-eq_of_lt m)));
}

-- the word above word i
pub above : (w i : ℕ) (xs ys : List ℕ) → 0 < w → w ≤ i → i < length xs → Rewritten i (repeated w xs) xs ys → get_or ys (i - w) 0 ≡ get_or xs (i % w) 0
above w i xs ys some l m t =
    let whole : i - w + w ≡ i = omega (arith, l) in
    ap (λ (z : List ℕ). get_or z (i - w) 0) t.done ∙ get_d_rewrite i (repeated w xs) xs (i - w) 0 (omega (arith, some, l)) (omega (arith, m))
    ∙ ap (λ (k : ℕ). get_or xs k 0) (sym (add-mod_right (i - w) w) ∙ ap (λ (k : ℕ). k % w) whole)

-- a filling looks at no word, only at how many there are
same_fill : (f : ℕ → ℕ) (xs ys : List ℕ) → length xs ≡ length ys → fill f xs ≡ fill f ys
unfolding rewrite
same_fill f [] [] e = refl
same_fill f [] (y ∷ ys) e = absurd (omega (arith, e))
same_fill f (x ∷ xs) [] e = absurd (omega (arith, e))
same_fill f (x ∷ xs) (y ∷ ys) e = ap (λ (l : List ℕ). f 0 ∷ l) (same_fill (λ i. f (suc i)) xs ys (suc_inj e))

-- the first w words were filled by f, and then each line was made the first one
pub lines : (f : ℕ → ℕ) (w : ℕ) (xs first new : List ℕ) → 0 < w → w ≤ length xs → first ≡ fill f (take w xs)
    → new ≡ fill (λ i. get_or (first ++ drop w xs) (i % w) 0) (first ++ drop w xs) → new ≡ fill (λ i. f (i % w)) xs
lines f w xs first new some l e h =
    let long : length (take w xs) ≡ w = length-take-le w xs l in
    let first-long : length first ≡ w = ap length e ∙ length-rewrite (length (take w xs)) (λ i x. f i) (take w xs) ∙ long in
    let all-long : length (first ++ drop w xs) ≡ length xs = length-append first (drop w xs) ∙ omega (arith, first-long, length-drop w xs, l) in
    let word : (k : ℕ) → k < w → get_or (first ++ drop w xs) k 0 ≡ f k = λ k m.
    get_or-append first (drop w xs) 0 k (omega (arith, m, first-long)) ∙ ap (λ (z : List ℕ). get_or z k 0) e ∙ get_d_fill f (take w xs) k 0 (omega (arith, m, long)) in
    h ∙ rewrite_ext (length (first ++ drop w xs)) (λ i x. get_or (first ++ drop w xs) (i % w) 0) (λ i x. f (i % w)) (first ++ drop w xs) (λ i x m. word (i % w) (mod-lt i some))
    ∙ same_fill (λ i. f (i % w)) (first ++ drop w xs) xs all-long

-- ## Blocks

-- as many words in blocks as in lines
pub blocks : (w h : ℕ) → 3 * h * (3 * w) ≡ h * (3 * (3 * w))
blocks w h = let swap : 3 * h ≡ h * 3 = omega arith in ap (λ (k : ℕ). k * (3 * w)) swap ∙ mul_assoc h 3 (3 * w)

-- a place in a block is that of a line, and a block has three lines
pub column_in : (w i : ℕ) → i % (3 * (3 * w)) % (3 * w) ≡ i % (3 * w)
column_in w i = mod-mod_of_dvd (3 * w) i (dvd-mul_left (3 * w) 3)

pub line_in : (w i : ℕ) → i / (3 * (3 * w)) ≡ i / (3 * w) / 3
line_in w i = ap (λ (k : ℕ). i / k) (mul_comm 3 (3 * w)) ∙ sym (div-div-eq-div-mul i (3 * w) 3)

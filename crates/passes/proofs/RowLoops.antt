-- Loops that lend one part of a frame after another. A part is rewritten by a rule of its own places, which is the frame's rule there;
-- what is done so far is a rewriting of the frame's first words, and the part makes it longer. A loop by rows is the case in which
-- each part is a row, and the rule one of column and row: `Rowed` is its invariant, which holds of no rows, of one row more once the
-- row came back (`row_by`), and of all (`rows_all`). Where the loop counts its rows alone, `Rows` is the invariant. Assumes nothing.
use Rattle.std.proofs.Common.{◌≡◌, ℕ, ◌+◌, ◌-◌, ◌*◌, ◌<◌, ◌≤◌, List, ◌++◌, length, get_or, take, drop, sym, refl, ap, ◌∙◌, subst, zero-le, suc-mul, le_antisymm, zero-mul, add-one, arith, length-drop, length-take-le, get_or-drop, get_or-take}
use Rattle.num.specs.Rewrite.{rewrite, every}
use Rattle.num.specs.Laws.Rewrite.{get_d_rewrite-rest, Rewritten, none, part, all}
use Rattle.passes.specs.Rows.{placed}
use Rattle.passes.specs.Laws.Rows.{column, row, row_ends}

module _ {A : Type 0} where
  -- the w words from k on as they are lent: how many they are, and which
  pub lent_length : (k w : ℕ) (xs : List A) → k + w ≤ length xs → length (take (k + w - k) (drop k xs)) ≡ w
  lent_length k w xs l =
      let n : k + w - k ≡ w = omega arith in
      rw n (length-take-le w (drop k xs) (simp length-drop (omega arith)))

  pub lent-word : (k w : ℕ) (xs : List A) (d : A) (x : ℕ) → x < w → get_or (take (k + w - k) (drop k xs)) x d ≡ get_or xs (k + x) d
  lent-word k w xs d x l = get_or-take (k + w - k) (drop k xs) x d (omega arith) ∙ get_or-drop k xs x d

  -- the invariant of a loop by rows: the first y rows of h are done, and row y begins at word `at`
  pub record Rowed (w h y at : ℕ) (f : ℕ → ℕ → A → A) (xs ys : List A) : Type 0 where
    pub area : length xs ≡ h * w
    pub rows : y ≤ h
    pub begins : at ≡ y * w
    pub so_far : Rewritten at (placed w f) xs ys

  pub no_rows : {w h : ℕ} {xs : List A} (f : ℕ → ℕ → A → A) → length xs ≡ h * w → Rowed w h 0 0 f xs xs
  no_rows {w} {h} {xs} f s = record { area = s; rows = zero-le; begins = sym (zero-mul w); so_far = none (placed w f) xs }

  module _ {w h y k : ℕ} {f : ℕ → ℕ → A → A} {xs ys : List A} (t : Rowed w h y k f xs ys) where
    -- the next row lies within the frame
    pub row_in : y < h → k + w ≤ length xs
    row_in l = omega (arith, t.begins, t.area, row_ends w h y l)

    pub row_length : y < h → length (take (k + w - k) (drop k ys)) ≡ w
    row_length l = lent_length k w ys (omega (arith, t.so_far.kept, row_in l))

    -- a word of row y as it is lent is the frame's own
    pub row_word : (d : A) (x : ℕ) → x < w → get_or (take (k + w - k) (drop k ys)) x d ≡ get_or xs (y * w + x) d
    row_word d x l =
        lent-word k w ys d x l ∙ ap (λ (z : List A). get_or z (k + x) d) t.so_far.done ∙ get_d_rewrite-rest k (placed w f) xs (k + x) d (omega arith)
        ∙ ap (λ (i : ℕ). get_or xs (i + x) d) t.begins

    -- row y was lent to a rewriting by g, which is the rule's row y, and came back as `new`
    pub row_by : (g : ℕ → A → A) (new : List A) → y < h → ((x : ℕ) (p : A) → x < w → g x p ≡ f x y p)
        → new ≡ every g (take (k + w - k) (drop k ys))
        → Rowed w h (y + 1) (k + w) f xs (take k ys ++ (new ++ drop (k + w - k) (drop k ys)))
    row_by g new l same e =
        let n : k + w - k ≡ w = omega arith in
        record {
          area = t.area;
          rows = omega arith;
          begins = ap (λ (i : ℕ). i + w) t.begins ∙ sym (suc-mul y w) ∙ ap (λ (i : ℕ). i * w) (sym (add-one y));
          so_far = subst (λ (m : ℕ). Rewritten (k + w) (placed w f) xs (take k ys ++ (new ++ drop m (drop k ys)))) (sym n)
              (part w g new t.so_far (row_in l)
              (λ x p r. same x p r ∙ sym (rw (t.begins, column w x y r, row w x y r)))
              (rw n at e));
        }

    -- all rows are done
    pub rows_all : h ≤ y → ys ≡ rewrite (length xs) (placed w f) xs
    rows_all l = all t.so_far (omega (arith, t.begins, t.so_far.kept, t.area, ap (λ (i : ℕ). i * w) (le_antisymm t.rows l)))

-- The same where a loop counts the rows alone: row y begins at word y * w.
module _ {A : Type 0} where
  abbrev pub Rows : (w h y : ℕ) (f : ℕ → ℕ → A → A) (xs ys : List A) → Type 0
  Rows w h y f xs ys = Rowed w h y (y * w) f xs ys

  pub begin_rows : {w h : ℕ} {xs : List A} (f : ℕ → ℕ → A → A) → length xs ≡ h * w → Rows w h 0 f xs xs
  begin_rows {w} {h} {xs} f s = subst (λ (k : ℕ). Rowed w h 0 k f xs xs) (sym (zero-mul w)) (no_rows f s)

  pub next_row_by : {w h y : ℕ} {f : ℕ → ℕ → A → A} {xs ys : List A} → Rows w h y f xs ys → (g : ℕ → A → A) (new : List A) → y < h
      → ((x : ℕ) (p : A) → x < w → g x p ≡ f x y p)
      → new ≡ every g (take (y * w + w - y * w) (drop (y * w) ys))
      → Rows w h (y + 1) f xs (take (y * w) ys ++ (new ++ drop (y * w + w - y * w) (drop (y * w) ys)))
  next_row_by {w} {h} {y} {f} {xs} {ys} t g new l same e =
      subst (λ (k : ℕ). Rowed w h (y + 1) k f xs (take (y * w) ys ++ (new ++ drop (y * w + w - y * w) (drop (y * w) ys))))
      (sym (suc-mul y w) ∙ ap (λ (i : ℕ). i * w) (sym (add-one y))) (row_by t g new l same e)

  pub next_row : {w h y : ℕ} {f : ℕ → ℕ → A → A} {xs ys : List A} → Rows w h y f xs ys → (new : List A) → y < h
      → new ≡ every (λ x. f x y) (take (y * w + w - y * w) (drop (y * w) ys))
      → Rows w h (y + 1) f xs (take (y * w) ys ++ (new ++ drop (y * w + w - y * w) (drop (y * w) ys)))
  next_row {y = y} {f = f} t new l e = next_row_by t (λ x. f x y) new l (λ x p r. refl) e

-- by these the check itself closes a loop by rows: it begins, each row comes back and fits, and all are done
pub ruleset row_loop = (begin_rows, next_row, row_length, rows_all)

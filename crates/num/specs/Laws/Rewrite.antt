-- Laws of rewriting: a loop over a slice is one rewriting, and has done i words of it at i. Proved once, for any element
-- type. Assumes nothing.
use Rattle.std.specs.Prelude.{◌≡◌, length, get_or, set, take, drop}
use Rattle.std.proofs.Math.Path.{refl, sym, ap}
use Rattle.std.proofs.Common.{◌∙◌, subst, add-one, le_of_suc-le-suc, not-suc-le-zero, arith, length-set, length-drop, length-take-le}
use mathlib.Core.List.{List, [], ◌∷◌, ◌++◌}
use Prim.Native.Nat.{ℕ, zero, suc, ◌+◌, ◌≤◌, ◌<◌, zero-le, suc-le-suc, ◌-◌}
use Rattle.std.proofs.Math.Nat.{zero-add, suc-add, suc_inj}
use Rattle.num.specs.Rewrite.{rewrite, every, fill}

module _ {A : Type 0} where
  pub length-rewrite : (n : ℕ) (f : ℕ → A → A) (xs : List A) → length (rewrite n f xs) ≡ length xs
  unfolding rewrite
  length-rewrite zero f xs = refl
  length-rewrite (suc n) f [] = refl
  length-rewrite (suc n) f (x ∷ xs) = ap suc (length-rewrite n (λ i. f (suc i)) xs)

  pub get_d_rewrite : (n : ℕ) (f : ℕ → A → A) (xs : List A) (i : ℕ) (d : A) → i < n → i < length xs
      → get_or (rewrite n f xs) i d ≡ f i (get_or xs i d)
  unfolding rewrite
  get_d_rewrite zero f xs i d h l = absurd (not-suc-le-zero h)
  get_d_rewrite (suc n) f [] i d h l = absurd (not-suc-le-zero l)
  get_d_rewrite (suc n) f (x ∷ xs) zero d h l = refl
  get_d_rewrite (suc n) f (x ∷ xs) (suc i) d h l =
      get_d_rewrite n (λ k. f (suc k)) xs i d (le_of_suc-le-suc h) (le_of_suc-le-suc l)

  pub get_d_fill : (f : ℕ → A) (xs : List A) (i : ℕ) (d : A) → i < length xs → get_or (fill f xs) i d ≡ f i
  get_d_fill f xs i d l = get_d_rewrite (length xs) (λ k x. f k) xs i d l l

  pub get_d_rewrite-rest : (n : ℕ) (f : ℕ → A → A) (xs : List A) (i : ℕ) (d : A) → n ≤ i → get_or (rewrite n f xs) i d ≡ get_or xs i d
  unfolding rewrite
  get_d_rewrite-rest zero f xs i d h = refl
  get_d_rewrite-rest (suc n) f [] i d h = refl
  get_d_rewrite-rest (suc n) f (x ∷ xs) zero d h = absurd (not-suc-le-zero h)
  get_d_rewrite-rest (suc n) f (x ∷ xs) (suc i) d h = get_d_rewrite-rest n (λ k. f (suc k)) xs i d (le_of_suc-le-suc h)

  -- the rewriting of a whole is that of its first n words, then the rest as it was
  pub rewrite_split : (n : ℕ) (f : ℕ → A → A) (xs : List A) → rewrite n f xs ≡ rewrite n f (take n xs) ++ drop n xs
  unfolding rewrite
  rewrite_split zero f xs = refl
  rewrite_split (suc n) f [] = refl
  rewrite_split (suc n) f (x ∷ xs) = ap (λ (l : List A). f 0 x ∷ l) (rewrite_split n (λ i. f (suc i)) xs)

  -- equal rules give equal rewritings
  pub rewrite_ext : (n : ℕ) (f g : ℕ → A → A) (xs : List A) → ((i : ℕ) (x : A) → i < n → f i x ≡ g i x) → rewrite n f xs ≡ rewrite n g xs
  unfolding rewrite
  rewrite_ext zero f g xs h = refl
  rewrite_ext (suc n) f g [] h = refl
  rewrite_ext (suc n) f g (x ∷ xs) h =
      ap (λ (y : A). y ∷ rewrite n (λ i. f (suc i)) xs) (h 0 x (suc-le-suc zero-le))
      ∙ ap (λ (l : List A). g 0 x ∷ l) (rewrite_ext n (λ i. f (suc i)) (λ i. g (suc i)) xs (λ i y k. h (suc i) y (suc-le-suc k)))

  -- rules that agree at the words that stand there
  pub rewrite-at : (n : ℕ) (f g : ℕ → A → A) (xs : List A) (d : A)
      → ((i : ℕ) → i < length xs → f i (get_or xs i d) ≡ g i (get_or xs i d)) → rewrite n f xs ≡ rewrite n g xs
  unfolding rewrite
  rewrite-at zero f g xs d h = refl
  rewrite-at (suc n) f g [] d h = refl
  rewrite-at (suc n) f g (x ∷ xs) d h =
      ap (λ (y : A). y ∷ rewrite n (λ i. f (suc i)) xs) (h 0 (suc-le-suc zero-le))
      ∙ ap (λ (l : List A). g 0 x ∷ l) (rewrite-at n (λ i. f (suc i)) (λ i. g (suc i)) xs d (λ i k. h (suc i) (suc-le-suc k)))

  -- past the end of the list there is nothing to rewrite
  pub rewrite-past : (n : ℕ) (f : ℕ → A → A) (xs : List A) → length xs ≤ n → rewrite n f xs ≡ every f xs
  unfolding rewrite
  rewrite-past zero f [] h = refl
  rewrite-past zero f (x ∷ xs) h = absurd (not-suc-le-zero h)
  rewrite-past (suc n) f [] h = refl
  rewrite-past (suc n) f (x ∷ xs) h = ap (λ (l : List A). f 0 x ∷ l) (rewrite-past n (λ i. f (suc i)) xs (le_of_suc-le-suc h))

  -- two rewritings of the same words are one
  pub rewrite_twice : (n : ℕ) (f g : ℕ → A → A) (xs : List A) → rewrite n g (rewrite n f xs) ≡ rewrite n (λ i x. g i (f i x)) xs
  unfolding rewrite
  rewrite_twice zero f g xs = refl
  rewrite_twice (suc n) f g [] = refl
  rewrite_twice (suc n) f g (x ∷ xs) = ap (λ (l : List A). g 0 (f 0 x) ∷ l) (rewrite_twice n (λ i. f (suc i)) (λ i. g (suc i)) xs)

  pub rewrite_nil : (n : ℕ) (f : ℕ → A → A) → rewrite n f [] ≡ []
  unfolding rewrite
  rewrite_nil zero f = refl
  rewrite_nil (suc n) f = refl

  -- a rule that changes nothing, and one that changes nothing from m on
  pub rewrite_same : (n : ℕ) (f : ℕ → A → A) (xs : List A) → ((i : ℕ) (x : A) → i < n → f i x ≡ x) → rewrite n f xs ≡ xs
  unfolding rewrite
  rewrite_same zero f xs h = refl
  rewrite_same (suc n) f [] h = refl
  rewrite_same (suc n) f (x ∷ xs) h =
      ap (λ (y : A). y ∷ rewrite n (λ i. f (suc i)) xs) (h 0 x (suc-le-suc zero-le))
      ∙ ap (λ (l : List A). x ∷ l) (rewrite_same n (λ i. f (suc i)) xs (λ i z k. h (suc i) z (suc-le-suc k)))

  pub rewrite-stop : (m n : ℕ) (f : ℕ → A → A) (xs : List A) → ((i : ℕ) (x : A) → i < n → f (m + i) x ≡ x) → rewrite m f xs ≡ rewrite (m + n) f xs
  unfolding rewrite
  rewrite-stop zero n f xs h = sym (rewrite_same n f xs (λ i x l. rw zero-add at (h i x l))) ∙ ap (λ (k : ℕ). rewrite k f xs) (sym (zero-add n))
  rewrite-stop (suc m) n f [] h = sym (rewrite_nil (suc m + n) f)
  rewrite-stop (suc m) n f (x ∷ xs) h =
      ap (λ (l : List A). f 0 x ∷ l) (rewrite-stop m n (λ i. f (suc i)) xs (λ i z l. rw suc-add at (h i z l)))
      ∙ ap (λ (k : ℕ). rewrite k f (x ∷ xs)) (sym (suc-add m n))

  -- m words, and then n more by the rule g, which is f from m on
  pub rewrite-add : (m n : ℕ) (f g : ℕ → A → A) (xs : List A) → ((i : ℕ) (x : A) → i < n → g i x ≡ f (m + i) x)
      → take m (rewrite m f xs) ++ rewrite n g (drop m (rewrite m f xs)) ≡ rewrite (m + n) f xs
  unfolding rewrite
  rewrite-add zero n f g xs h = rewrite_ext n g f xs (λ i x l. rw zero-add at (h i x l)) ∙ ap (λ (k : ℕ). rewrite k f xs) (sym (zero-add n))
  rewrite-add (suc m) n f g [] h = rewrite_nil n g ∙ sym (rewrite_nil (suc m + n) f)
  rewrite-add (suc m) n f g (x ∷ xs) h =
      ap (λ (l : List A). f 0 x ∷ l) (rewrite-add m n (λ i. f (suc i)) g xs (λ i z l. rw suc-add at (h i z l)))
      ∙ ap (λ (k : ℕ). rewrite k f (x ∷ xs)) (sym (suc-add m n))

  -- two rewritings of every word, the second by the length of what it found
  pub every_twice : (f g : ℕ → A → A) (xs ys : List A) → ys ≡ every f xs → every g ys ≡ every (λ i x. g i (f i x)) xs
  every_twice f g xs ys e =
      ap (every g) e ∙ ap (λ (k : ℕ). rewrite k g (every f xs)) (length-rewrite (length xs) f xs) ∙ rewrite_twice (length xs) f g xs

  -- every word from a source as long
  pub rewrite_copy : (xs src : List A) (d : A) → length xs ≡ length src → rewrite (length xs) (λ i x. get_or src i d) xs ≡ src
  unfolding rewrite
  rewrite_copy [] [] d e = refl
  rewrite_copy [] (y ∷ ys) d e = absurd (not-suc-le-zero (subst (λ (n : ℕ). suc zero ≤ n) (sym e) (suc-le-suc zero-le)))
  rewrite_copy (x ∷ xs) [] d e = absurd (not-suc-le-zero (subst (λ (n : ℕ). suc zero ≤ n) e (suc-le-suc zero-le)))
  rewrite_copy (x ∷ xs) (y ∷ ys) d e = ap (λ (l : List A). y ∷ l) (rewrite_copy xs ys d (suc_inj e))

  -- ---- one turn of a loop

  step : (i : ℕ) (f : ℕ → A → A) (xs : List A) (d : A) → set (rewrite i f xs) i (f i (get_or (rewrite i f xs) i d)) ≡ rewrite (suc i) f xs
  unfolding rewrite
  step zero f [] d = refl
  step zero f (x ∷ xs) d = refl
  step (suc i) f [] d = refl
  step (suc i) f (x ∷ xs) d = ap (λ (l : List A). f 0 x ∷ l) (step i (λ k. f (suc k)) xs d)

  -- the invariant of a loop that has rewritten the first i words of xs, and so has ys
  pub record Rewritten (i : ℕ) (f : ℕ → A → A) (xs ys : List A) : Type 0 where
    pub within : i ≤ length xs
    pub kept : length ys ≡ length xs
    pub done : ys ≡ rewrite i f xs

  pub none : (f : ℕ → A → A) (xs : List A) → Rewritten 0 f xs xs
  unfolding rewrite
  none f xs = record { within = zero-le; kept = refl; done = refl }

  module _ {i : ℕ} {f : ℕ → A → A} {xs ys : List A} (t : Rewritten i f xs ys) where
    -- v is what stands at i, rewritten: storing it makes i + 1
    pub more : (d : A) {v : A} → i < length ys → v ≡ f i (get_or ys i d) → Rewritten (i + 1) f xs (set ys i v)
    more d {v} l h = record {
      within = omega (arith, t.kept);
      kept = length-set ys i v ∙ t.kept;
      done = ap (λ (w : A). set ys i w) h ∙ ap (λ (z : List A). set z i (f i (get_or z i d))) t.done ∙ step i f xs d
          ∙ ap (λ (n : ℕ). rewrite n f xs) (sym (add-one i));
    }

    -- the loop is done
    pub all : length ys ≤ i → ys ≡ rewrite (length xs) f xs
    all l = t.done ∙ ap (λ (k : ℕ). rewrite k f xs) (omega (arith, t.within, t.kept))

  -- the n words from i on were lent to a rewriting by g, which is f from i on: they come back as `new`
  pub part : {i : ℕ} {f : ℕ → A → A} {xs ys : List A} (n : ℕ) (g : ℕ → A → A) (new : List A) → Rewritten i f xs ys → i + n ≤ length xs
      → ((k : ℕ) (x : A) → k < n → g k x ≡ f (i + k) x) → new ≡ rewrite (length (take n (drop i ys))) g (take n (drop i ys))
      → Rewritten (i + n) f xs (take i ys ++ (new ++ drop n (drop i ys)))
  part {i} {f} {xs} {ys} n g new t l h e =
      let size : length (take n (drop i ys)) ≡ n = length-take-le n (drop i ys) (simp length-drop (omega (arith, t.kept))) in
      let back : new ++ drop n (drop i ys) ≡ rewrite n g (drop i ys) =
      ap (λ (z : List A). z ++ drop n (drop i ys)) (e ∙ ap (λ (k : ℕ). rewrite k g (take n (drop i ys))) size) ∙ sym (rewrite_split n g (drop i ys)) in
      let whole : take i ys ++ (new ++ drop n (drop i ys)) ≡ rewrite (i + n) f xs =
      ap (λ (z : List A). take i ys ++ z) back
      ∙ ap (λ (z : List A). take i z ++ rewrite n g (drop i z)) t.done ∙ rewrite-add i n f g xs h in
      record { within = l; kept = ap length whole ∙ length-rewrite (i + n) f xs; done = whole }

  -- the places from i to j were lent, of which those before i are done: how many they are, and how far it is when they came back
  module _ {f : ℕ → A → A} {xs ys : List A} {i : ℕ} (j : ℕ) (t : Rewritten i f xs ys) (l : j ≤ length xs) where
    pub further_long : length (take (j - i) (drop i ys)) ≡ j - i
    further_long = length-take-le (j - i) (drop i ys) (rw length-drop (omega (arith, t.kept)))

    pub further : (new : List A) → i ≤ j → new ≡ every (λ d. f (i + d)) (take (j - i) (drop i ys))
        → Rewritten j f xs (take i ys ++ (new ++ drop (j - i) (drop i ys)))
    further new h e =
        let whole : i + (j - i) ≡ j = omega arith in
        subst (λ (n : ℕ). Rewritten n f xs (take i ys ++ (new ++ drop (j - i) (drop i ys)))) whole
        (part (j - i) (λ d. f (i + d)) new t (omega arith) (λ d v m. refl) e)

  -- m words from `to` on were lent to a rewriting by g, which is f from `to` on, and f changes no other word
  pub mid : (f g : ℕ → A → A) (xs new : List A) (to m n : ℕ) → to + m + n ≡ length xs
      → ((i : ℕ) (x : A) → i < to → f i x ≡ x) → ((i : ℕ) (x : A) → i < m → g i x ≡ f (to + i) x) → ((i : ℕ) (x : A) → i < n → f (to + m + i) x ≡ x)
      → new ≡ every g (take m (drop to xs))
      → take to xs ++ (new ++ drop m (drop to xs)) ≡ every f xs
  mid f g xs new to m n e before within after h =
      let t : Rewritten to f xs xs = record { within = omega arith; kept = refl; done = sym (rewrite_same to f xs before) } in
      (part m g new t (omega arith) within h).done ∙ rewrite-stop (to + m) n f xs after ∙ ap (λ (k : ℕ). rewrite k f xs) e

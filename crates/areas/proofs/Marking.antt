-- The marks of a row: the rectangles mark where they begin, and each place then has the farthest mark up to it. A place is held exactly if that is past it.
-- Assumes nothing.
use Prim.Native.Nat.{ℕ, zero, suc, ◌+◌, ◌-◌, ◌≤◌, ◌<◌, max}
use mathlib.Core.Path.{◌≡◌, refl, sym, ap, ◌∙◌}
use mathlib.Core.Bool.{Bool, true, false}
use mathlib.Core.List.{List}
use native.Mathlib.Nat.{not-suc-le-zero}
use native.Mathlib.Decide.{dec_lt, ℕ_discrete}
use native.Mathlib.Omega.{arith}
use borrow.Author.Tests.{lt-ltb, le-ltb}
use lib.ListN.{length, get_or, set, length-set}
use lib.Seq.{get_or-set_same, get_or-set_other}
use Rattle.areas.specs.Areas.{count, area_at, holds, held}
use Rattle.areas.specs.Private.{part_of, Spans, Changed, Marked, Marks, most, most_from, marked, Reaches}
use Rattle.areas.specs.declared.area.Part.{Part}
use Rattle.areas.proofs.Search.{part_held, held_part}
use Rattle.areas.proofs.OneOf.{some_at, one_of}

-- ## The largest of several

most_of : (n : ℕ) (f : ℕ → ℕ) (i : ℕ) → i < n → f i ≤ most n f
unfolding most
most_of zero f i l = absurd (not-suc-le-zero l)
most_of (suc n) f i l = go (λ m. most_of n f i m) (dec_lt i n)
  where
    go : (i < n → f i ≤ most n f) → Dec (i < n) → f i ≤ max (most n f) (f n)
    go ih (yes m) = omega (arith, ih m)
    go ih (no m) = let same : f i ≡ f n = ap f (omega arith) in omega arith

-- what is below it is below one of them
most-one : {A : Type 0} (n : ℕ) (f : ℕ → ℕ) (z : ℕ) → z < most n f → ((i : ℕ) → i < n → z < f i → A) → A
unfolding most
most-one zero f z l g = absurd (omega arith)
most-one {A} (suc n) f z l g = go (dec_lt z (f n)) (λ m. most-one n f z m (λ i h. g i (omega arith)))
  where
    go : Dec (z < f n) → (z < most n f → A) → A
    go (yes m) ih = g n (omega arith) m
    go (no m) ih = ih (omega arith)

-- a place more
pub most-next : (from : ℕ) (xs : List ℕ) (x : ℕ) → from ≤ x → most_from from xs x ≡ max (most (x - from) (λ i. get_or xs (from + i) 0)) (get_or xs x 0)
unfolding most
most-next from xs x l =
    let more : x + 1 - from ≡ suc (x - from) = omega arith in
    let last : from + (x - from) ≡ x = omega arith in
    ap (λ (n : ℕ). most n (λ i. get_or xs (from + i) 0)) more ∙ ap (λ (k : ℕ). max (most (x - from) (λ i. get_or xs (from + i) 0)) (get_or xs k 0)) last

pub most_none : (f : ℕ → ℕ) (n : ℕ) → n ≡ 0 → most n f ≡ 0
unfolding most
most_none f n e = rw e

-- ## The first place whose mark is past it

pub not_yet : (ends : List ℕ) (x s : ℕ) → ((z : ℕ) → x ≤ z → z < s → marked ends z ≡ false) → get_or ends s 0 ≤ s
    → (z : ℕ) → x ≤ z → z < s + 1 → marked ends z ≡ false
not_yet ends x s f l z h m = go (dec_lt z s)
  where
    go : Dec (z < s) → marked ends z ≡ false
    go (yes i) = f z h i
    go (no i) = let same : z ≡ s = omega arith in rw same (le-ltb s (get_or ends s 0) l)

-- ## A part's mark

pub no_mark : {p : Part} → p.to ≤ p.from → (ends : List ℕ) → Marked p ends ends
no_mark l ends = record { kept = refl; begins = λ h. absurd (omega arith); grown = λ x. omega arith; passed = λ x z h i j. absurd (omega arith) }

module _ (p : Part) (ends : List ℕ) {v : ℕ} (l : p.from < length ends) (e : v ≡ max (get_or ends p.from 0) p.to) where
  there : get_or (set ends p.from v) p.from 0 ≡ v
  there = get_or-set_same ends p.from v 0 l

  pub set-mark : Marked p ends (set ends p.from v)
  set-mark = record {
    kept = length-set ends p.from v;
    begins = λ h. omega (arith, there);
    grown = λ x. grown x (ℕ_discrete x p.from);
    passed = λ x z h i j. passed x z h i j (ℕ_discrete x p.from);
  }
    where
      grown : (x : ℕ) → Dec (x ≡ p.from) → get_or ends x 0 ≤ get_or (set ends p.from v) x 0
      grown x (yes s) = rw s (omega (arith, there))
      grown x (no s) = omega (arith, get_or-set_other ends p.from x v 0 s)

      passed : (x z : ℕ) → get_or ends x 0 ≤ z → x ≤ z → z < get_or (set ends p.from v) x 0 → Dec (x ≡ p.from) → (p.from ≤ z) × (z < p.to)
      passed x z h i j (yes s) =
          let old : get_or ends x 0 ≡ get_or ends p.from 0 = ap (λ (k : ℕ). get_or ends k 0) s in
          let new : get_or (set ends p.from v) x 0 ≡ v = ap (λ (k : ℕ). get_or (set ends p.from v) k 0) s ∙ there in
          (omega arith, omega arith)
      passed x z h i j (no s) = absurd (omega (arith, get_or-set_other ends p.from x v 0 s))

-- ## The rectangles, one after the other

pub unmarked : (areas : List ℕ) (y : ℕ) (ends : List ℕ) → Marks areas 0 y ends ends
unmarked areas y ends = record { kept = refl; begins = λ k l. absurd (omega arith); passed = λ x z h l m. absurd (omega arith) }

pub next-mark : {areas : List ℕ} {n y : ℕ} {old ends new : List ℕ} {p : Part} → Marks areas n y old ends → n < count areas
    → p ≡ part_of (area_at areas n) y → Marked p ends new → Marks areas (n + 1) y old new
next-mark {areas} {n} {y} {old} {ends} {new} {p} t l e m = record {
  kept = m.kept ∙ t.kept;
  begins = λ k h. begins k h (dec_lt k n);
  passed = λ x z h i j. passed x z h i j (dec_lt z (get_or ends x 0));
}
  where
    begins : (k : ℕ) → k < n + 1 → Dec (k < n) → let q = part_of (area_at areas k) y in q.from < q.to → q.to ≤ get_or new q.from 0
    begins k h (yes i) = λ j. omega (arith, t.begins k i j, m.grown (part_of (area_at areas k) y).from)
    begins k h (no i) =
        let same : p ≡ part_of (area_at areas k) y = e ∙ ap (λ (u : ℕ). part_of (area_at areas u) y) (omega arith) in
        rw (← same) m.begins

    passed : (x z : ℕ) → get_or old x 0 ≤ z → x ≤ z → z < get_or new x 0 → Dec (z < get_or ends x 0) → held areas z y ≡ true
    passed x z h i j (yes k) = t.passed x z h i k
    passed x z h i j (no k) =
        let q = m.passed x z (omega arith) i j in
        some_at (count areas) (λ u. holds z y (area_at areas u)) n l
        (part_held (area_at areas n) y z (omega (arith, ap (λ (r : Part). r.from) e)) (omega (arith, ap (λ (r : Part). r.to) e)))

-- ## The farthest mark up to each place

module _ {areas : List ℕ} {y : ℕ} {s : Part} (spans : Spans (λ z. held areas z y) 1024 s) {e0 e1 e2 e3 : List ℕ} (long : length e0 ≡ 1024)
    (clear : Changed s.from s.to (λ x v. 0) e0 e1) (marks : Marks areas (count areas) y e1 e2)
    (reach : Changed s.from s.to (λ x v. most_from s.from e2 x) e2 e3) where
  -- all is held from a place up to its mark
  up_to : (x z : ℕ) → s.from ≤ x → x < s.to → x ≤ z → z < get_or e3 x 0 → held areas z y ≡ true
  up_to x z h l m i =
      most-one (x + 1 - s.from) (λ k. get_or e2 (s.from + k) 0) z (omega (arith, reach.at x h l))
      (λ k j. marks.passed (s.from + k) z (omega (arith, clear.at (s.from + k) (omega arith) (omega arith))) (omega arith))

  -- and the mark of a held place is past it
  past : (x : ℕ) → s.from ≤ x → x < s.to → held areas x y ≡ true → x < get_or e3 x 0
  past x h l e = one_of (count areas) (λ k. holds x y (area_at areas k)) e go
    where
      go : (k : ℕ) → k < count areas → holds x y (area_at areas k) ≡ true → x < get_or e3 x 0
      go k i j =
          let p = part_of (area_at areas k) y in
          let part = held_part (area_at areas k) y x j in
          let first : held areas p.from y ≡ true =
          some_at (count areas) (λ u. holds p.from y (area_at areas u)) k i (part_held (area_at areas k) y p.from (omega arith) (omega arith)) in
          let inside = spans.each p.from first in
          let place : s.from + (p.from - s.from) ≡ p.from = omega arith in
          omega (
            arith,
            reach.at x h l,
            marks.begins k i (omega arith),
            ap (λ (u : ℕ). get_or e2 u 0) place,
            most_of (x + 1 - s.from) (λ u. get_or e2 (s.from + u) 0) (p.from - s.from) (omega arith),
          )

  pub reaches : Reaches (λ z. held areas z y) s e3
  reaches = record {
    closed = record {
      long = reach.kept ∙ marks.kept ∙ clear.kept ∙ long;
      within = λ x h l. within x h l (dec_lt x (get_or e3 x 0));
      full = λ x z h l m i. let e = up_to x z h l m i in let z-in = spans.each z e in past z z-in.0 z-in.1 e;
    };
    same = λ x h l. same x h l (dec_lt x (get_or e3 x 0));
  }
    where
      within : (x : ℕ) → s.from ≤ x → x < s.to → Dec (x < get_or e3 x 0) → get_or e3 x 0 ≤ s.to
      within x h l (yes m) =
          let last = spans.each (get_or e3 x 0 - 1) (up_to x (get_or e3 x 0 - 1) h l (omega arith) (omega arith)) in
          omega arith
      within x h l (no m) = omega arith

      same : (x : ℕ) → s.from ≤ x → x < s.to → Dec (x < get_or e3 x 0) → marked e3 x ≡ held areas x y
      same x h l (yes m) = lt-ltb x (get_or e3 x 0) m ∙ sym (up_to x x h l (omega arith) m)
      same x h l (no m) = le-ltb x (get_or e3 x 0) (omega arith) ∙ sym (go (held areas x y) refl)
        where
          go : (b : Bool) → held areas x y ≡ b → held areas x y ≡ false
          go true e = absurd (m (past x h l e))
          go false e = e

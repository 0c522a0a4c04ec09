-- What a band gives to each rectangle. Its running sums are over the columns that the part of the row has in which all is held; of these a rectangle has only
-- held ones, and each of those is summed over the band's rows. So the difference of two running sums is what the rectangle has of the band, whatever
-- stands in the other columns. Assumes nothing.
use Prim.Native.Nat.{ℕ, ◌+◌, ◌*◌, ◌-◌, ◌/◌, ◌%◌, ◌≤◌, ◌<◌}
use mathlib.Core.Path.{◌≡◌, refl, ap, ap₂, ◌∙◌}
use mathlib.Core.Bool.{Bool, true, false, cond}
use mathlib.Core.List.{List}
use native.Mathlib.Decide.{dec_lt}
use native.Mathlib.Omega.{arith}
use lib.ListN.{get_or}
use Rattle.num.specs.Laws.Rewrite.{rewrite_ext}
use Rattle.areas.specs.Areas.{sum, count, area_at, holds, held, channel}
use Rattle.areas.specs.Private.{in_row, part_of, Spans, Line, marked, Reaches, unspread, word_at, over, SummedTo, running_at}
use Rattle.areas.specs.Private.{between, Growing, shared_at, shared_out, Shareable, row_total, row_words, band_part, Ready, Banded}
use Rattle.areas.specs.declared.area.Area.{Area}
use Rattle.areas.specs.declared.area.Part.{Part}
use Rattle.areas.specs.declared.block.Band.{Band}
use Rattle.areas.proofs.Ranges.{over-empty, over_join}
use Rattle.areas.proofs.Search.{placed_in, part_in, part_out, part_fits, part_held}
use Rattle.areas.proofs.Spread.{channel-small, unspread-sum}
use Rattle.num.specs.Laws.Sums.{sum_ext, sum_bound, sum_split, sum_none, sum-stop, sum_swap}
use Rattle.areas.proofs.OneOf.{some_at}

-- ## A part of the columns

-- a channel of column x, over the band's rows
abbrev column_of : List ℕ → Band → ℕ → ℕ → ℕ
column_of picture b c x = sum b.rows (λ j. channel c (word_at picture b x j))

module _ (picture : List ℕ) (b : Band) (c : ℕ) where
  over-small : (p q : ℕ) → q - p ≤ 1024 → b.rows ≤ 1024 → over p q (column_of picture b c) ≤ 267386880
  over-small p q l m =
      omega (
        arith,
        sum_bound (q - p) 261120 (λ t. column_of picture b c (p + t))
            (λ t.
            omega (
              arith,
              sum_bound b.rows 255 (λ j. channel c (word_at picture b (p + t) j)) (λ j. channel-small c (word_at picture b (p + t) j)),
            )),
      )

  -- a rectangle's columns are its rows
  turned : (a : Area) → over (part_of a b.y).from (part_of a b.y).to (column_of picture b c) ≡ band_part picture b c a
  unfolding row_total band_part
  turned a = go (in_row a b.y) refl
    where
      go : (r : Bool) → in_row a b.y ≡ r → over (part_of a b.y).from (part_of a b.y).to (column_of picture b c)
          ≡ cond r (sum b.rows (λ j. row_total picture b.width c a (b.y + j))) 0
      go true e =
          let wide : a.left + a.wide - a.left ≡ a.wide = omega arith in
          rw (part_in a b.y e)
          (ap (λ (n : ℕ). sum n (λ i. column_of picture b c (a.left + i))) wide
          ∙ sum_swap a.wide b.rows (λ i j. channel c (word_at picture b (a.left + i) j)))
      go false e = rw (part_out a b.y e) (over-empty (column_of picture b c) 0 0 (omega arith))

-- ## The rectangles

module _ {picture : List ℕ} {b : Band} {areas result : List ℕ} {s : Part} {ends columns sums : List ℕ} {words : ℕ} (ready : Ready picture b areas result)
    (spans : Spans (λ z. held areas z b.y) b.width s) (reach : Reaches (λ z. held areas z b.y) s ends)
    (read : SummedTo picture b s ends s.to columns words) (line : Line 3075 (3 * s.from) (3 * s.to + 3) (running_at columns s.from) sums) where
  sum-at : (t c : ℕ) → s.from ≤ t → t ≤ s.to → c < 3 → get_or sums (3 * t + c) 0 ≡ over s.from t (λ x. unspread c (get_or columns x 0))
  sum-at t c l m h =
      let whole : (3 * t + c) / 3 ≡ t = omega arith in
      let rest : (3 * t + c) % 3 ≡ c = omega arith in
      line.at (3 * t + c) (omega arith) (omega arith) ∙ ap₂ (λ (u v : ℕ). over s.from u (λ x. unspread v (get_or columns x 0))) whole rest

  column : (x c : ℕ) → held areas x b.y ≡ true → unspread c (get_or columns x 0) ≡ column_of picture b c x
  column x c h =
      let inside = spans.each x h in
      ap (unspread c) (read.at x inside.0 inside.1 (reach.same x inside.0 inside.1 ∙ h))
      ∙ unspread-sum c b.rows (λ j. word_at picture b x j) (omega (arith, ready.low))

  module _ (k : ℕ) (l : k < count areas) where
    abbrev p : Part
    p = part_of (area_at areas k) b.y

    has : (x : ℕ) → p.from ≤ x → x < p.to → held areas x b.y ≡ true
    has x h m = some_at (count areas) (λ u. holds x b.y (area_at areas u)) k l (part_held (area_at areas k) b.y x h m)

    -- what the sums grow by over its part
    grown : (c : ℕ) → c < 3 → get_or sums (3 * p.to + c) 0 ≡ get_or sums (3 * p.from + c) 0 + over p.from p.to (column_of picture b c)
    grown c h = go (dec_lt p.from p.to)
      where
        go : Dec (p.from < p.to) → get_or sums (3 * p.to + c) 0 ≡ get_or sums (3 * p.from + c) 0 + over p.from p.to (column_of picture b c)
        go (yes m) =
            let first = spans.each p.from (has p.from (omega arith) m) in
            let last = spans.each (p.to - 1) (has (p.to - 1) (omega arith) (omega arith)) in
            let same : over p.from p.to (λ x. unspread c (get_or columns x 0)) ≡ over p.from p.to (column_of picture b c) =
            sum_ext (p.to - p.from) (λ t. unspread c (get_or columns (p.from + t) 0)) (λ t. column_of picture b c (p.from + t))
            (λ t i. column (p.from + t) c (has (p.from + t) (omega arith) (omega arith))) in
            omega (
              arith,
              sum-at p.to c (omega arith) (omega arith) h,
              sum-at p.from c (omega arith) (omega arith) h,
              over_join (λ x. unspread c (get_or columns x 0)) s.from p.from p.to (omega arith) (omega arith),
            )
        go (no m) =
            let fits = part_fits (area_at areas k) b.y (ready.placed.each k l) in
            let empty : p.to ≡ p.from = omega arith in
            omega (arith, ap (λ (n : ℕ). get_or sums (3 * n + c) 0) empty, over-empty (column_of picture b c) p.from p.to (omega arith))

    growing : Growing sums p
    growing =
        let fits = part_fits (area_at areas k) b.y (ready.placed.each k l) in
        record {
          long = line.long;
          along = fits.0;
          within = omega (arith, ready.narrow);
          grows = λ c h. omega (arith, grown c h);
          small = λ c h. omega (arith, grown c h, over-small picture b c p.from p.to (omega (arith, ready.narrow)) (omega (arith, ready.low)));
        }

    given : (c : ℕ) → c < 3 → between sums p c ≡ band_part picture b c (area_at areas k)
    given c h = omega (arith, grown c h, turned picture b c (area_at areas k))

  pub shareable : Shareable areas b.y sums result
  shareable = record {
    placed = placed_in ready.placed ready.narrow (omega arith);
    growing = growing;
    roomy = record { room = ready.roomy.room; small = λ i l. omega (arith, ready.roomy.small i l) };
  }

  -- no place beside the part is held
  beside : (z : ℕ) → (s.from ≤ z → z < s.to → ⊥) → held areas z b.y ≡ false
  beside z out = go (held areas z b.y) refl
    where
      go : (r : Bool) → held areas z b.y ≡ r → held areas z b.y ≡ false
      go true e = let in_it = spans.each z e in absurd (out in_it.0 in_it.1)
      go false e = e

  all_words : over s.from s.to (λ z. cond (marked ends z) 1 0) ≡ row_words b.width areas b.y
  unfolding row_words
  all_words =
      let F : ℕ → ℕ = λ z. cond (held areas z b.y) 1 0 in
      let inner : over s.from s.to (λ z. cond (marked ends z) 1 0) ≡ over s.from s.to F =
      sum_ext (s.to - s.from) (λ t. cond (marked ends (s.from + t)) 1 0) (λ t. F (s.from + t))
      (λ t l. ap (λ (o : Bool). cond o 1 0) (reach.same (s.from + t) (omega arith) (omega arith))) in
      let before : sum s.from F ≡ 0 = sum_none s.from F (λ z l. ap (λ (o : Bool). cond o 1 0) (beside z (λ h m. omega arith))) in
      let after : sum (s.to + (b.width - s.to)) F ≡ sum s.to F =
      sum-stop s.to (b.width - s.to) F (λ i l. ap (λ (o : Bool). cond o 1 0) (beside (s.to + i) (λ h m. omega arith))) in
      let end : s.to ≡ s.from + (s.to - s.from) = omega (arith, spans.along) in
      let wide : s.to + (b.width - s.to) ≡ b.width = omega (arith, spans.within) in
      omega (arith, ap (λ (n : ℕ). sum n F) end, ap (λ (n : ℕ). sum n F) wide, sum_split s.from (s.to - s.from) F)

  pub banded : {done : List ℕ} → done ≡ shared_out areas b.y sums result → Banded picture b areas result done words
  banded e = record {
    added = e ∙ rewrite_ext (3 * count areas) (λ i v. v + shared_at areas b.y sums i) (λ i v. v + band_part picture b (i % 3) (area_at areas (i / 3))) result
        (λ i v l. ap (λ (n : ℕ). v + n) (given (i / 3) (omega arith) (i % 3) (omega arith)));
    counted = read.counted ∙ ap (λ (n : ℕ). b.rows * n) all_words;
  }

-- The walk, band after band: the totals and the words of the rows before y. The rows of a band have the same rectangles, so what holds of its first row
-- holds of each. Assumes nothing.
use Prim.Native.Nat.{ℕ, ◌+◌, ◌*◌, ◌-◌, ◌/◌, ◌%◌, ◌≤◌, ◌<◌, min, max}
use mathlib.Core.Path.{◌≡◌, refl, sym, ap, ap₂, ◌∙◌}
use mathlib.Core.Bool.{Bool, ◌&&◌, cond}
use mathlib.Core.List.{List}
use native.Mathlib.Nat.{mul-le-mul_right}
use native.Mathlib.Decide.{dec_lt}
use native.Mathlib.Omega.{arith}
use borrow.Author.Tests.{le-leb, lt-leb, lt-ltb, le-ltb}
use lib.Dec.{leb, ltb}
use lib.ListN.{length, get_or}
use Rattle.num.specs.Rewrite.{rewrite}
use Rattle.num.specs.Laws.Rewrite.{rewrite_ext, rewrite_twice, length-rewrite, get_d_rewrite}
use Rattle.areas.specs.Areas.{sum, count, area_at, holds, held, channel, total, words as words_of, totals_of}
use Rattle.areas.specs.Private.{in_row, Edge, Edges, Changed, over, row_total, row_words, band_part, Ready, Banded, Framed}
use Rattle.areas.specs.declared.area.Area.{Area}
use Rattle.areas.specs.declared.block.Band.{Band}
use Rattle.areas.proofs.Ranges.{over-empty, over-step}
use Rattle.areas.proofs.Runs.{one-most}
use Rattle.areas.proofs.Search.{placed_in}
use Rattle.areas.proofs.Spread.{channel-small}
use Rattle.areas.proofs.Strips.{as_rewrite}
use Rattle.num.specs.Laws.Sums.{sum_ext, sum-zero, sum_bound, sum_split, sum_const}
use Rattle.areas.proofs.OneOf.{some_ext}

-- ## The rows of a band

module _ {a : Area} {y e : ℕ} (t : Edge a y e) where
  -- a rectangle has all of them or none
  pub same_row : (j : ℕ) → y ≤ j → j < e → in_row a j ≡ in_row a y
  unfolding in_row
  same_row j l m = go (dec_lt y a.top) (dec_lt y (a.top + a.high))
    where
      go : Dec (y < a.top) → Dec (y < a.top + a.high) → leb a.top j && ltb j (a.top + a.high) ≡ leb a.top y && ltb y (a.top + a.high)
      go (yes p) q = simp (lt-leb a.top j (omega (arith, t.begins p)), lt-leb a.top y p)
      go (no p) (yes q) =
          simp (
            le-leb a.top j (omega arith),
            le-leb a.top y (omega arith),
            lt-ltb j (a.top + a.high) (omega (arith, t.ends q)),
            lt-ltb y (a.top + a.high) q,
          )
      go (no p) (no q) =
          simp (
            le-leb a.top j (omega arith),
            le-leb a.top y (omega arith),
            le-ltb j (a.top + a.high) (omega arith),
            le-ltb y (a.top + a.high) (omega arith),
          )

  pub same_holds : (x j : ℕ) → y ≤ j → j < e → holds x j a ≡ holds x y a
  unfolding holds in_row
  same_holds x j l m = ap (λ (b : Bool). (leb a.left x && ltb x (a.left + a.wide)) && b) (same_row j l m)

  -- what they add to a rectangle
  pub rows_add : (R : ℕ → ℕ)
      → over a.top (min (a.top + a.high) y) R + cond (in_row a y) (sum (e - y) (λ j. R (y + j))) 0 ≡ over a.top (min (a.top + a.high) e) R
  unfolding in_row
  rows_add R = go (dec_lt y a.top) (dec_lt y (a.top + a.high))
    where
      step : over a.top (min (a.top + a.high) e) R ≡ over a.top (min (a.top + a.high) y) R + over (max a.top y) (min (a.top + a.high) e) R
      step = over-step R a.top (a.top + a.high) y e (omega (arith, t.past))

      go : Dec (y < a.top) → Dec (y < a.top + a.high)
          → over a.top (min (a.top + a.high) y) R + cond (leb a.top y && ltb y (a.top + a.high)) (sum (e - y) (λ j. R (y + j))) 0
          ≡ over a.top (min (a.top + a.high) e) R
      go (yes p) q =
          simp (lt-leb a.top y p) (omega (arith, step, over-empty R (max a.top y) (min (a.top + a.high) e) (omega (arith, t.begins p))))
      go (no p) (yes q) =
          let first : max a.top y ≡ y = omega arith in
          let last : min (a.top + a.high) e ≡ e = omega (arith, t.ends q) in
          simp (le-leb a.top y (omega arith), lt-ltb y (a.top + a.high) q)
          (sym (step ∙ ap₂ (λ (m n : ℕ). over a.top (min (a.top + a.high) y) R + over m n R) first last))
      go (no p) (no q) =
          simp (le-leb a.top y (omega arith), le-ltb y (a.top + a.high) (omega arith))
          (omega (arith, step, over-empty R (max a.top y) (min (a.top + a.high) e) (omega arith)))

-- as many words in each row
same_words : (w : ℕ) (areas : List ℕ) {y h e : ℕ} → Edges areas (count areas) y h e → (j : ℕ) → y ≤ j → j < e → row_words w areas j ≡ row_words w areas y
unfolding row_words
same_words w areas {y} t j l m =
    sum_ext w (λ x. cond (held areas x j) 1 0) (λ x. cond (held areas x y) 1 0)
    (λ x h.
    ap (λ (b : Bool). cond b 1 0)
    (some_ext (count areas) (λ k. holds x j (area_at areas k)) (λ k. holds x y (area_at areas k)) (λ k i. same_holds (t.each k i) x j l m)))

-- ## A rectangle's total

module _ (picture : List ℕ) (w c : ℕ) (a : Area) where
  -- of its rows before y
  abbrev pub up_to : ℕ → ℕ
  up_to y = over a.top (min (a.top + a.high) y) (row_total picture w c a)

  up_zero : up_to 0 ≡ 0
  up_zero = over-empty (row_total picture w c a) a.top (min (a.top + a.high) 0) (omega arith)

  up_all : (h : ℕ) → a.top + a.high ≤ h → up_to h ≡ total picture w c a
  unfolding total row_total
  up_all h l = ap (λ (n : ℕ). sum n (λ j. row_total picture w c a (a.top + j))) (omega arith)

  row_small : (y : ℕ) → a.wide ≤ 1024 → row_total picture w c a y ≤ 261120
  unfolding row_total
  row_small y l =
      omega (
        arith,
        sum_bound a.wide 255 (λ i. channel c (get_or picture (y * w + (a.left + i)) 0)) (λ i. channel-small c (get_or picture (y * w + (a.left + i)) 0)),
      )

  up_small : (y : ℕ) → a.wide ≤ 1024 → a.high ≤ 1024 → up_to y ≤ 1152921504606846976
  up_small y l m =
      omega (arith, sum_bound (min (a.top + a.high) y - a.top) 261120 (λ j. row_total picture w c a (a.top + j)) (λ j. row_small (a.top + j) l))

-- ## The walk

-- it has come to row y
pub record Walking (picture : List ℕ) (w h : ℕ) (areas xs : List ℕ) (y words : ℕ) (ys : List ℕ) : Type 0 where
  pub within : y ≤ h
  pub counted : words ≡ sum y (λ k. row_words w areas k)
  pub done : ys ≡ rewrite (3 * count areas) (λ i v. up_to picture w (i % 3) (area_at areas (i / 3)) y) xs

-- from words that are cleared: it begins, and it is as if they had not been
module _ {picture : List ℕ} {w h : ℕ} {areas old : List ℕ} (f : Framed picture w h areas old) {xs : List ℕ} (e : Changed 0 (length areas / 4 * 3) (λ i v. 0) old xs) where
  cleared : xs ≡ rewrite (3 * count areas) (λ i v. 0) old
  cleared = as_rewrite e refl (omega (arith, f.room)) ∙ ap (λ (n : ℕ). rewrite n (λ i v. 0) old) (omega arith)

  -- a rewriting that looks at no word
  over_cleared : (g : ℕ → ℕ) → rewrite (3 * count areas) (λ i v. g i) xs ≡ rewrite (3 * count areas) (λ i v. g i) old
  over_cleared g = ap (rewrite (3 * count areas) (λ i v. g i)) cleared ∙ rewrite_twice (3 * count areas) (λ i v. 0) (λ i v. g i) old

  pub begun : Walking picture w h areas xs 0 0 xs
  begun = record {
    within = omega arith;
    counted = sym (sum-zero (λ k. row_words w areas k));
    done = cleared ∙ sym (over_cleared (λ i. 0))
        ∙ rewrite_ext (3 * count areas) (λ i v. 0) (λ i v. up_to picture w (i % 3) (area_at areas (i / 3)) 0) xs
        (λ i v l. sym (up_zero picture w (i % 3) (area_at areas (i / 3))));
  }

  pub framed : Framed picture w h areas xs
  framed = record {
    narrow = f.narrow;
    low = f.low;
    full = f.full;
    placed = f.placed;
    room = omega (arith, f.room, e.kept);
  }

  pub totals_cleared : totals_of picture w areas xs ≡ totals_of picture w areas old
  unfolding totals_of
  totals_cleared = over_cleared (λ i. total picture w (i % 3) (area_at areas (i / 3)))

few : (w : ℕ) (areas : List ℕ) (y : ℕ) → w ≤ 1024 → row_words w areas y ≤ 1024
unfolding row_words
few w areas y l = omega (arith, sum_bound w 1 (λ x. cond (held areas x y) 1 0) (λ x. one-most (held areas x y)))

module _ {picture : List ℕ} {w h : ℕ} {areas xs : List ℕ} {y words : ℕ} {ys : List ℕ} (t : Walking picture w h areas xs y words ys) (f : Framed picture w h areas xs) where
  pub kept : length ys ≡ length xs
  kept = ap length t.done ∙ length-rewrite (3 * count areas) (λ i v. up_to picture w (i % 3) (area_at areas (i / 3)) y) xs

  pub words-few : words ≤ y * 1024
  words-few = omega (arith, t.counted, sum_bound y 1024 (λ k. row_words w areas k) (λ k. few w areas k f.narrow))

  module _ {e : ℕ} (g : Edges areas (count areas) y h e) where
    abbrev band : Band
    band = record { y = y; rows = e - y; width = w }

    pub ready : Ready picture band areas ys
    ready =
        let last : y + (e - y) ≡ e = omega (arith, g.past) in
        let inside : e * w ≤ h * w = mul-le-mul_right w g.within in
        record {
          narrow = f.narrow;
          low = omega (arith, g.past, g.within, f.low);
          full = omega (arith, f.full, ap (λ (n : ℕ). n * w) last);
          placed = placed_in f.placed (omega arith) f.low;
          roomy = record {
            room = omega (arith, kept, f.room);
            small = λ i m.
                let inside = f.placed.each (i / 3) (omega arith) in
                let same : get_or ys i 0 ≡ up_to picture w (i % 3) (area_at areas (i / 3)) y =
                ap (λ (zs : List ℕ). get_or zs i 0) t.done
                ∙ get_d_rewrite (3 * count areas) (λ j v. up_to picture w (j % 3) (area_at areas (j / 3)) y) xs i 0 m (omega (arith, f.room)) in
                omega (
                  arith,
                  up_small picture w (i % 3) (area_at areas (i / 3)) y (omega (arith, inside.across, f.narrow)) (omega (arith, inside.down, f.low)),
                );
          };
        }

    pub walked : {n : ℕ} {zs : List ℕ} → Banded picture band areas ys zs n → Walking picture w h areas xs e (words + n) zs
    unfolding band_part
    walked {n} {zs} r = record {
      within = g.within;
      counted =
          let rows : sum (e - y) (λ j. row_words w areas (y + j)) ≡ (e - y) * row_words w areas y =
          sum_const (e - y) (row_words w areas y) (λ j. row_words w areas (y + j)) (λ j l. same_words w areas g (y + j) (omega arith) (omega arith)) in
          let all : sum e (λ k. row_words w areas k) ≡ sum y (λ k. row_words w areas k) + sum (e - y) (λ j. row_words w areas (y + j)) =
          ap (λ (m : ℕ). sum m (λ k. row_words w areas k)) (omega (arith, g.past)) ∙ sum_split y (e - y) (λ k. row_words w areas k) in
          omega (arith, t.counted, r.counted);
      done = r.added
          ∙ ap (rewrite (3 * count areas) (λ i v. v + band_part picture band (i % 3) (area_at areas (i / 3)))) t.done
          ∙ rewrite_twice (3 * count areas) (λ i v. up_to picture w (i % 3) (area_at areas (i / 3)) y) (λ i v. v + band_part picture band (i % 3) (area_at areas (i / 3))) xs
          ∙ rewrite_ext (3 * count areas) (λ i v. up_to picture w (i % 3) (area_at areas (i / 3)) y + band_part picture band (i % 3) (area_at areas (i / 3)))
          (λ i v. up_to picture w (i % 3) (area_at areas (i / 3)) e) xs
          (λ i v m. rows_add (g.each (i / 3) (omega arith)) (row_total picture w (i % 3) (area_at areas (i / 3))));
    }

  pub over-now : h ≤ y → (words ≡ words_of w h areas) × (ys ≡ totals_of picture w areas xs)
  unfolding words_of row_words totals_of
  over-now l =
      let last : y ≡ h = omega (arith, t.within) in (
        t.counted ∙ ap (λ (n : ℕ). sum n (λ k. row_words w areas k)) last,
        t.done ∙ ap (λ (n : ℕ). rewrite (3 * count areas) (λ i v. up_to picture w (i % 3) (area_at areas (i / 3)) n) xs) last
            ∙ rewrite_ext (3 * count areas) (λ i v. up_to picture w (i % 3) (area_at areas (i / 3)) h) (λ i v. total picture w (i % 3) (area_at areas (i / 3))) xs
            (λ i v m. up_all picture w (i % 3) (area_at areas (i / 3)) h (f.placed.each (i / 3) (omega arith)).down),
      )

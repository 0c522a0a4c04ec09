-- The sums of columns, row after row, and the running sums of them, column after column. Assumes nothing.
use Prim.Native.Nat.{ℕ, suc, ◌+◌, ◌*◌, ◌-◌, ◌/◌, ◌%◌, ◌≤◌, ◌<◌}
use mathlib.Core.Path.{◌≡◌, refl, sym, ap, ap₂, ◌∙◌}
use mathlib.Core.List.{List}
use native.Mathlib.Nat.{suc-mul, mul-le-mul, mul-le-mul_right}
use native.Mathlib.Numerals.{add-one}
use native.Mathlib.Omega.{arith}
use lib.ListN.{length, get_or, set}
use Rattle.areas.specs.Areas.{sum}
use Rattle.areas.specs.Private.{Changed, Line, spread_of, unspread, Readable, WithRow, InPicture, word_at, Columns, over, running_at}
use Rattle.areas.specs.declared.block.Band.{Band}
use Rattle.areas.proofs.Spread.{spread_small}
use Rattle.areas.proofs.Strips.{blank, changed, three}
use Rattle.areas.proofs.Ranges.{over-empty, over_more}
use Rattle.num.specs.Laws.Sums.{sum_bound, sum_more}

-- ## The columns

module _ {picture : List ℕ} {b : Band} {from to : ℕ} (p : InPicture picture b from to) {j : ℕ} (l : j < b.rows) where
  last : (b.y + j) * b.width + b.width ≤ (b.y + b.rows) * b.width
  last =
      let up : suc (b.y + j) * b.width ≤ (b.y + b.rows) * b.width = mul-le-mul_right b.width (omega arith) in
      omega (arith, up, suc-mul (b.y + j) b.width)

  -- row j of the band ends in the picture
  pub row_ends : (b.y + j) * b.width + b.width ≤ length picture
  row_ends = omega (arith, p.full, last)

  pub row_small : (b.y + j) * b.width + b.width ≤ 1048576
  row_small = let small : (b.y + b.rows) * b.width ≤ 1048576 = mul-le-mul p.low p.narrow in omega (arith, small, last)

-- the first j rows are added
pub record Rowing (picture : List ℕ) (b : Band) (from to j words : ℕ) (old columns : List ℕ) : Type 0 where
  pub counted : words ≡ j * (to - from)
  pub line : Line 1024 from to (λ x. sum j (λ t. spread_of (word_at picture b x t))) columns
  pub kept : (x : ℕ) → x < from → get_or columns x 0 ≡ get_or old x 0

pub no_rows : (picture : List ℕ) (b : Band) {from to : ℕ} {xs ys : List ℕ} → length xs ≡ 1024 → Changed from to (λ x v. 0) xs ys
    → Rowing picture b from to 0 0 ys ys
unfolding sum
no_rows picture b {from} {to} {xs} e h =
    let whole : Line 1024 from to (λ x. get_or xs x 0) xs = record { long = e; at = λ x l m. refl } in
    record { counted = omega arith; line = changed whole (λ x. 0) h (λ x l m. refl); kept = λ x l. refl }

module _ {picture : List ℕ} {b : Band} {from to j words : ℕ} {old columns : List ℕ} (t : Rowing picture b from to j words old columns) where
  pub readable : InPicture picture b from to → j < b.rows → Readable picture ((b.y + j) * b.width) from to columns
  readable p l = record {
    along = p.along;
    inside = omega (arith, p.across, row_ends p l);
    few = omega (arith, p.across, p.narrow);
    fits = omega (arith, p.across, p.narrow, t.line.long);
    small = λ x i k.
        omega (arith, l, p.low, t.line.at x i k, sum_bound j 1121502395105535 (λ s. spread_of (word_at picture b x s)) (λ s. spread_small (word_at picture b x s)));
  }

  pub next_row : {ys : List ℕ} {r : ℕ} → WithRow picture ((b.y + j) * b.width) from to columns ys r → Rowing picture b from to (j + 1) (words + r) old ys
  next_row {ys} {r} w =
      let more-words : (j + 1) * (to - from) ≡ j * (to - from) + (to - from) = ap (λ (k : ℕ). k * (to - from)) (add-one j) ∙ suc-mul j (to - from) in
      record {
        counted = omega (arith, t.counted, w.counted);
        line = changed t.line (λ x. sum (j + 1) (λ s. spread_of (word_at picture b x s))) w.added
            (λ x l m. sym (sum_more j (λ s. spread_of (word_at picture b x s))));
        kept = λ x l. w.added.before x l ∙ t.kept x l;
      }

-- all rows
pub columns_are : {picture : List ℕ} {b : Band} {from to words : ℕ} {old cleared columns : List ℕ} → Changed from to (λ x v. 0) old cleared
    → Rowing picture b from to b.rows words cleared columns → Columns picture b from to old columns words
columns_are h t = record { line = t.line; kept = λ x l. t.kept x l ∙ h.before x l; counted = t.counted }

-- ## The running sums

module _ (columns : List ℕ) (from : ℕ) where
  -- channel c of the columns up to t
  abbrev pub runs : ℕ → ℕ → ℕ
  runs c t = over from t (λ s. unspread c (get_or columns s 0))

  running_is : (t j c : ℕ) → j ≡ 3 * t + c → c < 3 → runs c t ≡ running_at columns from j
  running_is t j c e l =
      let whole : t ≡ j / 3 = omega arith in
      let third : c ≡ j % 3 = omega arith in
      ap₂ (λ (m n : ℕ). over from m (λ s. unspread n (get_or columns s 0))) whole third

  none : (c : ℕ) → 0 ≡ runs c from
  none c = sym (over-empty (λ s. unspread c (get_or columns s 0)) from from (omega arith))

  -- those before t are done
  pub record Running (t red green blue : ℕ) (sums : List ℕ) : Type 0 where
    pub reds : red ≡ runs 0 t
    pub greens : green ≡ runs 1 t
    pub blues : blue ≡ runs 2 t
    pub few-red : red ≤ t * 4194304
    pub few-green : green ≤ t * 2097152
    pub few-blue : blue ≤ t * 2097152
    pub line : Line 3075 (3 * from) (3 * t + 3) (running_at columns from) sums

  pub none_run : (sums : List ℕ) → from ≤ 1024 → length sums ≡ 3075
      → Running from 0 0 0 (set (set (set sums (3 * from) 0) (3 * from + 1) 0) (3 * from + 2) 0)
  none_run sums l e = record {
    reds = none 0;
    greens = none 1;
    blues = none 2;
    few-red = omega arith;
    few-green = omega arith;
    few-blue = omega arith;
    line = three {xs = sums} (blank {xs = sums} (3 * from) (running_at columns from) e) (omega arith)
        (none 0 ∙ running_is from (3 * from) 0 (omega arith) (omega arith))
        (none 1 ∙ running_is from (3 * from + 1) 1 (omega arith) (omega arith))
        (none 2 ∙ running_is from (3 * from + 2) 2 (omega arith) (omega arith));
  }

module _ {columns : List ℕ} {from t red green blue : ℕ} {sums : List ℕ} (r : Running columns from t red green blue sums) where
  pub next_column : from ≤ t → t < 1024 → get_or columns t 0 ≤ 18446744073709551615
      → Running columns from (t + 1) (red + get_or columns t 0 / 4398046511104) (green + get_or columns t 0 / 2097152 % 2097152)
      (blue + get_or columns t 0 % 2097152)
      (set (set (set sums (3 * t + 3) (red + get_or columns t 0 / 4398046511104)) (3 * t + 3 + 1) (green + get_or columns t 0 / 2097152 % 2097152)) (3 * t + 3 + 2)
      (blue + get_or columns t 0 % 2097152))
  unfolding unspread
  next_column l m h =
      let reds : red + get_or columns t 0 / 4398046511104 ≡ runs columns from 0 (t + 1) =
      omega (arith, r.reds, over_more (λ s. unspread 0 (get_or columns s 0)) from t l) in
      let greens : green + get_or columns t 0 / 2097152 % 2097152 ≡ runs columns from 1 (t + 1) =
      omega (arith, r.greens, over_more (λ s. unspread 1 (get_or columns s 0)) from t l) in
      let blues : blue + get_or columns t 0 % 2097152 ≡ runs columns from 2 (t + 1) =
      omega (arith, r.blues, over_more (λ s. unspread 2 (get_or columns s 0)) from t l) in
      let last : 3 * t + 3 + 3 ≡ 3 * (t + 1) + 3 = omega arith in
      record {
        reds = reds;
        greens = greens;
        blues = blues;
        few-red = omega (arith, r.few-red);
        few-green = omega (arith, r.few-green);
        few-blue = omega (arith, r.few-blue);
        line = rw (← last)
            (three r.line (omega arith)
            (reds ∙ running_is columns from (t + 1) (3 * t + 3) 0 (omega arith) (omega arith))
            (greens ∙ running_is columns from (t + 1) (3 * t + 3 + 1) 1 (omega arith) (omega arith))
            (blues ∙ running_is columns from (t + 1) (3 * t + 3 + 2) 2 (omega arith) (omega arith)));
      }

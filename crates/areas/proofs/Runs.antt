-- A band, run after run: the sums of the marked columns up to a place, and how many words those are. Between two runs nothing is marked, so nothing is missed
-- there; a run is marked whole, so no word is counted that is not. Assumes nothing.
use Prim.Native.Nat.{ℕ, ◌+◌, ◌*◌, ◌-◌, ◌≤◌, ◌<◌}
use mathlib.Core.Path.{◌≡◌, sym, ap, ◌∙◌}
use mathlib.Core.Bool.{Bool, true, false, cond}
use mathlib.Core.List.{List}
use native.Mathlib.Nat.{mul-add}
use native.Mathlib.Decide.{dec_lt}
use native.Mathlib.Omega.{arith}
use borrow.Author.Tests.{lt-ltb}
use lib.ListN.{length, get_or}
use Rattle.num.specs.Laws.Bools.{false_true}
use Rattle.num.specs.Laws.Refusals.{area-fine}
use Rattle.areas.specs.Private.{marked, Closed, First, InPicture, column_sum, Columns, over, SummedTo}
use Rattle.areas.specs.declared.area.Part.{Part}
use Rattle.areas.specs.declared.block.Band.{Band}
use Rattle.areas.proofs.Ranges.{over-empty, over_join}
use Rattle.num.specs.Laws.Sums.{sum_bound, sum_none, sum_const}

pub one-most : (o : Bool) → cond o 1 0 ≤ 1
one-most true = omega arith
one-most false = omega arith

-- how many are marked
abbrev one : List ℕ → ℕ → ℕ
one ends z = cond (marked ends z) 1 0

module _ (picture : List ℕ) (b : Band) (s : Part) (ends : List ℕ) where
  pub none_read : {columns : List ℕ} → length columns ≡ 1024 → SummedTo picture b s ends s.from columns 0
  none_read e = record {
    long = e;
    at = λ z l m h. absurd (omega arith);
    counted = omega (arith, ap (λ (n : ℕ). b.rows * n) (over-empty (one ends) s.from s.from (omega arith)));
  }

module _ {picture : List ℕ} {b : Band} {s : Part} {ends : List ℕ} {x words : ℕ} {columns : List ℕ} (t : SummedTo picture b s ends x columns words)
    (low : s.from ≤ x) where
  -- nothing is marked up to n
  pub read-gap : {w n : ℕ} → First (marked ends) x w n → SummedTo picture b s ends n columns words
  read-gap {w} {n} f = record {
    long = t.long;
    at = λ z l m h. at z l m h (dec_lt z x);
    counted =
        let none : over x n (one ends) ≡ 0 =
        sum_none (n - x) (λ i. one ends (x + i)) (λ i l. ap (λ (o : Bool). cond o 1 0) (f.free (x + i) (omega arith) (omega arith))) in
        t.counted ∙ ap (λ (k : ℕ). b.rows * k) (omega (arith, over_join (one ends) s.from x n low f.low));
  }
    where
      at : (z : ℕ) → s.from ≤ z → z < n → marked ends z ≡ true → Dec (z < x) → get_or columns z 0 ≡ column_sum picture b z
      at z l m h (yes i) = t.at z l i h
      at z l m h (no i) = false_true (sym (f.free z (omega arith) m) ∙ h)

  -- all is marked up to e, and its columns are summed
  pub read-run : {e r : ℕ} {new : List ℕ} → Closed s ends → x < s.to → e ≡ get_or ends x 0 → x ≤ e → Columns picture b x e columns new r
      → SummedTo picture b s ends e new (words + r)
  read-run {e} {r} {new} c high last along u = record {
    long = u.line.long;
    at = λ z l m h. at z l m h (dec_lt z x);
    counted =
        let ones : over x e (one ends) ≡ (e - x) * 1 =
        sum_const (e - x) 1 (λ i. one ends (x + i))
        (λ i l. ap (λ (o : Bool). cond o 1 0) (lt-ltb (x + i) (get_or ends (x + i) 0) (c.full x (x + i) low high (omega arith) (omega arith)))) in
        let more : over s.from e (one ends) ≡ over s.from x (one ends) + (e - x) = omega (arith, over_join (one ends) s.from x e low along) in
        omega (arith, t.counted, u.counted, ap (λ (k : ℕ). b.rows * k) more, mul-add b.rows (over s.from x (one ends)) (e - x));
  }
    where
      at : (z : ℕ) → s.from ≤ z → z < e → marked ends z ≡ true → Dec (z < x) → get_or new z 0 ≡ column_sum picture b z
      at z l m h (yes i) = u.kept z i ∙ t.at z l i h
      at z l m h (no i) = u.line.at z (omega arith) m

  pub words-few : InPicture picture b s.from s.to → x ≤ s.to → words ≤ 1048576
  words-few i l =
      let few : over s.from x (one ends) ≤ 1024 =
      omega (arith, i.across, i.narrow, sum_bound (x - s.from) 1 (λ k. one ends (s.from + k)) (λ k. one-most (marked ends (s.from + k)))) in
      omega (arith, t.counted, area-fine {w = over s.from x (one ends)} {h = b.rows} few (omega (arith, i.low)))

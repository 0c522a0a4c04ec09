-- `passes::marks::collect` meets its contract: a mark is at most 255, so the sum fits. Assumes nothing.
use Rattle.std.proofs.Common.{◌≡◌, ℕ, ◌+◌, ◌/◌, ◌%◌, ◌<◌, ◌≤◌, List, length, get_or, set, sym, refl, ap, ◌∙◌, ap₂, le_refl, arith, rules}
use Rattle.num.specs.Laws.Rewrite.{none, more, all, get_d_rewrite-rest}
use Rattle.num.specs.Sums.{sum}
use Rattle.num.specs.Laws.Sums.{sum-zero, sum_more}
use Rattle.passes.specs.Private.{unmarked}
use Rattle.passes.specs.Painted.{painted}
use Rattle.passes.proofs.marks.collect.Invariants.{Collecting}
use Rattle.passes.proofs.marks.collect.Goals as goal

start : (xs : List ℕ) → Collecting 0 xs xs 0
start xs = record { words = none _ xs; marks = sym (sum-zero _); few = omega arith }

next : {i : ℕ} {xs ys : List ℕ} {n : ℕ} → Collecting i xs ys n → i < length ys → get_or ys i 0 < 4294967296
    → Collecting (i + 1) xs (set ys i (get_or ys i 0 % 16777216)) (n + get_or ys i 0 / 16777216)
next {i} {xs} {ys} {n} t l b =
    let same : get_or ys i 0 ≡ get_or xs i 0 = ap (λ (z : List ℕ). get_or z i 0) t.words.done ∙ get_d_rewrite-rest i _ xs i 0 (le_refl i) in
    let f : ℕ → ℕ = λ k. get_or xs k 0 / 16777216 in
    record {
      words = more t.words 0 l refl;
      marks = ap₂ (λ (a q : ℕ). a + q / 16777216) t.marks same ∙ sym (sum_more i f);
      few = omega (arith, t.few);
    }

done : {i : ℕ} {xs ys : List ℕ} {n : ℕ} → Collecting i xs ys n → length ys ≤ i → painted ys n ≡ unmarked xs
unfolding unmarked
done {i} {xs} {ys} {n} t l =
    let e : i ≡ length xs = omega (arith, t.words.within, t.words.kept) in
    ap₂ painted (all t.words l) (t.marks ∙ ap (λ (k : ℕ). sum k (λ j. get_or xs j 0 / 16777216)) e)

pub loop-word-init : goal.loop-word-init
loop-word-init c = start _

pub loop-word-preserved : goal.loop-word-preserved
loop-word-preserved c = next c.loop-word.invariant (omega arith) (search rules)

pub returns : goal.returns
returns c = done c.loop-word.invariant (omega arith)

-- `passes::color_correction::is_good_curve` meets its contract: the text's recursion is the library's. Assumes nothing.
use Rattle.std.proofs.Common.{◌≡◌, List, [], ◌∷◌, length, take, ◌&&◌, refl, ap, ◌∙◌, rules, le-leb}
use borrow.Author.Tests.{lt-leb}
use lib.Ieee.{Float}
use Rattle.std.specs.List.{list_all}
use Rattle.std.proofs.lemmas.Iterator.{YieldsList-from_slice}
use Rattle.std.proofs.lemmas.Iterator.Search.{all_from_yields_List}
use Rattle.passes.specs.ColorCorrection.{in_unit, all_in_unit, good_curve}
use Rattle.passes.proofs.color_correction.is_good_curve.Goals as goal

same : (xs : List Float) → list_all in_unit xs ≡ all_in_unit xs
unfolding all_in_unit
same [] = refl
same (x ∷ xs) = ap (λ b. in_unit x && b) (same xs)

pub returns-then-curve-ge256 : goal.returns-then-curve-ge256
unfolding good_curve
returns-then-curve-ge256 c =
    let words = take 256 c.args.curve.now in
    rw (le-leb 256 (length c.args.curve.now) c.if-curve-ge256.true)
    (all_from_yields_List in_unit _ _ c.all.result c.all.ensures.ran (YieldsList-from_slice words cc) (λ x b q k. search rules) ∙ same words)

pub returns-else-curve-ge256 : goal.returns-else-curve-ge256
unfolding good_curve
returns-else-curve-ge256 c = rw (lt-leb 256 (length c.args.curve.now) c.if-curve-ge256.false) refl

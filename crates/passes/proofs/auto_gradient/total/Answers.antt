-- `passes::auto_gradient::total` meets its contract. Assumes nothing.
use Rattle.std.proofs.Common.{◌≡◌, List, [], ◌∷◌, refl, ◌∙◌, rules}
use Rattle.std.specs.List as Std
use Rattle.std.proofs.lemmas.Iterator.Consumers.{fold_from_yields_List}
use Rattle.std.proofs.lemmas.Iterator.{YieldsList-from_slice}
use Rattle.num.specs.Const.{c0_0}
use Rattle.passes.specs.Fold.{fold}
use Rattle.passes.specs.Plain.AutoGradient.{add_luma}
use Rattle.passes.proofs.auto_gradient.total.Goals as goal

-- the text's fold is the library's
same : {A B : Type 0} (f : B → A → B) (z : B) (xs : List A) → Std.fold f z xs ≡ fold f z xs
unfolding fold
same f z [] = refl
same f z (x ∷ xs) = same f (f z x) xs

pub returns : goal.returns
returns c = fold_from_yields_List _ add_luma c0_0 c.fold.result c.fold.ensures.ran (YieldsList-from_slice c.args.frame.now cc) (λ a x b q k. search rules) ∙ same add_luma c0_0 c.args.frame.now

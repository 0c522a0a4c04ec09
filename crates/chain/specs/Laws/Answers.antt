-- What a frame call leaves of the scratch, whatever its answer. Assumes nothing.
use Rattle.std.specs.Prelude.{ℕ, ◌≡◌, List, drop, Result, Ok, Err}
use Rattle.std.proofs.Common.{ap}
use Rattle.num.specs.declared.refusal.Refusal.{Refusal}
use Rattle.passes.specs.declared.blur.Counts.{Counts}
use Rattle.chain.specs.Answers.{free}

-- whatever the answer, the words past k stay
pub stay : {A : Type 0} (a : Result Counts Refusal) (k : ℕ) (xs xs' : List A) → drop (free a k) xs' ≡ drop (free a k) xs → drop k xs' ≡ drop k xs
stay (Ok c) k xs xs' e = e
stay (Err n) k xs xs' e = ap (drop k) e

-- Laws of the code's answers as steps. Assumes nothing.
use Rattle.std.specs.Prelude.{ℕ, ◌≡◌, Result, Ok, Err}
use Rattle.cards.specs.Step.{took, step}
use Rattle.cards.specs.declared.fields.Stop.{Stop}

-- a value that was taken is the code's
pub answered : {A : Type 0} (r : Result A Stop) (n : ℕ) (a : A) (m : ℕ) → step r n ≡ took a m → r ≡ Ok a
answered (Ok b) n a m e = cc
answered (Err k) n a m e = cc

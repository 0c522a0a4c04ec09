-- Records that hold nothing any more, as rewritten one by one. Assumes nothing.
use Rattle.std.specs.Prelude.{ℕ, zero, suc, ◌+◌, ◌≡◌, refl, List, [], ◌∷◌, ◌++◌, length, take, drop}
use Rattle.std.proofs.Math.Nat.{zero-add, suc-add}
use Rattle.std.proofs.Common.{ap}
use Rattle.num.specs.Held.{nothing}
use Rattle.num.specs.Rewrite.{rewrite}
use Rattle.cards.specs.declared.station.Record.{Record}
use Rattle.chain.specs.Calls.{forget}
use Rattle.chain.specs.Chain.{with_held}

pub forgotten : (rs : List Record) → rewrite (length rs) (λ i. with_held nothing) rs ≡ forget rs
unfolding rewrite
forgotten [] = refl
forgotten (r ∷ rs) = ap (λ (q : List Record). with_held nothing r ∷ q) (forgotten rs)

-- of the records from i on the first m, in their places
pub forgotten_behind : (i m : ℕ) (rs : List Record)
    → take i rs ++ (forget (take m (drop i rs)) ++ drop m (drop i rs)) ≡ take i (take (i + m) rs) ++ forget (drop i (take (i + m) rs)) ++ drop (i + m) rs
forgotten_behind zero m rs = rw zero-add
forgotten_behind (suc i) zero [] = rw suc-add refl
forgotten_behind (suc i) (suc m) [] = rw suc-add refl
forgotten_behind (suc i) m (r ∷ rs) = rw suc-add (ap (λ (q : List Record). r ∷ q) (forgotten_behind i m rs))

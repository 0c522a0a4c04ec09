-- A kind that is none of the ten is refused as unknown. Assumes nothing.
use Prim.Native.Nat.{ℕ, zero, suc}
use mathlib.Core.Path.{◌≡◌, refl}
use mathlib.Core.List.{List}
use Rattle.cards.specs.Step.{Step, refuse}
use Rattle.cards.specs.declared.station.Pass.{Pass}
use Rattle.cards.specs.Passes.{pass_at}

pub unknown :
    (k : ℕ) → (k ≡ 1 → ⊥) → (k ≡ 2 → ⊥) → (k ≡ 3 → ⊥) → (k ≡ 4 → ⊥) → (k ≡ 5 → ⊥) → (k ≡ 6 → ⊥) → (k ≡ 7 → ⊥) → (k ≡ 8 → ⊥) → (k ≡ 9 → ⊥) → (k ≡ 10 → ⊥)
    → pass_at k ≡ refuse 4
unfolding pass_at
unknown zero h1 h2 h3 h4 h5 h6 h7 h8 h9 h10 = refl
unknown (suc zero) h1 h2 h3 h4 h5 h6 h7 h8 h9 h10 = absurd (h1 refl)
unknown (suc (suc zero)) h1 h2 h3 h4 h5 h6 h7 h8 h9 h10 = absurd (h2 refl)
unknown (suc (suc (suc zero))) h1 h2 h3 h4 h5 h6 h7 h8 h9 h10 = absurd (h3 refl)
unknown (suc (suc (suc (suc zero)))) h1 h2 h3 h4 h5 h6 h7 h8 h9 h10 = absurd (h4 refl)
unknown (suc (suc (suc (suc (suc zero))))) h1 h2 h3 h4 h5 h6 h7 h8 h9 h10 = absurd (h5 refl)
unknown (suc (suc (suc (suc (suc (suc zero)))))) h1 h2 h3 h4 h5 h6 h7 h8 h9 h10 = absurd (h6 refl)
unknown (suc (suc (suc (suc (suc (suc (suc zero))))))) h1 h2 h3 h4 h5 h6 h7 h8 h9 h10 = absurd (h7 refl)
unknown (suc (suc (suc (suc (suc (suc (suc (suc zero)))))))) h1 h2 h3 h4 h5 h6 h7 h8 h9 h10 = absurd (h8 refl)
unknown (suc (suc (suc (suc (suc (suc (suc (suc (suc zero))))))))) h1 h2 h3 h4 h5 h6 h7 h8 h9 h10 = absurd (h9 refl)
unknown (suc (suc (suc (suc (suc (suc (suc (suc (suc (suc zero)))))))))) h1 h2 h3 h4 h5 h6 h7 h8 h9 h10 = absurd (h10 refl)
unknown (suc (suc (suc (suc (suc (suc (suc (suc (suc (suc (suc k))))))))))) h1 h2 h3 h4 h5 h6 h7 h8 h9 h10 = refl

-- a definition at a kind is that at the number which the kind was found to be
pub kind_is : (k j : ℕ) (card : List ℕ) (at : ℕ) (s : Step Pass) → k ≡ j → s ≡ pass_at j card at → s ≡ pass_at k card at
kind_is k j card at s e h = rw e h

pub ruleset kinds = (kind_is)

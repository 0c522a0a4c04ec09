-- Acceptance is no refusal. Assumes nothing.
use Rattle.std.specs.Prelude.{ℕ, List, ◌≡◌}
use Rattle.std.proofs.Common.{arith}
use Rattle.cards.specs.Answers.{Report, refusal, acceptance}

-- acceptance is no refusal
pub accepted-not : {A : Type 0} (ns : List ℕ) (k : ℕ) → Path Report (acceptance ns) (refusal k) → A
accepted-not ns k e = let z : ◌≡◌ {A = ℕ} 0 1 = cc in absurd (omega arith)

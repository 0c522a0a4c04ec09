-- Document 01's answers, and those of the card's functions in its words: for each case of an answer its number and values. Assumes nothing.
use Rattle.std.specs.Prelude.{ℕ, ◌+◌, Bool, true, false, List, [], ◌∷◌, Result, Ok, Err}
use Rattle.num.specs.Refusals.{number_of}
use Rattle.num.specs.declared.refusal.Refusal.{Refusal}
use Rattle.cards.specs.declared.station.Station.{Station}

-- document 01's answer: a refusal's number, or acceptance with all that the call reports
pub data Report : Type 0 where
  refusal : ℕ → Report
  acceptance : List ℕ → Report

abbrev pub ok : Report → Bool
ok (refusal k) = false
ok (acceptance r) = true

-- an answer with the returned station
pub record Reply : Type 0 where
  pub answer : Report
  pub station : Station

abbrev pub reply : Report → Station → Reply
reply answer s = record { answer = answer; station = s }

-- a refusal leaves the station as it was given
abbrev pub refusing : Station → ℕ → Reply
refusing s k = reply (refusal k) s

-- ## What the functions answer

-- the code's answer, by what the call reports where it is accepted
abbrev pub reported_by : {A : Type 0} → (A → List ℕ) → Result A Refusal → Report
reported_by f (Ok a) = acceptance (f a)
reported_by f (Err k) = refusal (number_of k)

-- of chain's calls that report nothing
abbrev pub reported : Result (Unit {0}) Refusal → Report
reported = reported_by (λ _. [])

-- of a writing: acceptance reports the card's length
abbrev pub written : Result ℕ Refusal → Station → Reply
written r s = reply (reported_by (λ n. n ∷ []) r) s

-- ## For the exports

-- an answer as one number: what the call reports, 0 where it reports nothing, or 256 and the refusal's number
abbrev pub told : Report → ℕ
told (refusal k) = 256 + k
told (acceptance []) = 0
told (acceptance (x ∷ xs)) = x

-- a refusal leaves the old bytes
abbrev pub left : Report → (old new : List ℕ) → List ℕ
left (refusal k) old new = old
left (acceptance r) old new = new

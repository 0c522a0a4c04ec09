-- What the export of `areas` answers and leaves: 0, or 256 and the refusal's number; how many words were read; the totals. Assumes nothing.
use Rattle.std.specs.Prelude.{ℕ, ◌+◌, List, [], ◌∷◌}
use Rattle.areas.specs.Areas.{Answer, Read, Refused}

abbrev pub judged_number : Answer → ℕ
judged_number (Read n) = 0
judged_number (Refused k) = 256 + k

-- a refusal leaves the place for it as it was
abbrev pub judged_read : List ℕ → Answer → List ℕ
judged_read old (Read n) = n ∷ []
judged_read old (Refused k) = old

abbrev pub judged_told : List ℕ → Answer × List ℕ → ℕ × (List ℕ × List ℕ)
judged_told old x = (judged_number x.0, (judged_read old x.0, x.1))

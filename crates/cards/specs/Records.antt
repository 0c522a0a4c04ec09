-- A record: its kind, its switch and its settings; a card's holds nothing. Assumes nothing.
use Rattle.std.specs.Prelude.{ℕ, ◌+◌, Bool, ◌||◌, cond, List, [], ◌∷◌, map, leb, ltb, eqb}
use Rattle.std.specs.List.{list_any}
use Rattle.num.specs.Held.{nothing}
use Rattle.cards.specs.Step.{Reader, ◌>>=◌, ◌>>◌, ret, here, refuse_if}
use Rattle.cards.specs.Bits.{field_at}
use Rattle.cards.specs.Passes.{pass_at, kind_of}
use Rattle.cards.specs.declared.station.Pass.{Pass}
use Rattle.cards.specs.declared.station.Record.{Record}

abbrev pub kinds : List Record → List ℕ
kinds = map (λ r. kind_of r.pass)

abbrev pub among : ℕ → List ℕ → Bool
among k = list_any (λ j. eqb j k)

-- the last of them, d where there is none
abbrev pub last_of : ℕ → List ℕ → ℕ
last_of d [] = d
last_of d (k ∷ ks) = last_of k ks

-- as a card has it: it holds nothing
abbrev pub carded : Bool → Pass → Record
carded on pass = record { on = on; pass = pass; held = nothing }

-- how often a kind may stand in a chain: persistence three times, any other once
abbrev pub often : ℕ → ℕ
often kind = cond (eqb kind 4) 3 1

-- how often it does
abbrev pub times : ℕ → List ℕ → ℕ
times k [] = 0
times k (j ∷ js) = cond (eqb j k) 1 0 + times k js

-- whether it may not come once more
abbrev pub full : ℕ → List ℕ → Bool
full k seen = leb (often k) (times k seen)

-- `seen` are the kinds already read; none comes more often than it may, and none below the one before it
unfoldable pub record_at : List ℕ → Reader Record
record_at seen = do
  p ← here
  kind ← field_at 4
  refuse_if 4 p (eqb kind 0 || ltb 10 kind)
  refuse_if 5 p (full kind seen)
  refuse_if 15 p (ltb kind (last_of 0 seen))
  on ← field_at 1
  pass ← pass_at kind
  ret (carded (eqb on 1) pass)

-- A scan over records that tells something by those that are left: `rule i` is asked of those from i on. Assumes nothing.
use Rattle.std.specs.Prelude.{ℕ, suc, ◌+◌, ◌≤◌, ◌<◌, false, List, [], ◌∷◌, ◌≡◌, refl, length, drop, get_or}
use Rattle.std.proofs.Common.{add-one, ap, ◌∙◌, drop-cons, drop_of_length-le}
use Rattle.std.specs.Float.{nan}
use Rattle.num.specs.Held.{nothing}
use Rattle.cards.specs.declared.station.Pass.TheVariants.{Ntsc}
use Rattle.cards.specs.declared.station.Record.{Record}

-- what the rules of arrays take for a record past the end
abbrev pub past : Record
past = record { on = false; pass = Ntsc nan 0; held = nothing }

-- the invariant of the loop: what is left decides as all does
pub record Scanned {X : Type 0} (rule : ℕ → List Record → X) (rs : List Record) (i : ℕ) : Type 0 where
  pub rest : rule 0 rs ≡ rule i (drop i rs)

pub scanned_none : {X : Type 0} (rule : ℕ → List Record → X) (rs : List Record) → Scanned rule rs 0
scanned_none rule rs = record { rest = refl }

module _ {X : Type 0} {rule : ℕ → List Record → X} {rs : List Record} {i : ℕ} (t : Scanned rule rs i) where
  -- the record at i comes next
  pub scanned_next : i < length rs → rule 0 rs ≡ rule i (get_or rs i past ∷ drop (suc i) rs)
  scanned_next l = t.rest ∙ ap (rule i) (drop-cons rs i past l)

  -- and leaves the decision to those after it
  pub scanned_more : i < length rs → rule i (get_or rs i past ∷ drop (suc i) rs) ≡ rule (suc i) (drop (suc i) rs) → Scanned rule rs (i + 1)
  scanned_more l e = record { rest = rw add-one (scanned_next l ∙ e) }

  -- none is left
  pub scanned_all : length rs ≤ i → rule 0 rs ≡ rule i []
  scanned_all l = t.rest ∙ ap (rule i) (drop_of_length-le rs {i = i} l)

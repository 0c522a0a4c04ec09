-- The field of a card that a bit lies in, by document 01's layout. Assumes nothing.
use Rattle.std.specs.Prelude.{ℕ, zero, suc, ◌+◌, ◌-◌, ◌≤◌, cond, List, eqb, ltb}
use Rattle.cards.specs.Bits.{field_at}
use Rattle.cards.specs.Step.{Step, took, refused}
use Rattle.inspect.specs.declared.layout.Field.{Field}
use Rattle.inspect.specs.declared.layout.Field.TheVariants.{Version, Passes, Kind, Switch, Setting, Rest}
use Rattle.inspect.specs.declared.layout.Widths.{Widths}

-- the bits of up to four settings
abbrev pub wide : (first second third fourth : ℕ) → Widths
wide first second third fourth = record { first = first; second = second; third = third; fourth = fourth }

-- F takes 32 bits, B 8, a preset 3
unfoldable pub widths_of : ℕ → Widths
widths_of kind =
    cond (eqb kind 1) (wide 32 8 0 0)
    (cond (eqb kind 2) (wide 8 32 8 0)
    (cond (eqb kind 3) (wide 32 32 32 0)
    (cond (eqb kind 4) (wide 32 8 0 0)
    (cond (eqb kind 5) (wide 3 32 0 0)
    (cond (eqb kind 7) (wide 32 32 32 32) (wide 32 0 0 0))))))

-- no setting has more than 32 bits
pub record Narrow (w : Widths) : Type 0 where
  pub first : w.first ≤ 32
  pub second : w.second ≤ 32
  pub third : w.third ≤ 32
  pub fourth : w.fourth ≤ 32

-- the setting that a bit lies in, counted from the first bit of the settings
unfoldable pub setting_in : Widths → ℕ → ℕ
setting_in w bit =
    cond (ltb bit w.first) 0
    (cond (ltb bit (w.first + w.second)) 1
    (cond (ltb bit (w.first + w.second + w.third)) 2 3))

-- a field's value, 0 where it is refused
abbrev pub value_in : Step ℕ → ℕ
value_in (took v next) = v
value_in (refused k) = 0

-- the four bits at p
abbrev pub nibble_at : List ℕ → ℕ → ℕ
nibble_at card p = value_in (field_at 4 card p)

-- where a record of that kind ends that begins at p: kind, switch, settings
unfoldable pub end_of : (p kind : ℕ) → ℕ
end_of p kind = let w = widths_of kind in p + 5 + w.first + w.second + w.third + w.fourth

-- the field of pass i that `at` lies in
unfoldable pub in_record : (i kind p at : ℕ) → Field
in_record i kind p at =
    cond (ltb at (p + 4)) (Kind i)
    (cond (ltb at (p + 5)) (Switch i kind)
    (Setting i kind (setting_in (widths_of kind) (at - (p + 5)))))

-- the field of pass i or of one of the n - 1 after it, whose records begin at p
unfoldable pub field_from : (n : ℕ) → List ℕ → (at i p : ℕ) → Field
field_from zero card at i p = Rest
field_from (suc n) card at i p =
    let kind = nibble_at card p in
    cond (ltb at (end_of p kind)) (in_record i kind p at) (field_from n card at (i + 1) (end_of p kind))

unfoldable pub field_of : List ℕ → ℕ → Field
field_of card at = cond (ltb at 4) Version (cond (ltb at 8) Passes (field_from (nibble_at card 4) card at 0 8))

-- The first difference of two chains: record by record, in each the kind, then the switch, then the settings by place. Assumes nothing.
use Rattle.std.specs.Prelude.{ℕ, suc, Bool, true, false, cond, List, [], ◌∷◌, Option, Some, None, eqb}
use Rattle.std.specs.Float.{binary32}
use Rattle.std.specs.Float.Ieee.{to_bits}
use Rattle.cards.specs.Alike.{chain_of}
use Rattle.cards.specs.Passes.{kind_of}
use Rattle.cards.specs.declared.station.Record.{Record}
use Rattle.cards.specs.declared.station.Station.{Station}
use Rattle.inspect.specs.Settings.{settings_of}
use Rattle.inspect.specs.declared.settings.Setting as declared
use Rattle.inspect.specs.declared.settings.Setting.TheVariants.{Real, Whole}
use Rattle.inspect.specs.declared.difference.Difference.{Difference}
use Rattle.inspect.specs.declared.difference.Difference.TheVariants.{Length, Kind, Switch, Setting}

-- one difference, or the other where there is none
abbrev pub first_of : Option Difference → Option Difference → Option Difference
first_of (Some d) e = Some d
first_of None e = e

-- real settings by their bits, whole ones as numbers
abbrev pub same_setting : declared.Setting → declared.Setting → Bool
same_setting (Real x) (Real y) = eqb (to_bits binary32 x) (to_bits binary32 y)
same_setting (Real x) (Whole n) = false
same_setting (Whole m) (Real y) = false
same_setting (Whole m) (Whole n) = eqb m n

abbrev pub same_switch : Bool → Bool → Bool
same_switch true true = true
same_switch true false = false
same_switch false true = false
same_switch false false = true

-- of the settings from place j on, in the record at place i
unfoldable pub settings_difference : (i j : ℕ) → List declared.Setting → List declared.Setting → Option Difference
settings_difference i j [] [] = None
settings_difference i j [] (y ∷ ys) = Some (Setting i j)
settings_difference i j (x ∷ xs) [] = Some (Setting i j)
settings_difference i j (x ∷ xs) (y ∷ ys) = cond (same_setting x y) (settings_difference i (suc j) xs ys) (Some (Setting i j))

-- of the records at place i
unfoldable pub record_difference : ℕ → Record → Record → Option Difference
record_difference i a b =
    cond (eqb (kind_of a.pass) (kind_of b.pass))
    (cond (same_switch a.on b.on) (settings_difference i 0 (settings_of a.pass) (settings_of b.pass)) (Some (Switch i)))
    (Some (Kind i))

-- of the records from place i on
unfoldable pub chain_difference : ℕ → List Record → List Record → Option Difference
chain_difference i [] [] = None
chain_difference i [] (q ∷ qs) = Some (Length i)
chain_difference i (r ∷ rs) [] = Some (Length i)
chain_difference i (r ∷ rs) (q ∷ qs) = first_of (record_difference i r q) (chain_difference (suc i) rs qs)

unfoldable pub difference_of : Station → Station → Option Difference
difference_of s t = chain_difference 0 (chain_of s) (chain_of t)

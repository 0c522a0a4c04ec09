-- A chain is told by the order of its passes, their switches and their settings. Assumes nothing.
use Prim.Native.Nat.{ℕ}
use mathlib.Core.Bool.{Bool}
use mathlib.Core.List.{List, [], ◌∷◌, map}
use mathlib.Core.Path.{◌≡◌, refl, ap, ap₂, sym, ◌∙◌}
use Rattle.num.specs.Held.{nothing}
use Rattle.cards.specs.Typed.{Unheld}
use lib.ListN.{get_or}
use lib.Ieee.{Float, nan}
use Rattle.cards.specs.Alike.{floats, wholes, chain_of, order, switches, settings, Alike}
use Rattle.cards.specs.Passes.{kind_of}
use Rattle.cards.specs.declared.station.Pass.{Pass}
use Rattle.cards.specs.declared.station.Pass.TheVariants.{Ntsc, Bloom, AutoGradient, Persistence, Lut, Curvature, ColorCorrection, Crt, Vignette}
use Rattle.cards.specs.declared.station.Pass.TheVariants.{Scanlines}
use Rattle.cards.specs.declared.station.Record.{Record}
use Rattle.cards.specs.declared.station.Station.{Station}

-- the pass of a kind with these settings
abbrev pass_of : ℕ → List Float × List ℕ → Pass
pass_of kind s =
    let f : ℕ → Float = λ i. get_or s.0 i nan in
    let n : ℕ → ℕ = λ i. get_or s.1 i 0 in
    get_or
    (Scanlines nan ∷ Ntsc (f 0) (n 0) ∷ Bloom (n 0) (f 0) (n 1) ∷ AutoGradient (f 0) (f 1) (f 2) ∷ Persistence (f 0) (n 0) ∷ Lut (n 0) (f 0) ∷ Curvature (f 0)
    ∷ ColorCorrection (f 0) (f 1) (f 2) (f 3) ∷ Crt (f 0) ∷ Vignette (f 0) ∷ Scanlines (f 0) ∷ [])
    kind (Scanlines nan)

pass_is : (p : Pass) → pass_of (kind_of p) (floats p, wholes p) ≡ p
pass_is (Ntsc a b) = refl
pass_is (Bloom a b c) = refl
pass_is (AutoGradient a b c) = refl
pass_is (Persistence a b) = refl
pass_is (Lut a b) = refl
pass_is (Curvature a) = refl
pass_is (ColorCorrection a b c d) = refl
pass_is (Crt a) = refl
pass_is (Vignette a) = refl
pass_is (Scanlines a) = refl

-- the records with these kinds, switches and settings, which hold nothing
abbrev records_of : List ℕ → List Bool → List (List Float × List ℕ) → List Record
records_of [] os ss = []
records_of (k ∷ ks) [] ss = []
records_of (k ∷ ks) (o ∷ os) [] = []
records_of (k ∷ ks) (o ∷ os) (s ∷ ss) = record { on = o; pass = pass_of k s; held = nothing } ∷ records_of ks os ss

records_are : (rs : List Record) → Unheld rs → records_of (map (λ r. kind_of r.pass) rs) (map (λ r. r.on) rs) (map (λ r. (floats r.pass, wholes r.pass)) rs) ≡ rs
records_are [] u = refl
records_are (r ∷ rs) u = λ i. record { on = r.on; pass = pass_is r.pass i; held = sym u.0 i } ∷ records_are rs u.1 i

pub chains_same : (s t : Station) → Unheld (chain_of s) → Unheld (chain_of t) → Alike s t → chain_of s ≡ chain_of t
chains_same s t u v a =
    sym (records_are (chain_of s) u)
    ∙ ap (λ (ks : List ℕ). records_of ks (switches s) (settings s)) a.same_order
    ∙ ap₂ (records_of (order t)) a.same_switches a.same_settings
    ∙ records_are (chain_of t) v

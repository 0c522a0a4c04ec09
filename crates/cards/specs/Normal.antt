-- Normalised settings, records and stations: what refusal 13 tests. Assumes nothing.
use Rattle.std.specs.Prelude.{ℕ, zero, suc, Bool, true, false, not, ◌&&◌, ◌||◌, cond, List, [], ◌∷◌, ◌++◌, take, leb, ltb, eqb, Float}
use Rattle.std.specs.List.{list_all}
use Rattle.std.specs.Float.{nan, inf, fin}
use Rattle.std.specs.Float.Ieee.{lt, neg}
use Rattle.std.specs.Float.Ieee.Scale.{finite}
use Rattle.num.specs.Const.{c0_0, c0_01, c0_5, c0_95, c1_0, c4_0}
use Rattle.num.specs.Held.{Held, nothing, same_held, fine_held}
use Rattle.cards.specs.Passes.{kind_of}
use Rattle.cards.specs.Records.{kinds, among, last_of, full}
use Rattle.cards.specs.declared.station.Pass.{Pass}
use Rattle.cards.specs.declared.station.Pass.TheVariants.{Ntsc, Bloom, AutoGradient, Persistence, Lut}
use Rattle.cards.specs.declared.station.Pass.TheVariants.{Curvature, ColorCorrection, Crt, Vignette, Scanlines}
use Rattle.cards.specs.declared.station.Pending.{Pending}
use Rattle.cards.specs.declared.station.Pending.TheVariants.{Nothing, Switch}
use Rattle.cards.specs.declared.station.Record.{Record}
use Rattle.cards.specs.declared.station.Station.{Station}

abbrev pub neg_zero : Float → Bool
neg_zero nan = false
neg_zero (inf s) = false
neg_zero (fin s zero e) = s
neg_zero (fin s (suc m) e) = false

-- finite, from low to high, and no negative zero
unfoldable pub settled : Float → Float → Float → Bool
settled low high x = finite x && not (lt x low) && not (lt high x) && not (neg_zero x)

-- from 1 to most
abbrev pub counted : ℕ → ℕ → Bool
counted most v = leb 1 v && leb v most

unfoldable pub normal_pass : Pass → Bool
normal_pass (Ntsc strength bleed) = settled c0_0 c1_0 strength && counted 64 bleed
normal_pass (Bloom threshold strength radius) = settled c0_0 c1_0 strength && counted 64 radius
normal_pass (AutoGradient strength vertical horizontal) = settled c0_0 c1_0 strength && settled c0_0 c1_0 vertical && settled c0_0 c1_0 horizontal
normal_pass (Persistence amount depth) = settled c0_0 c0_95 amount && counted 8 depth
normal_pass (Lut preset strength) = ltb preset 7 && settled c0_0 c1_0 strength
normal_pass (Curvature amount) = settled c0_0 c0_5 amount
normal_pass (ColorCorrection brightness contrast saturation gamma) =
    settled (neg c1_0) c1_0 brightness && settled c0_0 c4_0 contrast && settled c0_0 c4_0 saturation && settled c0_01 c4_0 gamma
normal_pass (Crt strength) = settled c0_0 c1_0 strength
normal_pass (Vignette strength) = settled c0_0 c1_0 strength
normal_pass (Scanlines strength) = settled c0_0 c1_0 strength

-- every record normalised, no kind more often than it may, and none below the one before it; `seen` are the kinds before
unfoldable pub normal_chain : List ℕ → List Record → Bool
normal_chain seen [] = true
normal_chain seen (r ∷ rs) =
    let kind = kind_of r.pass in
    normal_pass r.pass && not (full kind seen) && not (ltb kind (last_of 0 seen)) && normal_chain (seen ++ kind ∷ []) rs

-- persistence that is on
abbrev pub glows : Record → Bool
glows r = r.on && eqb (kind_of r.pass) 4

-- one is in the chain
unfoldable pub persists : List Record → Bool
persists [] = false
persists (r ∷ rs) = glows r || persists rs

-- the size that a chain remembers: that of the first record that holds frames
unfoldable pub held_by : List Record → Held
held_by [] = nothing
held_by (r ∷ rs) = cond (same_held r.held nothing) (held_by rs) r.held

-- a record holds nothing, or frames of that size, where it is persistence that is on
abbrev pub may_hold : Held → Record → Bool
may_hold size r = same_held r.held nothing || (same_held r.held size && glows r)

unfoldable pub holding : Held → List Record → Bool
holding size = list_all (may_hold size)

-- nothing is asked for, or a switch of a pass that is in the chain
abbrev pub askable : Pending → List Record → Bool
askable Nothing rs = true
askable (Switch kind on) rs = among kind (kinds rs)

unfoldable pub good_station : Station → Bool
good_station s =
    let chain = take s.n s.records in
    leb s.n 12 && normal_chain [] chain && fine_held (held_by chain) && holding (held_by chain) chain && askable s.pending chain

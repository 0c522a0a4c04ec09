-- Two chains without a difference are written as equal bytes: a card has of a setting only its bits or its number, and those were compared. Assumes nothing.
use Prim.Native.Nat.{ℕ, suc, ◌+◌, ◌/◌}
use mathlib.Core.Bool.{Bool, true, false, cond}
use mathlib.Core.List.{List, [], ◌∷◌, ◌++◌, map}
use mathlib.Core.Path.{◌≡◌, refl, ap, ap₂, sym, ◌∙◌}
use borrow.Author.Tests.{eqb-true}
use lib.Dec.{eqb}
use lib.Ieee.{binary32, to_bits}
use lib.ListN.{length, get_or}
use Rattle.std.specs.Prelude.{Option, Some, None, is_none}
use Rattle.cards.specs.Alike.{chain_of}
use Rattle.cards.specs.Passes.{kind_of}
use Rattle.cards.specs.Written.{bits, pass_bits, record_bits, records_bits, chain_bits, pack, chain_card, card_of}
use Rattle.cards.specs.declared.station.Pass.{Pass}
use Rattle.cards.specs.declared.station.Pass.TheVariants.{Ntsc, Bloom, AutoGradient, Persistence, Lut, Curvature, ColorCorrection, Crt, Vignette, Scanlines}
use Rattle.cards.specs.declared.station.Record.{Record}
use Rattle.cards.specs.declared.station.Station.{Station}
use Rattle.num.specs.Laws.Bools.{false_true}
use Rattle.inspect.specs.Difference.{first_of, same_setting, same_switch, settings_difference, record_difference, chain_difference, difference_of}
use Rattle.inspect.specs.Settings.{settings_of}
use Rattle.inspect.specs.declared.difference.Difference.{Difference}
use Rattle.inspect.specs.declared.difference.Difference.TheVariants.{Kind, Switch}
use Rattle.inspect.specs.declared.difference.Difference.TheVariants as differs
use Rattle.inspect.specs.declared.settings.Setting.{Setting}
use Rattle.inspect.specs.declared.settings.Setting.TheVariants.{Real, Whole}

-- ## A record's bits, by the numbers of its settings

-- what the card has of a setting
abbrev number : Setting → ℕ
number (Real x) = to_bits binary32 x
number (Whole n) = n

-- the fields of a kind with these numbers
abbrev fields : ℕ → List ℕ → List ℕ
fields kind ns =
    let n : ℕ → ℕ = λ j. get_or ns j 0 in
    get_or
    ([] ∷ (bits 32 (n 0) ++ bits 8 (n 1)) ∷ (bits 8 (n 0) ++ (bits 32 (n 1) ++ bits 8 (n 2))) ∷ (bits 32 (n 0) ++ (bits 32 (n 1) ++ bits 32 (n 2)))
    ∷ (bits 32 (n 0) ++ bits 8 (n 1)) ∷ (bits 3 (n 0) ++ bits 32 (n 1)) ∷ bits 32 (n 0)
    ∷ (bits 32 (n 0) ++ (bits 32 (n 1) ++ (bits 32 (n 2) ++ bits 32 (n 3)))) ∷ bits 32 (n 0) ∷ bits 32 (n 0) ∷ bits 32 (n 0) ∷ [])
    kind []

pass_fields : (p : Pass) → pass_bits p ≡ fields (kind_of p) (map number (settings_of p))
unfolding pass_bits
pass_fields (Ntsc a b) = refl
pass_fields (Bloom a b c) = refl
pass_fields (AutoGradient a b c) = refl
pass_fields (Persistence a b) = refl
pass_fields (Lut a b) = refl
pass_fields (Curvature a) = refl
pass_fields (ColorCorrection a b c d) = refl
pass_fields (Crt a) = refl
pass_fields (Vignette a) = refl
pass_fields (Scanlines a) = refl

-- ## No difference: equal bits

-- the last of two ways is a difference, so the first was gone
taken : (t : Bool) (d : Option Difference) (e : Difference) → cond t d (Some e) ≡ None → (t ≡ true) × (d ≡ None)
taken true d e h = (refl, h)
taken false d e h = false_true (ap is_none h)

both_alike : (d e : Option Difference) → first_of d e ≡ None → (d ≡ None) × (e ≡ None)
both_alike None e h = (refl, h)
both_alike (Some d) e h = false_true (ap is_none h)

same_number : (x y : Setting) → same_setting x y ≡ true → number x ≡ number y
same_number (Real x) (Real y) h = eqb-true _ _ h
same_number (Real x) (Whole n) h = false_true h
same_number (Whole m) (Real y) h = false_true h
same_number (Whole m) (Whole n) h = eqb-true _ _ h

same_numbers : (i j : ℕ) (l m : List Setting) → settings_difference i j l m ≡ None → map number l ≡ map number m
unfolding settings_difference
same_numbers i j [] [] h = refl
same_numbers i j [] (y ∷ m) h = false_true (ap is_none h)
same_numbers i j (x ∷ l) [] h = false_true (ap is_none h)
same_numbers i j (x ∷ l) (y ∷ m) h =
    let t = taken (same_setting x y) _ (differs.Setting i j) h in
    ap₂ (λ (n : ℕ) (ns : List ℕ). n ∷ ns) (same_number x y t.0) (same_numbers i (suc j) l m t.1)

same_on : (a b : Bool) → same_switch a b ≡ true → a ≡ b
same_on true true h = refl
same_on true false h = false_true h
same_on false true h = false_true h
same_on false false h = refl

same_record : (i : ℕ) (r q : Record) → record_difference i r q ≡ None → record_bits r ≡ record_bits q
unfolding record_difference record_bits
same_record i r q h =
    let k = taken (eqb (kind_of r.pass) (kind_of q.pass)) _ (Kind i) h in
    let s = taken (same_switch r.on q.on) _ (Switch i) k.1 in
    let kind : kind_of r.pass ≡ kind_of q.pass = eqb-true _ _ k.0 in
    let on : r.on ≡ q.on = same_on r.on q.on s.0 in
    let ns : map number (settings_of r.pass) ≡ map number (settings_of q.pass) = same_numbers i 0 _ _ s.1 in
    let pass : pass_bits r.pass ≡ pass_bits q.pass = pass_fields r.pass ∙ ap₂ fields kind ns ∙ sym (pass_fields q.pass) in
    cc

same_chain : (i : ℕ) (rs qs : List Record) → chain_difference i rs qs ≡ None → (length rs ≡ length qs) × (records_bits rs ≡ records_bits qs)
unfolding chain_difference records_bits
same_chain i [] [] h = (refl, refl)
same_chain i [] (q ∷ qs) h = false_true (ap is_none h)
same_chain i (r ∷ rs) [] h = false_true (ap is_none h)
same_chain i (r ∷ rs) (q ∷ qs) h =
    let b = both_alike (record_difference i r q) (chain_difference (suc i) rs qs) h in
    let o = same_chain (suc i) rs qs b.1 in
    (ap suc o.0, ap₂ (λ (x y : List ℕ). x ++ y) (same_record i r q b.0) o.1)

same_chain-bits : (rs qs : List Record) → chain_difference 0 rs qs ≡ None → chain_bits rs ≡ chain_bits qs
unfolding chain_bits
same_chain-bits rs qs h =
    let e = same_chain 0 rs qs h in
    ap₂ (λ (n : ℕ) (bs : List ℕ). bits 4 1 ++ (bits 4 n ++ bs)) e.0 e.1

pub same_card : (s t : Station) → difference_of s t ≡ None → card_of s ≡ card_of t
unfolding difference_of card_of chain_card
same_card s t h = ap (λ (bs : List ℕ). pack ((length bs + 7) / 8) bs) (same_chain-bits (chain_of s) (chain_of t) h)

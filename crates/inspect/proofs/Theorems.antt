-- The theorems of specs/Claims.antt. Assumes nothing.
use Prim.Native.Nat.{ℕ, zero, suc}
use mathlib.Core.Bool.{Bool, true, false, cond}
use mathlib.Core.List.{List, [], ◌∷◌}
use mathlib.Core.Path.{◌≡◌, refl, ap₂, sym, subst, ◌∙◌}
use borrow.Author.Tests.{eq-eqb}
use lib.Dec.{eqb, eqb-zero-suc, eqb-suc-zero, eqb-suc-suc}
use lib.Ieee.{binary32, to_bits}
use Rattle.std.specs.Prelude.{Option, Some, None}
use Rattle.cards.specs.Alike.{chain_of}
use Rattle.cards.specs.Passes.{kind_of}
use Rattle.cards.specs.declared.station.Record.{Record}
use Rattle.cards.specs.declared.station.Station.{Station}
use Rattle.cards.proofs.Theorems.{written_alike}
use Rattle.inspect.specs.Claims.{DifferenceAlike, DifferenceSymmetric}
use Rattle.inspect.specs.Difference.{first_of, same_setting, same_switch, settings_difference, record_difference, chain_difference, difference_of}
use Rattle.inspect.specs.Settings.{settings_of}
use Rattle.inspect.specs.declared.difference.Difference.{Difference}
use Rattle.inspect.specs.declared.difference.Difference.TheVariants as differs
use Rattle.inspect.specs.declared.settings.Setting.{Setting}
use Rattle.inspect.specs.declared.settings.Setting.TheVariants.{Real, Whole}
use Rattle.inspect.proofs.SameBits.{same_card}

-- ## No difference from itself

same_itself : (x : Setting) → same_setting x x ≡ true
same_itself (Real x) = eq-eqb (to_bits binary32 x) _ refl
same_itself (Whole n) = eq-eqb n n refl

settings_itself : (i j : ℕ) (l : List Setting) → settings_difference i j l l ≡ None
unfolding settings_difference
settings_itself i j [] = refl
settings_itself i j (x ∷ l) = rw (same_itself x) (settings_itself i (suc j) l)

on_itself : (a : Bool) → same_switch a a ≡ true
on_itself true = refl
on_itself false = refl

record_itself : (i : ℕ) (r : Record) → record_difference i r r ≡ None
unfolding record_difference
record_itself i r = rw (eq-eqb (kind_of r.pass) (kind_of r.pass) refl, on_itself r.on) (settings_itself i 0 (settings_of r.pass))

chain_itself : (i : ℕ) (rs : List Record) → chain_difference i rs rs ≡ None
unfolding chain_difference
chain_itself i [] = refl
chain_itself i (r ∷ rs) = rw (record_itself i r) (chain_itself (suc i) rs)

itself : (s : Station) → difference_of s s ≡ None
unfolding difference_of
itself s = chain_itself 0 (chain_of s)

pub difference_alike : DifferenceAlike
difference_alike card other s t e f =
    (same_card s t, λ same. subst (λ (u : Station). difference_of s u ≡ None) ((written_alike card other s t e f).0.0 same) (itself s))

-- ## Either order

eqb_sym : (m n : ℕ) → eqb m n ≡ eqb n m
eqb_sym zero zero = refl
eqb_sym zero (suc n) = eqb-zero-suc n ∙ sym (eqb-suc-zero n)
eqb_sym (suc m) zero = eqb-suc-zero m ∙ sym (eqb-zero-suc m)
eqb_sym (suc m) (suc n) = eqb-suc-suc m n ∙ eqb_sym m n ∙ sym (eqb-suc-suc n m)

setting_sym : (x y : Setting) → same_setting x y ≡ same_setting y x
setting_sym (Real x) (Real y) = eqb_sym (to_bits binary32 x) (to_bits binary32 y)
setting_sym (Real x) (Whole n) = refl
setting_sym (Whole m) (Real y) = refl
setting_sym (Whole m) (Whole n) = eqb_sym m n

settings_sym : (i j : ℕ) (l m : List Setting) → settings_difference i j l m ≡ settings_difference i j m l
unfolding settings_difference
settings_sym i j [] [] = refl
settings_sym i j [] (y ∷ m) = refl
settings_sym i j (x ∷ l) [] = refl
settings_sym i j (x ∷ l) (y ∷ m) = ap₂ (λ (t : Bool) (d : Option Difference). cond t d (Some (differs.Setting i j))) (setting_sym x y) (settings_sym i (suc j) l m)

on_sym : (a b : Bool) → same_switch a b ≡ same_switch b a
on_sym true true = refl
on_sym true false = refl
on_sym false true = refl
on_sym false false = refl

record_sym : (i : ℕ) (r q : Record) → record_difference i r q ≡ record_difference i q r
unfolding record_difference
record_sym i r q =
    let kind = eqb_sym (kind_of r.pass) (kind_of q.pass) in
    let on = on_sym r.on q.on in
    let settings = settings_sym i 0 (settings_of r.pass) (settings_of q.pass) in
    cc

chain_sym : (i : ℕ) (rs qs : List Record) → chain_difference i rs qs ≡ chain_difference i qs rs
unfolding chain_difference
chain_sym i [] [] = refl
chain_sym i [] (q ∷ qs) = refl
chain_sym i (r ∷ rs) [] = refl
chain_sym i (r ∷ rs) (q ∷ qs) = ap₂ first_of (record_sym i r q) (chain_sym (suc i) rs qs)

pub difference_symmetric : DifferenceSymmetric
unfolding difference_of
difference_symmetric s t = chain_sym 0 (chain_of s) (chain_of t)

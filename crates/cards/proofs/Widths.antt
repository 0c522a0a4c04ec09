-- How wide each reader is, and how far a record reaches: at most 133 bits. Assumes nothing.
use Prim.Native.Nat.{ℕ, zero, suc, ◌+◌, ◌≤◌}
use native.Mathlib.Omega.{arith}
use mathlib.Core.Path.{◌≡◌, refl}
use mathlib.Core.Bool.{Bool, true, false, cond}
use mathlib.Core.List.{List}
use lib.Ieee.{Float}
use Rattle.cards.specs.Step.{Step, took, refused, Reader, and_then, ◌>>=◌, stop, ret, here, refuse, refuse_if}
use Rattle.cards.specs.Bits.{field_at}
use Rattle.cards.specs.Settings.{finite_at, limited_at, within_at, raised_at, count_at, preset_at}
use Rattle.cards.specs.Passes.{ntsc_at, bloom_at, auto_gradient_at, persistence_at, lut_at, curvature_at, color_correction_at, crt_at, vignette_at, scanlines_at}
use Rattle.cards.specs.Passes.{pass_at}
use Rattle.cards.specs.Records.{record_at}
use Rattle.cards.specs.declared.station.Pass.{Pass}
use Rattle.cards.proofs.Bits.{taken}

-- a reader that takes k bits
pub record Wide {A : Type 0} (k : ℕ) (m : Reader A) : Type 0 where
  pub next : (card : List ℕ) (p : ℕ) (a : A) (n : ℕ) → m card p ≡ took a n → n ≡ p + k

pub field_wide : (k : ℕ) → Wide k (field_at k)
field_wide k = record { next = λ card p a n e. (taken k card p a n e).1 }

pub ret-wide : {A : Type 0} {a : A} → Wide 0 (ret a)
ret-wide = record { next = λ card p b n e. let h : p ≡ n = cc in omega arith }

pub here-wide : {A : Type 0} {k : ℕ} {f : ℕ → Reader A} → ((p : ℕ) → Wide k (f p)) → Wide k (◌>>=◌ here f)
here-wide h = record { next = λ card p a n e. (h p).next card p a n e }

pub refuse_if-wide : (j q : ℕ) (b : Bool) → Wide 0 (refuse_if j q b)
unfolding refuse_if
refuse_if-wide j q b = record { next = λ card p u n e. go card p u n b e }
  where
    go : (card : List ℕ) (p : ℕ) (u : Unit {0}) (n : ℕ) (b : Bool) → cond b (refused (stop j q)) (took tt p) ≡ took u n → n ≡ p + 0
    go card p u n true e = cc
    go card p u n false e = let h : p ≡ n = cc in omega arith

pub then_wide : {A B : Type 0} (j k : ℕ) {m : Reader A} {f : A → Reader B} → Wide j m → ((a : A) → Wide k (f a)) → Wide (j + k) (◌>>=◌ m f)
then_wide {A} {B} j k {m} {f} hm hf = record { next = λ card p b n e. go card p b n (m card p) refl e }
  where
    go : (card : List ℕ) (p : ℕ) (b : B) (n : ℕ) (s : Step A) → m card p ≡ s → and_then s (λ a q. f a card q) ≡ took b n → n ≡ p + (j + k)
    go card p b n (took a q) h e = omega (arith, hm.next card p a q h, (hf a).next card q b n e)
    go card p b n (refused i) h e = cc

pub finite_wide : Wide 32 finite_at
unfolding finite_at
finite_wide = here-wide (λ p. then_wide 32 0 (field_wide 32) (λ b. then_wide 0 0 (refuse_if-wide 6 p _) (λ u. ret-wide)))

pub limited_wide : (high : Float) → Wide 32 (limited_at high)
unfolding limited_at
limited_wide high = then_wide 32 0 finite_wide (λ x. ret-wide)

pub within-wide : (low high : Float) → Wide 32 (within_at low high)
unfolding within_at
within-wide low high = here-wide (λ p. then_wide 32 0 finite_wide (λ x. then_wide 0 0 (refuse_if-wide 6 p _) (λ u. ret-wide)))

pub raised-wide : (low : Float) → Wide 32 (raised_at low)
unfolding raised_at
raised-wide low = here-wide (λ p. then_wide 32 0 finite_wide (λ x. then_wide 0 0 (refuse_if-wide 6 p _) (λ u. ret-wide)))

pub count-wide : (most : ℕ) → Wide 8 (count_at most)
unfolding count_at
count-wide most = here-wide (λ p. then_wide 8 0 (field_wide 8) (λ v. then_wide 0 0 (refuse_if-wide 6 p _) (λ u. ret-wide)))

pub preset-wide : Wide 3 preset_at
unfolding preset_at
preset-wide = here-wide (λ p. then_wide 3 0 (field_wide 3) (λ v. then_wide 0 0 (refuse_if-wide 6 p _) (λ u. ret-wide)))

ntsc-wide : Wide 40 ntsc_at
unfolding ntsc_at
ntsc-wide = then_wide 32 8 (limited_wide _) (λ x0. then_wide 8 0 (count-wide _) (λ x1. ret-wide))

bloom-wide : Wide 48 bloom_at
unfolding bloom_at
bloom-wide = then_wide 8 40 (field_wide 8) (λ x0. then_wide 32 8 (limited_wide _) (λ x1. then_wide 8 0 (count-wide _) (λ x2. ret-wide)))

auto_gradient_wide : Wide 96 auto_gradient_at
unfolding auto_gradient_at
auto_gradient_wide = then_wide 32 64 (limited_wide _) (λ x0. then_wide 32 32 (limited_wide _) (λ x1. then_wide 32 0 (limited_wide _) (λ x2. ret-wide)))

persistence-wide : Wide 40 persistence_at
unfolding persistence_at
persistence-wide = then_wide 32 8 (limited_wide _) (λ x0. then_wide 8 0 (count-wide _) (λ x1. ret-wide))

lut-wide : Wide 35 lut_at
unfolding lut_at
lut-wide = then_wide 3 32 (preset-wide) (λ x0. then_wide 32 0 (limited_wide _) (λ x1. ret-wide))

curvature-wide : Wide 32 curvature_at
unfolding curvature_at
curvature-wide = then_wide 32 0 (limited_wide _) (λ x0. ret-wide)

color_correction_wide : Wide 128 color_correction_at
unfolding color_correction_at
color_correction_wide = then_wide 32 96 (within-wide _ _) (λ x0. then_wide 32 64 (raised-wide _) (λ x1. then_wide 32 32 (raised-wide _) (λ x2. then_wide 32 0 (raised-wide _) (λ x3. ret-wide))))

crt-wide : Wide 32 crt_at
unfolding crt_at
crt-wide = then_wide 32 0 (limited_wide _) (λ x0. ret-wide)

vignette-wide : Wide 32 vignette_at
unfolding vignette_at
vignette-wide = then_wide 32 0 (limited_wide _) (λ x0. ret-wide)

scanlines-wide : Wide 32 scanlines_at
unfolding scanlines_at
scanlines-wide = then_wide 32 0 (limited_wide _) (λ x0. ret-wide)

-- a reader that takes at most k bits
pub record Most {A : Type 0} (k : ℕ) (m : Reader A) : Type 0 where
  pub next : (card : List ℕ) (p : ℕ) (a : A) (n : ℕ) → m card p ≡ took a n → n ≤ p + k

most : {A : Type 0} {m : Reader A} (j k : ℕ) → j ≤ k → Wide j m → Most k m
most j k h w = record { next = λ card p a n e. omega (arith, w.next card p a n e) }

most_then : {A B : Type 0} (j k : ℕ) {m : Reader A} {f : A → Reader B} → Most j m → ((a : A) → Most k (f a)) → Most (j + k) (◌>>=◌ m f)
most_then {A} {B} j k {m} {f} hm hf = record { next = λ card p b n e. go card p b n (m card p) refl e }
  where
    go : (card : List ℕ) (p : ℕ) (b : B) (n : ℕ) (s : Step A) → m card p ≡ s → and_then s (λ a q. f a card q) ≡ took b n → n ≤ p + (j + k)
    go card p b n (took a q) h e = omega (arith, hm.next card p a q h, (hf a).next card q b n e)
    go card p b n (refused i) h e = let z : ◌≡◌ {A = ℕ} 0 1 = cc in omega arith

most-here : {A : Type 0} {k : ℕ} {f : ℕ → Reader A} → ((p : ℕ) → Most k (f p)) → Most k (◌>>=◌ here f)
most-here h = record { next = λ card p a n e. (h p).next card p a n e }

no_pass : Most {A = Pass} 128 (refuse 4)
no_pass = record { next = λ card p a n e. let z : ◌≡◌ {A = ℕ} 0 1 = cc in omega arith }

pass_most : (kind : ℕ) → Most 128 (pass_at kind)
unfolding pass_at
pass_most zero = no_pass
pass_most (suc zero) = most 40 128 (omega arith) ntsc-wide
pass_most (suc (suc zero)) = most 48 128 (omega arith) bloom-wide
pass_most (suc (suc (suc zero))) = most 96 128 (omega arith) auto_gradient_wide
pass_most (suc (suc (suc (suc zero)))) = most 40 128 (omega arith) persistence-wide
pass_most (suc (suc (suc (suc (suc zero))))) = most 35 128 (omega arith) lut-wide
pass_most (suc (suc (suc (suc (suc (suc zero)))))) = most 32 128 (omega arith) curvature-wide
pass_most (suc (suc (suc (suc (suc (suc (suc zero))))))) = most 128 128 (omega arith) color_correction_wide
pass_most (suc (suc (suc (suc (suc (suc (suc (suc zero)))))))) = most 32 128 (omega arith) crt-wide
pass_most (suc (suc (suc (suc (suc (suc (suc (suc (suc zero))))))))) = most 32 128 (omega arith) vignette-wide
pass_most (suc (suc (suc (suc (suc (suc (suc (suc (suc (suc zero)))))))))) = most 32 128 (omega arith) scanlines-wide
pass_most (suc (suc (suc (suc (suc (suc (suc (suc (suc (suc (suc k))))))))))) = no_pass

pub record_most : (seen : List ℕ) → Most 133 (record_at seen)
unfolding record_at
record_most seen =
    most-here
    (λ q. most_then 4 129 (most 4 4 (omega arith) (field_wide 4))
    (λ k. most_then 0 129 (most 0 0 (omega arith) (refuse_if-wide 4 q _))
    (λ u. most_then 0 129 (most 0 0 (omega arith) (refuse_if-wide 5 q _))
    (λ u. most_then 0 129 (most 0 0 (omega arith) (refuse_if-wide 15 q _))
    (λ u. most_then 1 128 (most 1 1 (omega arith) (field_wide 1))
    (λ on. most_then 128 0 (pass_most k) (λ p. most 0 0 (omega arith) ret-wide)))))))

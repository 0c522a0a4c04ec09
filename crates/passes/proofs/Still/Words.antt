-- A mix of equal words is a mix of each channel by itself; and three channels that stand still make a word that does.
-- Assumes nothing.
use Rattle.std.specs.Prelude.{◌≡◌, ℕ, zero, suc, ◌+◌, ◌*◌, ◌/◌, ◌%◌, ◌<◌, List, slice_index, refl, Float}
use Rattle.std.proofs.Common.{le_refl, arith, ap₂, subst, inl, inr}
use Rattle.num.specs.F32.{◌⊕◌, ◌⊗◌, whole}
use Rattle.passes.specs as Text
use Rattle.passes.specs.Plain.Persistence.{add, mix}
use Rattle.passes.specs.Plain.Pixel.{rgb}
use Rattle.passes.specs.Still.{OrBelow, StillWord}
use Rattle.passes.specs.declared.pixel.Rgb.{Rgb}

-- a channel c of the frame times w, and then c of each older frame times its weight
unfoldable pub equal : Float → (ℕ → Float) → ℕ → ℕ → Float
equal w ws c zero = whole c ⊗ w
equal w ws c (suc j) = equal w ws c j ⊕ whole c ⊗ ws j

pub mix-equal : (w : Float) (ws : ℕ → Float) (past : List ℕ) (n i p k : ℕ)
    → ((j : ℕ) → j < k → slice_index past (j * n + i) ≡ p)
    → mix w ws past n i p k ≡ rgb (equal w ws (p / 65536 % 256) k) (equal w ws (p / 256 % 256) k) (equal w ws (p % 256) k)
unfolding Text.Persistence.mix Text.Persistence.add Text.Pixel.unpack equal
mix-equal w ws past n i p zero same = refl
mix-equal w ws past n i p (suc k) same =
    ap₂ (λ (c : Rgb) (q : ℕ). add c (ws k) q) (mix-equal w ws past n i p k (λ j l. same j (omega arith))) (same k (le_refl (suc k)))

channel-le : (c x : ℕ) → c < 256 → OrBelow c x → x < 256
channel-le c x l (inl e) = omega arith
channel-le c x l (inr e) = omega arith

pub packed-still : (p x y z : ℕ) → OrBelow (p / 65536 % 256) x → OrBelow (p / 256 % 256) y → OrBelow (p % 256) z
    → StillWord p (x * 65536 + y * 256 + z)
packed-still p x y z r g b =
    let X = channel-le (p / 65536 % 256) x (omega arith) r in
    let Y = channel-le (p / 256 % 256) y (omega arith) g in
    let Z = channel-le (p % 256) z (omega arith) b in
    let word = x * 65536 + y * 256 + z in
    let red : x ≡ word / 65536 % 256 = omega arith in
    let green : y ≡ word / 256 % 256 = omega arith in
    let blue : z ≡ word % 256 = omega arith in (
      subst (λ (k : ℕ). OrBelow (p / 65536 % 256) k) red r,
      subst (λ (k : ℕ). OrBelow (p / 256 % 256) k) green g,
      subst (λ (k : ℕ). OrBelow (p % 256) k) blue b,
    )

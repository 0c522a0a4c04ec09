-- Words and bytes, there and back. Assumes nothing.
use Prim.Native.Nat.{ℕ, zero, suc, ◌*◌, ◌/◌, ◌%◌, ◌^◌, ◌<◌}
use mathlib.Core.Path.{◌≡◌, refl, ap₂, ◌∙◌}
use mathlib.Core.List.{List, [], ◌∷◌, map}
use native.Mathlib.Nat.{mod-eq_of_lt}
use native.Mathlib.Omega.{arith}
use lib.ListN.{length, get_or, take}
use Rattle.raster.specs.Claims.{WordsBack, WordsSame, BytesBack}
use Rattle.raster.specs.Pixels.{packed, packed_bytes, unpacked}

pub words_back : WordsBack
unfolding unpacked packed_bytes
words_back [] = refl
words_back (w ∷ words) =
    let first : packed (w / 65536 % 256) (w / 256 % 256) (w % 256) ≡ w % 2 ^ 24 = omega arith in
    ap₂ (λ (v : ℕ) (vs : List ℕ). v ∷ vs) first (words_back words)

same : (words : List ℕ) → ((i : ℕ) → i < length words → get_or words i 0 < 2 ^ 24) → map (λ w. w % 2 ^ 24) words ≡ words
same [] h = refl
same (w ∷ words) h = ap₂ (λ (v : ℕ) (vs : List ℕ). v ∷ vs) (mod-eq_of_lt (h 0 (omega arith))) (same words (λ i l. h (suc i) (omega arith)))

pub words_same : WordsSame
words_same words h = words_back words ∙ same words h

pub bytes_back : BytesBack
unfolding unpacked packed_bytes
bytes_back zero bytes h l = refl
bytes_back (suc n) [] h l = absurd (omega arith)
bytes_back (suc n) (r ∷ []) h l = absurd (omega arith)
bytes_back (suc n) (r ∷ g ∷ []) h l = absurd (omega arith)
bytes_back (suc n) (r ∷ g ∷ b ∷ bytes) h l =
    let three : 3 * suc n ≡ suc (suc (suc (3 * n))) = omega arith in
    let red : packed r g b / 65536 % 256 ≡ r = omega (arith, h 0 (omega arith), h 1 (omega arith), h 2 (omega arith)) in
    let green : packed r g b / 256 % 256 ≡ g = omega (arith, h 1 (omega arith), h 2 (omega arith)) in
    let blue : packed r g b % 256 ≡ b = omega (arith, h 2 (omega arith)) in
    let rest : packed_bytes (unpacked n bytes) ≡ take (3 * n) bytes = bytes_back n bytes (λ i k. h (suc (suc (suc i))) (omega arith)) (omega arith) in
    rw (three, red, green, blue, rest) refl

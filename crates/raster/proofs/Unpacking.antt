-- Words from bytes, one by one: a loop that has stored the first i. Assumes nothing.
use Prim.Native.Nat.{ℕ, zero, suc, ◌+◌, ◌*◌, ◌≤◌, ◌<◌}
use mathlib.Core.Path.{◌≡◌, refl, sym, ap, ◌∙◌}
use mathlib.Core.List.{List, [], ◌∷◌, ◌++◌, append-nil}
use native.Mathlib.Nat.{not-suc-le-zero, le_of_suc-le-suc}
use native.Mathlib.Numerals.{add-one}
use native.Mathlib.Omega.{arith}
use lib.ListN.{length, set, drop, length-set}
use lib.Seq.{get_or-drop, drop-length}
use Rattle.raster.specs.Pixels.{byte_at, pixel_at, unpacked}

module _ (bytes : List ℕ) (i : ℕ) where
  byte-on : (k : ℕ) → byte_at (drop 3 bytes) (3 * i + k) ≡ byte_at bytes (3 * suc i + k)
  byte-on k = get_or-drop 3 bytes (3 * i + k) 0 ∙ ap (byte_at bytes) (omega arith)

  -- the pixels after the first are those of the bytes after its three
  pixel-on : pixel_at (drop 3 bytes) (3 * i) ≡ pixel_at bytes (3 * suc i)
  pixel-on =
      let red : byte_at (drop 3 bytes) (3 * i) ≡ byte_at bytes (3 * suc i) = get_or-drop 3 bytes (3 * i) 0 ∙ ap (byte_at bytes) (omega arith) in
      let green : byte_at (drop 3 bytes) (3 * i + 1) ≡ byte_at bytes (3 * suc i + 1) = byte-on 1 in
      let blue : byte_at (drop 3 bytes) (3 * i + 2) ≡ byte_at bytes (3 * suc i + 2) = byte-on 2 in
      cc

step : (i : ℕ) (bytes xs : List ℕ) → i < length xs → set (unpacked i bytes ++ drop i xs) i (pixel_at bytes (3 * i)) ≡ unpacked (suc i) bytes ++ drop (suc i) xs
unfolding unpacked
step zero bytes [] l = absurd (not-suc-le-zero l)
step zero bytes (x ∷ xs) l = refl
step (suc i) bytes [] l = absurd (not-suc-le-zero l)
step (suc i) bytes (x ∷ xs) l =
    ap (λ (ys : List ℕ). pixel_at bytes 0 ∷ ys)
    (ap (set (unpacked i (drop 3 bytes) ++ drop i xs) i) (sym (pixel-on bytes i)) ∙ step i (drop 3 bytes) xs (le_of_suc-le-suc l))

-- the invariant: the first i words of xs are pixels, and so it is ys
pub record Stored (i : ℕ) (bytes xs ys : List ℕ) : Type 0 where
  pub within : i ≤ length xs
  pub kept : length ys ≡ length xs
  pub front : ys ≡ unpacked i bytes ++ drop i xs

pub none : (bytes xs : List ℕ) → Stored 0 bytes xs xs
unfolding unpacked
none bytes xs = record { within = omega arith; kept = refl; front = refl }

module _ {i : ℕ} {bytes xs ys : List ℕ} (t : Stored i bytes xs ys) where
  pub more : {v : ℕ} → i < length xs → v ≡ pixel_at bytes (3 * i) → Stored (i + 1) bytes xs (set ys i v)
  more {v} l e = record {
    within = omega (arith, t.kept);
    kept = length-set ys i v ∙ t.kept;
    front = ap (set ys i) e ∙ ap (λ (zs : List ℕ). set zs i (pixel_at bytes (3 * i))) t.front ∙ step i bytes xs (omega (arith, t.kept))
        ∙ ap (λ (k : ℕ). unpacked k bytes ++ drop k xs) (sym (add-one i));
  }

  pub all : length ys ≤ i → ys ≡ unpacked (length xs) bytes
  all l =
      let done : i ≡ length xs = omega (arith, t.kept, t.within) in
      t.front ∙ ap (λ (k : ℕ). unpacked k bytes ++ drop k xs) done ∙ ap (λ (zs : List ℕ). unpacked (length xs) bytes ++ zs) (drop-length xs) ∙ append-nil (unpacked (length xs) bytes)

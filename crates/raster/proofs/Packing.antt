-- Bytes from words, three by three: a loop that has stored those of the first i words. Assumes nothing.
use Prim.Native.Nat.{ℕ, suc, ◌+◌, ◌*◌, ◌/◌, ◌%◌, ◌≤◌, ◌<◌}
use mathlib.Core.Path.{◌≡◌, refl, sym, ap, ap₂, ◌∙◌}
use mathlib.Core.List.{List, [], ◌∷◌, ◌++◌}
use native.Mathlib.Numerals.{add-one}
use native.Mathlib.Omega.{arith}
use lib.ListN.{length, get_or, set, take, drop}
use lib.Seq.{length-take-le, take-suc, take_all, take_at, drop_at, drop-drop, sets, length-sets, sets-eq}
use Rattle.raster.specs.Pixels.{bytes_of, packed_bytes}

pub length-packed : (words : List ℕ) → length (packed_bytes words) ≡ 3 * length words
unfolding packed_bytes
length-packed [] = refl
length-packed (w ∷ words) = omega (arith, length-packed words)

packed_snoc : (words : List ℕ) (w : ℕ) → packed_bytes (words ++ w ∷ []) ≡ packed_bytes words ++ bytes_of w
unfolding packed_bytes
packed_snoc [] w = refl
packed_snoc (v ∷ words) w = ap (λ (bs : List ℕ). bytes_of v ++ bs) (packed_snoc words w)

-- the invariant: the first bytes of xs are those of i words, and so it is ys
pub record Packed (i : ℕ) (words xs ys : List ℕ) : Type 0 where
  pub within : i ≤ length words
  pub kept : length ys ≡ length xs
  pub front : ys ≡ packed_bytes (take i words) ++ drop (3 * i) xs

pub none : (words xs : List ℕ) → Packed 0 words xs xs
unfolding packed_bytes
none words xs = record { within = omega arith; kept = refl; front = refl }

module _ {i : ℕ} {words xs ys : List ℕ} (t : Packed i words xs ys) where
  size : length (packed_bytes (take i words)) ≡ 3 * i
  size = length-packed (take i words) ∙ ap (λ (k : ℕ). 3 * k) (length-take-le i words t.within)

  before : take (3 * i) ys ≡ packed_bytes (take i words)
  before = ap (take (3 * i)) t.front ∙ take_at (packed_bytes (take i words)) (drop (3 * i) xs) (3 * i) size

  after : drop (3 * i + 3) ys ≡ drop (3 * (i + 1)) xs
  after =
      let next : 3 * i + 3 ≡ 3 * (i + 1) = omega arith in
      sym (drop-drop 3 (3 * i) ys) ∙ ap (drop 3) (ap (drop (3 * i)) t.front ∙ drop_at (packed_bytes (take i words)) (drop (3 * i) xs) (3 * i) size)
      ∙ drop-drop 3 (3 * i) xs ∙ ap (λ (k : ℕ). drop k xs) next

  -- the next word's bytes
  grown : i < length words → packed_bytes (take i words) ++ bytes_of (get_or words i 0) ≡ packed_bytes (take (i + 1) words)
  grown l = sym (packed_snoc (take i words) (get_or words i 0)) ∙ ap packed_bytes (sym (take-suc words i 0 l) ∙ ap (λ (k : ℕ). take k words) (sym (add-one i)))

  stored : i < length words → 3 * length words ≤ length xs → sets ys (3 * i) (bytes_of (get_or words i 0)) ≡ packed_bytes (take (i + 1) words) ++ drop (3 * (i + 1)) xs
  stored l room = sets-eq (bytes_of (get_or words i 0)) ys (3 * i) (omega (arith, t.kept)) ∙ ap₂ (λ (a b : List ℕ). (a ++ bytes_of (get_or words i 0)) ++ b) before after ∙ ap (λ (a : List ℕ). a ++ drop (3 * (i + 1)) xs) (grown l)

  pub more : i < length words → 3 * length words ≤ length xs
      → Packed (i + 1) words xs (set (set (set ys (3 * i) (get_or words i 0 / 65536 % 256)) (3 * i + 1) (get_or words i 0 / 256 % 256)) (3 * i + 2) (get_or words i 0 % 256))
  more l room =
      let one : 3 * i + 1 ≡ suc (3 * i) = omega arith in
      let two : 3 * i + 2 ≡ suc (suc (3 * i)) = omega arith in
      rw (one, two) (record {
        within = omega arith;
        kept = length-sets ys (3 * i) (bytes_of (get_or words i 0)) ∙ t.kept;
        front = stored l room;
      })

  pub all : length words ≤ i → ys ≡ packed_bytes words ++ drop (3 * length words) xs
  all l =
      let done : i ≡ length words = omega (arith, t.within) in
      t.front ∙ ap (λ (ws : List ℕ). packed_bytes ws ++ drop (3 * i) xs) (take_all i words l) ∙ ap (λ (k : ℕ). packed_bytes words ++ drop (3 * k) xs) done

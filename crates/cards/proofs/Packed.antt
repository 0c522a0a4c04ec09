-- Bits packed into bytes are read back: bit p of the bytes is bit p of the list. Assumes nothing.
use Prim.Native.Nat.{ℕ, zero, suc, ◌+◌, ◌-◌, ◌*◌, ◌/◌, ◌%◌, ◌^◌, ◌≤◌, ◌<◌}
use native.Mathlib.Omega.{arith}
use native.Mathlib.Decide.{dec_lt}
use mathlib.Core.Path.{◌≡◌, refl, ap, ap₂, sym, ◌∙◌}
use mathlib.Core.List.{List, [], ◌∷◌, ◌++◌}
use lib.ListN.{replicate, length, get_or, drop, length-append, get_or-append, get_or-eq_default}
use lib.Seq.{drop-drop, get_or-drop, get_or-append-add}
use lib.Pow.{shr-shr}
use Rattle.num.specs.Rewrite.{rewrite}
use Rattle.num.specs.Laws.Rewrite.{rewrite_ext}
use Rattle.cards.specs.Step.{took}
use Rattle.cards.specs.Bits.{bit_at, value_at, field_at}
use Rattle.cards.specs.Written.{bits, value_of, pack}
use Rattle.cards.proofs.Bits.{whole}

-- a list of bits
pub record IsBits (bs : List ℕ) : Type 0 where
  pub at : (i : ℕ) → get_or bs i 0 < 2

pub length-bits : (k v : ℕ) → length (bits k v) ≡ k
unfolding bits
length-bits zero v = refl
length-bits (suc k) v = length-append (bits k (v / 2)) (v % 2 ∷ []) ∙ omega (arith, length-bits k (v / 2))

-- an element of a joined list is one of either
pub get_d_joined : (P : ℕ → Type 0) (xs ys : List ℕ) → ((i : ℕ) → i < length xs → P (get_or xs i 0)) → ((i : ℕ) → P (get_or ys i 0)) → (i : ℕ) → P (get_or (xs ++ ys) i 0)
get_d_joined P xs ys hx hy i = go (dec_lt i (length xs))
  where
    go : Dec (i < length xs) → P (get_or (xs ++ ys) i 0)
    go (yes h) = rw (get_or-append xs ys 0 i h) (hx i h)
    go (no h) =
        let e : i ≡ length xs + (i - length xs) = omega arith in
        rw e (rw (get_or-append-add xs ys (i - length xs) 0) (hy (i - length xs)))

pub joined-bits : {xs ys : List ℕ} → IsBits xs → IsBits ys → IsBits (xs ++ ys)
joined-bits {xs} {ys} hx hy = record { at = get_d_joined (λ b. b < 2) xs ys (λ i h. hx.at i) hy.at }

one_bit : (v : ℕ) → IsBits (v % 2 ∷ [])
one_bit v = record { at = elim [ zero ↦ omega arith | suc i ↦ omega arith ] }

pub bits-bits : (k v : ℕ) → IsBits (bits k v)
unfolding bits
bits-bits zero v = record { at = λ i. omega arith }
bits-bits (suc k) v = joined-bits (bits-bits k (v / 2)) (one_bit v)

-- the digits of what bits write
digit : (bs : List ℕ) → IsBits bs → (k i : ℕ) → i < k → value_of bs k / 2 ^ (k - 1 - i) % 2 ≡ get_or bs i 0
unfolding value_of
digit bs h zero i l = elim l [ ]
digit bs h (suc k) i l = go (λ m. digit bs h k i m) (dec_lt i k)
  where
    go : (i < k → value_of bs k / 2 ^ (k - 1 - i) % 2 ≡ get_or bs i 0) → Dec (i < k) → (value_of bs k * 2 + get_or bs k 0) / 2 ^ (suc k - 1 - i) % 2 ≡ get_or bs i 0
    go ih (yes m) =
        let e : suc k - 1 - i ≡ 1 + (k - 1 - i) = omega arith in
        let half : (value_of bs k * 2 + get_or bs k 0) / 2 ^ 1 ≡ value_of bs k = omega (arith, h.at k) in
        ap (λ (n : ℕ). (value_of bs k * 2 + get_or bs k 0) / 2 ^ n % 2) e
        ∙ ap (λ (n : ℕ). n % 2) (sym (shr-shr (value_of bs k * 2 + get_or bs k 0) 1 (k - 1 - i)))
        ∙ ap (λ (n : ℕ). n / 2 ^ (k - 1 - i) % 2) half
        ∙ ih m
    go ih (no m) =
        let e : suc k - 1 - i ≡ 0 = omega arith in
        let same : i ≡ k = omega arith in
        rw (e, same) (omega (arith, h.at k))

-- byte j of what is packed
pub byte_at : (n : ℕ) (bs : List ℕ) (j : ℕ) → j < n → get_or (pack n bs) j 0 ≡ value_of (drop (8 * j) bs) 8
unfolding pack
byte_at zero bs j h = elim h [ ]
byte_at (suc n) bs zero h = refl
byte_at (suc n) bs (suc j) h =
    let e : 8 + 8 * j ≡ 8 * suc j = omega arith in
    byte_at n (drop 8 bs) j (omega arith) ∙ ap (λ (l : List ℕ). value_of l 8) (drop-drop (8 * j) 8 bs ∙ ap (λ (k : ℕ). drop k bs) e)

pub bit_packed : (n : ℕ) (bs : List ℕ) → IsBits bs → (p : ℕ) → p < 8 * n → bit_at (pack n bs) p ≡ get_or bs p 0
bit_packed n bs h p l =
    let m = 8 * (p / 8) in
    let here : m + p % 8 ≡ p = omega arith in
    let rest : IsBits (drop m bs) = record { at = λ i. rw (get_or-drop m bs i 0) (h.at (m + i)) } in
    ap (λ (x : ℕ). x / 2 ^ (7 - p % 8) % 2) (byte_at n bs (p / 8) (omega arith))
    ∙ digit (drop m bs) rest 8 (p % 8) (omega arith)
    ∙ get_or-drop m bs (p % 8) 0
    ∙ ap (λ (k : ℕ). get_or bs k 0) here

pub length-pack : (n : ℕ) (bs : List ℕ) → length (pack n bs) ≡ n
unfolding pack
length-pack zero bs = refl
length-pack (suc n) bs = ap suc (length-pack n (drop 8 bs))

-- the card holds the bits at the place p
pub record Holds (card : List ℕ) (p : ℕ) (bs : List ℕ) : Type 0 where
  pub inside : p + length bs ≤ 8 * length card
  pub bit : (i : ℕ) → i < length bs → bit_at card (p + i) ≡ get_or bs i 0

pub holds-front : (card : List ℕ) (p : ℕ) (bs cs : List ℕ) → Holds card p (bs ++ cs) → Holds card p bs
holds-front card p bs cs h =
    record {
      inside = omega (arith, h.inside, length-append bs cs);
      bit = λ i l. h.bit i (omega (arith, length-append bs cs)) ∙ get_or-append bs cs 0 i l;
    }

pub holds_back : (card : List ℕ) (p : ℕ) (bs cs : List ℕ) → Holds card p (bs ++ cs) → Holds card (p + length bs) cs
holds_back card p bs cs h =
    record {
      inside = omega (arith, h.inside, length-append bs cs);
      bit = λ i l.
          let e : p + length bs + i ≡ p + (length bs + i) = omega arith in
          rw e (h.bit (length bs + i) (omega (arith, length-append bs cs)) ∙ get_or-append-add bs cs i 0);
    }

value_held : (card : List ℕ) (p k v : ℕ) → Holds card p (bits k v) → v < 2 ^ k → value_at card p k ≡ v
unfolding value_at bits
value_held card p zero v h l = omega arith
value_held card p (suc k) v h l =
    let front = holds-front card p (bits k (v / 2)) (v % 2 ∷ []) h in
    let back = holds_back card p (bits k (v / 2)) (v % 2 ∷ []) h in
    let here : p + k ≡ p + length (bits k (v / 2)) + 0 = omega (arith, length-bits k (v / 2)) in
    let last : bit_at card (p + k) ≡ v % 2 = ap (bit_at card) here ∙ back.bit 0 (omega arith) in
    omega (arith, value_held card p k (v / 2) front (omega arith), last)

pub field_held : (k v : ℕ) → v < 2 ^ k → (card : List ℕ) (p : ℕ) → Holds card p (bits k v) → field_at k card p ≡ took v (p + k)
field_held k v l card p h =
    whole k card p (omega (arith, h.inside, length-bits k v)) ∙ ap (λ (n : ℕ). took n (p + k)) (value_held card p k v h l)

pub value_of_lt : (bs : List ℕ) → IsBits bs → (k : ℕ) → value_of bs k < 2 ^ k
unfolding value_of
value_of_lt bs h zero = omega arith
value_of_lt bs h (suc k) = omega (arith, value_of_lt bs h k, h.at k)

pub dropped_bits : (bs : List ℕ) (m : ℕ) → ((i : ℕ) → get_or bs i 0 < 2) → IsBits (drop m bs)
dropped_bits bs m h = record { at = λ i. rw (get_or-drop m bs i 0) (h (m + i)) }

value_of_same : (xs ys : List ℕ) → ((i : ℕ) → get_or xs i 0 ≡ get_or ys i 0) → (k : ℕ) → value_of xs k ≡ value_of ys k
unfolding value_of
value_of_same xs ys h zero = refl
value_of_same xs ys h (suc k) = omega (arith, value_of_same xs ys h k, h k)

-- only the bits count, not what is past the end
pub pack_same : (n : ℕ) (xs ys : List ℕ) → ((i : ℕ) → get_or xs i 0 ≡ get_or ys i 0) → pack n xs ≡ pack n ys
unfolding pack
pack_same zero xs ys h = refl
pack_same (suc n) xs ys h =
    ap₂ (λ (b : ℕ) (bs : List ℕ). b ∷ bs) (value_of_same xs ys h 8)
    (pack_same n (drop 8 xs) (drop 8 ys) (λ i. get_or-drop 8 xs i 0 ∙ h (8 + i) ∙ sym (get_or-drop 8 ys i 0)))

zero-at : (m i : ℕ) → ◌≡◌ {A = ℕ} (get_or (replicate m 0) i 0) 0
zero-at zero i = refl
zero-at (suc m) zero = refl
zero-at (suc m) (suc i) = zero-at m i

-- bits laid on a blank sheet
pub blank-bits : (m : ℕ) (bs : List ℕ) (i : ℕ) → get_or (bs ++ drop (0 + length bs) (replicate m 0)) i 0 ≡ get_or bs i 0
blank-bits m bs i = go (dec_lt i (length bs))
  where
    go : Dec (i < length bs) → get_or (bs ++ drop (0 + length bs) (replicate m 0)) i 0 ≡ get_or bs i 0
    go (yes h) = get_or-append bs (drop (0 + length bs) (replicate m 0)) 0 i h
    go (no h) =
        let j = i - length bs in
        let e : i ≡ length bs + j = omega arith in
        ap (λ (k : ℕ). get_or (bs ++ drop (0 + length bs) (replicate m 0)) k 0) e
        ∙ get_or-append-add bs (drop (0 + length bs) (replicate m 0)) j 0
        ∙ get_or-drop (0 + length bs) (replicate m 0) j 0
        ∙ zero-at m (0 + length bs + j)
        ∙ sym (get_or-eq_default bs 0 {n = i} (omega arith))

-- packing into a buffer, byte by byte
pub pack-rewrite : (bs buf : List ℕ) → rewrite (length buf) (λ j b. value_of (drop (8 * j) bs) 8) buf ≡ pack (length buf) bs
unfolding rewrite pack
pack-rewrite bs [] = refl
pack-rewrite bs (b ∷ buf) =
    ap (λ (l : List ℕ). value_of bs 8 ∷ l)
    (rewrite_ext (length buf) (λ j b. value_of (drop (8 * suc j) bs) 8) (λ j b. value_of (drop (8 * j) (drop 8 bs)) 8) buf
    (λ j x l. let k : 8 * suc j ≡ 8 + 8 * j = omega arith in ap (λ (m : ℕ). value_of (drop m bs) 8) k ∙ ap (λ (xs : List ℕ). value_of xs 8) (sym (drop-drop (8 * j) 8 bs)))
    ∙ pack-rewrite (drop 8 bs) buf)

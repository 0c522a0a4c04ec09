-- Writing a sheet. A bit is put into its byte; a field is written bit by bit, and an event field by field: what was written before is read as before, since
-- no reader looks at other bits than those that it takes. Assumes nothing.
use Prim.Native.Nat.{ℕ, zero, suc, ◌+◌, ◌*◌, ◌-◌, ◌/◌, ◌%◌, ◌^◌, ◌<◌, ◌≤◌}
use native.Mathlib.Decide.{dec_lt}
use native.Mathlib.Nat.{add-zero}
use native.Mathlib.Numerals.{add-one}
use native.Mathlib.Omega.{arith}
use mathlib.Core.Bool.{Bool, true}
use mathlib.Core.List.{List, [], ◌∷◌, ◌++◌}
use mathlib.Core.Path.{◌≡◌, refl, sym, ap, ap₂, ◌∙◌, subst}
use lib.Dec.{eqb}
use lib.ListN.{length, get_or, set, take, drop, length-set}
use lib.Pow.{pow_pos, pow-add, shl_exact, shl-shr, shr_lt, shr-shr, low}
use lib.Seq.{length-take-le, drop-drop, drop-set-lt, get_or-take, get_or-drop, get_or-set_same, get_or-set_other}
use borrow.Author.Tests.{eq-eqb}
use Rattle.cards.specs.Bits.{bit_at, value_at, field_at}
use Rattle.cards.specs.Card.{ends_at, end_at}
use Rattle.cards.specs.Step.{Step, took, refused, and_then, Reader, ◌>>=◌, ret, refuse, refuse_if}
use Rattle.cards.proofs.Bits.{value_at_lt, taken, whole}
use Rattle.raster.specs.Pixels.{byte_at, pixel_at, unpacked}
use Rattle.sheets.specs.Events.{Event, frame, reset, switch, step, ask, commit, words_at, frame_at, switch_at, by_number, event_at, events_at, rest_at, sheet_at}
use Rattle.sheets.specs.Written.{Padded, Writes}
use Rattle.sheets.proofs.Bytes.{split, byte}
use Rattle.sheets.proofs.Reading.{on}

-- ## A bit in its byte

-- x is the byte y, in which b stands before the last t bits and 0 in them
record Placed (y b t x : ℕ) : Type 0 where
  pub high : x / 2 ^ t ≡ y / 2 ^ t / 2 * 2 + b
  pub none : x % 2 ^ t ≡ 0
  pub small : x < 256

-- as the code works it out
abbrev pub worked : (y b t : ℕ) → ℕ
worked y b t = (y / 2 ^ t / 2 * 2 + b) * 2 ^ t % 18446744073709551616 % 256

placed : (y b t : ℕ) → t < 8 → y < 256 → b < 2 → Placed y b t (worked y b t)
placed y b t less byte bit =
    let h : ℕ = y / 2 ^ t / 2 * 2 + b in
    let sum : 8 ≡ 8 - t + t = omega arith in
    let half : 2 ^ (8 - t) ≡ 2 ^ (7 - t) * 2 = ap (λ (k : ℕ). 2 ^ k) (let e : 8 - t ≡ 7 - t + 1 = omega arith in e) ∙ pow-add 2 (7 - t) 1 in
    let quotient : y / 2 ^ t < 2 ^ (8 - t) = shr_lt (8 - t) t (rw (sym sum) byte) in
    let few : h < 2 ^ (8 - t) = omega (arith, half, quotient, bit) in
    let fits : h * 2 ^ t % 2 ^ 64 ≡ h * 2 ^ t = shl_exact (8 - t) t 64 few (omega arith) in
    let fits_byte : h * 2 ^ t % 2 ^ 8 ≡ h * 2 ^ t = shl_exact (8 - t) t 8 few (omega arith) in
    let same : h * 2 ^ t % 18446744073709551616 % 256 ≡ h * 2 ^ t = ap (λ (n : ℕ). n % 256) fits ∙ fits_byte in
    record {
      high = ap (λ (n : ℕ). n / 2 ^ t) same ∙ shl-shr h t;
      none = ap (λ (n : ℕ). n % 2 ^ t) same ∙ ap (λ (n : ℕ). n % 2 ^ t) (sym (add-zero (h * 2 ^ t))) ∙ low h t (pow_pos t);
      small = omega arith;
    }

-- the bits before it stay
same_above : {y b t x : ℕ} → Placed y b t x → b < 2 → (d : ℕ) → x / 2 ^ (t + (1 + d)) ≡ y / 2 ^ (t + (1 + d))
same_above {y} {b} {t} {x} h bit d =
    let half : x / 2 ^ t / 2 ^ 1 ≡ y / 2 ^ t / 2 ^ 1 = omega (arith, h.high, bit) in
    sym (shr-shr x t (1 + d)) ∙ sym (shr-shr (x / 2 ^ t) 1 d) ∙ ap (λ (n : ℕ). n / 2 ^ d) half ∙ shr-shr (y / 2 ^ t) 1 d ∙ shr-shr y t (1 + d)

module _ (s : List ℕ) (p b x : ℕ) (inside : p < 8 * length s) (bit : b < 2) (h : Placed (get_or s (p / 8) 0) b (7 - p % 8) x) where
  abbrev after : List ℕ
  after = set s (p / 8) x

  there : get_or after (p / 8) 0 ≡ x
  there = get_or-set_same s (p / 8) x 0 (omega (arith, inside))

  reads_bit : field_at 1 after p ≡ took b (p + 1)
  unfolding value_at
  reads_bit =
      let room : p + 1 ≤ 8 * length after = omega (arith, inside, length-set s (p / 8) x) in
      let is : bit_at after (p + 0) ≡ b =
      ap (bit_at after) (add-zero p) ∙ ap (λ (y : ℕ). y / 2 ^ (7 - p % 8) % 2) there ∙ omega (arith, h.high, bit) in
      whole 1 after p room ∙ ap (λ (v : ℕ). took v (p + 1)) (omega (arith, is))

  stay_before : (q : ℕ) → q < p → bit_at after q ≡ bit_at s q
  stay_before q l = go (dec_lt (q / 8) (p / 8))
    where
      go : Dec (q / 8 < p / 8) → bit_at after q ≡ bit_at s q
      go (yes m) = ap (λ (y : ℕ). y / 2 ^ (7 - q % 8) % 2) (get_or-set_other s (p / 8) (q / 8) x 0 (λ e. omega (arith, e, m)))
      go (no m) =
          let byte-same : q / 8 ≡ p / 8 = omega (arith, l) in
          let place : 7 - q % 8 ≡ 7 - p % 8 + (1 + (p % 8 - q % 8 - 1)) = omega (arith, l, byte-same) in
          ap (λ (k : ℕ). get_or after k 0 / 2 ^ (7 - q % 8) % 2) byte-same
          ∙ ap (λ (y : ℕ). y / 2 ^ (7 - q % 8) % 2) there
          ∙ ap (λ (k : ℕ). x / 2 ^ k % 2) place
          ∙ ap (λ (n : ℕ). n % 2) (same_above h bit (p % 8 - q % 8 - 1))
          ∙ ap (λ (k : ℕ). get_or s (p / 8) 0 / 2 ^ k % 2) (sym place)
          ∙ ap (λ (k : ℕ). get_or s k 0 / 2 ^ (7 - q % 8) % 2) (sym byte-same)

  zeros-behind : Padded (p + 1) after
  zeros-behind =
      let t : ℕ = 7 - p % 8 in
      let i : ℕ = p % 8 + 1 in
      let rest : (p + 1 + 7) / 8 * 8 - (p + 1) ≡ t = omega arith in
      let start : p + 1 ≡ 8 * (p / 8) + i = omega arith in
      let eight : 8 ≡ i + t = omega arith in
      let all : value_at after (8 * (p / 8)) (i + t) ≡ x =
      ap (value_at after (8 * (p / 8))) (sym eight) ∙ byte after (p / 8) (omega (arith, there, h.small)) ∙ there in
      ap₂ (value_at after) start rest
      ∙ sym (low (value_at after (8 * (p / 8)) i) t (value_at_lt after (8 * (p / 8) + i) t))
      ∙ ap (λ (n : ℕ). n % 2 ^ t) (sym (split after (8 * (p / 8)) i t) ∙ all)
      ∙ h.none

  written : Writes (field_at 1) b p (p + 1) s after
  written = record {
    reads = reads_bit;
    before = stay_before;
    padded = λ was. zeros-behind;
    behind = drop-set-lt ((p + 1 + 7) / 8) s (p / 8) x (omega arith);
  }

pub bit_put : (s : List ℕ) (p b y : ℕ) → p < 8 * length s → b < 2 → (y ≡ get_or s (p / 8) 0) × (y ≤ 255)
    → Writes (field_at 1) b p (p + 1) s (set s (p / 8) (worked y b (7 - p % 8)))
bit_put s p b y inside bit (e, small) =
    let t : ℕ = 7 - p % 8 in
    written s p b (worked y b t) inside bit (subst (λ (z : ℕ). Placed z b t (worked y b t)) e (placed y b t (omega arith) (omega (arith, small)) bit))

-- ## Readers that look at no bit but those that they take

-- two sheets have the same bits from p to n
abbrev pub Alike : (p n : ℕ) (s t : List ℕ) → Type 0
Alike p n s t = (q : ℕ) → p ≤ q → q < n → bit_at s q ≡ bit_at t q

pub record Local {A : Type 0} (m : Reader A) : Type 0 where
  pub onward : (s : List ℕ) (p : ℕ) (a : A) (n : ℕ) → m s p ≡ took a n → p ≤ n
  pub same : (s t : List ℕ) (p : ℕ) (a : A) (n : ℕ) → m s p ≡ took a n → n ≤ 8 * length t → Alike p n t s → m t p ≡ took a n

value_same : (s t : List ℕ) (p k : ℕ) → Alike p (p + k) t s → value_at t p k ≡ value_at s p k
unfolding value_at
value_same s t p zero h = refl
value_same s t p (suc k) h = omega (arith, value_same s t p k (λ q l m. h q l (omega (arith, m))), h (p + k) (omega arith) (omega arith))

pub local_field : (k : ℕ) → Local (field_at k)
local_field k = record {
  onward = λ s p a n e. omega (arith, (taken k s p a n e).1);
  same = λ s t p a n e l h.
      let is = taken k s p a n e in
      let far : p + k ≡ n = sym is.1 in
      whole k t p (omega (arith, l, far))
      ∙ ap (λ (v : ℕ). took v (p + k)) (value_same s t p k (λ q lo hi. h q lo (omega (arith, hi, far))) ∙ sym is.0)
      ∙ ap (λ (m : ℕ). took a m) far;
}

pub local_ret : {A : Type 0} (a : A) → Local (ret a)
local_ret a = record {
  onward = λ s p b n e. let here : p ≡ n = cc in omega (arith, here);
  same = λ s t p b n e l h. e;
}

pub local_refuse : {A : Type 0} (k : ℕ) → Local (refuse {A = A} k)
local_refuse k = record {
  onward = λ s p a n e. let z : ◌≡◌ {A = ℕ} 0 1 = cc in absurd (omega arith);
  same = λ s t p a n e l h. let z : ◌≡◌ {A = ℕ} 0 1 = cc in absurd (omega arith);
}

module _ {A B : Type 0} {m : Reader A} {f : A → Reader B} (first : Local m) (second : (a : A) → Local (f a)) where
  pub local_then : Local (◌>>=◌ m f)
  local_then = record {
    onward = λ s p b n e. ahead s p b n (m s p) refl e;
    same = λ s t p b n e l h. alike s t p b n l h (m s p) refl e;
  }
    where
      ahead : (s : List ℕ) (p : ℕ) (b : B) (n : ℕ) (z : Step A) → m s p ≡ z → and_then z (λ a q. f a s q) ≡ took b n → p ≤ n
      ahead s p b n (took a q) e h = omega (arith, first.onward s p a q e, (second a).onward s q b n h)
      ahead s p b n (refused k) e h = let z : ◌≡◌ {A = ℕ} 0 1 = cc in absurd (omega arith)

      alike : (s t : List ℕ) (p : ℕ) (b : B) (n : ℕ) → n ≤ 8 * length t → Alike p n t s → (z : Step A) → m s p ≡ z → and_then z (λ a q. f a s q) ≡ took b n
          → and_then (m t p) (λ a q. f a t q) ≡ took b n
      alike s t p b n l h (took a q) e g =
          let to = first.onward s p a q e in
          let on = (second a).onward s q b n g in
          ap (λ z. and_then z (λ a q. f a t q)) (first.same s t p a q e (omega (arith, on, l)) (λ r lo hi. h r lo (omega (arith, hi, on))))
          ∙ (second a).same s t q b n g l (λ r lo hi. h r (omega (arith, lo, to)) hi)
      alike s t p b n l h (refused k) e g = let z : ◌≡◌ {A = ℕ} 0 1 = cc in absurd (omega arith)

pub local_words : (n : ℕ) → Local (words_at n)
unfolding words_at
local_words zero = local_ret []
local_words (suc n) = local_then (local_field 24) (λ word. local_then (local_words n) (λ words. local_ret (word ∷ words)))

local_frame : Local frame_at
unfolding frame_at
local_frame = local_then (local_field 11) (λ w. local_then (local_field 11) (λ h. local_then (local_words (h * w)) (λ words. local_ret (frame w h words))))

local_switch : (made : ℕ → Bool → Event) → Local (switch_at made)
unfolding switch_at
local_switch made = local_then (local_field 4) (λ kind. local_then (local_field 1) (λ on. local_ret (made kind (eqb on 1))))

local_number : (k : ℕ) → Local (get_or by_number k (refuse 20))
local_number zero = local_frame
local_number (suc zero) = local_ret reset
local_number (suc (suc zero)) = local_switch switch
local_number (suc (suc (suc zero))) = local_ret step
local_number (suc (suc (suc (suc zero)))) = local_switch ask
local_number (suc (suc (suc (suc (suc zero))))) = local_ret commit
local_number (suc (suc (suc (suc (suc (suc k)))))) = local_refuse 20

pub local_event : Local event_at
unfolding event_at
local_event = local_then (local_field 3) local_number

pub local_events : (n : ℕ) → Local (events_at n)
unfolding events_at
local_events zero = local_ret []
local_events (suc n) = local_then local_event (λ event. local_then (local_events n) (λ events. local_ret (event ∷ events)))

-- ## One behind the other

-- bytes past n stay where those past m do
stay_past : (m n : ℕ) (s t : List ℕ) → m ≤ n → drop m s ≡ drop m t → drop n s ≡ drop n t
stay_past m n s t l e =
    let sum : n ≡ m + (n - m) = omega (arith, l) in
    ap (λ (k : ℕ). drop k s) sum ∙ sym (drop-drop (n - m) m s) ∙ ap (drop (n - m)) e ∙ drop-drop (n - m) m t ∙ ap (λ (k : ℕ). drop k t) (sym sum)

-- what is written behind the first leaves it as it was
module _ {A B : Type 0} {m : Reader A} {a : A} {p n q : ℕ} {s s' s'' : List ℕ} (first : Local m) (w : Writes m a p n s s') (on : n ≤ q) (room : n ≤ 8 * length s'') where
  pub still-reads : {r : Reader B} {b : B} → Writes r b n q s' s'' → m s'' p ≡ took a n
  still-reads v = first.same s' s'' p a n w.reads room (λ k lo hi. v.before k hi)

  pub behind_it : {C : Type 0} {r : Reader B} {b : B} (r' : Reader C) (b' : C) → r' s'' p ≡ took b' q → Writes r b n q s' s'' → Writes r' b' p q s s''
  behind_it r' b' e v = record {
    reads = e;
    before = λ k l. v.before k (omega (arith, l, first.onward s' p a n w.reads)) ∙ w.before k l;
    padded = λ h. v.padded (w.padded h);
    behind = v.behind ∙ stay_past ((n + 7) / 8) ((q + 7) / 8) s' s (omega (arith, on)) w.behind;
  }

  pub writes_then : (f : A → Reader B) {b : B} → Writes (f a) b n q s' s'' → Writes (◌>>=◌ m f) b p q s s''
  writes_then f {b} v = behind_it (◌>>=◌ m f) b (ap (λ z. and_then z (λ x k. f x s'' k)) (still-reads v) ∙ v.reads) v

-- ## A field, bit by bit: i bits of it write the value without those that are left

module _ (width v p : ℕ) (fits : v < 2 ^ width) where
  pub no_bit : (s : List ℕ) → p ≤ 8 * length s → Writes (field_at 0) (v / 2 ^ (width - 0)) p (p + 0) s s
  unfolding value_at
  no_bit s l =
      let here : p + 0 ≡ p = add-zero p in
      let sum : 0 + width ≡ width = omega arith in
      let none : v / 2 ^ (width - 0) ≡ 0 =
      ap (λ (k : ℕ). v / 2 ^ k) (let e : width - 0 ≡ width = omega arith in e) ∙ omega (arith, shr_lt {n = v} 0 width (rw sum fits)) in
      record {
        reads = whole 0 s p (omega (arith, l)) ∙ ap (λ (k : ℕ). took k (p + 0)) (sym none);
        before = λ q h. refl;
        padded = λ h. rw here h;
        behind = refl;
      }

  pub bit_more : {i : ℕ} {s s' s'' : List ℕ} → i < width → p + width ≤ 8 * length s'' → Writes (field_at i) (v / 2 ^ (width - i)) p (p + i) s s'
      → Writes (field_at 1) (v / 2 ^ (width - 1 - i) % 2) (p + i) (p + i + 1) s' s'' → Writes (field_at (i + 1)) (v / 2 ^ (width - (i + 1))) p (p + (i + 1)) s s''
  unfolding value_at
  bit_more {i} {s} {s'} {s''} l room w one =
      let left : ℕ = width - 1 - i in
      let end : p + i + 1 ≡ p + (i + 1) = omega arith in
      let so_far : v / 2 ^ (width - i) ≡ value_at s'' p i = (taken i s'' p _ _ (still-reads (local_field i) w (omega arith) (omega (arith, l, room)) one)).0 in
      let last : v / 2 ^ left % 2 ≡ value_at s'' (p + i) 1 = (taken 1 s'' (p + i) _ _ one.reads).0 in
      let here : bit_at s'' (p + i + 0) ≡ bit_at s'' (p + i) = ap (bit_at s'') (add-zero (p + i)) in
      let halved : v / 2 ^ (width - i) ≡ v / 2 ^ left / 2 =
      ap (λ (k : ℕ). v / 2 ^ k) (let e : width - i ≡ left + 1 = omega (arith, l) in e) ∙ sym (shr-shr v left 1) in
      let rest : width - (i + 1) ≡ left = omega arith in
      let value : value_at s'' p (suc i) ≡ v / 2 ^ (width - (i + 1)) = rw rest (omega (arith, so_far, last, here, halved)) in
      let reads : field_at (i + 1) s'' p ≡ took (v / 2 ^ (width - (i + 1))) (p + i + 1) =
      rw end (whole (i + 1) s'' p (omega (arith, l, room)) ∙ ap (λ (n : ℕ). took n (p + (i + 1))) (ap (value_at s'' p) (add-one i) ∙ value)) in
      rw end at (behind_it (local_field i) w (omega arith) (omega (arith, l, room)) (field_at (i + 1)) (v / 2 ^ (width - (i + 1))) reads one)

  pub all_bits : {i : ℕ} {s s' : List ℕ} → i ≡ width → Writes (field_at i) (v / 2 ^ (width - i)) p (p + i) s s' → Writes (field_at width) v p (p + width) s s'
  all_bits {i} {s} {s'} e w =
      let whole_value : v / 2 ^ (width - i) ≡ v = ap (λ (k : ℕ). v / 2 ^ k) (let z : width - i ≡ 0 = omega (arith, e) in z) ∙ omega arith in
      subst (λ (k : ℕ). Writes (field_at k) v p (p + k) s s') e (subst (λ (x : ℕ). Writes (field_at i) x p (p + i) s s') whole_value w)

-- ## The words of a frame

-- a reader of many things, one after another: one more, behind the others
module _ {A : Type 0} (one : Reader A) (many : ℕ → Reader (List A)) (none : (s : List ℕ) (p : ℕ) → many 0 s p ≡ took [] p)
    (some : (n : ℕ) (s : List ℕ) (p : ℕ) → many (suc n) s p ≡ and_then (one s p) (λ a q. and_then (many n s q) (λ xs r. took (a ∷ xs) r))) where
  one_more : (n : ℕ) (s : List ℕ) (p q r : ℕ) (all : List A) (a : A) → many n s p ≡ took all q → one s q ≡ took a r → many (suc n) s p ≡ took (all ++ a ∷ []) r
  one_more zero s p q r all a e f =
      let nil : took [] p ≡ took all q = sym (none s p) ∙ e in
      let empty : [] ≡ all = cc in
      let here : p ≡ q = cc in
      some 0 s p ∙ on _ (rw (sym here) at f) ∙ on _ (none s r) ∙ ap (λ (xs : List A). took (xs ++ a ∷ []) r) empty
  one_more (suc n) s p q r all a e f = some (suc n) s p ∙ go (one s p) refl (sym (some n s p) ∙ e) (λ k xs. one_more n s k q r xs a)
    where
      deep : (x : A) (k : ℕ) (z : Step (List A)) → many n s k ≡ z → and_then z (λ xs j. took (x ∷ xs) j) ≡ took all q
          → ((xs : List A) → many n s k ≡ took xs q → one s q ≡ took a r → many (suc n) s k ≡ took (xs ++ a ∷ []) r)
          → and_then (many (suc n) s k) (λ xs j. took (x ∷ xs) j) ≡ took (all ++ a ∷ []) r
      deep x k (took xs j) h g ih =
          let first : x ∷ xs ≡ all = cc in
          let to : j ≡ q = cc in
          on _ (ih xs (h ∙ ap (took xs) to) f) ∙ ap (λ (ys : List A). took (ys ++ a ∷ []) r) first
      deep x k (refused j) h g ih = let z : ◌≡◌ {A = ℕ} 0 1 = cc in absurd (omega arith)

      go : (z : Step A) → one s p ≡ z → and_then z (λ x k. and_then (many n s k) (λ xs j. took (x ∷ xs) j)) ≡ took all q
          → ((k : ℕ) (xs : List A) → many n s k ≡ took xs q → one s q ≡ took a r → many (suc n) s k ≡ took (xs ++ a ∷ []) r)
          → and_then (one s p) (λ x k. and_then (many (suc n) s k) (λ xs j. took (x ∷ xs) j)) ≡ took (all ++ a ∷ []) r
      go (took x k) h g ih = on _ h ∙ deep x k (many n s k) refl g (ih k)
      go (refused k) h g ih = let z : ◌≡◌ {A = ℕ} 0 1 = cc in absurd (omega arith)

words_more : (n : ℕ) (s : List ℕ) (p q r : ℕ) (words : List ℕ) (word : ℕ) → words_at n s p ≡ took words q → field_at 24 s q ≡ took word r
    → words_at (suc n) s p ≡ took (words ++ word ∷ []) r
unfolding words_at
words_more = one_more (field_at 24) words_at (λ s p. refl) (λ n s p. refl)

events_more : (n : ℕ) (s : List ℕ) (p q r : ℕ) (events : List Event) (event : Event) → events_at n s p ≡ took events q → event_at s q ≡ took event r
    → events_at (suc n) s p ≡ took (events ++ event ∷ []) r
unfolding events_at
events_more = one_more event_at events_at (λ s p. refl) (λ n s p. refl)

-- an event that is written behind others leaves them as they were
pub listed_more : (n p : ℕ) {q r : ℕ} {s s' : List ℕ} {events : List Event} {event : Event} → events_at n s p ≡ took events q → q ≤ 8 * length s'
    → Writes event_at event q r s s' → events_at (suc n) s' p ≡ took (events ++ event ∷ []) r
listed_more n p {q} {r} {s} {s'} {events} {event} e room w =
    events_more n s' p q r events event ((local_events n).same s s' p events q e room (λ k lo hi. w.before k hi)) w.reads

-- so it is with pixels: the next one's bytes stand behind those of the others
next-pixel : (bytes : List ℕ) (i : ℕ) → pixel_at (drop 3 bytes) (3 * i) ≡ pixel_at bytes (3 * suc i)
next-pixel bytes i =
    let at : (k : ℕ) → byte_at (drop 3 bytes) (3 * i + k) ≡ byte_at bytes (3 * suc i + k) = λ k. get_or-drop 3 bytes (3 * i + k) 0 ∙ ap (byte_at bytes) (omega arith) in
    let red : byte_at (drop 3 bytes) (3 * i) ≡ byte_at bytes (3 * suc i) = get_or-drop 3 bytes (3 * i) 0 ∙ ap (byte_at bytes) (omega arith) in
    let green : byte_at (drop 3 bytes) (3 * i + 1) ≡ byte_at bytes (3 * suc i + 1) = at 1 in
    let blue : byte_at (drop 3 bytes) (3 * i + 2) ≡ byte_at bytes (3 * suc i + 2) = at 2 in
    cc

pixel_more : (i : ℕ) (bytes : List ℕ) → unpacked i bytes ++ pixel_at bytes (3 * i) ∷ [] ≡ unpacked (suc i) bytes
unfolding unpacked
pixel_more zero bytes = refl
pixel_more (suc i) bytes =
    ap (λ (ps : List ℕ). pixel_at bytes 0 ∷ ps)
    (ap (λ (x : ℕ). unpacked i (drop 3 bytes) ++ x ∷ []) (sym (next-pixel bytes i)) ∙ pixel_more i (drop 3 bytes))

module _ (p : ℕ) (pixels : List ℕ) where
  pub no_word : (s : List ℕ) → Writes (words_at 0) (unpacked 0 pixels) p (p + 24 * 0) s s
  unfolding words_at unpacked
  no_word s =
      let here : p + 24 * 0 ≡ p = omega arith in
      record { reads = ap (took []) (sym here); before = λ q h. refl; padded = λ h. rw here h; behind = refl }

  pub word_more : (i : ℕ) {v r : ℕ} {s s' s'' : List ℕ} → p + 24 * i + 24 ≤ 8 * length s'' → v ≡ pixel_at pixels (3 * i) → r ≡ p + 24 * i + 24
      → Writes (words_at i) (unpacked i pixels) p (p + 24 * i) s s' → Writes (field_at 24) v (p + 24 * i) r s' s''
      → Writes (words_at (i + 1)) (unpacked (i + 1) pixels) p (p + 24 * (i + 1)) s s''
  word_more i {v} {r} {s} {s'} {s''} room is end w one =
      let last : r ≡ p + 24 * (i + 1) = omega (arith, end) in
      let on-it : p + 24 * i ≤ r = omega (arith, end) in
      let there : p + 24 * i ≤ 8 * length s'' = omega (arith, room) in
      let all : words_at (i + 1) s'' p ≡ took (unpacked (i + 1) pixels) r =
      ap (λ (k : ℕ). words_at k s'' p) (add-one i)
      ∙ words_more i s'' p (p + 24 * i) r (unpacked i pixels) v (still-reads (local_words i) w on-it there one) one.reads
      ∙ ap (λ (ws : List ℕ). took ws r) (ap (λ (x : ℕ). unpacked i pixels ++ x ∷ []) is ∙ pixel_more i pixels ∙ ap (λ (k : ℕ). unpacked k pixels) (sym (add-one i))) in
      subst (λ (k : ℕ). Writes (words_at (i + 1)) (unpacked (i + 1) pixels) p k s s'') last
      (behind_it (local_words i) w on-it there (words_at (i + 1)) (unpacked (i + 1) pixels) all one)

  pub all_words : {i n : ℕ} {s s' : List ℕ} → i ≡ n → Writes (words_at i) (unpacked i pixels) p (p + 24 * i) s s'
      → Writes (words_at n) (unpacked n pixels) p (p + 24 * n) s s'
  all_words {s = s} {s' = s'} e w = subst (λ (k : ℕ). Writes (words_at k) (unpacked k pixels) p (p + 24 * k) s s') e w

-- ## Events: a number, and what stands behind it

pub nothing_more : {A : Type 0} (a : A) (p : ℕ) (s : List ℕ) → Writes (ret a) a p p s s
nothing_more a p s = record { reads = refl; before = λ q h. refl; padded = λ h. h; behind = refl }

-- an event that is its number alone
pub alone : (k : ℕ) (e : Event) {p r : ℕ} {s s' : List ℕ} → get_or by_number k (refuse 20) ≡ ret e → r ≤ 8 * length s'
    → Writes (field_at 3) k p r s s' → Writes event_at e p r s s'
unfolding event_at
alone k e {p} {r} {s} {s'} is room w =
    writes_then (local_field 3) w (omega arith) room (λ n. get_or by_number n (refuse 20))
    (subst (λ (m : Reader Event). Writes m e r r s' s') (sym is) (nothing_more e r s'))

pub whole_switch : {kind v p p₁ p₂ r : ℕ} {on : Bool} {s s₁ s₂ s₃ : List ℕ} → eqb v 1 ≡ on → p₁ ≡ p + 3 → p₂ ≡ p₁ + 4 → r ≡ p₂ + 1 → r ≤ 8 * length s₃
    → Writes (field_at 3) 2 p p₁ s s₁ → Writes (field_at 4) kind p₁ p₂ s₁ s₂ → Writes (field_at 1) v p₂ r s₂ s₃ → Writes event_at (switch kind on) p r s s₃
unfolding event_at switch_at
whole_switch {kind} {v} {p} {p₁} {p₂} {r} {on} {s} {s₁} {s₂} {s₃} is e₁ e₂ e₃ room number sort place =
    subst (λ (b : Bool). Writes event_at (switch kind b) p r s s₃) is
    (writes_then (local_field 3) number (omega (arith, e₂, e₃)) (omega (arith, e₂, e₃, room)) (λ n. get_or by_number n (refuse 20))
    (writes_then (local_field 4) sort (omega (arith, e₃)) (omega (arith, e₃, room)) (λ k. ◌>>=◌ (field_at 1) (λ b. ret (switch k (eqb b 1))))
    (writes_then (local_field 1) place (omega arith) room (λ b. ret (switch kind (eqb b 1))) (nothing_more (switch kind (eqb v 1)) r s₃))))

pub whole_frame : {w h p p₁ p₂ p₃ r : ℕ} {words : List ℕ} {s s₁ s₂ s₃ s₄ : List ℕ} → p₂ ≡ p₁ + 11 → p₃ ≡ p₂ + 11 → p₃ ≤ r → r ≤ 8 * length s₄
    → Writes (field_at 3) 0 p p₁ s s₁ → Writes (field_at 11) w p₁ p₂ s₁ s₂ → Writes (field_at 11) h p₂ p₃ s₂ s₃ → Writes (words_at (h * w)) words p₃ r s₃ s₄
    → Writes event_at (frame w h words) p r s s₄
unfolding event_at frame_at
whole_frame {w} {h} {p} {p₁} {p₂} {p₃} {r} {words} {s} {s₁} {s₂} {s₃} {s₄} e₂ e₃ l room number wide high all =
    writes_then (local_field 3) number (omega (arith, e₂, e₃, l)) (omega (arith, e₂, e₃, l, room)) (λ n. get_or by_number n (refuse 20))
    (writes_then (local_field 11) wide (omega (arith, e₃, l)) (omega (arith, e₃, l, room)) (λ x. ◌>>=◌ (field_at 11) (λ y. ◌>>=◌ (words_at (y * x)) (λ ws. ret (frame x y ws))))
    (writes_then (local_field 11) high l (omega (arith, l, room)) (λ y. ◌>>=◌ (words_at (y * w)) (λ ws. ret (frame w y ws)))
    (writes_then (local_words (h * w)) all (omega arith) room (λ ws. ret (frame w h ws)) (nothing_more (frame w h words) r s₄))))

-- ## The whole sheet: its count is written before events that stand there, and its last byte is padded

-- bytes at the start of a sheet have its bits, and past two bytes that were written these are as before
in_front : (n : ℕ) (s : List ℕ) (q : ℕ) → q < 8 * n → bit_at (take n s) q ≡ bit_at s q
in_front n s q l = ap (λ (y : ℕ). y / 2 ^ (7 - q % 8) % 2) (get_or-take n s (q / 8) 0 (omega (arith, l)))

past_two : (s s' : List ℕ) → drop 2 s' ≡ drop 2 s → (q : ℕ) → 16 ≤ q → bit_at s' q ≡ bit_at s q
past_two s s' e q l =
    let sum : q / 8 ≡ 2 + (q / 8 - 2) = omega (arith, l) in
    ap (λ (y : ℕ). y / 2 ^ (7 - q % 8) % 2)
    (ap (λ (k : ℕ). get_or s' k 0) sum ∙ sym (get_or-drop 2 s' (q / 8 - 2) 0) ∙ ap (λ (t : List ℕ). get_or t (q / 8 - 2) 0) e ∙ get_or-drop 2 s (q / 8 - 2) 0
    ∙ ap (λ (k : ℕ). get_or s k 0) (sym sum))

module _ {n p r : ℕ} {s s' : List ℕ} (behind : 16 ≤ p) (inside : p ≤ 8 * length s') (size : r ≡ (p + 7) / 8) (w : Writes (field_at 16) n 0 16 s s') where
  abbrev sheet : List ℕ
  sheet = take r s'

  long : length sheet ≡ r
  long = length-take-le r s' (omega (arith, size, inside))

  -- the bits behind the count
  as_before : (q : ℕ) → 16 ≤ q → q < 8 * r → bit_at sheet q ≡ bit_at s q
  as_before q lo hi = in_front r s' q hi ∙ past_two s s' w.behind q lo

  counts : field_at 16 sheet 0 ≡ took n 16
  counts = (local_field 16).same s' sheet 0 n 16 w.reads (omega (arith, long, size, behind)) (λ q lo hi. in_front r s' q (omega (arith, hi, size, behind)))

  module _ (events : List Event) (there : events_at n s 16 ≡ took events p) (padded : Padded p s) where
    listed : events_at n sheet 16 ≡ took events p
    listed = (local_events n).same s sheet 16 events p there (omega (arith, long, size)) (λ q lo hi. as_before q lo (omega (arith, hi, size)))

    ends : ends_at sheet p ≡ true
    unfolding ends_at
    ends =
        let rest : ℕ = (p + 7) / 8 * 8 - p in
        let zeros : value_at sheet p rest ≡ 0 = value_same s sheet p rest (λ q lo hi. as_before q (omega (arith, lo, behind)) (omega (arith, hi, size))) ∙ padded in
        rw (eq-eqb (length sheet) ((p + 7) / 8) (long ∙ size), eq-eqb (value_at sheet p rest) 0 zeros)

    ended : end_at sheet p ≡ took tt p
    unfolding end_at refuse_if
    ended = rw ends

    pub is-sheet : sheet_at sheet 0 ≡ took events p
    unfolding sheet_at rest_at
    is-sheet = on _ counts ∙ on _ listed ∙ on _ ended

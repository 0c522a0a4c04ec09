-- Reading back what was written: each reader takes the bits of a normalised value as that value. Assumes nothing.
use Prim.Native.Nat.{ℕ, zero, suc, ◌+◌, ◌*◌, ◌^◌, ◌≤◌, ◌<◌}
use native.Mathlib.Omega.{arith}
use native.Mathlib.Nat.{add-zero}
use mathlib.Core.Path.{◌≡◌, refl, ap, sym, subst, ◌∙◌}
use mathlib.Core.Bool.{Bool, true, false, cond, not}
use mathlib.Core.List.{List, [], ◌++◌, append-nil}
use lib.ListN.{length, length-append}
use lib.IntN.{pos, negsuc}
use lib.Pow.{pow_pos}
use lib.Dec.{T, eqb, eqb→eq}
use borrow.Author.Tests.{le-ltb, ne_eqb, eqb-true}
use lib.Ieee.{Float, nan, inf, fin, binary32, fits, to_bits, of_bits, lt, eq, up, down}
use lib.Ieee.Bits.{of_bits-to_bits, to_bits-lt}
use lib.Ieee.Fits.{up_pos}
use lib.Ieee.Scale.{finite}
use Rattle.num.specs.Laws.Bools.{both}
use Rattle.cards.specs.Step.{Step, took, Reader, and_then, ◌>>=◌, ret, here, refuse_if}
use Rattle.cards.specs.Bits.{field_at}
use Rattle.cards.specs.Settings.{finite_at, limited_at, within_at, raised_at, count_at, preset_at}
use Rattle.num.specs.Const.{c0_0, c4_0}
use Rattle.num.specs.Steps.{clamp_of, plus_zero_of, limit_of}
use Rattle.cards.specs.Written.{bits, real}
use Rattle.cards.specs.Normal.{neg_zero}
use Rattle.cards.proofs.Packed.{Holds, holds-front, holds_back, length-bits, field_held}

pub record Reads {A : Type 0} (m : Reader A) (bs : List ℕ) (a : A) : Type 0 where
  pub reads : (card : List ℕ) (p : ℕ) → Holds card p bs → m card p ≡ took a (p + length bs)

pub reads_then : {A B : Type 0} {m : Reader A} (f : A → Reader B) {bs cs : List ℕ} {a : A} {b : B} → Reads m bs a → Reads (f a) cs b → Reads (◌>>=◌ m f) (bs ++ cs) b
reads_then {A} {B} {m} f {bs} {cs} {a} {b} h k =
    record {
      reads = λ card p held.
          let far : p + length bs + length cs ≡ p + length (bs ++ cs) = omega (arith, length-append bs cs) in
          ap (λ (s : Step A). and_then s (λ x n. f x card n)) (h.reads card p (holds-front card p bs cs held))
          ∙ k.reads card (p + length bs) (holds_back card p bs cs held)
          ∙ ap (λ (n : ℕ). took b n) far;
    }

pub reads-ret : {A : Type 0} {a : A} → Reads (ret a) [] a
reads-ret {a = a} = record { reads = λ card p held. ap (λ (n : ℕ). took a n) (sym (add-zero p)) }

-- the last step takes no bits
pub reads-last : {A B : Type 0} {m : Reader A} (f : A → Reader B) {bs : List ℕ} {a : A} {b : B} → Reads m bs a → Reads (f a) [] b → Reads (◌>>=◌ m f) bs b
reads-last {m = m} f {bs = bs} {b = b} h k = subst (λ (l : List ℕ). Reads (◌>>=◌ m f) l b) (append-nil bs) (reads_then f h k)

pub reads_here : {A : Type 0} {f : ℕ → Reader A} {bs : List ℕ} {a : A} → ((p : ℕ) → Reads (f p) bs a) → Reads (◌>>=◌ here f) bs a
reads_here h = record { reads = λ card p held. (h p).reads card p held }

pub reads_guard : (k q : ℕ) (b : Bool) → b ≡ false → Reads (refuse_if k q b) [] tt
unfolding refuse_if
reads_guard k q b e = record { reads = λ card p held. simp (e, add-zero) }

pub reads_field : (k v : ℕ) → v < 2 ^ k → Reads (field_at k) (bits k v) v
reads_field k v h = record { reads = λ card p held. field_held k v h card p held ∙ ap (λ (n : ℕ). took v (p + n)) (sym (length-bits k v)) }

-- a normalised setting F
pub record Settled (low high x : Float) : Type 0 where
  pub held : T (fits binary32 x)
  pub number : finite x ≡ true
  pub above : lt x low ≡ false
  pub below : lt high x ≡ false
  pub plain : neg_zero x ≡ false

-- what equals zero and is not negative is +0
is_zero : (x : Float) → T (fits binary32 x) → neg_zero x ≡ false → eq x c0_0 ≡ true → x ≡ c0_0
unfolding fits eq of_bits
is_zero nan h z e = cc
is_zero (inf s) h z e = cc
is_zero (fin s zero (pos zero)) h z e = ap (λ (b : Bool). fin b 0 (pos 0)) z
is_zero (fin s zero (pos (suc k))) h z e = absurd (omega (arith, eqb→eq (2 ^ suc k * 1) 1 h, pow_pos k))
is_zero (fin s zero (negsuc k)) h z e = absurd (omega (arith, eqb→eq (1 * 2 ^ suc k) 1 h, pow_pos k))
is_zero (fin s (suc m) d) h z e =
    absurd (omega (arith, eqb-true (suc m * up d * 1) (0 * 1 * down d) (both (eqb (suc m * up d * 1) (0 * 1 * down d)) _ e).0, up_pos d))

plus_kept : (x : Float) → T (fits binary32 x) → neg_zero x ≡ false → plus_zero_of x ≡ x
unfolding plus_zero_of
plus_kept x h z = go (eq x c0_0) refl
  where
    go : (b : Bool) → eq x c0_0 ≡ b → cond b c0_0 x ≡ x
    go true e = sym (is_zero x h z e)
    go false e = refl

-- a normalised value is left as it is
pub limit_kept : (low high x : Float) → Settled low high x → limit_of x low high ≡ x
unfolding limit_of clamp_of
limit_kept low high x s =
    ap (λ (y : Float). cond (lt y low) low (cond (lt high y) high y)) (plus_kept x s.held s.plain) ∙ simp (s.above, s.below)

pub reads_finite : (low high x : Float) → Settled low high x → Reads finite_at (real x) x
unfolding finite_at
reads_finite low high x s =
    let same : of_bits binary32 (to_bits binary32 x) ≡ x = of_bits-to_bits binary32 x s.held in
    let whole : not (finite (of_bits binary32 (to_bits binary32 x))) ≡ false = rw (same, s.number) refl in
    reads_here (λ p. reads-last _ (reads_field 32 (to_bits binary32 x) (to_bits-lt binary32 x s.held))
    (reads-last _ (reads_guard 6 p _ whole) (subst (λ (y : Float). Reads (ret (of_bits binary32 (to_bits binary32 x))) [] y) same reads-ret)))

-- a step that takes no bits, before one that does
pub reads-after : {A B : Type 0} {m : Reader A} (f : A → Reader B) {cs : List ℕ} {a : A} {b : B} → Reads m [] a → Reads (f a) cs b → Reads (◌>>=◌ m f) cs b
reads-after f h k = reads_then f h k

-- what is returned is the value
pub reads_as : {A : Type 0} (x y : A) → x ≡ y → Reads (ret x) [] y
reads_as x y e = subst (λ z. Reads (ret x) [] z) e reads-ret

pub reads_limited : (high x : Float) → Settled c0_0 high x → Reads (limited_at high) (real x) x
unfolding limited_at
reads_limited high x s = reads-last _ (reads_finite c0_0 high x s) (reads_as (limit_of x c0_0 high) x (limit_kept c0_0 high x s))

pub reads-within : (low high x : Float) → Settled low high x → Reads (within_at low high) (real x) x
unfolding within_at
reads-within low high x s =
    reads_here
    (λ p. reads-last _ (reads_finite low high x s)
    (reads-last _ (reads_guard 6 p _ (simp (s.above, s.below))) (reads_as (limit_of x low high) x (limit_kept low high x s))))

pub reads-raised : (low x : Float) → Settled low c4_0 x → Reads (raised_at low) (real x) x
unfolding raised_at
reads-raised low x s =
    reads_here
    (λ p. reads-last _ (reads_finite low c4_0 x s)
    (reads-last _ (reads_guard 6 p _ s.below) (reads_as (limit_of x low c4_0) x (limit_kept low c4_0 x s))))

pub record Counted (most v : ℕ) : Type 0 where
  pub some : 1 ≤ v
  pub few : v ≤ most

pub reads-count : (most v : ℕ) → most < 256 → Counted most v → Reads (count_at most) (bits 8 v) v
unfolding count_at
reads-count most v h c =
    reads_here
    (λ p. reads-last _ (reads_field 8 v (omega (arith, c.few)))
    (reads-last _ (reads_guard 6 p _ (le-ltb most v c.few))
    (reads_as (cond (eqb v 0) 1 v) v (simp (ne_eqb v 0 (λ e. omega (arith, c.some)))))))

pub reads-preset : (v : ℕ) → v < 7 → Reads preset_at (bits 3 v) v
unfolding preset_at
reads-preset v h =
    reads_here (λ p. reads-last _ (reads_field 3 v (omega arith)) (reads-last _ (reads_guard 6 p _ (ne_eqb v 7 (λ e. omega arith))) reads-ret))

-- Text laid down at the start of a buffer, piece after piece. Assumes nothing.
use Prim.Native.Nat.{ℕ, suc, ◌+◌, ◌-◌, ◌*◌, ◌≤◌, ◌<◌}
use mathlib.Core.Path.{◌≡◌, refl, sym, ap, ◌∙◌, subst}
use mathlib.Core.List.{List, [], ◌∷◌, ◌++◌, append_assoc, append-nil}
use native.Mathlib.Nat.{not-suc-le-zero}
use native.Mathlib.Numerals.{add-one}
use native.Mathlib.Omega.{arith}
use lib.ListN.{length, get_or, set, take, drop, length-set, length-append, length-drop}
use lib.Seq.{take_at, drop_at, drop-drop, drop-cons, set_at, append_snoc, drop-set-lt, take-suc, take_all}
use Rattle.events.specs.Text.{F, newline, pixel_of, pixels_of, line}
use Rattle.events.specs.Buffers.{Printed}

-- the front of a buffer holds the text, of `at` bytes
pub record Laid (text : List ℕ) (at : ℕ) (out₀ out : List ℕ) : Type 0 where
  pub size : at ≡ length text
  pub room : at ≤ length out₀
  pub kept : length out ≡ length out₀
  pub front : out ≡ text ++ drop at out₀

pub first : (v : ℕ) (out : List ℕ) → 0 < length out → Laid (v ∷ []) 1 (set out 0 v) (set out 0 v)
first v [] l = absurd (not-suc-le-zero l)
first v (x ∷ xs) l = record { size = refl; room = omega arith; kept = refl; front = refl }

module _ {text : List ℕ} {at : ℕ} {out₀ out : List ℕ} (t : Laid text at out₀ out) where
  before : take at out ≡ text
  before = ap (take at) t.front ∙ take_at text (drop at out₀) at (sym t.size)

  after : drop at out ≡ drop at out₀
  after = ap (drop at) t.front ∙ drop_at text (drop at out₀) at (sym t.size)

  -- the next n bytes were lent, and came back as `new`
  pub part : (n : ℕ) (new : List ℕ) → at + n ≤ length out₀ → n ≡ length new → Laid (text ++ new) (at + n) out₀ (take at out ++ (new ++ drop (at + n - at) (drop at out)))
  part n new l s =
      let k : at + n - at ≡ n = omega arith in
      let rest : drop (at + n - at) (drop at out) ≡ drop (at + n) out₀ = ap (λ (m : ℕ). drop m (drop at out)) k ∙ ap (drop n) after ∙ drop-drop n at out₀ in
      let whole : take at out ++ (new ++ drop (at + n - at) (drop at out)) ≡ (text ++ new) ++ drop (at + n) out₀ =
      ap (λ (xs : List ℕ). xs ++ (new ++ drop (at + n - at) (drop at out))) before ∙ ap (λ (xs : List ℕ). text ++ (new ++ xs)) rest ∙ sym (append_assoc text new (drop (at + n) out₀)) in
      let long : at + n ≡ length (text ++ new) = simp length-append (omega (arith, t.size, s)) in
      record {
        size = long;
        room = l;
        kept = ap length whole ∙ simp (length-append, length-drop) (omega (arith, t.size, s, l));
        front = whole;
      }

  -- one byte more
  pub byte : (v : ℕ) → at < length out₀ → set out at v ≡ (text ++ v ∷ []) ++ drop (at + 1) out₀
  byte v l =
      ap (λ (xs : List ℕ). set xs at v) t.front ∙ ap (λ (xs : List ℕ). set (text ++ xs) at v) (drop-cons out₀ at 0 l)
      ∙ set_at text (get_or out₀ at 0) (drop (suc at) out₀) v at (sym t.size) ∙ sym (append_snoc text v (drop (suc at) out₀))
      ∙ ap (λ (k : ℕ). (text ++ v ∷ []) ++ drop k out₀) (sym (add-one at))

-- ## The line of a frame

pixels_snoc : (ps : List ℕ) (p : ℕ) → pixels_of (ps ++ p ∷ []) ≡ pixels_of ps ++ pixel_of p
unfolding pixels_of
pixels_snoc [] p = append-nil (pixel_of p)
pixels_snoc (q ∷ ps) p = ap (λ (xs : List ℕ). pixel_of q ++ xs) (pixels_snoc ps p)

-- the first i pixels are laid
abbrev pub Shown : ℕ → List ℕ → List ℕ → List ℕ → Type 0
Shown i ps out₀ out = (i ≤ length ps) × Laid (F ∷ pixels_of (take i ps)) (1 + 7 * i) out₀ out

pub no_pixel : (ps out : List ℕ) → 0 < length out → Shown 0 ps (set out 0 F) (set out 0 F)
unfolding pixels_of
no_pixel ps out l = (omega arith, first F out l)

pub next-pixel : (i : ℕ) (ps : List ℕ) (out₀ out new : List ℕ) → Shown i ps (set out₀ 0 F) out → i < length ps → 2 + 7 * length ps ≤ length out₀
    → new ≡ pixel_of (get_or ps i 0) → Shown (i + 1) ps (set out₀ 0 F) (take (1 + 7 * i) out ++ (new ++ drop (1 + 7 * i + 7 - (1 + 7 * i)) (drop (1 + 7 * i) out)))
next-pixel i ps out₀ out new t l room e =
    let at : ℕ = 1 + 7 * i in
    let long : at + 7 ≤ length (set out₀ 0 F) = simp length-set (omega arith) in
    let further : at + 7 ≡ 1 + 7 * (i + 1) = omega arith in
    let text : (F ∷ pixels_of (take i ps)) ++ new ≡ F ∷ pixels_of (take (i + 1) ps) =
    ap (λ (xs : List ℕ). F ∷ (pixels_of (take i ps) ++ xs)) e ∙ ap (λ (xs : List ℕ). F ∷ xs) (sym (pixels_snoc (take i ps) (get_or ps i 0)))
    ∙ ap (λ (xs : List ℕ). F ∷ pixels_of xs) (sym (take-suc ps i 0 l) ∙ ap (λ (k : ℕ). take k ps) (sym (add-one i))) in (
      omega arith,
      subst (λ (n : ℕ). Laid (F ∷ pixels_of (take (i + 1) ps)) n (set out₀ 0 F) (take at out ++ (new ++ drop (at + 7 - at) (drop at out)))) further
          (subst (λ (xs : List ℕ). Laid xs (at + 7) (set out₀ 0 F) (take at out ++ (new ++ drop (at + 7 - at) (drop at out)))) text (part t.1 7 new long (sym (ap length e)))),
    )

pub line-ends : (i : ℕ) (ps out₀ out : List ℕ) → Shown i ps (set out₀ 0 F) out → length ps ≤ i → 2 + 7 * length ps ≤ length out₀
    → Printed (line F (pixels_of ps)) (1 + 7 * length ps + 1) out₀ (set out (1 + 7 * length ps) newline)
line-ends i ps out₀ out t l room =
    let at : ℕ = 1 + 7 * length ps in
    let last : i ≡ length ps = omega (arith, t.0) in
    let laid : Laid (F ∷ pixels_of (take i ps)) at (set out₀ 0 F) out = subst (λ (n : ℕ). Laid (F ∷ pixels_of (take i ps)) (1 + 7 * n) (set out₀ 0 F) out) last t.1 in
    let text : (F ∷ pixels_of (take i ps)) ++ newline ∷ [] ≡ line F (pixels_of ps) = ap (λ (xs : List ℕ). line F (pixels_of xs)) (take_all i ps l) in
    let long : at + 1 ≡ length (line F (pixels_of ps)) = sym (sym (ap length text) ∙ simp length-append (omega (arith, laid.size))) in
    let inner : at < length (set out₀ 0 F) = simp length-set (omega arith) in
    record {
      size = long;
      front = byte laid newline inner ∙ ap (λ (xs : List ℕ). xs ++ drop (at + 1) (set out₀ 0 F)) text
          ∙ ap (λ (xs : List ℕ). line F (pixels_of ps) ++ xs) (drop-set-lt (at + 1) out₀ 0 F (omega arith) ∙ ap (λ (k : ℕ). drop k out₀) long);
    }

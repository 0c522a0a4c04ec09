-- Persistence alone: what a frame leaves in two histories that agree in their newest places, and where the pictures agree. Assumes nothing.
use Prim.Native.Nat.{ℕ, zero, suc, ◌+◌, ◌*◌, ◌≤◌}
use native.Mathlib.Nat.{suc-mul, zero-mul, mul-le-mul_right}
use native.Mathlib.Omega.{arith}
use mathlib.Core.Path.{◌≡◌, refl, ap, ap₂, sym, subst, ◌∙◌}
use mathlib.Core.Bool.{Bool, true, false, cond}
use mathlib.Core.List.{List, ◌++◌, append-nil, append_assoc}
use lib.Ieee.{Float}
use lib.ListN.{length, take, drop, length-append}
use lib.Seq.{take-append-add, take-append-le, take-take, length-take-le}
use Rattle.num.specs.Held.{Held, area, same_held}
use Rattle.num.specs.Laws.Held.{same_held_lem}
use Rattle.passes.specs as Text
use Rattle.passes.specs.Flow.{Flow, flow}
use Rattle.passes.specs.Painted.{Painted, painted, onto}
use Rattle.passes.specs.Plain.Persistence.{persistence, blend, copies, refilled, shifted}
use Rattle.passes.specs.Laws.Persistence.{blend-take, length-copies}

-- ## One history

-- the newest places after a frame are the frame and the newest places before it, or copies of the frame
module _ (k : ℕ) (frame past : List ℕ) (m : ℕ) (le : m ≤ k) where
  abbrev n : ℕ
  n = length frame

  front : (l : List ℕ) → take (suc m * n) (frame ++ l) ≡ frame ++ take (m * n) l
  front l = let split : suc m * n ≡ n + m * n = omega (arith, suc-mul m n) in rw split (take-append-add frame l (m * n))

  shifted-front : suc k * n ≤ length past → take (suc m * n) (shifted (suc k) frame past) ≡ frame ++ take (m * n) past
  unfolding shifted
  shifted-front fits =
      let less : suc m * n ≤ suc k * n = mul-le-mul_right n (omega arith) in
      let long : length (frame ++ past) ≡ n + length past = length-append frame past in
      take-append-le (suc m * n) (take (suc k * n) (frame ++ past)) (drop (suc k * n) past) (rw (length-take-le (suc k * n) (frame ++ past) (omega arith)) less)
      ∙ take-take (suc m * n) (suc k * n) (frame ++ past) less
      ∙ front past

  refilled-front : take (suc m * n) (refilled (suc k) frame past) ≡ frame ++ take (m * n) (copies k frame)
  unfolding refilled copies
  refilled-front =
      let less : m * n ≤ k * n = mul-le-mul_right n le in
      ap (take (suc m * n)) (append_assoc frame (copies k frame) (drop (suc k * n) past))
      ∙ front (copies k frame ++ drop (suc k * n) past)
      ∙ ap (λ (l : List ℕ). frame ++ l) (take-append-le (m * n) (copies k frame) (drop (suc k * n) past) (rw (length-copies k frame) less))

-- ## Two flows through persistence

module _ (amount : Float) (k : ℕ) (size : Held) where
  abbrev through : Flow → Flow
  through = persistence amount k size

  abbrev kept : Flow → Flow
  kept x = flow (onto (blend amount k x.past) x.frame) size (shifted k x.frame.words x.past)

  abbrev begun : Flow → Flow
  begun x = flow x.frame size (refilled k x.frame.words x.past)

  -- by what both hold
  by-held : (P : Flow → Flow → Type 0) (x y : Flow) → x.held ≡ y.held → (x.held ≡ size → P (kept x) (kept y)) → P (begun x) (begun y)
      → P (through x) (through y)
  unfolding Text.Persistence.persistence
  by-held P x y e f g =
      subst (λ (z : Held). P (cond (same_held x.held size) (kept x) (begun x)) (cond (same_held z size) (kept y) (begun y))) e
      (go (same_held x.held size) refl)
    where
      go : (b : Bool) → same_held x.held size ≡ b → P (cond b (kept x) (begun x)) (cond b (kept y) (begun y))
      go true t = f (same_held_lem x.held size t)
      go false t = g

-- a flow whose frame has that size, with room for the places of depth k
pub record Fits (k : ℕ) (size : Held) (x : Flow) : Type 0 where
  pub long : length x.frame.words ≡ area size
  pub room : k * area size ≤ length x.past

module _ (k m : ℕ) (le : m ≤ k) (size : Held) (x : Flow) (fits : Fits (suc k) size x) where
  kept-front : take (suc m * area size) (shifted (suc k) x.frame.words x.past) ≡ x.frame.words ++ take (m * area size) x.past
  kept-front =
      subst (λ (n : ℕ). suc k * n ≤ length x.past → take (suc m * n) (shifted (suc k) x.frame.words x.past) ≡ x.frame.words ++ take (m * n) x.past)
      fits.long (shifted-front k x.frame.words x.past m le) fits.room

  begun-front : take (suc m * area size) (refilled (suc k) x.frame.words x.past) ≡ x.frame.words ++ take (m * area size) (copies k x.frame.words)
  begun-front =
      subst (λ (n : ℕ). take (suc m * n) (refilled (suc k) x.frame.words x.past) ≡ x.frame.words ++ take (m * n) (copies k x.frame.words)) fits.long
      (refilled-front k x.frame.words x.past m le)

-- the newest place is the incoming frame, whatever was held
newest : (amount : Float) (k : ℕ) (size : Held) (x : Flow) → Fits (suc k) size x → take (1 * area size) (persistence amount (suc k) size x).past ≡ x.frame.words
newest amount k size x fits =
    by-held amount (suc k) size (λ a b. take (1 * area size) a.past ≡ x.frame.words) x x refl
    (λ t. kept-front k 0 (omega arith) size x fits ∙ none x.past)
    (begun-front k 0 (omega arith) size x fits ∙ none (copies k x.frame.words))
  where
    none : (l : List ℕ) → x.frame.words ++ take (0 * area size) l ≡ x.frame.words
    none l = rw (zero-mul (area size)) (append-nil x.frame.words)

-- two flows whose newest m places agree, where a frame of that size meets them, and what is held where there is such a place
pub record Alike (size : Held) (m : ℕ) (x y : Flow) : Type 0 where
  pub same_held_lem : 1 ≤ m → x.held ≡ y.held
  pub places : x.held ≡ size → take (m * area size) x.past ≡ take (m * area size) y.past

-- a frame that both take: where m places agree, one more does
pub near_more : (amount : Float) (k : ℕ) (size : Held) (x y : Flow) → x.frame.words ≡ y.frame.words → Fits k size x → Fits k size y
    → (m : ℕ) → suc m ≤ k → Alike size m x y
    → take (suc m * area size) (persistence amount k size x).past ≡ take (suc m * area size) (persistence amount k size y).past
near_more amount zero size x y same fits fits' m le near = absurd (omega arith)
near_more amount (suc k) size x y same fits fits' zero le near = newest amount k size x fits ∙ same ∙ sym (newest amount k size y fits')
near_more amount (suc k) size x y same fits fits' (suc m) le near =
    let fine : suc m ≤ k = omega arith in
    by-held amount (suc k) size (λ a b. take (suc (suc m) * area size) a.past ≡ take (suc (suc m) * area size) b.past) x y (near.same_held_lem (omega arith))
    (λ t. kept-front k (suc m) fine size x fits
    ∙ ap₂ (λ (f l : List ℕ). f ++ l) same (near.places t)
    ∙ sym (kept-front k (suc m) fine size y fits'))
    (begun-front k (suc m) fine size x fits
    ∙ ap (λ (f : List ℕ). f ++ take (suc m * area size) (copies k f)) same
    ∙ sym (begun-front k (suc m) fine size y fits'))

-- where all k places agree, the pictures do, and what was clipped
pub near_picture : (amount : Float) (k : ℕ) (size : Held) (x y : Flow) → x.frame ≡ y.frame → length x.frame.words ≡ area size
    → 1 ≤ k → Alike size k x y → (persistence amount k size x).frame ≡ (persistence amount k size y).frame
near_picture amount k size x y same long some near =
    by-held amount k size (λ a b. a.frame ≡ b.frame) x y (near.same_held_lem some)
    (λ t.
    let words = x.frame.words in
    let blends : blend amount k x.past words ≡ blend amount k y.past words =
    sym (blend-take amount k x.past words)
    ∙ ap (λ (l : List ℕ). blend amount k l words) (subst (λ (n : ℕ). take (k * n) x.past ≡ take (k * n) y.past) (sym long) (near.places t))
    ∙ blend-take amount k y.past words in
    ap (λ (b : Painted). painted b.words (x.frame.clipped + b.clipped)) blends
    ∙ ap (onto (blend amount k y.past)) same)
    same

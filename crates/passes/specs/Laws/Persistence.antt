-- What the layers above ask of persistence: lengths, the history after a shift, and which words of it are read and changed. Assumes nothing.
use Rattle.std.specs.Prelude.{◌≡◌, ℕ, zero, suc, ◌+◌, ◌-◌, ◌*◌, ◌<◌, ◌≤◌, Bool, true, false, cond, List, ◌++◌, length, take, drop, nat_le, slice_index, Float}
use Rattle.std.proofs.Common.{suc-mul, add-mul, zero-mul, le_refl, mul-le-mul_right, arith, sym, ap, ap₂, ◌∙◌, append_assoc, take-add, take_at}
use Rattle.std.proofs.Common.{take-take, get_or-take, length-take-le}
use Rattle.std.proofs.Math.Path.{refl}
use borrow.Author.Tests.{leb-true, leb-false}
use Rattle.std.proofs.Math.ListN.{length-append, length-drop}
use Rattle.std.proofs.Math.Seq.{take-append-add, drop_at}
use Rattle.std.proofs.lemmas.List.{take-append-le}
use Rattle.num.specs.Const.{c1_0, c255_0}
use Rattle.num.specs.F32.{◌⊘◌}
use Rattle.passes.specs as Text
use Rattle.passes.specs.Arith.{plain}
use Rattle.passes.specs.Laws.Painted.{Paints, converted_ext, clamped_paints}
use Rattle.passes.specs.Plain.Pixel.{pack_clamped, clips}
use Rattle.passes.specs.Plain.Persistence.{total, weight, add, mix, blend, copies, refilled, shifted, resized}
use Rattle.passes.specs.Laws.Rows.{row_ends}
use Rattle.passes.specs.declared.pixel.Rgb.{Rgb}

-- ## The picture

pub blend_paints : (amount : Float) (k : ℕ) (past frame : List ℕ) → Paints frame (blend amount k past frame)
unfolding Text.Persistence.blend
blend_paints amount k past frame = clamped_paints plain _ frame

-- two mixes with the same weights of the same words
pub mix_same : (w : Float) (ws vs : ℕ → Float) (past was : List ℕ) (n i p k : ℕ) → ((j : ℕ) → j < k → ws j ≡ vs j)
    → ((j : ℕ) → j < k → slice_index past (j * n + i) ≡ slice_index was (j * n + i)) → mix w ws past n i p k ≡ mix w vs was n i p k
unfolding Text.Persistence.mix
mix_same w ws vs past was n i p zero f g = refl
mix_same w ws vs past was n i p (suc k) f g =
    ap₂ (λ (x : Float) (q : ℕ). add (mix w ws past n i p k) x q) (f k (le_refl (suc k))) (g k (le_refl (suc k)))
    ∙ ap (λ (c : Rgb). add c (vs k) (slice_index was (k * n + i))) (mix_same w ws vs past was n i p k (λ j l. f j (omega arith)) (λ j l. g j (omega arith)))

-- the k places alone are read
pub blend-take : (amount : Float) (k : ℕ) (past frame : List ℕ) → blend amount k (take (k * length frame) past) frame ≡ blend amount k past frame
unfolding Text.Persistence.blend
blend-take amount k past frame =
    let t = total amount k in
    let n = length frame in
    converted_ext pack_clamped (clips c255_0) frame _ _
    (λ i p l. mix_same (c1_0 ⊘ t) (weight amount t) (weight amount t) (take (k * n) past) past n i p k (λ j h. refl)
    (λ j h. get_or-take (k * n) past (j * n + i) 0 (omega (arith, row_ends n k j h))))

-- ## The history

pub length-copies : (k : ℕ) (frame : List ℕ) → length (copies k frame) ≡ k * length frame
unfolding copies
length-copies zero frame = sym (zero-mul (length frame))
length-copies (suc k) frame = length-append frame (copies k frame) ∙ omega (arith, length-copies k frame, suc-mul k (length frame))

-- the frame, then all places but the oldest
pub shifted-suc : (k : ℕ) (frame past : List ℕ)
    → shifted (suc k) frame past ≡ frame ++ (take (k * length frame) past ++ drop (suc k * length frame) past)
unfolding shifted
shifted-suc k frame past =
    let n = length frame in
    let size : suc k * n ≡ n + k * n = omega (arith, suc-mul k n) in
    ap (λ (m : ℕ). take m (frame ++ past) ++ drop (suc k * n) past) size
    ∙ ap (λ (l : List ℕ). l ++ drop (suc k * n) past) (take-append-add frame past (k * n))
    ∙ append_assoc frame (take (k * n) past) (drop (suc k * n) past)

-- words past the k places stay
pub refilled_rest : (k : ℕ) (frame past : List ℕ) → drop (k * length frame) (refilled k frame past) ≡ drop (k * length frame) past
unfolding refilled
refilled_rest k frame past = drop_at (copies k frame) _ _ (length-copies k frame)

-- a history with room for the k places keeps its length, and the words past them when it is shifted
module _ (k : ℕ) (frame past : List ℕ) (h : k * length frame ≤ length past) where
  places : length (take (k * length frame) (frame ++ past)) ≡ k * length frame
  places = length-take-le (k * length frame) (frame ++ past) (simp length-append (omega arith))

  pub refilled-length : length (refilled k frame past) ≡ length past
  unfolding refilled
  refilled-length =
      length-append (copies k frame) _ ∙ omega (arith, length-copies k frame, length-drop (k * length frame) past)

  pub shifted-length : length (shifted k frame past) ≡ length past
  unfolding shifted
  shifted-length = length-append (take (k * length frame) (frame ++ past)) _ ∙ omega (arith, places, length-drop (k * length frame) past)

  pub shifted-rest : drop (k * length frame) (shifted k frame past) ≡ drop (k * length frame) past
  unfolding shifted
  shifted-rest = drop_at (take (k * length frame) (frame ++ past)) _ _ places

-- ## Another depth

-- the last of k places of n words
abbrev pub oldest : (k n : ℕ) → List ℕ → List ℕ
oldest k n past = take n (drop ((k - 1) * n) past)

-- d places made of k
abbrev pub grown : (k d n : ℕ) → List ℕ → List ℕ
grown k d n past = take (k * n) past ++ copies (d - k) (oldest k n past)

pub k_places : (k n : ℕ) → 1 ≤ k → k * n ≡ (k - 1) * n + n
k_places k n some =
    let e : k ≡ suc (k - 1) = omega arith in
    ap (λ (m : ℕ). m * n) e ∙ suc-mul (k - 1) n

oldest-is : (k n : ℕ) (past : List ℕ) → 1 ≤ k → k * n ≤ length past → oldest k n past ≡ drop ((k - 1) * n) (take (k * n) past)
oldest-is k n past some room =
    let newer : ℕ = (k - 1) * n in
    sym (ap (drop newer) (ap (λ (m : ℕ). take m past) (k_places k n some) ∙ take-add newer n past)
    ∙ drop_at (take newer past) (oldest k n past) newer (length-take-le newer past (omega (arith, k_places k n some))))

module _ (k d n : ℕ) (past : List ℕ) (some : 1 ≤ k) (room : d * n ≤ length past) where
  module _ (grows : k ≤ d) where
    pub k_room : k * n ≤ length past
    k_room = let less : k * n ≤ d * n = mul-le-mul_right n grows in omega arith

    pub oldest_long : length (oldest k n past) ≡ n
    oldest_long = length-take-le n (drop ((k - 1) * n) past) (simp length-drop (omega (arith, k_places k n some, k_room)))

    pub grown_long : length (grown k d n past) ≡ d * n
    grown_long =
        let whole : d ≡ k + (d - k) = omega arith in
        length-append (take (k * n) past) (copies (d - k) (oldest k n past))
        ∙ ap₂ (λ (a b : ℕ). a + b) (length-take-le (k * n) past k_room) (length-copies (d - k) (oldest k n past) ∙ ap (λ (m : ℕ). (d - k) * m) oldest_long)
        ∙ sym (ap (λ (m : ℕ). m * n) whole ∙ add-mul k (d - k) n)

  -- by whether there are fewer
  by-depth : (P : List ℕ → Type 0) → P past → (k ≤ d → P (grown k d n past ++ drop (d * n) past)) → P (resized k d n past)
  unfolding resized
  by-depth P f g = go (nat_le d k) refl
    where
      go : (b : Bool) → nat_le d k ≡ b → P (cond b past (grown k d n past ++ drop (d * n) past))
      go true e = f
      go false e = let less : k < d = leb-false d k e in g (omega arith)

  -- the history keeps its length, the words of the k places, and those past d
  pub resized-length : length (resized k d n past) ≡ length past
  resized-length =
      by-depth (λ l. length l ≡ length past) refl
      (λ g. length-append (grown k d n past) (drop (d * n) past) ∙ omega (arith, grown_long g, length-drop (d * n) past))

  pub resized-rest : drop (d * n) (resized k d n past) ≡ drop (d * n) past
  resized-rest = by-depth (λ l. drop (d * n) l ≡ drop (d * n) past) refl (λ g. drop_at (grown k d n past) (drop (d * n) past) (d * n) (grown_long g))

  pub resized-front : take (k * n) (resized k d n past) ≡ take (k * n) past
  resized-front =
      by-depth (λ l. take (k * n) l ≡ take (k * n) past) refl
      (λ g.
      let long : length (take (k * n) past) ≡ k * n = length-take-le (k * n) past (k_room g) in
      take-append-le (k * n) (grown k d n past) (drop (d * n) past) (omega (arith, grown_long g, mul-le-mul_right n g))
      ∙ take_at (take (k * n) past) (copies (d - k) (oldest k n past)) (k * n) long)

-- of two histories whose k places agree, the d places do
pub resized_same : (k d n : ℕ) (past was : List ℕ) → 1 ≤ k → d * n ≤ length past → d * n ≤ length was → take (k * n) past ≡ take (k * n) was
    → take (d * n) (resized k d n past) ≡ take (d * n) (resized k d n was)
unfolding resized
resized_same k d n past was some room room' same = go (nat_le d k) refl
  where
    grown_same : k ≤ d → grown k d n past ≡ grown k d n was
    grown_same g =
        let after : List ℕ → List ℕ = λ l. l ++ copies (d - k) (drop ((k - 1) * n) l) in
        ap (λ (l : List ℕ). take (k * n) past ++ copies (d - k) l) (oldest-is k n past some (k_room k d n past some room g))
        ∙ ap after same
        ∙ sym (ap (λ (l : List ℕ). take (k * n) was ++ copies (d - k) l) (oldest-is k n was some (k_room k d n was some room' g)))

    go : (b : Bool) → nat_le d k ≡ b
        → take (d * n) (cond b past (grown k d n past ++ drop (d * n) past)) ≡ take (d * n) (cond b was (grown k d n was ++ drop (d * n) was))
    go true e =
        let less : d * n ≤ k * n = mul-le-mul_right n (leb-true d k e) in
        sym (take-take (d * n) (k * n) past less) ∙ ap (take (d * n)) same ∙ take-take (d * n) (k * n) was less
    go false e =
        let less : k < d = leb-false d k e in
        let grows : k ≤ d = omega arith in
        take_at (grown k d n past) (drop (d * n) past) (d * n) (grown_long k d n past some room grows)
        ∙ grown_same grows
        ∙ sym (take_at (grown k d n was) (drop (d * n) was) (d * n) (grown_long k d n was some room' grows))

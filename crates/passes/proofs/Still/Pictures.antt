-- Persistence over a history of equal frames gives a picture that stands still, and leaves such a history. Assumes
-- nothing.
use Rattle.std.specs.Prelude.{◌≡◌, ℕ, ◌+◌, ◌*◌, ◌/◌, ◌%◌, ◌<◌, ◌≤◌, Bool, true, false, cond, List, length, slice_index, Float}
use Rattle.std.proofs.Common.{arith, sym, ap, ◌∙◌, inl}
use Rattle.std.proofs.Math.Path.{refl, subst}
use Rattle.std.specs.Float.Ieee.Exact.{HasValue}
use Rattle.std.specs.Float.Ieee.Positive.{num, den}
use Rattle.num.specs.Const.{c1_0}
use Rattle.num.specs.F32.{◌⊘◌}
use Rattle.num.specs.Held.{Held, same_held}
use Rattle.num.specs.Laws.Held.{same_held_lem}
use Rattle.num.specs.Laws.Rewrite.{get_d_rewrite}
use Rattle.passes.specs as Text
use Rattle.passes.specs.Flow.{Flow, flow}
use Rattle.passes.specs.Painted.{Painted, converted, onto}
use Rattle.passes.specs.Plain.Persistence.{total, weight, mix, blend, copies, refilled, shifted, persistence}
use Rattle.passes.specs.Plain.Pixel.{pack_clamped}
use Rattle.passes.specs.Laws.Persistence.{blend_paints, blend-take}
use Rattle.passes.specs.Still.{StillWord, Still}
use Rattle.passes.proofs.Still.Words.{mix-equal, packed-still}
use Rattle.passes.proofs.Still.Counts.{channel-still}
use Rattle.passes.proofs.Still.Places.{Full, copies-word, full-refilled, full-shifted}
use Rattle.passes.specs.declared.pixel.Rgb.{Rgb}

pub still_itself : (frame : List ℕ) → Still frame frame
still_itself frame = (refl, λ i l. (inl refl, inl refl, inl refl))

-- an amount that is not negative, and at most 1
module _ (amount : Float) (own : HasValue amount false (num amount) (den amount)) (most : num amount ≤ den amount) (k : ℕ) (few : k ≤ 8) where
  word-still : (past : List ℕ) (n i p : ℕ) → ((j : ℕ) → j < k → slice_index past (j * n + i) ≡ p) →
      let t = total amount k in
      StillWord p (pack_clamped (mix (c1_0 ⊘ t) (weight amount t) past n i p k))
  unfolding Text.Pixel.pack_clamped Text.Pixel.pack
  word-still past n i p same =
      let t = total amount k in
      subst (λ (c : Rgb). StillWord p (pack_clamped c)) (sym (mix-equal (c1_0 ⊘ t) (weight amount t) past n i p k same))
      (packed-still p _ _ _ (channel-still amount own most k few (p / 65536 % 256) (omega arith))
      (channel-still amount own most k few (p / 256 % 256) (omega arith)) (channel-still amount own most k few (p % 256) (omega arith)))

  blend-still : (past frame : List ℕ)
      → ((i j : ℕ) → i < length frame → j < k → slice_index past (j * length frame + i) ≡ slice_index frame i)
      → Still frame (blend amount k past frame).words
  unfolding Text.Persistence.blend converted
  blend-still past frame same = (
    (blend_paints amount k past frame).long,
    λ i l. subst (λ (q : ℕ). StillWord (slice_index frame i) q) (sym (get_d_rewrite (length frame) _ frame i 0 l l))
        (word-still past (length frame) i (slice_index frame i) (λ j h. same i j l h)),
  )

  full-still : (past frame : List ℕ) → Full k frame past → Still frame (blend amount k past frame).words
  full-still past frame full =
      subst (λ (y : Painted). Still frame y.words) (ap (λ (l : List ℕ). blend amount k l frame) (sym full) ∙ blend-take amount k past frame)
      (blend-still (copies k frame) frame (λ i j l h. copies-word k frame i j l h))

  -- over a history that holds the frame alone, if anything of that size, it gives a picture that stands still, and
  -- leaves such a history
  pub persistence-still : (size : Held) (x : Flow) →
      let words = x.frame.words in
      k * length words ≤ length x.past → (x.held ≡ size → Full k words x.past)
      → Still words (persistence amount k size x).frame.words × Full k words (persistence amount k size x).past
  unfolding Text.Persistence.persistence
  persistence-still size x room full = go (same_held x.held size) refl
    where
      go : (b : Bool) → same_held x.held size ≡ b →
          let words = x.frame.words in
          let met = flow (onto (blend amount k x.past) x.frame) size (shifted k words x.past) in
          let y = cond b met (flow x.frame size (refilled k words x.past)) in
          Still words y.frame.words × Full k words y.past
      go true e =
          let all = full (same_held_lem x.held size e) in
          (full-still x.past x.frame.words all, full-shifted k x.frame.words x.past room all)
      go false e = (still_itself x.frame.words, full-refilled k x.frame.words x.past)

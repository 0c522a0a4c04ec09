-- A history all of whose places hold the frame: a refill makes one, and a shift by that frame keeps it. Assumes
-- nothing.
use Rattle.std.specs.Prelude.{◌≡◌, ℕ, zero, suc, ◌+◌, ◌*◌, ◌<◌, ◌≤◌, List, ◌++◌, length, take, drop, slice_index}
use Rattle.std.proofs.Common.{zero-mul, arith, sym, ap, ◌∙◌, get_or-append-add, take_at, take-take, length-take-le}
use Rattle.std.proofs.Math.ListN.{get_or-append}
use Rattle.std.proofs.Math.Seq.{take-append-add}
use Rattle.passes.specs as Text
use Rattle.passes.specs.Plain.Persistence.{copies, refilled, shifted}
use Rattle.passes.specs.Laws.Persistence.{length-copies, shifted-suc}

abbrev pub Full : ℕ → (frame past : List ℕ) → Type 0
Full k frame past = take (k * length frame) past ≡ copies k frame

pub copies-word : (k : ℕ) (frame : List ℕ) (i j : ℕ) → i < length frame → j < k
    → slice_index (copies k frame) (j * length frame + i) ≡ slice_index frame i
unfolding Text.Persistence.copies
copies-word zero frame i j l h = absurd (omega arith)
copies-word (suc k) frame i zero l h =
    let at : 0 * length frame + i ≡ i = omega arith in
    ap (λ (m : ℕ). slice_index (frame ++ copies k frame) m) at ∙ get_or-append frame (copies k frame) 0 i l
copies-word (suc k) frame i (suc j) l h =
    let at : suc j * length frame + i ≡ length frame + (j * length frame + i) = omega arith in
    ap (λ (m : ℕ). slice_index (frame ++ copies k frame) m) at ∙ get_or-append-add frame (copies k frame) _ 0 ∙ copies-word k frame i j l (omega arith)

-- the frame, and then all places but the oldest
front : (k : ℕ) (frame rest : List ℕ)
    → take (suc k * length frame) (frame ++ rest) ≡ frame ++ take (k * length frame) rest
front k frame rest =
    let split : suc k * length frame ≡ length frame + k * length frame = omega arith in
    rw split (take-append-add frame rest (k * length frame))

copies-front : (k : ℕ) (frame : List ℕ) → take (k * length frame) (copies (suc k) frame) ≡ copies k frame
unfolding Text.Persistence.copies
copies-front zero frame = rw (zero-mul (length frame))
copies-front (suc k) frame = front k frame (copies (suc k) frame) ∙ ap (λ (l : List ℕ). frame ++ l) (copies-front k frame)

pub full-refilled : (k : ℕ) (frame past : List ℕ) → Full k frame (refilled k frame past)
unfolding Text.Persistence.refilled
full-refilled k frame past = take_at (copies k frame) _ _ (length-copies k frame)

pub full-shifted : (k : ℕ) (frame past : List ℕ) → k * length frame ≤ length past → Full k frame past
    → Full k frame (shifted k frame past)
unfolding Text.Persistence.copies
full-shifted zero frame past room full = rw (zero-mul (length frame))
full-shifted (suc k) frame past room full =
    let n = length frame in
    let less : k * n ≤ suc k * n = omega arith in
    ap (take (suc k * n)) (shifted-suc k frame past)
    ∙ front k frame (take (k * n) past ++ drop (suc k * n) past)
    ∙ ap (λ (l : List ℕ). frame ++ l)
    (take_at (take (k * n) past) _ _ (length-take-le (k * n) past (omega arith))
    ∙ sym (take-take (k * n) (suc k * n) past less)
    ∙ ap (take (k * n)) full
    ∙ copies-front k frame)

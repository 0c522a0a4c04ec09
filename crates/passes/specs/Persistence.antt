-- Persistence: each frame is mixed with the frames before it, which the history keeps as they came.
-- A is the arithmetic (Arith.antt): binary32 in the product. Definitions only.
use Rattle.std.specs.Prelude.{ℕ, zero, suc, ◌-◌, ◌*◌, cond, List, [], ◌++◌, length, take, drop, nat_le}
use Rattle.num.specs.Const.{c0_55, c1_0}
use Rattle.num.specs.Held.{Held, same_held}
use Rattle.passes.specs.Arith.{Arith}
use Rattle.passes.specs.Flow.{Flow, flow}
use Rattle.passes.specs.Painted.{Painted, from_clamped, onto}
use Rattle.passes.specs.Pixel.{scaled, unpack}

-- ## The history

unfoldable pub copies : ℕ → List ℕ → List ℕ
copies zero frame = []
copies (suc k) frame = frame ++ copies k frame

-- each of the k places gets the frame
unfoldable pub refilled : ℕ → (frame past : List ℕ) → List ℕ
refilled k frame past = copies k frame ++ drop (k * length frame) past

-- the k places shift by one, and the frame becomes the newest
unfoldable pub shifted : ℕ → (frame past : List ℕ) → List ℕ
shifted k frame past = take (k * length frame) (frame ++ past) ++ drop (k * length frame) past

-- k places of n words become d: the newest stay where they are, and the oldest is repeated until there are d
unfoldable pub resized : (k d n : ℕ) → (past : List ℕ) → List ℕ
resized k d n past = cond (nat_le d k) past (take (k * n) past ++ copies (d - k) (take n (drop ((k - 1) * n) past)) ++ drop (d * n) past)

module _ (A : Arith) where
  open A use {F, lit, ◌⊕◌, ◌⊗◌, ◌⊘◌, Rgb, rgb, red, green, blue, cell}

  infixl 6 ◌⊕◌
  infixl 7 ◌⊗◌
  infixl 7 ◌⊘◌
  -- ## Weights: 1 for the current frame, amount for the newest older one, and for each further one 0.55 of the weight before

  -- the weight of the older frame j
  unfoldable pub decay : F → ℕ → F
  decay amount zero = amount
  decay amount (suc j) = decay amount j ⊗ lit c0_55

  -- the sum of 1 and the weights of k older frames, from left to right
  unfoldable pub total : F → ℕ → F
  total amount zero = lit c1_0
  total amount (suc k) = total amount k ⊕ decay amount k

  -- the weight of the older frame j, divided by the sum t
  abbrev pub weight : F → F → ℕ → F
  weight amount t j = decay amount j ⊘ t

  -- ## The picture

  -- the channels so far, and those of the word p times w
  unfoldable pub add : Rgb → F → ℕ → Rgb
  add sum w p =
      let c = scaled A w (unpack A p) in
      rgb (red sum ⊕ red c) (green sum ⊕ green c) (blue sum ⊕ blue c)

  -- word p at place i of a frame of n words, times w, and then the words there of the k newest older frames, each times
  -- its weight
  unfoldable pub mix : F → (ℕ → F) → List ℕ → (n i p : ℕ) → ℕ → Rgb
  mix w ws past n i p zero = scaled A w (unpack A p)
  mix w ws past n i p (suc j) = add (mix w ws past n i p j) (ws j) (cell n past i j)

  unfoldable pub blend : F → ℕ → (past frame : List ℕ) → Painted
  blend amount k past frame =
      let t = total amount k in
      from_clamped A (λ i p. mix (lit c1_0 ⊘ t) (weight amount t) past (length frame) i p k) frame

  -- of depth k, for a frame of that size; where the history holds frames of another it is begun anew, the frame stays as
  -- it is, and nothing is clipped
  unfoldable pub persistence : F → ℕ → Held → Flow → Flow
  persistence amount k size x =
      cond (same_held x.held size)
      (flow (onto (blend amount k x.past) x.frame) size (shifted k x.frame.words x.past))
      (flow x.frame size (refilled k x.frame.words x.past))

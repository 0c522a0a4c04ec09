-- A picture that stands still beside its frame: where the frame's channel is c, the picture's is c or one below c, so
-- 0 stays 0. Definitions only; Laws/Still proves it of persistence over a history of equal frames.
use Rattle.std.specs.Prelude.{◌≡◌, ℕ, ◌+◌, ◌/◌, ◌%◌, ◌<◌, ◌⊎◌, List, length, slice_index}

-- k is c or one below c
abbrev pub OrBelow : ℕ → ℕ → Type 0
OrBelow c k = (k ≡ c) ⊎ (k + 1 ≡ c)

-- red, green and blue of the picture's word k beside those of the frame's word p; top bytes are ignored
abbrev pub StillWord : ℕ → ℕ → Type 0
StillWord p k = OrBelow (p / 65536 % 256) (k / 65536 % 256) × OrBelow (p / 256 % 256) (k / 256 % 256) × OrBelow (p % 256) (k % 256)

-- word by word
abbrev pub Still : List ℕ → List ℕ → Type 0
Still frame picture = (length picture ≡ length frame) × ((i : ℕ) → i < length frame → StillWord (slice_index frame i) (slice_index picture i))

-- The dearest card at a size (request P9): what NTSC and bloom take together, both at 64. Definitions and claims; proofs/Dearest.antt proves them.
use Rattle.std.specs.Prelude.{ℕ, ◌+◌, ◌*◌, ◌≤◌, true, List, [], ◌∷◌, ◌≡◌, Float, length}
use Rattle.num.specs.Const.{c1_0}
use Rattle.passes.specs.Samples.{ntsc_samples, bloom_samples}
use Rattle.cards.specs.Answers.{Report, acceptance}
use Rattle.cards.specs.Card.{station_of, accepted, open_of}
use Rattle.cards.specs.Records.{carded}
use Rattle.cards.specs.declared.station.Pass.TheVariants.{Ntsc, Bloom}
use Rattle.cards.specs.declared.station.Station.{Station}
use Rattle.chain.specs.Calls.{float_room, frame_reply}

abbrev pub dearest : (w h : ℕ) → ℕ
dearest w h = ntsc_samples w h 64 + bloom_samples w h 64

-- a frame's answer that accepts, and reports so many samples
pub record Reports (answer : Report) (samples : ℕ) : Type 0 where
  pub clipped : ℕ
  pub is : answer ≡ acceptance (clipped ∷ samples ∷ [])

-- no frame reports more, whatever card its station was opened from and whatever it went through since
abbrev pub NoneDearer : Type 0
NoneDearer =
    (w h : ℕ) (s : Station) (words past : List ℕ) (floats ints : ℕ) (curve : List Float) (samples : ℕ)
    → Reports (frame_reply w h s words past floats ints curve).answer samples → samples ≤ dearest w h

-- a card of NTSC and bloom, both on, of strength 1, at 64
abbrev pub dearest_card : List ℕ
dearest_card = 0x12 ∷ 0x19 ∷ 0xfc ∷ 0 ∷ 0 ∷ 2 ∷ 1 ∷ 0x40 ∷ 0x0f ∷ 0xe0 ∷ 0 ∷ 0 ∷ 0x10 ∷ 0 ∷ []

abbrev pub dearest_station : Station
dearest_station = station_of (carded true (Ntsc c1_0 64) ∷ carded true (Bloom 0 c1_0 64) ∷ [])

-- it is accepted, and at each size that is taken each frame with enough lent reports as many
abbrev pub SomeAsDear : Type 0
SomeAsDear =
    (open_of dearest_card ≡ accepted dearest_station)
    × ((w h : ℕ) (words past : List ℕ) (floats ints : ℕ) (curve : List Float) → 1 ≤ w → w ≤ 1024 → 1 ≤ h → h ≤ 1024
    → h * w ≤ length words → float_room w h ≤ floats → h * w ≤ ints
    → Reports (frame_reply w h dearest_station words past floats ints curve).answer (dearest w h))

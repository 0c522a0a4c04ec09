-- The cases that document 01 marks (●), each line named, from the number steps to the pictures of stations that are opened from
-- cards; one proof holds them all (proofs/Marked.antt). Definitions only.
use Rattle.std.specs.Prelude.{ℕ, true, List, [], ◌∷◌, map, ◌≡◌, Float}
use Rattle.std.specs.Float.{binary32}
use Rattle.std.specs.Float.Ieee.{of_bits, neg}
use Rattle.num.specs.Const.{c0_0, c0_5, c1_0, c2_0, c3_0}
use Rattle.num.specs.F32.{dec}
use Rattle.num.specs.Root.{root_of}
use Rattle.num.specs.Steps.{round_of}
use Rattle.passes.specs.Painted.{Painted}
use Rattle.chain.specs.Agree.{opened}
use Rattle.cards.specs.Records.{carded}
use Rattle.cards.specs.Alike.{chain_of}
use Rattle.cards.specs.Card.{station_of, accepted, open_of}
use Rattle.chain.specs.Chain.{ran, chain}
use Rattle.chain.specs.Machine.{frame, saw}
use Rattle.cards.specs.Written.{card_of}
use Rattle.cards.specs.declared.station.Pass.TheVariants.{Curvature}

-- the pictures of frames of that size, one after the other, from a station that is opened from the card; no curve is lent
abbrev pub shows : (card : List ℕ) (w h : ℕ) → List (List ℕ) → List (List ℕ)
shows card w h frames = map (λ s. s.picture) (saw (opened (open_of card).station (7 ∷ 8 ∷ [])) (map (λ words. frame w h words 2 54 9 []) frames))

abbrev grey : List ℕ
grey = 0xc8c8c8 ∷ 0xc8c8c8 ∷ 0xc8c8c8 ∷ 0xc8c8c8 ∷ 0xc8c8c8 ∷ 0xc8c8c8 ∷ 0xc8c8c8 ∷ 0xc8c8c8 ∷ 0xc8c8c8 ∷ []

abbrev numbered : List ℕ
numbered = 0xaa000001 ∷ 2 ∷ 3 ∷ 4 ∷ 0xbb000005 ∷ 6 ∷ 7 ∷ 8 ∷ 9 ∷ []

pub record Marked : Type 0 where
  -- Round: 0.5 gives 1, -0.5 gives -1, 2.5 gives 3, the largest binary32 below 0.5 gives 0
  pub round-half : round_of c0_5 ≡ c1_0
  pub round_minus_half : round_of (neg c0_5) ≡ neg c1_0
  pub round-two-and_a_half : round_of (dec 25 1) ≡ c3_0
  pub round-below-half : round_of (of_bits binary32 0x3eff_ffff) ≡ c0_0
  -- Root: those of either zero and of 1 are 0 and 1; that of 2 has the bits 3FB504F3
  pub root_zero : root_of c0_0 ≡ c0_0
  pub root_minus_zero : root_of (neg c0_0) ≡ c0_0
  pub root_one : root_of c1_0 ≡ c1_0
  pub root_two : root_of c2_0 ≡ of_bits binary32 0x3fb5_04f3
  -- Card 10: empty chain, picture as given
  pub empty-card : open_of (0x10 ∷ []) ≡ accepted (station_of [])
  pub empty-picture : (w h : ℕ) (curve : List Float) (x : Painted) (past : List ℕ) → chain w h curve (chain_of (station_of [])) x past ≡ ran x [] past
  -- Card 11 AA 00 00 00 00 (scanlines, strength 2.0) normalises to 11 A9 FC 00 00 00
  pub limited_card : card_of (open_of (0x11 ∷ 0xaa ∷ 0 ∷ 0 ∷ 0 ∷ 0 ∷ [])).station ≡ 0x11 ∷ 0xa9 ∷ 0xfc ∷ 0 ∷ 0 ∷ 0 ∷ []
  -- Scanlines 1.0, 1 by 2, AA123456 twice: AA123456, 000000
  pub scanlines : shows (0x11 ∷ 0xa9 ∷ 0xfc ∷ 0 ∷ 0 ∷ 0 ∷ []) 1 2 ((0xaa123456 ∷ 0xaa123456 ∷ []) ∷ []) ≡ (0xaa123456 ∷ 0 ∷ []) ∷ []
  -- Vignette 1.0, 2 by 2: only the lower right pixel survives
  pub vignette : shows (0x11 ∷ 0x99 ∷ 0xfc ∷ 0 ∷ 0 ∷ 0 ∷ []) 2 2 ((0xffffff ∷ 0xffffff ∷ 0xffffff ∷ 0xff123456 ∷ []) ∷ []) ≡ (0 ∷ 0 ∷ 0 ∷ 0x123456 ∷ []) ∷ []
  -- CRT 1.0, 3 by 3 of C8C8C8: centre C1C8C1
  pub crt :
      shows (0x11 ∷ 0x89 ∷ 0xfc ∷ 0 ∷ 0 ∷ 0 ∷ []) 3 3 (grey ∷ [])
      ≡ (0x868181 ∷ 0x959b95 ∷ 0x818186 ∷ 0xb0aaaa ∷ 0xc1c8c1 ∷ 0xaaaab0 ∷ 0x868181 ∷ 0x959b95 ∷ 0x818186 ∷ []) ∷ []
  -- Curvature 0.5, 3 by 3: only the centre survives; amount 0 keeps all
  pub curvature : shows (0x11 ∷ 0x69 ∷ 0xf8 ∷ 0 ∷ 0 ∷ 0 ∷ []) 3 3 (numbered ∷ []) ≡ (0 ∷ 0 ∷ 0 ∷ 0 ∷ 0xbb000005 ∷ 0 ∷ 0 ∷ 0 ∷ 0 ∷ []) ∷ []
  pub curvature-zero-card : open_of (0x11 ∷ 0x68 ∷ 0 ∷ 0 ∷ 0 ∷ 0 ∷ []) ≡ accepted (station_of (carded true (Curvature c0_0) ∷ []))
  pub curvature-zero : shows (0x11 ∷ 0x68 ∷ 0 ∷ 0 ∷ 0 ∷ 0 ∷ []) 3 3 (numbered ∷ []) ≡ numbered ∷ []
  -- Gradient 1, 1, 0 on one black pixel: 120500
  pub gradient : shows (0x11 ∷ 0x39 ∷ 0xfc ∷ 0 ∷ 0 ∷ 1 ∷ 0xfc ∷ 0 ∷ 0 ∷ 0 ∷ 0 ∷ 0 ∷ 0 ∷ 0 ∷ []) 1 1 ((0 ∷ []) ∷ []) ≡ (0x120500 ∷ []) ∷ []
  -- Persistence 0.5, depth 1: FFFFFF, 000000, 000000 show FFFFFF, 555555, 000000
  pub persistence :
      shows (0x11 ∷ 0x49 ∷ 0xf8 ∷ 0 ∷ 0 ∷ 0 ∷ 8 ∷ []) 1 1 ((0xffffff ∷ []) ∷ (0 ∷ []) ∷ (0 ∷ []) ∷ []) ≡ (0xffffff ∷ []) ∷ (0x555555 ∷ []) ∷ (0 ∷ []) ∷ []
  -- Colour 1, 1, 1, 1 on black: FFFFFF
  pub colour :
      shows (0x11 ∷ 0x79 ∷ 0xfc ∷ 0 ∷ 0 ∷ 1 ∷ 0xfc ∷ 0 ∷ 0 ∷ 1 ∷ 0xfc ∷ 0 ∷ 0 ∷ 1 ∷ 0xfc ∷ 0 ∷ 0 ∷ 0 ∷ []) 1 1 ((0 ∷ []) ∷ []) ≡ (0xffffff ∷ []) ∷ []

-- The decimal constants of the original and of the steps here, by name: each is the binary32 nearest its decimal (`right`, at the
-- end). A constant is written by its bit pattern, as a literal of the code shows in a goal. Assumes nothing.
use Rattle.std.specs.Prelude.{List, [], ◌∷◌, map, ◌≡◌, refl, Float}
use Rattle.std.specs.Float.{binary32}
use Rattle.std.specs.Float.Ieee.{of_bits}
use Rattle.num.specs.F32.{dec}

abbrev pub c0_0 : Float
c0_0 = of_bits binary32 0x00000000

abbrev pub c0_01 : Float
c0_01 = of_bits binary32 0x3c23d70a

abbrev pub c0_015 : Float
c0_015 = of_bits binary32 0x3c75c28f

abbrev pub c0_035 : Float
c0_035 = of_bits binary32 0x3d0f5c29

abbrev pub c0_0722 : Float
c0_0722 = of_bits binary32 0x3d93dd98

abbrev pub c0_10001 : Float
c0_10001 = of_bits binary32 0x3dccd20b

abbrev pub c0_114 : Float
c0_114 = of_bits binary32 0x3de978d5

abbrev pub c0_12 : Float
c0_12 = of_bits binary32 0x3df5c28f

abbrev pub c0_14713 : Float
c0_14713 = of_bits binary32 0x3e16a93f

abbrev pub c0_16 : Float
c0_16 = of_bits binary32 0x3e23d70a

abbrev pub c0_2126 : Float
c0_2126 = of_bits binary32 0x3e59b3d0

abbrev pub c0_25 : Float
c0_25 = of_bits binary32 0x3e800000

abbrev pub c0_28886 : Float
c0_28886 = of_bits binary32 0x3e93e575

abbrev pub c0_299 : Float
c0_299 = of_bits binary32 0x3e991687

abbrev pub c0_30 : Float
c0_30 = of_bits binary32 0x3e99999a

abbrev pub c0_35 : Float
c0_35 = of_bits binary32 0x3eb33333

abbrev pub c0_39465 : Float
c0_39465 = of_bits binary32 0x3eca0f91

abbrev pub c0_42 : Float
c0_42 = of_bits binary32 0x3ed70a3d

abbrev pub c0_436 : Float
c0_436 = of_bits binary32 0x3edf3b64

abbrev pub c0_45 : Float
c0_45 = of_bits binary32 0x3ee66666

abbrev pub c0_5 : Float
c0_5 = of_bits binary32 0x3f000000

abbrev pub c0_51499 : Float
c0_51499 = of_bits binary32 0x3f03d662

abbrev pub c0_55 : Float
c0_55 = of_bits binary32 0x3f0ccccd

abbrev pub c0_58 : Float
c0_58 = of_bits binary32 0x3f147ae1

abbrev pub c0_58060 : Float
c0_58060 = of_bits binary32 0x3f14a234

abbrev pub c0_587 : Float
c0_587 = of_bits binary32 0x3f1645a2

abbrev pub c0_615 : Float
c0_615 = of_bits binary32 0x3f1d70a4

abbrev pub c0_7152 : Float
c0_7152 = of_bits binary32 0x3f371759

abbrev pub c0_72 : Float
c0_72 = of_bits binary32 0x3f3851ec

abbrev pub c0_82 : Float
c0_82 = of_bits binary32 0x3f51eb85

abbrev pub c0_88 : Float
c0_88 = of_bits binary32 0x3f6147ae

abbrev pub c0_92 : Float
c0_92 = of_bits binary32 0x3f6b851f

abbrev pub c0_94 : Float
c0_94 = of_bits binary32 0x3f70a3d7

abbrev pub c0_95 : Float
c0_95 = of_bits binary32 0x3f733333

abbrev pub c0_96 : Float
c0_96 = of_bits binary32 0x3f75c28f

abbrev pub c0_99 : Float
c0_99 = of_bits binary32 0x3f7d70a4

abbrev pub c1_0 : Float
c1_0 = of_bits binary32 0x3f800000

abbrev pub c1_01 : Float
c1_01 = of_bits binary32 0x3f8147ae

abbrev pub c1_03 : Float
c1_03 = of_bits binary32 0x3f83d70a

abbrev pub c1_05 : Float
c1_05 = of_bits binary32 0x3f866666

abbrev pub c1_06 : Float
c1_06 = of_bits binary32 0x3f87ae14

abbrev pub c1_13983 : Float
c1_13983 = of_bits binary32 0x3f91e5f3

abbrev pub c1_25 : Float
c1_25 = of_bits binary32 0x3fa00000

abbrev pub c2_0 : Float
c2_0 = of_bits binary32 0x40000000

abbrev pub c2_03211 : Float
c2_03211 = of_bits binary32 0x40020e17

abbrev pub c3_0 : Float
c3_0 = of_bits binary32 0x40400000

abbrev pub c4_0 : Float
c4_0 = of_bits binary32 0x40800000

abbrev pub c5_0 : Float
c5_0 = of_bits binary32 0x40a00000

abbrev pub c14_0 : Float
c14_0 = of_bits binary32 0x41600000

abbrev pub c18_0 : Float
c18_0 = of_bits binary32 0x41900000

abbrev pub c255_0 : Float
c255_0 = of_bits binary32 0x437f0000

abbrev pub c1023_0 : Float
c1023_0 = of_bits binary32 0x447fc000

abbrev pub c1023_5 : Float
c1023_5 = of_bits binary32 0x447fe000

-- 2 ^ 22 - 1/4, which `floor` adds
abbrev pub c4194303_75 : Float
c4194303_75 = of_bits binary32 0x4a7fffff

-- 2 ^ 23, from which on every value is whole
abbrev pub c8388608_0 : Float
c8388608_0 = of_bits binary32 0x4b000000

-- each constant beside the binary32 nearest its decimal
abbrev table : List (Float × Float)
table =
    (c0_0, dec 0 1)
    ∷ (c0_01, dec 1 2)
    ∷ (c0_015, dec 15 3)
    ∷ (c0_035, dec 35 3)
    ∷ (c0_0722, dec 722 4)
    ∷ (c0_10001, dec 10001 5)
    ∷ (c0_114, dec 114 3)
    ∷ (c0_12, dec 12 2)
    ∷ (c0_14713, dec 14713 5)
    ∷ (c0_16, dec 16 2)
    ∷ (c0_2126, dec 2126 4)
    ∷ (c0_25, dec 25 2)
    ∷ (c0_28886, dec 28886 5)
    ∷ (c0_299, dec 299 3)
    ∷ (c0_30, dec 30 2)
    ∷ (c0_35, dec 35 2)
    ∷ (c0_39465, dec 39465 5)
    ∷ (c0_42, dec 42 2)
    ∷ (c0_436, dec 436 3)
    ∷ (c0_45, dec 45 2)
    ∷ (c0_5, dec 5 1)
    ∷ (c0_51499, dec 51499 5)
    ∷ (c0_55, dec 55 2)
    ∷ (c0_58, dec 58 2)
    ∷ (c0_58060, dec 58060 5)
    ∷ (c0_587, dec 587 3)
    ∷ (c0_615, dec 615 3)
    ∷ (c0_7152, dec 7152 4)
    ∷ (c0_72, dec 72 2)
    ∷ (c0_82, dec 82 2)
    ∷ (c0_88, dec 88 2)
    ∷ (c0_92, dec 92 2)
    ∷ (c0_94, dec 94 2)
    ∷ (c0_95, dec 95 2)
    ∷ (c0_96, dec 96 2)
    ∷ (c0_99, dec 99 2)
    ∷ (c1_0, dec 10 1)
    ∷ (c1_01, dec 101 2)
    ∷ (c1_03, dec 103 2)
    ∷ (c1_05, dec 105 2)
    ∷ (c1_06, dec 106 2)
    ∷ (c1_13983, dec 113983 5)
    ∷ (c1_25, dec 125 2)
    ∷ (c2_0, dec 20 1)
    ∷ (c2_03211, dec 203211 5)
    ∷ (c3_0, dec 30 1)
    ∷ (c4_0, dec 40 1)
    ∷ (c5_0, dec 50 1)
    ∷ (c14_0, dec 140 1)
    ∷ (c18_0, dec 180 1)
    ∷ (c255_0, dec 2550 1)
    ∷ (c1023_0, dec 10230 1)
    ∷ (c1023_5, dec 10235 1)
    ∷ (c4194303_75, dec 419430375 2)
    ∷ (c8388608_0, dec 83886080 1)
    ∷ []

pub right : map (λ (p : Float × Float). p.0) table ≡ map (λ (p : Float × Float). p.1) table
unfolding dec of_bits
right = refl

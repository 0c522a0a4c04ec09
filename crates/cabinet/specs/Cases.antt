-- The cases of the cabinet, by computation: each list pairs what a definition gives with what it should give. Assumes nothing.
use Rattle.std.specs.Prelude.{ℕ, List, [], ◌∷◌, ◌++◌, refl, replicate}
use Rattle.num.specs.Cases.{Hold}
use Rattle.num.specs.Held.{same_held, fine_held}
use Rattle.num.specs.Refusals.{bad_side, unless}
use Rattle.num.specs.Rewrite.{rewrite}
use Rattle.passes.specs.Fold.{fold}
use Rattle.passes.specs.Painted.{converted}
use Rattle.cards.specs.Answers.{Report, refusal, acceptance}
use Rattle.cards.specs.Card.{station_of}
use Rattle.cards.specs.Normal.{settled, normal_pass, normal_chain, held_by, holding, good_station}
use Rattle.cards.specs.declared.station.Pending.TheVariants.{Nothing}
use Rattle.cards.specs.declared.station.Station.{Station}
use Rattle.chain.specs.Calls.{stops, Framed, shown_by, frame_reply_by}
use Rattle.chain.specs.Chain.{over_by, turn_by, chain_by, depth, reads_curve}
use Rattle.cabinet.specs.Cabinet.{cabinet_reply}
use Rattle.cabinet.specs.Source.{bad_source_side, source_stops, enlarged}

-- 64 colours: white, then black, and a top byte that is set in the third
abbrev shades : List ℕ
shades = 0xffffff ∷ 0 ∷ 0xff123456 ∷ replicate 61 7

-- the empty chain, and a station that no card opens
abbrev plain : Station
plain = station_of []

abbrev broken : Station
broken = record { records = []; n = 13; pending = Nothing }

-- the answer and the framebuffer, of a frame on ten words with scratch enough
abbrev left : (w h : ℕ) → (picture colours : List ℕ) → Station → Report × List ℕ
left w h picture colours s =
    let r : Framed = cabinet_reply w h picture colours s (1 ∷ 1 ∷ 1 ∷ 1 ∷ 1 ∷ 1 ∷ 1 ∷ 1 ∷ 1 ∷ 1 ∷ []) [] 99 99 [] in (r.answer, r.words)

-- nine words of one colour and what stood in the tenth
abbrev nine : ℕ → List ℕ
nine c = replicate 9 c ++ 1 ∷ []

-- A source of 1 by 1: number 2 shows colour 2 as lent, number 64 colour 0, number 255 colour 63; longer lists are taken. Refused by 21: a side of 0, a side of
-- 342, no number, 63 colours, and before 13 on a bad station. On a good source a bad station is 13, and the enlarged frame of 2 by 1 does not fit ten
-- words (9).
abbrev pub shown : List ((Report × List ℕ) × (Report × List ℕ))
shown =
    (left 1 1 (2 ∷ []) shades plain, (acceptance (0 ∷ 0 ∷ []), nine 0xff123456))
    ∷ (left 1 1 (64 ∷ []) shades plain, (acceptance (0 ∷ 0 ∷ []), nine 0xffffff))
    ∷ (left 1 1 (255 ∷ 1 ∷ []) (shades ++ 9 ∷ []) plain, (acceptance (0 ∷ 0 ∷ []), nine 7))
    ∷ (left 0 1 (2 ∷ []) shades plain, (refusal 21, nine 1))
    ∷ (left 1 342 (2 ∷ []) shades plain, (refusal 21, nine 1))
    ∷ (left 1 1 [] shades plain, (refusal 21, nine 1))
    ∷ (left 1 1 (2 ∷ []) (replicate 63 7) plain, (refusal 21, nine 1))
    ∷ (left 1 1 (2 ∷ []) (replicate 63 7) broken, (refusal 21, nine 1))
    ∷ (left 1 1 (2 ∷ []) shades broken, (refusal 13, nine 1))
    ∷ (left 2 1 (2 ∷ 2 ∷ []) shades plain, (refusal 9, nine 1))
    ∷ []

pub shown_hold : Hold shown
unfolding cabinet_reply source_stops bad_source_side enlarged frame_reply_by unless shown_by stops bad_side good_station fine_held same_held
    normal_chain normal_pass settled held_by holding depth reads_curve fold chain_by turn_by over_by rewrite converted
shown_hold = refl

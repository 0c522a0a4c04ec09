-- A frame that no station takes, by computation. Assumes nothing.
use mathlib.Core.Path.{refl}
use lib.Ieee.{of_bits, of_int, add, sub, mul, div, lt, neg}
use Rattle.num.specs.Held.{same_held, fine_held}
use Rattle.num.specs.Refusals.{bad_side, unless}
use Rattle.num.specs.Steps.{clamp_of, cut_of}
use Rattle.cards.specs.Normal.{settled, normal_pass, normal_chain, held_by, holding, good_station}
use Rattle.chain.specs.Calls.{stops, lacks, shown_by, frame_reply_by}
use Rattle.chain.specs.Chain.{depth, reads_curve}
use Rattle.chain.specs.Machine.{call, after}
use Rattle.sheets.specs.Cases.{Too-wide}
use Rattle.sheets.specs.Play.{turn, turns}

pub too_wide : Too-wide
unfolding turns turn after call lacks frame_reply_by unless shown_by stops bad_side good_station fine_held same_held normal_chain normal_pass settled held_by holding
    depth reads_curve of_bits of_int add sub mul div neg lt clamp_of cut_of
too_wide pixels = (refl, refl, refl)

-- The cases that document 01 marks (●) hold, by computation. Assumes nothing.
use mathlib.Core.Path.{refl}
use lib.Ieee.{of_bits, to_bits, of_int, add, sub, mul, div, neg, lt, le, eq, ne}
use Rattle.num.specs.F32.{dec}
use Rattle.num.specs.Held.{same_held, fine_held}
use Rattle.num.specs.Refusals.{bad_side, unless}
use Rattle.num.specs.Rewrite.{rewrite}
use Rattle.num.specs.Root.{root_of}
use Rattle.num.specs.Steps.{clamp_of, min_of, max_of, abs_of, cut_of, round_of, plus_zero_of, limit_of}
use Rattle.passes.specs as Text
use Rattle.passes.specs.Fold.{fold}
use Rattle.passes.specs.Painted.{converted}
use Rattle.passes.specs.Plain.Persistence as Persistence
use Rattle.cards.specs.Bits.{value_at, field_at}
use Rattle.chain.specs.Calls.{stops, shown_by, frame_reply_by}
use Rattle.cards.specs.Card.{header_at, records_at, ends_at, end_at, station_at, open_of}
use Rattle.chain.specs.Chain.{wash, over_by, turn_by, chain_by, depth, reads_curve}
use Rattle.chain.specs.Machine.{call, after, saw}
use Rattle.cards.specs.Normal.{settled, normal_pass, normal_chain, persists, held_by, holding, good_station}
use Rattle.cards.specs.Passes.{pass_at, auto_gradient_at, persistence_at, curvature_at, color_correction_at, crt_at}
use Rattle.cards.specs.Passes.{vignette_at, scanlines_at}
use Rattle.cards.specs.Records.{record_at}
use Rattle.cards.specs.Settings.{finite_at, limited_at, within_at, raised_at, count_at}
use Rattle.cards.specs.Step.{refuse_if}
use Rattle.cards.specs.Written.{bits, pass_bits, record_bits, records_bits, chain_bits, value_of, pack as pack_bytes}
use Rattle.cards.specs.Written.{chain_card, card_of}
use Rattle.chain.specs.Marked.{Marked}

pub marked : Marked
unfolding dec of_bits to_bits of_int add sub mul div neg lt le eq clamp_of min_of max_of abs_of cut_of round_of plus_zero_of
    limit_of root_of rewrite fold same_held fine_held Text.Pixel.unpack Text.Pixel.unit Text.Pixel.pack
    Text.Pixel.pack_nearest Text.Pixel.pack_clamped Text.Pixel.pack_unit Text.Pixel.dim Text.Pixel.luma709
    Text.Position.position Text.Scanlines.scanlines Text.Scanlines.in_row Text.Vignette.vignette Text.Vignette.offset_squared
    Text.Vignette.factor Text.Crt.crt Text.Crt.beam Text.Crt.phosphor Text.Crt.offset Text.Crt.edge Text.Crt.shade
    Text.Curvature.curvature Text.Curvature.bend Text.Curvature.sample Text.Curvature.outside
    Text.AutoGradient.auto_gradient Text.AutoGradient.shaded Text.AutoGradient.adaptive Text.AutoGradient.add_luma
    Text.AutoGradient.warm Text.AutoGradient.fall Text.AutoGradient.brightness Text.AutoGradient.shade Text.Persistence.persistence
    Text.Persistence.decay Text.Persistence.total Text.Persistence.add Text.Persistence.mix converted
    Text.Persistence.blend Persistence.copies Persistence.refilled Persistence.shifted
    Text.ColorCorrection.color_correction Text.ColorCorrection.curved Text.ColorCorrection.start Text.ColorCorrection.colour ne open_of station_at header_at field_at value_at refuse_if
    records_at end_at ends_at record_at pass_at auto_gradient_at persistence_at curvature_at color_correction_at crt_at vignette_at
    scanlines_at finite_at limited_at within_at raised_at count_at card_of chain_card pack_bytes value_of chain_bits records_bits
    record_bits pass_bits bits saw after call frame_reply_by unless shown_by stops bad_side good_station normal_chain
    normal_pass settled persists held_by holding depth reads_curve chain_by turn_by over_by wash
marked =
    record {
      round-half = refl;
      round_minus_half = refl;
      round-two-and_a_half = refl;
      round-below-half = refl;
      root_zero = refl;
      root_minus_zero = refl;
      root_one = refl;
      root_two = refl;
      empty-card = refl;
      empty-picture = λ w h curve x past. refl;
      limited_card = refl;
      scanlines = refl;
      vignette = refl;
      crt = refl;
      curvature = refl;
      curvature-zero-card = refl;
      curvature-zero = refl;
      gradient = refl;
      persistence = refl;
      colour = refl;
    }

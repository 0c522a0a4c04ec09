-- `chain::run::paint` meets its contract. In each arm the pass is that arm's case, at which the definition computes to what the pass's own function
-- promises; what that function asks of its settings, a ready pass gives. Assumes nothing.
use native.Mathlib.Omega.{arith}
use mathlib.Core.Path.{refl}
use Rattle.passes.specs.Laws.Rows.{frame_small}
use Rattle.chain.specs.Chain.{paint}
use Rattle.chain.proofs.Lending.{bleed_fine, radius_fine, curve_fine, painted-by, none_clipped, samples-by}
use Rattle.chain.proofs.run.paint.Goals as goal

-- what closes an arm's return
ruleset arms = (painted-by, none_clipped, samples-by, refl)

pub apply-requires-clause-fact_2 : goal.apply-requires-clause-fact_2
unfolding paint
apply-requires-clause-fact_2 c = search bleed_fine

pub apply-requires-in-Bloom-clause-fact_2 : goal.apply-requires-in-Bloom-clause-fact_2
unfolding paint
apply-requires-in-Bloom-clause-fact_2 c = search (radius_fine, arith)

pub apply-requires-in-Lut : goal.apply-requires-in-Lut
unfolding paint
apply-requires-in-Lut c = search frame_small

pub apply-requires-in-ColorCorrection : goal.apply-requires-in-ColorCorrection
unfolding paint
apply-requires-in-ColorCorrection c = search (frame_small, curve_fine)

pub returns-in-Ntsc : goal.returns-in-Ntsc
unfolding paint
returns-in-Ntsc c = search arms

pub returns-in-Bloom : goal.returns-in-Bloom
unfolding paint
returns-in-Bloom c = search arms

pub returns-in-AutoGradient : goal.returns-in-AutoGradient
unfolding paint
returns-in-AutoGradient c = rw (c.clipped.ensures.0, c.clipped.ensures.1) (search arms)

pub returns-in-Persistence : goal.returns-in-Persistence
unfolding paint
returns-in-Persistence c = rw (c.clipped-in-Persistence.ensures.0, c.clipped-in-Persistence.ensures.1) (search arms)

pub returns-in-Lut : goal.returns-in-Lut
unfolding paint
returns-in-Lut c = rw (c.clipped-in-Lut.ensures.0, c.clipped-in-Lut.ensures.1) (search arms)

pub returns-in-Curvature : goal.returns-in-Curvature
unfolding paint
returns-in-Curvature c = rw (c.clipped-in-Curvature.ensures.0, c.clipped-in-Curvature.ensures.1) (search arms)

pub returns-in-ColorCorrection : goal.returns-in-ColorCorrection
unfolding paint
returns-in-ColorCorrection c = rw (c.clipped-in-ColorCorrection.ensures.0, c.clipped-in-ColorCorrection.ensures.1) (search arms)

pub returns-in-Crt : goal.returns-in-Crt
unfolding paint
returns-in-Crt c = rw (c.clipped-in-Crt.ensures.0, c.clipped-in-Crt.ensures.1) (search arms)

pub returns-in-Vignette : goal.returns-in-Vignette
unfolding paint
returns-in-Vignette c = rw (c.clipped-in-Vignette.ensures.0, c.clipped-in-Vignette.ensures.1) (search arms)

pub returns-in-Scanlines : goal.returns-in-Scanlines
unfolding paint
returns-in-Scanlines c = rw (c.clipped-in-Scanlines.ensures.0, c.clipped-in-Scanlines.ensures.1) (search arms)

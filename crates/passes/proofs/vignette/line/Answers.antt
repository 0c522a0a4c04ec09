-- `passes::vignette::line` meets its contract: squares, their roots, and the factors of those. Assumes nothing.
use Rattle.std.proofs.Common.{◌∙◌}
use Rattle.num.specs.F32.{◌⊕◌}
use Rattle.num.specs.Laws.Rewrite.{every_twice}
use Rattle.num.specs.Root.{root_of}
use Rattle.passes.specs.Plain.Vignette.{offset_squared, factor}
use Rattle.passes.proofs.vignette.line.Goals as goal

pub returns : goal.returns
returns c = let a = c.args in
    let distances = c.roots.ensures ∙ every_twice (λ x v. offset_squared a.width x ⊕ a.yy) (λ x. root_of) a.line.now c.squares.new.line c.squares.ensures in
    c.factors.ensures
    ∙ every_twice (λ x v. root_of (offset_squared a.width x ⊕ a.yy)) (λ x. factor a.strength) a.line.now c.roots.new.xs distances

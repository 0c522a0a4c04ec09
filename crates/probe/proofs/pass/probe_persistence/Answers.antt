-- `probe::pass::probe_persistence` meets its contract: the pass's own, at the sizes in the words; afterwards the frame's is held. Assumes nothing.
use Prim.Native.Nat.{ℕ}
use mathlib.Core.List.{List}
use mathlib.Core.Path.{◌≡◌, ap, ap₂, sym, ◌∙◌}
use lib.Ieee.{Float}
use Rattle.num.specs.Held.{Held}
use Rattle.passes.specs.Flow.{Flow, flow}
use Rattle.passes.specs.Painted.{Painted, painted}
use Rattle.passes.specs.Plain.Persistence.{persistence}
use Rattle.passes.specs.Laws.Lengths.{persistence-held}
use Rattle.probe.proofs.pass.probe_persistence.Goals as goal

module _ (amount : Float) (k : ℕ) (frame : Painted) (past : List ℕ) {before now held size after : Held} {picture : Painted} {new : List ℕ} where
  persists : before ≡ held → now ≡ size → flow picture after new ≡ persistence amount k now (flow frame before past)
      → flow picture size new ≡ persistence amount k size (flow frame held past)
  persists e f o =
      let whole : flow picture after new ≡ persistence amount k size (flow frame held past) =
      o ∙ ap₂ (λ (b n : Held). persistence amount k n (flow frame b past)) e f in
      let holds : after ≡ size = ap (λ (x : Flow). x.held) whole ∙ persistence-held amount k size (flow frame held past) in
      ap (λ (s : Held). flow picture s new) (sym holds) ∙ whole

pub returns : goal.returns
returns c = let a = c.args in (
  persists a.amount a.depth (painted a.frame.now 0) a.history.now c.size_in-before.ensures c.size_in-now.ensures
      c.apply-kept.ensures.0,
  c.apply-kept.ensures.1,
)

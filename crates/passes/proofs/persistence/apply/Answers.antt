-- `passes::persistence::apply` meets its contract: the two ways of persistence. Assumes nothing.
use Rattle.std.proofs.Common.{◌≡◌, ℕ, Bool, true, false, List, length, take, drop, sym, refl, ap, ◌∙◌, zero-add, arith, length-take-le, drop_at}
use lib.Ieee.{Float}
use Rattle.num.specs.Held.{Held, same_held}
use Rattle.passes.specs as Text
use Rattle.passes.specs.Flow.{flow}
use Rattle.passes.specs.Painted.{Painted, painted}
use Rattle.passes.specs.Plain.Persistence.{blend, refilled, shifted, persistence}
use Rattle.passes.proofs.persistence.apply.Goals as goal
use Rattle.passes.proofs.persistence.apply.Lts as lts
use Rattle.passes.proofs.persistence.apply.Reads as reads
use Rattle.passes.proofs.persistence.apply.Tie as tie

module _ (amount : Float) (k : ℕ) (frame : List ℕ) (held size : Held) (past : List ℕ) {same : Bool} (asked : same ≡ same_held held size) where
  follows : {picture : Painted} {new : List ℕ} → same ≡ true → picture ≡ blend amount k past frame → new ≡ shifted k frame past
      → flow picture size new ≡ persistence amount k size (flow (painted frame 0) held past)
  unfolding Text.Persistence.persistence
  follows e f p =
      let b : Painted = blend amount k past frame in
      rw (f, p, sym asked ∙ e)
      (ap (λ (m : ℕ). flow (painted b.words m) size (shifted k frame past)) (sym (zero-add b.clipped)))

  begins : {new : List ℕ} → same ≡ false → new ≡ refilled k frame past
      → flow (painted frame 0) size new ≡ persistence amount k size (flow (painted frame 0) held past)
  unfolding Text.Persistence.persistence
  begins e p = rw (p, sym asked ∙ e)

-- as many words of the scratch as the frame has
front : (c : lts.After-follow-arg3 tie.the-claims reads.Pre reads.Post) → let a = c.args in
    length (take (length a.frame.now) a.scratch.now) ≡ length a.frame.now
front c = length-take-le _ _ (omega arith)

pub returns-then-same : goal.returns-then-same
returns-then-same c = let a = c.args in (
  follows a.amount a.depth a.frame.now a.held a.size a.history.now c.same.ensures c.if-same.true c.follow-clipped.ensures.0 c.follow-clipped.ensures.1,
  drop_at c.follow-clipped.new.carried (drop (length a.frame.now) a.scratch.now) (length a.frame.now) (c.follow-clipped.auto.carried ∙ front c.before.before.before.before.before.before.before.before),
)

pub returns : goal.returns
returns c = let a = c.args in
    (begins a.amount a.depth a.frame.now a.held a.size a.history.now c.same.ensures c.if-same.false c.refill.ensures, refl)

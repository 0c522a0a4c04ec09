-- `inspect::extent::read` meets its contract: byte after byte. Assumes nothing.
use Prim.Native.Nat.{ℕ, ◌+◌, ◌≤◌, ◌<◌}
use mathlib.Core.List.{List, [], ◌∷◌}
use mathlib.Core.Path.{◌≡◌, refl, sym, ap, ◌∙◌, subst}
use native.Mathlib.Numerals.{add-one}
use lib.ListN.{length, get_or, drop, drop_of_length-le}
use lib.Seq.{drop-cons}
use Rattle.std.specs.Prelude.{Option, Some, None, IfSome}
use Rattle.inspect.specs.Extent.{step_of, read_of}
use Rattle.inspect.specs.Private.{present}
use Rattle.inspect.specs.declared.extent.Reading.{Reading}
use Rattle.inspect.proofs.extent.read.Goals as goal

-- what stands in no size is read on in vain
broken : (text : List ℕ) → read_of None text ≡ None
unfolding read_of
broken [] = refl
broken (b ∷ text) = broken text

module _ (r : Reading) (text : List ℕ) (i : ℕ) where
  next : i < length text → read_of (Some r) (drop i text) ≡ read_of (step_of r (get_or text i 0)) (drop (i + 1) text)
  unfolding read_of
  next l = ap (read_of (Some r)) (drop-cons text i 0 l ∙ ap (λ (n : ℕ). get_or text i 0 ∷ drop n text) (sym (add-one i)))

  all : length text ≤ i → read_of (Some r) (drop i text) ≡ Some r
  unfolding read_of
  all l = ap (read_of (Some r)) (drop_of_length-le text {i = i} l)

pub returns-in_err-r : goal.returns-in_err-r
returns-in_err-r c =
    let text = c.args.text.now in
    let became = sym c.in_err-r.was ∙ c.step.ensures.0 in
    c.from_residual.ensures ∙ sym (broken (drop (c.loop-b.b-index + 1) text)) ∙ ap (λ (s : Option Reading). read_of s (drop (c.loop-b.b-index + 1) text)) became
    ∙ sym (next c.loop-b.r text c.loop-b.b-index c.loop-b-test.true) ∙ c.loop-b.invariant.0

pub loop-b-preserved : goal.loop-b-preserved
loop-b-preserved c =
    let text = c.args.text.now in
    let i = c.loop-b.b-index in
    let became = sym c.in_ok-r.was ∙ c.step.ensures.0 in (
      ap (λ (s : Option Reading). read_of s (drop (i + 1) text)) became ∙ sym (next c.loop-b.r text i c.loop-b-test.true) ∙ c.loop-b.invariant.0,
      subst (λ (o : Option Reading). IfSome o (λ s. present s ≤ 10249)) c.in_ok-r.was c.step.ensures.1,
    )

pub returns : goal.returns
returns c = sym (all _ _ _ c.loop-b-test.false) ∙ c.loop-b.invariant.0

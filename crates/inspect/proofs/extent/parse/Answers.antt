-- `inspect::extent::parse` meets its contract: what was read, test by test. Assumes nothing.
use Prim.Native.Nat.{ℕ}
use mathlib.Core.Bool.{true, false, ◌||◌}
use mathlib.Core.List.{List}
use mathlib.Core.Path.{◌≡◌, sym, ap, ◌∙◌}
use Rattle.num.specs.Refusals.{bad_side}
use Rattle.std.specs.Prelude.{Option, Some, None}
use Rattle.inspect.specs.Extent.{unread, read_of, extent_by, extent_of}
use Rattle.inspect.specs.declared.extent.Reading.{Reading}
use Rattle.inspect.specs.declared.extent.Reading.TheVariants.{Width, Height}
use Rattle.inspect.proofs.extent.parse.Goals.{then-bad_side-via-then-bad_side, then-bad_side-via-else-bad_side+then-bad_side-2}
use Rattle.inspect.proofs.extent.parse.Goals as goal

module _ (text : List ℕ) {o : Option Reading} (e : o ≡ read_of (Some unread) text) where
  by : extent_by o ≡ extent_of text
  unfolding extent_of
  by = ap extent_by e

  torn : o ≡ None → None ≡ extent_of text
  unfolding extent_by
  torn n = sym (ap extent_by n) ∙ by

  one : (width : ℕ) → o ≡ Some (Width width) → None ≡ extent_of text
  unfolding extent_by
  one width n = sym (ap extent_by n) ∙ by

  module _ (width height : ℕ) (n : o ≡ Some (Height width height)) where
    bad : bad_side width || bad_side height ≡ true → None ≡ extent_of text
    unfolding extent_by
    bad w = sym (ap extent_by n ∙ rw w) ∙ by

    sides : bad_side width || bad_side height ≡ false → Some (record { width = width; height = height }) ≡ extent_of text
    unfolding extent_by
    sides w = sym (ap extent_by n ∙ rw w) ∙ by

pub returns-in_err-width : goal.returns-in_err-width
returns-in_err-width c = c.from_residual.ensures ∙ torn _ c.read.ensures c.in_err-width.was

pub returns-in_default : goal.returns-in_default
returns-in_default c = one _ c.read.ensures c.in_default.field-0 (c.in_ok-width.was ∙ ap Some c.in_default.is)

pub returns-then-bad_side : goal.returns-then-bad_side
returns-then-bad_side c =
    let found = bad _ c.read.ensures c.in-Height.width c.in-Height.height (c.in_ok-width.was ∙ ap Some c.in-Height.is) in
    elim c.then-bad_side.branch [
      | then-bad_side-via-then-bad_side w ↦ found (rw (sym c.bad_side.ensures ∙ w.if-bad_side.true))
      | then-bad_side-via-else-bad_side+then-bad_side-2 w ↦ found (rw (sym c.bad_side.ensures ∙ w.if-bad_side.false) (sym w.bad_side-else-bad_side.ensures ∙ w.if-bad_side-2.true))
    ]

pub returns : goal.returns
returns c = sides _ c.read.ensures c.in-Height.width c.in-Height.height (c.in_ok-width.was ∙ ap Some c.in-Height.is)
    (rw (sym c.bad_side.ensures ∙ c.if-bad_side.false) (sym c.bad_side-else-bad_side.ensures ∙ c.if-bad_side-2.false))

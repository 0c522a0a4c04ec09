-- Tests in the code, one after another, decide as the definition's: `search tests` closes each return. Assumes nothing.
use mathlib.Core.Path.{◌≡◌, refl, sym, ◌∙◌}
use mathlib.Core.Bool.{Bool, true, false, cond, ◌&&◌}
pub use Rattle.num.specs.Laws.Bools.{and_last, or-held, or-last}
pub use borrow.Author.Tests.{eq-eqb, ne_eqb, le-leb, lt-leb, lt-ltb, le-ltb, not-true, not-false}

-- a call's answer stands for what it was asked
pub asked : (a b c : Bool) → b ≡ a → b ≡ c → a ≡ c
asked a b c e h = sym e ∙ h

pub and-failed : (a b : Bool) → a ≡ false → false ≡ (a && b)
and-failed a b e = rw e refl

pub cond_yes : {A : Type 0} (b : Bool) (r x y : A) → b ≡ true → r ≡ x → r ≡ cond b x y
cond_yes b r x y e h = rw e h

pub cond_no : {A : Type 0} (b : Bool) (r x y : A) → b ≡ false → r ≡ y → r ≡ cond b x y
cond_no b r x y e h = rw e h

pub ruleset tests = (refl, or-held, or-last, and-failed, and_last, cond_yes, cond_no, asked, eq-eqb, ne_eqb, le-leb, lt-leb, lt-ltb, le-ltb, not-true, not-false)

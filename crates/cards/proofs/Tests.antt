-- Tests in the code, one after another, decide as the definition's `&&`: `search tests` closes each return. Assumes nothing.
use Prim.Native.Nat.{ℕ}
use mathlib.Core.Path.{◌≡◌, refl, sym, ◌∙◌}
use mathlib.Core.Bool.{Bool, true, false, not, ◌&&◌}
pub use Rattle.num.specs.Laws.Bools.{and_last, or-held, or-last}
pub use borrow.Author.Tests.{eq-eqb, ne_eqb, le-leb, lt-leb, lt-ltb, le-ltb, not-true, not-false}
use mathlib.Core.List.{List}
use lib.Dec.{T}
use lib.Ieee.{Float}
use Rattle.num.specs.Held.{Held, fine_held, same_held}
use Rattle.cards.specs.Normal.{settled, normal_pass, normal_chain, holding}
use Rattle.cards.specs.declared.station.Pass.{Pass}
use Rattle.cards.specs.declared.station.Record.{Record}

-- a call's answer stands for what it was asked
pub asked : (low high x : Float) (b c : Bool) → b ≡ settled low high x → b ≡ c → settled low high x ≡ c
asked low high x b c e h = sym e ∙ h

pub asked-chain : (seen : List ℕ) (rs : List Record) (b c : Bool) → b ≡ normal_chain seen rs → b ≡ c → normal_chain seen rs ≡ c
asked-chain seen rs b c e h = sym e ∙ h

pub asked-fine : (held : Held) (b c : Bool) → b ≡ fine_held held → b ≡ c → fine_held held ≡ c
asked-fine held b c e h = sym e ∙ h

pub asked_same : (held other : Held) (b c : Bool) → b ≡ same_held held other → b ≡ c → same_held held other ≡ c
asked_same held other b c e h = sym e ∙ h

pub asked-holds : (size : Held) (rs : List Record) (b c : Bool) → b ≡ holding size rs → b ≡ c → holding size rs ≡ c
asked-holds size rs b c e h = sym e ∙ h

-- a test whose opposite holds
pub held-not : (b : Bool) → T (not b) → b ≡ false
held-not true h = absurd h
held-not false h = refl

pub and_both : (a b : Bool) → a ≡ true → b ≡ true → (a && b) ≡ true
and_both a b e h = rw (e, h) refl

pub and_no : (a b : Bool) → a ≡ false → (a && b) ≡ false
and_no a b e = rw e refl

pub and-not : (a b : Bool) → a ≡ true → b ≡ false → (a && b) ≡ false
and-not a b e h = rw (e, h) refl

-- a test that failed is the answer
pub failed : (a : Bool) → a ≡ false → false ≡ a
failed a e = sym e

pub failed-first : (r a b : Bool) → r ≡ a → r ≡ false → r ≡ (a && b)
failed-first r a b e h = h ∙ sym (and_no a b (sym e ∙ h))

-- the pass is what the arm found it to be
pub pass_is : (p q : Pass) (b : Bool) → p ≡ q → b ≡ normal_pass q → b ≡ normal_pass p
pass_is p q b e h = rw e h

pub ruleset tests = (asked, and_both, and_no, and-not, and_last, failed, failed-first, pass_is, lt-ltb, le-ltb, not-true, not-false)

pub ruleset goods = (asked-chain, asked-fine, asked_same, asked-holds, and_both, and_no, and-not, and_last, failed, or-held, or-last, le-leb, lt-leb, eq-eqb, ne_eqb, not-true, not-false)

-- Conjunctions and alternatives of tests, taken apart and put together. Assumes nothing.
use Rattle.std.specs.Prelude.{ℕ, T, ◌≡◌, refl, Bool, true, false, not, ◌&&◌, ◌||◌}
use Rattle.std.proofs.Common.{arith, sym, ◌∙◌}

pub false_true : {A : Type 0} → false ≡ true → A
false_true e = let z : ◌≡◌ {A = ℕ} 0 1 = cc in absurd (omega arith)

pub neither : (a b : Bool) → a || b ≡ false → (a ≡ false) × (b ≡ false)
neither true b e = false_true (sym e)
neither false b e = (refl, e)

pub both : (a b : Bool) → a && b ≡ true → (a ≡ true) × (b ≡ true)
both true b e = (refl, e)
both false b e = false_true e

-- the second holds, so one does
pub or-second : (a b : Bool) → b ≡ true → a || b ≡ true
or-second true b e = refl
or-second false b e = e

-- one holds: the first where the second does not, and the second where the first does not
pub or-first_only : (a b : Bool) → b ≡ false → a || b ≡ true → a ≡ true
or-first_only true b e o = refl
or-first_only false b e o = false_true (sym e ∙ o)

pub or-second_only : (a b : Bool) → a ≡ false → a || b ≡ true → b ≡ true
or-second_only a b e o = rw e at o

pub or_map : (a b c : Bool) → a || b ≡ true → (b ≡ true → c ≡ true) → a || c ≡ true
or_map true b c e f = refl
or_map false b c e f = f e

-- put together from what is known of the parts

pub not-held : (b : Bool) → b ≡ true → not b ≡ false
not-held b e = rw e refl

pub not-failed : (b : Bool) → b ≡ false → not b ≡ true
not-failed b e = rw e refl

pub or_left : (a b : Bool) → a ≡ true → (a || b) ≡ true
or_left a b e = rw e refl

pub or_right : (a b : Bool) → a ≡ false → b ≡ true → (a || b) ≡ true
or_right a b e h = rw (e, h) refl

pub or_neither : (a b : Bool) → a ≡ false → b ≡ false → (a || b) ≡ false
or_neither a b e h = rw (e, h) refl

-- a test that holds
pub is_true : (b : Bool) → T b → b ≡ true
is_true true h = refl
is_true false h = absurd h

-- tests one after another: the answer r is the last one's, or a first one's that decides
pub and_last : (r a b : Bool) → a ≡ true → r ≡ b → r ≡ (a && b)
and_last r a b e h = rw e h

pub or-held : (a b : Bool) → a ≡ true → true ≡ (a || b)
or-held a b e = rw e refl

pub or-last : (r a b : Bool) → a ≡ false → r ≡ b → r ≡ (a || b)
or-last r a b e h = rw e h

-- `inspect::hexadecimal::decode` meets its contract: by the count, the text is not hexadecimal, or has no room, or fills the buffer's start. Assumes nothing.
use Prim.Native.Nat.{ℕ, ◌≤◌, ◌<◌}
use native.Mathlib.Omega.{arith}
use borrow.Author.Rules.{rules}
use mathlib.Core.Bool.{true}
use mathlib.Core.List.{List, ◌++◌}
use mathlib.Core.Path.{◌≡◌, refl, sym, ap, ◌∙◌}
use borrow.Author.Tests.{le-leb, lt-leb}
use lib.ListN.{length, drop}
use Rattle.std.specs.Prelude.{Option, Some, None, Result, Ok, Err, ok_or}
use Rattle.inspect.specs.Hexadecimal.{Hex, hex_of, is_hex, bytes_of, answer_for, left_in, decode_answer, decode_into}
use Rattle.inspect.specs.Private.{count_of}
use Rattle.inspect.specs.declared.hexadecimal.DecodeError.{DecodeError}
use Rattle.inspect.specs.declared.hexadecimal.DecodeError.TheVariants.{NotHexadecimal, NoRoom}
use Rattle.inspect.proofs.hexadecimal.decode.Goals as goal

-- what a count tells
tells : (h : Hex) (n : ℕ) → count_of h ≡ Some n → (is_hex h ≡ true) × (length (bytes_of h) ≡ n)
tells (Some bs) n e = (refl, cc)
tells None n e = let z : ◌≡◌ {A = ℕ} 0 1 = cc in absurd (omega arith)

-- the answer and the buffer, as promised
abbrev Promised : Result ℕ DecodeError → (new old : List ℕ) → Hex → Type 0
Promised r new old h = (r ≡ answer_for (length old) h) × (new ≡ left_in old h)

no_text : (h : Hex) (old : List ℕ) → count_of h ≡ None → Promised (Err NotHexadecimal) old old h
no_text (Some bs) old e = let z : ◌≡◌ {A = ℕ} 0 1 = cc in absurd (omega arith)
no_text None old e = (refl, refl)

no_room : (h : Hex) (old : List ℕ) → is_hex h ≡ true → length old < length (bytes_of h) → Promised (Err NoRoom) old old h
no_room (Some bs) old e l = rw (lt-leb (length bs) (length old) l) (refl, refl)
no_room None old e l = let z : ◌≡◌ {A = ℕ} 0 1 = cc in absurd (omega arith)

fills : (h : Hex) (new old : List ℕ) (n : ℕ) → is_hex h ≡ true → length (bytes_of h) ≡ n → n ≤ length old
    → new ≡ bytes_of h ++ drop (length (bytes_of h)) old → Promised (Ok n) new old h
fills (Some bs) new old n e many l f = rw (le-leb (length bs) (length old) (omega arith), many) (refl, rw many at f)
fills None new old n e many l f = let z : ◌≡◌ {A = ℕ} 0 1 = cc in absurd (omega arith)

none_of : (o : Option ℕ) (e : DecodeError) → ok_or o NotHexadecimal ≡ Err e → (o ≡ None) × (e ≡ NotHexadecimal)
none_of None e h = (refl, cc)
none_of (Some n) e h = let z : ◌≡◌ {A = ℕ} 0 1 = cc in absurd (omega arith)

some_of : (o : Option ℕ) (n : ℕ) → ok_or o NotHexadecimal ≡ Ok n → o ≡ Some n
some_of None n h = let z : ◌≡◌ {A = ℕ} 0 1 = cc in absurd (omega arith)
some_of (Some m) n h = cc

pub returns-in_err-n : goal.returns-in_err-n
unfolding decode_answer decode_into
returns-in_err-n c =
    let none = none_of c.count.result _ (sym c.ok_or.ensures.value ∙ c.in_err-n.was) in
    let answer : c.from_residual.result ≡ Err c.in_err-n.field-0.0 = search rules in
    let promised = no_text (hex_of c.args.text.now) c.args.out.now (sym c.count.ensures ∙ none.0) in
    (answer ∙ ap Err none.1 ∙ promised.0, promised.1)

pub returns-then-out-n : goal.returns-then-out-n
unfolding decode_answer decode_into
returns-then-out-n c =
    let told = tells (hex_of c.args.text.now) c.in_ok-n.n (sym c.count.ensures ∙ some_of c.count.result _ (sym c.ok_or.ensures.value ∙ c.in_ok-n.was)) in
    no_room (hex_of c.args.text.now) c.args.out.now told.0 (omega (arith, told.1, c.if-out-n.true))

pub fill-requires : goal.fill-requires
fill-requires c =
    let told = tells (hex_of c.args.text.now) c.in_ok-n.n (sym c.count.ensures ∙ some_of c.count.result _ (sym c.ok_or.ensures.value ∙ c.in_ok-n.was)) in
    (told.0, omega (arith, told.1, c.if-out-n.false))

pub returns : goal.returns
unfolding decode_answer decode_into
returns c =
    let told = tells (hex_of c.args.text.now) c.in_ok-n.n (sym c.count.ensures ∙ some_of c.count.result _ (sym c.ok_or.ensures.value ∙ c.in_ok-n.was)) in
    fills (hex_of c.args.text.now) _ c.args.out.now c.in_ok-n.n told.0 told.1 c.if-out-n.false c.fill.ensures

-- `sheets::event::read` meets its contract: the number, and what stands behind it. Assumes nothing.
use Rattle.std.proofs.Common.{◌≡◌, ℕ, ◌+◌, List, Bor, None}
use mathlib.Core.Path.{refl, sym, ap, ◌∙◌, subst}
use native.Mathlib.Omega.{arith}
use lib.ListN.{get_or}
use Rattle.cards.specs.Bits.{field_at}
use Rattle.cards.specs.Step.{refuse, took}
use Rattle.sheets.specs.Events.{by_number, event_at, frame_at, switch_at, switch, ask}
use Rattle.sheets.specs.Promises.{Reads, is_taken}
use Rattle.sheets.proofs.Reading.{answer_took, answer_not, no_number_lem, by_number_lem, next, unknown, same_read}
use Rattle.sheets.proofs.event.read.Goals as goal

-- what the definition goes on with, once the number was read
goes : (sheet : List ℕ) (p n k number : ℕ) → field_at 3 sheet p ≡ took number n → number ≡ k → event_at sheet p ≡ get_or by_number k (refuse 20) sheet n
goes sheet p n k number e is = by_number_lem sheet p e ∙ ap (λ (m : ℕ). get_or by_number m (refuse 20) sheet n) is

pub returns-in_err-ok-clause-value : goal.returns-in_err-ok-clause-value
returns-in_err-ok-clause-value c = let s : c.from_residual.result ≡ None = c.from_residual.ensures in
    rw s (no_number_lem _ _ (answer_not _ _ _ c.byte.ensures.value (sym c.ok.ensures.value ∙ c.in_err-ok.was)))

pub returns-in-0-clause-value : goal.returns-in-0-clause-value
returns-in-0-clause-value c =
    let number = answer_took _ _ _ _ c.byte.ensures.value (sym c.ok.ensures.value ∙ c.in_ok-ok.was) in
    let same = ap (λ (b : Bor (List ℕ)). b.now) c.byte.ensures.place.0 in
    let there = subst (λ (b : List ℕ). Reads b (c.byte.new.self.at + 100565038) (frame_at b c.byte.new.self.at) c.frame.result c.frame.new.sheet.at) same c.frame.ensures.value in
    same_read _ _ _ c.frame.result _ (goes _ _ _ 0 _ number c.in-0.is) (omega (arith, next _ 3 _ number)) there

pub returns-in-2-clause-value : goal.returns-in-2-clause-value
returns-in-2-clause-value c =
    let number = answer_took _ _ _ _ c.byte.ensures.value (sym c.ok.ensures.value ∙ c.in_ok-ok.was) in
    let same = ap (λ (b : Bor (List ℕ)). b.now) c.byte.ensures.place.0 in
    let there = subst (λ (b : List ℕ). Reads b (c.byte.new.self.at + 5) (switch_at switch b c.byte.new.self.at) c.switch.result c.switch.new.sheet.at) same c.switch.ensures.value in
    same_read _ _ _ c.switch.result _ (goes _ _ _ 2 _ number c.in-2.is) (omega (arith, next _ 3 _ number)) there

pub returns-in-4-clause-value : goal.returns-in-4-clause-value
returns-in-4-clause-value c =
    let number = answer_took _ _ _ _ c.byte.ensures.value (sym c.ok.ensures.value ∙ c.in_ok-ok.was) in
    let same = ap (λ (b : Bor (List ℕ)). b.now) c.byte.ensures.place.0 in
    let there = subst (λ (b : List ℕ). Reads b (c.byte.new.self.at + 5) (switch_at ask b c.byte.new.self.at) c.switch-in-4.result c.switch-in-4.new.sheet.at) same c.switch-in-4.ensures.value in
    same_read _ _ _ c.switch-in-4.result _ (goes _ _ _ 4 _ number c.in-4.is) (omega (arith, next _ 3 _ number)) there

pub returns-in-1-clause-value : goal.returns-in-1-clause-value
returns-in-1-clause-value c =
    let number = answer_took _ _ _ _ c.byte.ensures.value (sym c.ok.ensures.value ∙ c.in_ok-ok.was) in
    (goes _ _ _ 1 _ number c.in-1.is, tt, omega (arith, next _ 3 _ number))

pub returns-in-3-clause-value : goal.returns-in-3-clause-value
returns-in-3-clause-value c =
    let number = answer_took _ _ _ _ c.byte.ensures.value (sym c.ok.ensures.value ∙ c.in_ok-ok.was) in
    (goes _ _ _ 3 _ number c.in-3.is, tt, omega (arith, next _ 3 _ number))

pub returns-in-5-clause-value : goal.returns-in-5-clause-value
returns-in-5-clause-value c =
    let number = answer_took _ _ _ _ c.byte.ensures.value (sym c.ok.ensures.value ∙ c.in_ok-ok.was) in
    (goes _ _ _ 5 _ number c.in-5.is, tt, omega (arith, next _ 3 _ number))

pub returns-in_default-clause-value : goal.returns-in_default-clause-value
returns-in_default-clause-value c =
    let number = answer_took _ _ _ _ c.byte.ensures.value (sym c.ok.ensures.value ∙ c.in_ok-ok.was) in
    let n = c.in_default.in_default-own.rest in
    ap is_taken (goes _ _ _ _ _ number refl) ∙ unknown _ _ _ n.0.0.0.0.0.1 n.0.0.0.0.1 n.0.0.0.1 n.0.0.1 n.0.1 n.1
